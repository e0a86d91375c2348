-- A rule's name is looked for among those that begin with the first byte of the text.
use Rattle.std.proofs.Common.{◌≡◌, ℕ, ◌<◌, List, [], ◌∷◌, refl, sym, subst, arith, slice_index_or}
use Rattle.pc_ann.specs.declared.annotation.Rule.{Rule}
use Rattle.pc_ann.specs.declared.annotation.Rule.TheVariants as rule
use Rattle.pc_deriv.specs.{declared.vocabulary.TheConstants.RULES, Text.rule_name, Reading.{after_bytes, after_word, read_named, rule_at}}

by_letter : (letter : ℕ) (rules : List Rule) → 0 < letter → ((bs : List ℕ) → read_named rule_name 32 rules (letter ∷ bs) ≡ rule_at (letter ∷ bs)) → (text : List ℕ) → slice_index_or text 0 0 ≡ letter
    → read_named rule_name 32 rules text ≡ rule_at text
by_letter letter rules some same [] e = let none : 0 ≡ letter = e in absurd (omega (arith, some, none))
by_letter letter rules some same (b ∷ bs) e = let first : b ≡ letter = e in subst (λ x. read_named rule_name 32 rules (x ∷ bs) ≡ rule_at (x ∷ bs)) (sym first) (same bs)

pub any_letter : (text : List ℕ) → read_named rule_name 32 RULES text ≡ rule_at text
unfolding rule_at
any_letter text = refl

pub letter_a : (text : List ℕ) → slice_index_or text 0 0 ≡ 97 → read_named rule_name 32 (rule.Assign ∷ rule.Arith ∷ []) text ≡ rule_at text
unfolding rule_at after_word after_bytes
letter_a text e = by_letter 97 (rule.Assign ∷ rule.Arith ∷ []) (omega arith) (λ bs. refl) text e

pub letter_b : (text : List ℕ) → slice_index_or text 0 0 ≡ 98 → read_named rule_name 32 (rule.Builtin ∷ rule.Body ∷ []) text ≡ rule_at text
unfolding rule_at after_word after_bytes
letter_b text e = by_letter 98 (rule.Builtin ∷ rule.Body ∷ []) (omega arith) (λ bs. refl) text e

pub letter_c : (text : List ℕ) → slice_index_or text 0 0 ≡ 99 → read_named rule_name 32 (rule.Consume ∷ rule.Call ∷ rule.CallRecover ∷ rule.Compare ∷ []) text ≡ rule_at text
unfolding rule_at after_word after_bytes
letter_c text e = by_letter 99 (rule.Consume ∷ rule.Call ∷ rule.CallRecover ∷ rule.Compare ∷ []) (omega arith) (λ bs. refl) text e

pub letter_d : (text : List ℕ) → slice_index_or text 0 0 ≡ 100 → read_named rule_name 32 (rule.Define ∷ []) text ≡ rule_at text
unfolding rule_at after_word after_bytes
letter_d text e = by_letter 100 (rule.Define ∷ []) (omega arith) (λ bs. refl) text e

pub letter_e : (text : List ℕ) → slice_index_or text 0 0 ≡ 101 → read_named rule_name 32 (rule.Equal ∷ []) text ≡ rule_at text
unfolding rule_at after_word after_bytes
letter_e text e = by_letter 101 (rule.Equal ∷ []) (omega arith) (λ bs. refl) text e

pub letter_g : (text : List ℕ) → slice_index_or text 0 0 ≡ 103 → read_named rule_name 32 (rule.Get ∷ rule.GetOwn ∷ []) text ≡ rule_at text
unfolding rule_at after_word after_bytes
letter_g text e = by_letter 103 (rule.Get ∷ rule.GetOwn ∷ []) (omega arith) (λ bs. refl) text e

pub letter_i : (text : List ℕ) → slice_index_or text 0 0 ≡ 105 → read_named rule_name 32 (rule.Identity ∷ rule.If ∷ []) text ≡ rule_at text
unfolding rule_at after_word after_bytes
letter_i text e = by_letter 105 (rule.Identity ∷ rule.If ∷ []) (omega arith) (λ bs. refl) text e

pub letter_j : (text : List ℕ) → slice_index_or text 0 0 ≡ 106 → read_named rule_name 32 (rule.Join ∷ []) text ≡ rule_at text
unfolding rule_at after_word after_bytes
letter_j text e = by_letter 106 (rule.Join ∷ []) (omega arith) (λ bs. refl) text e

pub letter_l : (text : List ℕ) → slice_index_or text 0 0 ≡ 108 → read_named rule_name 32 (rule.Local ∷ rule.Logic ∷ rule.Lazy ∷ []) text ≡ rule_at text
unfolding rule_at after_word after_bytes
letter_l text e = by_letter 108 (rule.Local ∷ rule.Logic ∷ rule.Lazy ∷ []) (omega arith) (λ bs. refl) text e

pub letter_n : (text : List ℕ) → slice_index_or text 0 0 ≡ 110 → read_named rule_name 32 (rule.Number ∷ rule.New ∷ []) text ≡ rule_at text
unfolding rule_at after_word after_bytes
letter_n text e = by_letter 110 (rule.Number ∷ rule.New ∷ []) (omega arith) (λ bs. refl) text e

pub letter_p : (text : List ℕ) → slice_index_or text 0 0 ≡ 112 → read_named rule_name 32 (rule.Prim ∷ rule.Put ∷ rule.PutOwn ∷ []) text ≡ rule_at text
unfolding rule_at after_word after_bytes
letter_p text e = by_letter 112 (rule.Prim ∷ rule.Put ∷ rule.PutOwn ∷ []) (omega arith) (λ bs. refl) text e

pub letter_r : (text : List ℕ) → slice_index_or text 0 0 ≡ 114 → read_named rule_name 32 (rule.Recover ∷ []) text ≡ rule_at text
unfolding rule_at after_word after_bytes
letter_r text e = by_letter 114 (rule.Recover ∷ []) (omega arith) (λ bs. refl) text e

pub letter_s : (text : List ℕ) → slice_index_or text 0 0 ≡ 115 → read_named rule_name 32 (rule.Spawn ∷ rule.Send ∷ rule.Seq ∷ []) text ≡ rule_at text
unfolding rule_at after_word after_bytes
letter_s text e = by_letter 115 (rule.Spawn ∷ rule.Send ∷ rule.Seq ∷ []) (omega arith) (λ bs. refl) text e

pub letter_t : (text : List ℕ) → slice_index_or text 0 0 ≡ 116 → read_named rule_name 32 (rule.Truth ∷ rule.Text ∷ rule.This ∷ []) text ≡ rule_at text
unfolding rule_at after_word after_bytes
letter_t text e = by_letter 116 (rule.Truth ∷ rule.Text ∷ rule.This ∷ []) (omega arith) (λ bs. refl) text e

pub letter_w : (text : List ℕ) → slice_index_or text 0 0 ≡ 119 → read_named rule_name 32 (rule.While ∷ []) text ≡ rule_at text
unfolding rule_at after_word after_bytes
letter_w text e = by_letter 119 (rule.While ∷ []) (omega arith) (λ bs. refl) text e
