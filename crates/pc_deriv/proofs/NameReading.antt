-- A name is read if it is there with its end, and only then.
use Rattle.std.proofs.{Common.{◌≡◌, ℕ, Bool, true, false, cond, List, [], ◌∷◌, ◌++◌, Option, Some, None, length, drop, refl, sym, ap, ap₂, ◌∙◌}, lemmas.Bool.{and_parts, true≢false, eqb-true}, lemmas.Option.same_Some}
use Rattle.std.specs.{Prelude.nat_eq, List.starts_with}
use Rattle.pc_caps.specs.{declared.capability.Cap.Cap, declared.capability.Form.Form, Words.{cap_name, form_name}}
use Rattle.pc_caps.specs.declared.capability.Cap.TheVariants as cap
use Rattle.pc_caps.specs.declared.capability.Form.TheVariants as form
use Rattle.pc_ann.specs.declared.annotation.Rule.{Rule}
use Rattle.pc_ann.specs.declared.annotation.Rule.TheVariants as rule
use Rattle.pc_deriv.specs.{declared.vocabulary.TheConstants.{VERSIONS, RULES, CAPS, FORMS}, declared.version.Version.Version, Text.{version_name, rule_name}, Reading.{after_bytes, after_word, or_else, beside, read_named, version_at, rule_at, cap_at, form_at}}
use Rattle.pc_deriv.specs.declared.version.Version.TheVariants as version
use Rattle.pc_base.proofs.{Options.{none_some, bind_some}, Prefixes.begins_own}

begins_cut : (text word : List ℕ) → starts_with nat_eq text word ≡ true → text ≡ word ++ drop (length word) text
begins_cut text [] e = refl
begins_cut [] (b ∷ word) e = absurd (true≢false (sym e))
begins_cut (a ∷ text) (b ∷ word) e =
    let (here, more) = and_parts (nat_eq b a) (starts_with nat_eq text word) e in
    ap₂ (λ h t. h ∷ t) (sym (eqb-true b a here)) (begins_cut text word more)

after_by : (word text rest : List ℕ) (t : Bool) → starts_with nat_eq text word ≡ t → cond t (Some (drop (length word) text)) None ≡ Some rest → text ≡ word ++ rest
after_by word text rest true p e = begins_cut text word p ∙ ap (λ l. word ++ l) (same_Some (drop (length word) text) rest e)
after_by word text rest false p e = absurd (none_some e)

pub after_sound : (word text rest : List ℕ) → after_bytes word text ≡ Some rest → text ≡ word ++ rest
unfolding after_bytes
after_sound word text rest e = after_by word text rest (starts_with nat_eq text word) refl e

drop_own : (word rest : List ℕ) → drop (length word) (word ++ rest) ≡ rest
drop_own [] rest = refl
drop_own (b ∷ word) rest = drop_own word rest

pub after_own : (word rest : List ℕ) → after_bytes word (word ++ rest) ≡ Some rest
unfolding after_bytes
after_own word rest = ap (λ t. cond t (Some (drop (length word) (word ++ rest))) None) (begins_own word rest) ∙ ap Some (drop_own word rest)

word_sound : (word : List ℕ) (end : ℕ) (text rest : List ℕ) → after_word word end text ≡ Some rest → text ≡ word ++ (end ∷ rest)
unfolding after_word
word_sound word end text rest e =
    let h = bind_some (after_bytes word text) (after_bytes (end ∷ [])) rest e in
    after_sound word text h.0 h.1 ∙ ap (λ l. word ++ l) (after_sound (end ∷ []) h.0 rest h.2)

named_by : {A : Type 0} (name : A → List ℕ) (end : ℕ) (y : A) (ys : List A) (text : List ℕ) (x : A) (rest : List ℕ) (o : Option (List ℕ)) → after_word (name y) end text ≡ o
    → or_else (beside y o) (read_named name end ys text) ≡ Some (x, rest) → (read_named name end ys text ≡ Some (x, rest) → text ≡ name x ++ (end ∷ rest)) → text ≡ name x ++ (end ∷ rest)
named_by name end y ys text x rest None p e more = more e
named_by name end y ys text x rest (Some found) p e more =
    let same : (y, found) ≡ (x, rest) = same_Some (y, found) (x, rest) e in
    word_sound (name y) end text found p ∙ (λ i. name (same i).0 ++ (end ∷ (same i).1))

named_sound : {A : Type 0} (name : A → List ℕ) (end : ℕ) (xs : List A) (text : List ℕ) (x : A) (rest : List ℕ) → read_named name end xs text ≡ Some (x, rest) → text ≡ name x ++ (end ∷ rest)
named_sound name end [] text x rest e = absurd (none_some e)
named_sound name end (y ∷ ys) text x rest e = named_by name end y ys text x rest (after_word (name y) end text) refl e (named_sound name end ys text x rest)

pub version_sound : (text : List ℕ) (x : Version) (rest : List ℕ) → version_at text ≡ Some (x, rest) → text ≡ version_name x ++ (32 ∷ rest)
unfolding version_at
version_sound text x rest e = named_sound version_name 32 VERSIONS text x rest e

pub rule_sound : (text : List ℕ) (x : Rule) (rest : List ℕ) → rule_at text ≡ Some (x, rest) → text ≡ rule_name x ++ (32 ∷ rest)
unfolding rule_at
rule_sound text x rest e = named_sound rule_name 32 RULES text x rest e

pub cap_sound : (text : List ℕ) (x : Cap) (rest : List ℕ) → cap_at text ≡ Some (x, rest) → text ≡ cap_name x ++ (10 ∷ rest)
unfolding cap_at
cap_sound text x rest e = named_sound cap_name 10 CAPS text x rest e

pub form_sound : (text : List ℕ) (x : Form) (rest : List ℕ) → form_at text ≡ Some (x, rest) → text ≡ form_name x ++ (32 ∷ rest)
unfolding form_at
form_sound text x rest e = named_sound form_name 32 FORMS text x rest e

pub version_own : (x : Version) (rest : List ℕ) → version_at (version_name x ++ (32 ∷ rest)) ≡ Some (x, rest)
unfolding version_at after_word after_bytes
version_own version.One rest = refl
version_own version.Two rest = refl

pub rule_own : (x : Rule) (rest : List ℕ) → rule_at (rule_name x ++ (32 ∷ rest)) ≡ Some (x, rest)
unfolding rule_at after_word after_bytes
rule_own rule.Number rest = refl
rule_own r rest = refl

pub cap_own : (x : Cap) (rest : List ℕ) → cap_at (cap_name x ++ (10 ∷ rest)) ≡ Some (x, rest)
unfolding cap_at after_word after_bytes
cap_own cap.Iso rest = refl
cap_own k rest = refl

pub form_own : (x : Form) (rest : List ℕ) → form_at (form_name x ++ (32 ∷ rest)) ≡ Some (x, rest)
unfolding form_at after_word after_bytes
form_own form.IsoE rest = refl
form_own f rest = refl
