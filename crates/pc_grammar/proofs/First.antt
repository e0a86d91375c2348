-- What is spelled has a first token.
use Rattle.std.proofs.Common.{◌≡◌, true, List, [], ◌∷◌, ◌++◌, ap, ◌∙◌}
use Rattle.pc_tree.specs.Tree as t
use Rattle.pc_token.specs.{declared.kinds.Token.Token, declared.words.Word.Word, Words.is_word}
use Rattle.pc_token.specs.declared.words.Word.TheVariants as w
use Rattle.pc_token.specs.declared.signs.Sign.TheVariants as s
use Rattle.pc_grammar.specs.{Spells.{local_word, truth_word, Spells, SpellsSuffix, SpellsArm, SpellsItem, SpellsSeq}, Reading.{begins_item, begins_suffix}}
use Rattle.pc_grammar.proofs.Follow.{Leads, kind_of_sign, kind_of_word, name_leads, type_name_leads, number_leads, text_leads, open_leads, this_leads, truth_leads, if_leads, while_leads, recover_leads, not_leads, consume_leads, local_item, dot_suffix, open_suffix}

-- the first of these tokens has this property
abbrev pub First : (Token → Type 0) → List Token → Type 0
First Q ts = (x : Token) × (xs : List Token) × (ts ≡ x ∷ xs) × Q x

pub first_append : (Q : Token → Type 0) (ts a b : List Token) → ts ≡ a ++ b → First Q a → First Q ts
first_append Q ts a b e f = (f.0, f.1 ++ b, e ∙ ap (λ l. l ++ b) f.2, f.3)

abbrev pub IsWord : Word → Token → Type 0
IsWord word x = is_word word x ≡ true

pub first_arm : (a : t.Arm) (word : Word) (ts : List Token) → SpellsArm a word ts → First (IsWord word) ts
first_arm (t.arm_of c b sp) word ts h = (h.0, h.2 ++ h.1 ∷ h.3, h.4, h.5)

first_arms : (a : t.Arm) (ts more all : List Token) → SpellsArm a w.IfWord ts → all ≡ ts ++ more → First Leads all
first_arms a ts more all h e = let f = first_arm a w.IfWord ts h in (f.0, f.1 ++ more, e ∙ ap (λ l. l ++ more) f.2, if_leads f.0 (kind_of_word w.IfWord f.0 f.3))

pub first_of : (e : t.Expr) (ts : List Token) → Spells e ts → First Leads ts
first_of (t.number n sp) ts h = (h.0, [], h.1, number_leads h.0 n h.2)
first_of (t.truth b sp) ts h = (h.0, [], h.1, truth_leads h.0 b (kind_of_word (truth_word b) h.0 h.2))
first_of (t.text b sp) ts h = (h.0, [], h.1, text_leads h.0 b h.2)
first_of (t.name m) ts h = (h.0, [], h.1, name_leads h.0 m.text h.2.0)
first_of (t.type_name m) ts h = (h.0, [], h.1, type_name_leads h.0 m.text h.2.0)
first_of (t.this sp) ts h = (h.0, [], h.1, this_leads h.0 (kind_of_word w.ThisWord h.0 h.2))
first_of (t.consume m sp) ts h = (h.0, h.1 ∷ [], h.2, consume_leads h.0 (kind_of_word w.ConsumeWord h.0 h.3))
first_of (t.not_ e sp) ts h = (h.0, h.1, h.2, not_leads h.0 (kind_of_word w.NotWord h.0 h.3))
first_of (t.infix_ o t.no_exprs sp) ts h = absurd h.0
first_of (t.infix_ o (t.expr e es) sp) ts h = first_append Leads ts h.0.0 h.0.1 h.0.2 (first_of e h.0.0 h.0.4)
first_of (t.chain e ss sp) ts h = first_append Leads ts h.0 h.1 h.2 (first_of e h.0 h.4)
first_of (t.group b sp) ts h = (h.0, h.2 ++ h.1 ∷ [], h.3, open_leads h.0 (kind_of_sign s.OpenParen h.0 h.4))
first_of (t.if_ t.no_arms o sp) ts h = absurd h.4
first_of (t.if_ (t.arm x xs) o sp) ts h = first_append Leads ts h.1 (h.2 ++ h.0 ∷ []) h.3 (first_arms x h.4.0 h.4.1 h.1 h.4.3 h.4.2)
first_of (t.while_ c b sp) ts h = (h.0, h.3 ++ h.1 ∷ (h.4 ++ h.2 ∷ []), h.5, while_leads h.0 (kind_of_word w.WhileWord h.0 h.6))
first_of (t.recover c b sp) ts h = (h.0, h.2 ++ (h.3 ++ h.1 ∷ []), h.4, recover_leads h.0 (kind_of_word w.RecoverWord h.0 h.5))
first_of (t.assign l r sp) ts h = first_append Leads ts h.1 (h.0 ∷ h.2) h.3 (first_of l h.1 h.5)

abbrev pub Item : Token → Type 0
Item x = begins_item x ≡ true

pub first_item : (i : t.Item) (ts : List Token) → SpellsItem i ts → First Item ts
first_item (t.local f m ty e sp) ts h = (h.0, h.1 ∷ (h.3 ++ h.2 ∷ h.4), h.5, local_item h.0 f (kind_of_word (local_word f) h.0 h.6))
first_item (t.plain e) ts h = let f = first_of e ts h in (f.0, f.1, f.2, f.3.item)

pub first_seq : (b : t.Seq) (ts : List Token) → SpellsSeq b ts → First Item ts
first_seq (t.seq t.no_items sp) ts h = absurd h.0
first_seq (t.seq (t.item i is) sp) ts h = first_append Item ts h.0.0 h.0.1 h.0.2 (first_item i h.0.0 h.0.3)

abbrev pub Behind_atom : Token → Type 0
Behind_atom x = begins_suffix x ≡ true

pub first_suffix : (x : t.Suffix) (ts : List Token) → SpellsSuffix x ts → First Behind_atom ts
first_suffix (t.dot m) ts h = (h.0, h.1 ∷ [], h.2, dot_suffix h.0 h.3)
first_suffix (t.args es sp) ts h = (h.0, h.2 ++ h.1 ∷ [], h.3, open_suffix h.0 h.4 h.5)
