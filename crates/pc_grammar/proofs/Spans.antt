-- The spans of the parts give the span of the whole.
use Rattle.std.proofs.Common.{◌≡◌, List, [], ◌∷◌, ◌++◌, refl, sym, ap, ap₂, ◌∙◌}
use Rattle.pc_base.specs.declared.span.Span.{Span}
use Rattle.pc_tree.specs.Tree as t
use Rattle.pc_tree.specs.{declared.kinds.Op.Op, Parts.{suffix_span, arm_span, seq_span, item_span}}
use Rattle.pc_token.specs.{declared.kinds.Token.Token, declared.words.Word.Word}
use Rattle.pc_grammar.specs.{Spells.{no_span, first_span, last_span, span_from_to, over, Spells, SpellsTerms, SpellsMoreTerms, SpellsSuffix, SpellsSuffixes, SpellsArm, SpellsSeq, SpellsItem, SpellsItems, SpellsMoreItems}, Reading.{last_expr, last_suffix, last_item, first_expr, first_item}}
use Rattle.pc_grammar.proofs.{First.{First, IsWord, first_append, first_of, first_item as item_first, first_seq, first_suffix, first_arm}, Lists.{list_of, suffix_list, item_list}}

pub join_by : (a b c d : Span) → a.start ≡ c.start → b.end ≡ d.end → span_from_to a b ≡ span_from_to c d
join_by a b c d e f = ap₂ (λ s t. record { start = s; end = t }) e f

pub last_append : (s : Span) (a b : List Token) → last_span s (a ++ b) ≡ last_span (last_span s a) b
last_append s [] b = refl
last_append s (x ∷ a) b = last_append x.span a b

module _ {Q : Token → Type 0} where
  last_first : (s r : Span) (ts : List Token) → First Q ts → last_span s ts ≡ last_span r ts
  last_first s r ts f = ap (last_span s) f.2 ∙ sym (ap (last_span r) f.2)

  pub over_cons : (x : Token) (a : List Token) → First Q a → over (x ∷ a) ≡ span_from_to x.span (over a)
  over_cons x a f = ap (span_from_to x.span) (last_first x.span no_span a f)

  first_of_append : (a b : List Token) → First Q a → first_span (a ++ b) ≡ first_span a
  first_of_append a b f = ap (λ l. first_span (l ++ b)) f.2 ∙ sym (ap first_span f.2)

pub over_closed : (x y : Token) (a : List Token) → over (x ∷ (a ++ y ∷ [])) ≡ span_from_to x.span y.span
over_closed x y a = ap (span_from_to x.span) (last_append x.span a (y ∷ []))

-- ---- of each tree

pub span_is : (e : t.Expr) (ts : List Token) → Spells e ts → t.span_of e ≡ over ts
span_is (t.number n sp) ts h = h.3
span_is (t.truth b sp) ts h = h.3
span_is (t.text b sp) ts h = h.3
span_is (t.name m) ts h = sym h.2.1 ∙ sym (ap over h.1)
span_is (t.type_name m) ts h = sym h.2.1 ∙ sym (ap over h.1)
span_is (t.this sp) ts h = h.3
span_is (t.consume m sp) ts h = h.5
span_is (t.not_ e sp) ts h = h.6
span_is (t.infix_ o es sp) ts h = h.1
span_is (t.chain e ss sp) ts h = h.7
span_is (t.group b sp) ts h = h.7
span_is (t.if_ a o sp) ts h = h.7
span_is (t.while_ c b sp) ts h = h.11
span_is (t.recover c b sp) ts h = h.9
span_is (t.assign l r sp) ts h = h.8

pub seq_span_is : (b : t.Seq) (ts : List Token) → SpellsSeq b ts → seq_span b ≡ over ts
seq_span_is (t.seq is sp) ts h = h.1

pub arm_span_is : (a : t.Arm) (word : Word) (ts : List Token) → SpellsArm a word ts → arm_span a ≡ over ts
arm_span_is (t.arm_of c b sp) word ts h = h.9

pub item_span_is : (i : t.Item) (ts : List Token) → SpellsItem i ts → item_span i ≡ over ts
item_span_is (t.local f m ty e sp) ts h = h.11
item_span_is (t.plain e) ts h = span_is e ts h

-- ---- where lists end

expr_end : (e : t.Expr) (ts : List Token) (s : Span) → Spells e ts → (t.span_of e).end ≡ (last_span s ts).end
expr_end e ts s h = ap (λ s. s.end) (span_is e ts h ∙ ap (span_from_to (first_span ts)) (last_first no_span s ts (first_of e ts h)))

item_end : (i : t.Item) (ts : List Token) (s : Span) → SpellsItem i ts → (item_span i).end ≡ (last_span s ts).end
item_end i ts s h = ap (λ s. s.end) (item_span_is i ts h ∙ ap (span_from_to (first_span ts)) (last_first no_span s ts (item_first i ts h)))

seq_end : (b : t.Seq) (ts : List Token) (s : Span) → SpellsSeq b ts → (seq_span b).end ≡ (last_span s ts).end
seq_end b ts s h = ap (λ s. s.end) (seq_span_is b ts h ∙ ap (span_from_to (first_span ts)) (last_first no_span s ts (first_seq b ts h)))

suffix_end : (x : t.Suffix) (ts : List Token) (s : Span) → SpellsSuffix x ts → (suffix_span x).end ≡ (last_span s ts).end
suffix_end (t.dot m) ts s h = ap (λ s. s.end) (sym h.4.1) ∙ sym (ap (λ l. (last_span s l).end) h.2)
suffix_end (t.args es sp) ts s h = ap (λ s. s.end) (h.8 ∙ ap (span_from_to (first_span ts)) (last_first no_span s ts (first_suffix (t.args es sp) ts h)))

suffixes_end : (ss : t.Suffixes) (ts : List Token) (s r : Span) → SpellsSuffixes ss ts → s.end ≡ r.end → (last_suffix s (suffix_list ss)).end ≡ (last_span r ts).end
suffixes_end t.no_suffixes ts s r h e = e ∙ sym (ap (λ l. (last_span r l).end) h)
suffixes_end (t.suffix x ss) ts s r h e = suffixes_end ss h.1 (suffix_span x) (last_span r h.0) h.4 (suffix_end x h.0 r h.3) ∙ sym (ap (λ s. s.end) (ap (last_span r) h.2 ∙ last_append r h.0 h.1))

terms_end : (es : t.Exprs) (o : Op) (ts : List Token) (s r : Span) → SpellsMoreTerms es o ts → s.end ≡ r.end → (last_expr s (list_of es)).end ≡ (last_span r ts).end
terms_end t.no_exprs o ts s r h e = e ∙ sym (ap (λ l. (last_span r l).end) h)
terms_end (t.expr x es) o ts s r h e =
    let c = h.0.span in
    terms_end es o h.2 (t.span_of x) (last_span c h.1) h.7 (expr_end x h.1 c h.6) ∙ sym (ap (λ s. s.end) (ap (last_span r) h.3 ∙ last_append c h.1 h.2))

items_end : (is : t.Items) (ts : List Token) (s r : Span) → SpellsMoreItems is ts → s.end ≡ r.end → (last_item s (item_list is)).end ≡ (last_span r ts).end
items_end t.no_items ts s r h e = e ∙ sym (ap (λ l. (last_span r l).end) h)
items_end (t.item i is) ts s r h e =
    let c = last_span r h.0 in
    items_end is h.2 (item_span i) (last_span c h.1) h.6 (item_end i h.1 c h.5) ∙ sym (ap (λ s. s.end) (ap (last_span r) h.3 ∙ last_append r h.0 (h.1 ++ h.2) ∙ last_append c h.1 h.2))

-- ---- the whole

pub chain_span : (e : t.Expr) (ss : t.Suffixes) (a b ts : List Token) → ts ≡ a ++ b → Spells e a → SpellsSuffixes ss b → span_from_to (t.span_of e) (last_suffix (t.span_of e) (suffix_list ss)) ≡ over ts
chain_span e ss a b ts cut h hs =
    let is = span_is e a h in
    let ends = suffixes_end ss b (t.span_of e) (last_span no_span a) hs (ap (λ s. s.end) is) in
    join_by (t.span_of e) (last_suffix (t.span_of e) (suffix_list ss)) (first_span (a ++ b)) (last_span no_span (a ++ b)) (ap (λ s. s.start) is ∙ ap (λ s. s.start) (sym (first_of_append a b (first_of e a h)))) (ends ∙ ap (λ s. s.end) (sym (last_append no_span a b))) ∙ ap over (sym cut)

pub terms_span : (es : t.Exprs) (o : Op) (ts : List Token) → SpellsTerms es o ts → span_from_to (first_expr (list_of es)) (last_expr no_span (list_of es)) ≡ over ts
terms_span t.no_exprs o ts h = absurd h
terms_span (t.expr e es) o ts h =
    let is = span_is e h.0 h.4 in
    let ends = terms_end es o h.1 (t.span_of e) (last_span no_span h.0) h.6 (ap (λ s. s.end) is) in
    join_by (t.span_of e) (last_expr (t.span_of e) (list_of es)) (first_span (h.0 ++ h.1)) (last_span no_span (h.0 ++ h.1)) (ap (λ s. s.start) is ∙ ap (λ s. s.start) (sym (first_of_append h.0 h.1 (first_of e h.0 h.4)))) (ends ∙ ap (λ s. s.end) (sym (last_append no_span h.0 h.1))) ∙ ap over (sym h.2)

pub items_span : (is : t.Items) (ts : List Token) → SpellsItems is ts
    → span_from_to (first_item (item_list is)) (last_item no_span (item_list is)) ≡ over ts
items_span t.no_items ts h = absurd h
items_span (t.item i is) ts h =
    let same = item_span_is i h.0 h.3 in
    let ends = items_end is h.1 (item_span i) (last_span no_span h.0) h.4 (ap (λ s. s.end) same) in
    join_by (item_span i) (last_item (item_span i) (item_list is)) (first_span (h.0 ++ h.1)) (last_span no_span (h.0 ++ h.1)) (ap (λ s. s.start) same ∙ ap (λ s. s.start) (sym (first_of_append h.0 h.1 (item_first i h.0 h.3)))) (ends ∙ ap (λ s. s.end) (sym (last_append no_span h.0 h.1))) ∙ ap over (sym h.2)

module _ (x : Token) where
  pub over_two : (y z : Token) (a d : List Token) → over (x ∷ (a ++ y ∷ (d ++ z ∷ []))) ≡ span_from_to x.span z.span
  over_two y z a d = ap (span_from_to x.span) (last_append x.span a (y ∷ (d ++ z ∷ [])) ∙ last_append y.span d (z ∷ []))

  pub over_three : (z : Token) (d a : List Token) → over (x ∷ (d ++ (a ++ z ∷ []))) ≡ span_from_to x.span z.span
  over_three z d a = ap (span_from_to x.span) (last_append x.span d (a ++ z ∷ []) ∙ last_append (last_span x.span d) a (z ∷ []))

  pub over_not : (e : t.Expr) (a : List Token) → Spells e a → over (x ∷ a) ≡ span_from_to x.span (t.span_of e)
  over_not e a h = join_by x.span (last_span x.span a) x.span (t.span_of e) refl (sym (expr_end e a x.span h))

  pub over_arm : (y : Token) (b : t.Seq) (a d : List Token) → SpellsSeq b d → over (x ∷ (a ++ y ∷ d)) ≡ span_from_to x.span (seq_span b)
  over_arm y b a d h = join_by x.span (last_span x.span (a ++ y ∷ d)) x.span (seq_span b) refl (ap (λ s. s.end) (last_append x.span a (y ∷ d)) ∙ sym (seq_end b d y.span h))

  pub over_local : (y z : Token) (e : t.Expr) (a b : List Token) → Spells e b → over (x ∷ y ∷ (a ++ z ∷ b)) ≡ span_from_to x.span (t.span_of e)
  over_local y z e a b h = join_by x.span (last_span y.span (a ++ z ∷ b)) x.span (t.span_of e) refl (ap (λ s. s.end) (last_append y.span a (z ∷ b)) ∙ sym (expr_end e b z.span h))

  pub over_assign : (l r : t.Expr) (a b : List Token) → Spells l a → Spells r b → over (a ++ x ∷ b) ≡ span_from_to (t.span_of l) (t.span_of r)
  over_assign l r a b hl hr =
      join_by (first_span (a ++ x ∷ b)) (last_span no_span (a ++ x ∷ b)) (t.span_of l) (t.span_of r) (ap (λ s. s.start) (first_of_append a (x ∷ b) (first_of l a hl)) ∙ sym (ap (λ s. s.start) (span_is l a hl)))
      (ap (λ s. s.end) (last_append no_span a (x ∷ b)) ∙ sym (expr_end r b x.span hr))

pub over_if : (x : t.Arm) (word : Word) (z : Token) (a b d all : List Token) → SpellsArm x word a → all ≡ a ++ b → over (all ++ (d ++ z ∷ [])) ≡ span_from_to (arm_span x) z.span
over_if x word z a b d all h cut =
    let f = first_append (IsWord word) all a b cut (first_arm x word a h) in
    let here = ap (λ s. s.start) (first_of_append all (d ++ z ∷ []) f ∙ ap first_span cut ∙ first_of_append a b (first_arm x word a h)) in
    join_by (first_span (all ++ (d ++ z ∷ []))) (last_span no_span (all ++ (d ++ z ∷ []))) (arm_span x) z.span (here ∙ sym (ap (λ s. s.start) (arm_span_is x word a h)))
    (ap (λ s. s.end) (last_append no_span all (d ++ z ∷ []) ∙ last_append (last_span no_span all) d (z ∷ [])))
