-- What is gathered part by part is the list of all names after a `.`, after those of the table.
use Rattle.std.proofs.Common.{◌≡◌, List, [], ◌∷◌, ◌++◌, Option, Some, None, refl, sym, ap, ◌∙◌}
use Rattle.pc_tree.specs.Tree as t
use Rattle.pc_base.specs.Lists.{Text}
use Rattle.pc_members.specs.MemberLists.{with_names}
use Rattle.pc_members.proofs.Tables.{names_in_parts}
use Rattle.pc_body_spec.specs.{Slots.{expr_texts, exprs_texts, suffix_texts, suffixes_texts, arm_texts, arms_texts, other_texts, seq_texts, items_texts, item_texts, entities_texts}, Parts.{value_texts, body_texts, values_texts, bodies_texts}}
use Rattle.pc_body_walks.specs.Gathering.{with_expr, with_exprs, with_suffix, with_suffixes, with_arm, with_arms, with_other, with_seq, with_items, with_item, with_value, with_body, with_values, with_bodies, with_entities}

-- The first ones, then the others.
in_turn : (more : List Text → List Text) (ns mid xs ys : List Text) → mid ≡ with_names ns xs → ((m : List Text) → more m ≡ with_names m ys) → more mid ≡ with_names ns (xs ++ ys)
in_turn more ns mid xs ys e g = ap more e ∙ (g (with_names ns xs) ∙ sym (names_in_parts ns xs ys))

mutual
  expr_is : (ns : List Text) (e : t.Expr) → with_expr ns e ≡ with_names ns (expr_texts e)
  expr_is ns (t.number n s) = refl
  expr_is ns (t.truth b s) = refl
  expr_is ns (t.text b s) = refl
  expr_is ns (t.name n) = refl
  expr_is ns (t.type_name n) = refl
  expr_is ns (t.this s) = refl
  expr_is ns (t.consume n s) = refl
  expr_is ns (t.not_ e s) = expr_is ns e
  expr_is ns (t.infix_ o es s) = exprs_are ns es
  expr_is ns (t.chain h ss s) = in_turn (λ m. with_suffixes m ss) ns (with_expr ns h) (expr_texts h) (suffixes_texts ss) (expr_is ns h) (λ m. suffixes_are m ss)
  expr_is ns (t.group b s) = seq_is ns b
  expr_is ns (t.if_ as' o s) = in_turn (λ m. with_other m o) ns (with_arms ns as') (arms_texts as') (other_texts o) (arms_are ns as') (λ m. other_is m o)
  expr_is ns (t.while_ cond b s) = in_turn (λ m. with_seq m b) ns (with_seq ns cond) (seq_texts cond) (seq_texts b) (seq_is ns cond) (λ m. seq_is m b)
  expr_is ns (t.recover cap b s) = seq_is ns b
  expr_is ns (t.assign l r s) = in_turn (λ m. with_expr m r) ns (with_expr ns l) (expr_texts l) (expr_texts r) (expr_is ns l) (λ m. expr_is m r)

  exprs_are : (ns : List Text) (es : t.Exprs) → with_exprs ns es ≡ with_names ns (exprs_texts es)
  exprs_are ns t.no_exprs = refl
  exprs_are ns (t.expr e es) = in_turn (λ m. with_exprs m es) ns (with_expr ns e) (expr_texts e) (exprs_texts es) (expr_is ns e) (λ m. exprs_are m es)

  suffix_is : (ns : List Text) (x : t.Suffix) → with_suffix ns x ≡ with_names ns (suffix_texts x)
  suffix_is ns (t.dot n) = refl
  suffix_is ns (t.args es s) = exprs_are ns es

  suffixes_are : (ns : List Text) (ss : t.Suffixes) → with_suffixes ns ss ≡ with_names ns (suffixes_texts ss)
  suffixes_are ns t.no_suffixes = refl
  suffixes_are ns (t.suffix x ss) = in_turn (λ m. with_suffixes m ss) ns (with_suffix ns x) (suffix_texts x) (suffixes_texts ss) (suffix_is ns x) (λ m. suffixes_are m ss)

  arm_is : (ns : List Text) (a : t.Arm) → with_arm ns a ≡ with_names ns (arm_texts a)
  arm_is ns (t.arm_of cond b s) = in_turn (λ m. with_seq m b) ns (with_seq ns cond) (seq_texts cond) (seq_texts b) (seq_is ns cond) (λ m. seq_is m b)

  arms_are : (ns : List Text) (as' : t.Arms) → with_arms ns as' ≡ with_names ns (arms_texts as')
  arms_are ns t.no_arms = refl
  arms_are ns (t.arm a as') = in_turn (λ m. with_arms m as') ns (with_arm ns a) (arm_texts a) (arms_texts as') (arm_is ns a) (λ m. arms_are m as')

  other_is : (ns : List Text) (o : t.Other) → with_other ns o ≡ with_names ns (other_texts o)
  other_is ns t.no_other = refl
  other_is ns (t.other b) = seq_is ns b

  seq_is : (ns : List Text) (b : t.Seq) → with_seq ns b ≡ with_names ns (seq_texts b)
  seq_is ns (t.seq is s) = items_are ns is

  items_are : (ns : List Text) (is : t.Items) → with_items ns is ≡ with_names ns (items_texts is)
  items_are ns t.no_items = refl
  items_are ns (t.item i is) = in_turn (λ m. with_items m is) ns (with_item ns i) (item_texts i) (items_texts is) (item_is ns i) (λ m. items_are m is)

  item_is : (ns : List Text) (i : t.Item) → with_item ns i ≡ with_names ns (item_texts i)
  item_is ns (t.local fixed n ty e s) = expr_is ns e
  item_is ns (t.plain e) = expr_is ns e

value_is : (ns : List Text) (v : Option t.Expr) → with_value ns v ≡ with_names ns (value_texts v)
value_is ns None = refl
value_is ns (Some e) = expr_is ns e

body_is : (ns : List Text) (b : Option t.Seq) → with_body ns b ≡ with_names ns (body_texts b)
body_is ns None = refl
body_is ns (Some b) = seq_is ns b

values_are : (ns : List Text) (fs : List t.Field) → with_values ns fs ≡ with_names ns (values_texts fs)
values_are ns [] = refl
values_are ns (f ∷ fs) = in_turn (λ m. with_values m fs) ns (with_value ns f.value) (value_texts f.value) (values_texts fs) (value_is ns f.value) (λ m. values_are m fs)

bodies_are : (ns : List Text) (ms : List t.Method) → with_bodies ns ms ≡ with_names ns (bodies_texts ms)
bodies_are ns [] = refl
bodies_are ns (m ∷ ms) = in_turn (λ k. with_bodies k ms) ns (with_body ns m.body) (body_texts m.body) (bodies_texts ms) (body_is ns m.body) (λ k. bodies_are k ms)

members_are : (ns : List Text) (e : t.Entity) → with_bodies (with_values ns e.fields) e.methods ≡ with_names ns (values_texts e.fields ++ bodies_texts e.methods)
members_are ns e = in_turn (λ m. with_bodies m e.methods) ns (with_values ns e.fields) (values_texts e.fields) (bodies_texts e.methods) (values_are ns e.fields) (λ m. bodies_are m e.methods)

pub entities_are : (ns : List Text) (es : List t.Entity) → with_entities ns es ≡ with_names ns (entities_texts es)
entities_are ns [] = refl
entities_are ns (e ∷ es) = in_turn (λ m. with_entities m es) ns (with_bodies (with_values ns e.fields) e.methods) (values_texts e.fields ++ bodies_texts e.methods) (entities_texts es) (members_are ns e) (λ m. entities_are m es)
