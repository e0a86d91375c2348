-- The names of a table, with those after a `.` in a part of a body appended, in the order of the text.
use Rattle.std.specs.Prelude.{List, [], ◌∷◌, Option, Some, None}
use Rattle.pc_base.specs.Lists.{Text}
use Rattle.pc_members.specs.MemberLists.{with_name}
use Rattle.pc_tree.specs.Tree as t

abbrev mutual
  pub with_expr : List Text → t.Expr → List Text
  with_expr ns (t.number n s) = ns
  with_expr ns (t.truth b s) = ns
  with_expr ns (t.text b s) = ns
  with_expr ns (t.name n) = ns
  with_expr ns (t.type_name n) = ns
  with_expr ns (t.this s) = ns
  with_expr ns (t.consume n s) = ns
  with_expr ns (t.not_ e s) = with_expr ns e
  with_expr ns (t.infix_ o es s) = with_exprs ns es
  with_expr ns (t.chain h ss s) = with_suffixes (with_expr ns h) ss
  with_expr ns (t.group b s) = with_seq ns b
  with_expr ns (t.if_ as' o s) = with_other (with_arms ns as') o
  with_expr ns (t.while_ cond b s) = with_seq (with_seq ns cond) b
  with_expr ns (t.recover cap b s) = with_seq ns b
  with_expr ns (t.assign l r s) = with_expr (with_expr ns l) r

  pub with_exprs : List Text → t.Exprs → List Text
  with_exprs ns t.no_exprs = ns
  with_exprs ns (t.expr e es) = with_exprs (with_expr ns e) es

  pub with_suffix : List Text → t.Suffix → List Text
  with_suffix ns (t.dot n) = with_name ns n.text
  with_suffix ns (t.args es s) = with_exprs ns es

  pub with_suffixes : List Text → t.Suffixes → List Text
  with_suffixes ns t.no_suffixes = ns
  with_suffixes ns (t.suffix x ss) = with_suffixes (with_suffix ns x) ss

  pub with_arm : List Text → t.Arm → List Text
  with_arm ns (t.arm_of cond b s) = with_seq (with_seq ns cond) b

  pub with_arms : List Text → t.Arms → List Text
  with_arms ns t.no_arms = ns
  with_arms ns (t.arm a as') = with_arms (with_arm ns a) as'

  pub with_other : List Text → t.Other → List Text
  with_other ns t.no_other = ns
  with_other ns (t.other b) = with_seq ns b

  pub with_seq : List Text → t.Seq → List Text
  with_seq ns (t.seq is s) = with_items ns is

  pub with_items : List Text → t.Items → List Text
  with_items ns t.no_items = ns
  with_items ns (t.item i is) = with_items (with_item ns i) is

  pub with_item : List Text → t.Item → List Text
  with_item ns (t.local fixed n ty e s) = with_expr ns e
  with_item ns (t.plain e) = with_expr ns e

abbrev pub with_value : List Text → Option t.Expr → List Text
with_value ns None = ns
with_value ns (Some e) = with_expr ns e

abbrev pub with_body : List Text → Option t.Seq → List Text
with_body ns None = ns
with_body ns (Some b) = with_seq ns b

abbrev pub with_values : List Text → List t.Field → List Text
with_values ns [] = ns
with_values ns (f ∷ fs) = with_values (with_value ns f.value) fs

abbrev pub with_bodies : List Text → List t.Method → List Text
with_bodies ns [] = ns
with_bodies ns (m ∷ ms) = with_bodies (with_body ns m.body) ms

abbrev pub with_entities : List Text → List t.Entity → List Text
with_entities ns [] = ns
with_entities ns (e ∷ es) = with_entities (with_bodies (with_values ns e.fields) e.methods) es
