-- The places at which a body can have faults and locals, in the order of the text.
use Rattle.std.specs.Prelude.{ℕ, List, [], ◌∷◌, ◌++◌, Option, Some, None}
use Rattle.pc_tree.specs.declared.written_names.TypeRef.{TypeRef}
use Rattle.pc_body_spec.specs.{Bodies.initial_fields, Faults.{BodyNameFault, unknown, double, long_text}, Slots.Local}
use Rattle.pc_tree.specs.Tree as t

-- The places of names, type names and texts.
abbrev pub written_places : Option TypeRef → List ℕ
written_places None = []
written_places (Some ty) = ty.name.span.start ∷ []

abbrev mutual
  pub places : t.Expr → List ℕ
  places (t.number n s) = []
  places (t.truth b s) = []
  places (t.text b s) = s.start ∷ []
  places (t.name n) = n.span.start ∷ []
  places (t.type_name n) = n.span.start ∷ []
  places (t.this s) = []
  places (t.consume n s) = n.span.start ∷ []
  places (t.not_ e s) = places e
  places (t.infix_ o es s) = exprs_places es
  places (t.chain h ss s) = places h ++ suffixes_places ss
  places (t.group b s) = seq_places b
  places (t.if_ as' o s) = arms_places as' ++ other_places o
  places (t.while_ cond b s) = seq_places cond ++ seq_places b
  places (t.recover k b s) = seq_places b
  places (t.assign l r s) = places l ++ places r

  pub exprs_places : t.Exprs → List ℕ
  exprs_places t.no_exprs = []
  exprs_places (t.expr e es) = places e ++ exprs_places es

  pub suffixes_places : t.Suffixes → List ℕ
  suffixes_places t.no_suffixes = []
  suffixes_places (t.suffix (t.dot n) ss) = n.span.start ∷ suffixes_places ss
  suffixes_places (t.suffix (t.args es s) ss) = exprs_places es ++ suffixes_places ss

  pub arm_places : t.Arm → List ℕ
  arm_places (t.arm_of cond b s) = seq_places cond ++ seq_places b

  pub arms_places : t.Arms → List ℕ
  arms_places t.no_arms = []
  arms_places (t.arm a as') = arm_places a ++ arms_places as'

  pub other_places : t.Other → List ℕ
  other_places t.no_other = []
  other_places (t.other b) = seq_places b

  pub seq_places : t.Seq → List ℕ
  seq_places (t.seq is s) = items_places is

  pub items_places : t.Items → List ℕ
  items_places t.no_items = []
  items_places (t.item i is) = item_places i ++ items_places is

  pub item_places : t.Item → List ℕ
  item_places (t.local fixed n ty e s) = n.span.start ∷ (written_places ty ++ places e)
  item_places (t.plain e) = places e

abbrev pub value_places : Option t.Expr → List ℕ
value_places None = []
value_places (Some e) = places e

abbrev pub initial_places : List t.Field → List ℕ
initial_places [] = []
initial_places (f ∷ fs) = value_places f.value ++ initial_places fs

abbrev pub written_body_places : Option t.Seq → List ℕ
written_body_places None = []
written_body_places (Some b) = seq_places b

-- Those of the body of a method of an entity with these fields. Initial values come before all methods.
abbrev pub body_places : List t.Field → t.Method → List ℕ
body_places fs m = initial_places (initial_fields m.word fs) ++ written_body_places m.body

-- The start of a fault.
abbrev pub fault_start : BodyNameFault → ℕ
fault_start (unknown s) = s.start
fault_start (double s) = s.start
fault_start (long_text s) = s.start

-- The start of a local's name.
abbrev pub local_start : Local → ℕ
local_start l = l.name.span.start
