-- The locals of a body, in the order in which their names are in the text, and their slots; and the names after a `.` in a
-- file, in the order of the text.
use Rattle.std.specs.{Prelude.{ℕ, suc, ◌+◌, Bool, true, false, List, [], ◌∷◌, ◌++◌, length, Option, flat_map}, Option.option_map_or}
use Rattle.pc_tree.specs.{declared.written_names.Name.Name, declared.written_names.TypeRef.TypeRef}
use Rattle.pc_core.specs.declared.nodes.SlotKind.{SlotKind}
use Rattle.pc_body_spec.specs.Bodies.{PlacedLocal, deeper, initial_fields}
use Rattle.pc_tree.specs.Tree as t
use Rattle.pc_core.specs.declared.nodes.SlotKind.TheVariants as slot

-- A local at its definition.
pub record Local : Type 0 where
  -- whether the keyword is `let`
  pub fixed : Bool
  pub name : Name
  -- its type, if one is written
  pub ty : Option TypeRef
  -- the number of `recover` bodies around its definition
  pub depth : ℕ

-- The locals that are defined in an expression at this depth.
abbrev mutual
  pub locals_of : ℕ → t.Expr → List Local
  locals_of d (t.number n s) = []
  locals_of d (t.truth b s) = []
  locals_of d (t.text b s) = []
  locals_of d (t.name n) = []
  locals_of d (t.type_name n) = []
  locals_of d (t.this s) = []
  locals_of d (t.consume n s) = []
  locals_of d (t.not_ e s) = locals_of d e
  locals_of d (t.infix_ o es s) = exprs_locals d es
  locals_of d (t.chain h ss s) = locals_of d h ++ suffixes_locals d ss
  locals_of d (t.group b s) = seq_locals d b
  locals_of d (t.if_ as' o s) = arms_locals d as' ++ other_locals d o
  locals_of d (t.while_ cond b s) = seq_locals d cond ++ seq_locals d b
  locals_of d (t.recover cap b s) = seq_locals (deeper d) b
  locals_of d (t.assign l r s) = locals_of d l ++ locals_of d r

  pub exprs_locals : ℕ → t.Exprs → List Local
  exprs_locals d t.no_exprs = []
  exprs_locals d (t.expr e es) = locals_of d e ++ exprs_locals d es

  pub suffix_locals : ℕ → t.Suffix → List Local
  suffix_locals d (t.dot n) = []
  suffix_locals d (t.args es s) = exprs_locals d es

  pub suffixes_locals : ℕ → t.Suffixes → List Local
  suffixes_locals d t.no_suffixes = []
  suffixes_locals d (t.suffix x ss) = suffix_locals d x ++ suffixes_locals d ss

  pub arm_locals : ℕ → t.Arm → List Local
  arm_locals d (t.arm_of cond b s) = seq_locals d cond ++ seq_locals d b

  pub arms_locals : ℕ → t.Arms → List Local
  arms_locals d t.no_arms = []
  arms_locals d (t.arm a as') = arm_locals d a ++ arms_locals d as'

  pub other_locals : ℕ → t.Other → List Local
  other_locals d t.no_other = []
  other_locals d (t.other b) = seq_locals d b

  pub seq_locals : ℕ → t.Seq → List Local
  seq_locals d (t.seq is s) = items_locals d is

  pub items_locals : ℕ → t.Items → List Local
  items_locals d t.no_items = []
  items_locals d (t.item i is) = item_locals d i ++ items_locals d is

  pub item_locals : ℕ → t.Item → List Local
  item_locals d (t.local fixed n ty e s) = record { fixed = fixed; name = n; ty = ty; depth = d } ∷ locals_of d e
  item_locals d (t.plain e) = locals_of d e

-- Those of the initial values.
abbrev pub initial_locals : List t.Field → List Local
initial_locals fs = flat_map (λ (f : t.Field). option_map_or (locals_of 0) f.value []) fs

-- The locals of a method of an entity with these fields. In each constructor those of the initial values come before
-- its own.
abbrev pub method_locals : List t.Field → t.Method → List Local
method_locals fs m = initial_locals (initial_fields m.word fs) ++ option_map_or (seq_locals 0) m.body []

-- Locals with the slots from this one on.
abbrev pub placed_from : ℕ → List Local → List PlacedLocal
placed_from at [] = []
placed_from at (x ∷ xs) = record { start = x.name.span.start; slot = at } ∷ placed_from (suc at) xs

-- The slots of a method's locals come after those of `this` and of the parameters.
abbrev pub slots_of : List t.Field → t.Method → List PlacedLocal
slots_of fs m = placed_from (1 + length m.params) (method_locals fs m)

-- An added `create` has only those of the initial values, after the slot of `this`.
abbrev pub added_slots : List t.Field → List PlacedLocal
added_slots fs = placed_from 1 (initial_locals fs)

abbrev pub local_kind : Bool → SlotKind
local_kind true = slot.Let
local_kind false = slot.Var

-- ---- the names after a `.`

abbrev mutual
  pub expr_texts : t.Expr → List (List ℕ)
  expr_texts (t.number n s) = []
  expr_texts (t.truth b s) = []
  expr_texts (t.text b s) = []
  expr_texts (t.name n) = []
  expr_texts (t.type_name n) = []
  expr_texts (t.this s) = []
  expr_texts (t.consume n s) = []
  expr_texts (t.not_ e s) = expr_texts e
  expr_texts (t.infix_ o es s) = exprs_texts es
  expr_texts (t.chain h ss s) = expr_texts h ++ suffixes_texts ss
  expr_texts (t.group b s) = seq_texts b
  expr_texts (t.if_ as' o s) = arms_texts as' ++ other_texts o
  expr_texts (t.while_ cond b s) = seq_texts cond ++ seq_texts b
  expr_texts (t.recover cap b s) = seq_texts b
  expr_texts (t.assign l r s) = expr_texts l ++ expr_texts r

  pub exprs_texts : t.Exprs → List (List ℕ)
  exprs_texts t.no_exprs = []
  exprs_texts (t.expr e es) = expr_texts e ++ exprs_texts es

  pub suffix_texts : t.Suffix → List (List ℕ)
  suffix_texts (t.dot n) = n.text ∷ []
  suffix_texts (t.args es s) = exprs_texts es

  pub suffixes_texts : t.Suffixes → List (List ℕ)
  suffixes_texts t.no_suffixes = []
  suffixes_texts (t.suffix x ss) = suffix_texts x ++ suffixes_texts ss

  pub arm_texts : t.Arm → List (List ℕ)
  arm_texts (t.arm_of cond b s) = seq_texts cond ++ seq_texts b

  pub arms_texts : t.Arms → List (List ℕ)
  arms_texts t.no_arms = []
  arms_texts (t.arm a as') = arm_texts a ++ arms_texts as'

  pub other_texts : t.Other → List (List ℕ)
  other_texts t.no_other = []
  other_texts (t.other b) = seq_texts b

  pub seq_texts : t.Seq → List (List ℕ)
  seq_texts (t.seq is s) = items_texts is

  pub items_texts : t.Items → List (List ℕ)
  items_texts t.no_items = []
  items_texts (t.item i is) = item_texts i ++ items_texts is

  pub item_texts : t.Item → List (List ℕ)
  item_texts (t.local fixed n ty e s) = expr_texts e
  item_texts (t.plain e) = expr_texts e

-- Those of the initial values of fields, and of the bodies of methods.
abbrev pub entities_texts : List t.Entity → List (List ℕ)
entities_texts es =
    flat_map (λ (e : t.Entity). flat_map (λ (f : t.Field). option_map_or expr_texts f.value []) e.fields ++ flat_map (λ (m : t.Method). option_map_or seq_texts m.body []) e.methods) es
