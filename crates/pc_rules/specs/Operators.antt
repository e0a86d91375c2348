-- Rules for operators.
use Rattle.std.specs.Prelude.{ℕ, Bool, true, false, ◌&&◌, ◌||◌, List, Option, Some, None, if◌then◌else◌}
use Rattle.pc_tree.specs.{declared.kinds.Op.Op, Kinds.{u64_entity, bool_entity, string_entity}}
use Rattle.pc_rules.specs.{Parts.{says_of, reads_as, starts, through_notes, one_type, two_notes, two_types}, declared.said.Said.Said}
use Rattle.pc_valid.specs.Words.{Ty, Masks, masks_after}
use Rattle.pc_base.specs.Lists.{◌>>=◌}
use Rattle.pc_ann.specs.declared.annotation.Note.{Note}
use Rattle.pc_masks.specs.Masks.{meet}
use Rattle.pc_tree.specs.declared.kinds.Op.TheVariants as op
use Rattle.pc_caps.specs.declared.capability.Form.TheVariants as form

abbrev pub is_arithmetic : Op → Bool
is_arithmetic op.Add = true
is_arithmetic op.Sub = true
is_arithmetic op.Mul = true
is_arithmetic op.Div = true
is_arithmetic op.Rem = true
is_arithmetic o = false

abbrev pub is_comparison : Op → Bool
is_comparison op.Lt = true
is_comparison op.Le = true
is_comparison op.Gt = true
is_comparison op.Ge = true
is_comparison o = false

abbrev pub is_equality : Op → Bool
is_equality op.Eq = true
is_equality op.Ne = true
is_equality o = false

abbrev pub is_add : Op → Bool
is_add op.Add = true
is_add o = false

abbrev pub is_xor : Op → Bool
is_xor op.Xor = true
is_xor o = false

-- Both are readable values of this entity.
abbrev pub both_read_as : ℕ → Ty × Ty → Bool
both_read_as e vs = reads_as e vs.0 && reads_as e vs.1

-- A value of this entity, as `val`, and the masks after the children.
abbrev pub value_says : ℕ → List Note → Masks → Option Said
value_says e ns m = do
  n ← through_notes ns m
  Some (says_of (Some (e, form.Val)) n)

-- Arith: both U64; U64.
abbrev pub arith_says : List Note → Op → Masks → Option Said
arith_says ns o m = do
  vs ← two_types ns
  if is_arithmetic o && both_read_as u64_entity vs then value_says u64_entity ns m else None

-- Compare: both U64; Bool.
abbrev pub compare_says : List Note → Op → Masks → Option Said
compare_says ns o m = do
  vs ← two_types ns
  if is_comparison o && both_read_as u64_entity vs then value_says bool_entity ns m else None

-- Both U64, both Bool or both String.
abbrev pub comparable : Ty × Ty → Bool
comparable vs = both_read_as u64_entity vs || (both_read_as bool_entity vs || both_read_as string_entity vs)

-- Equal: two such values; Bool.
abbrev pub equal_says : List Note → Op → Masks → Option Said
equal_says ns o m = do
  vs ← two_types ns
  if is_equality o && comparable vs then value_says bool_entity ns m else None

-- Join: `+` on two Strings; String.
abbrev pub join_says : List Note → Op → Masks → Option Said
join_says ns o m = do
  vs ← two_types ns
  if is_add o && both_read_as string_entity vs then value_says string_entity ns m else None

-- Logic: `xor` on two Bools, or `not` on one; Bool.
abbrev pub xor_says : List Note → Op → Masks → Option Said
xor_says ns o m = do
  vs ← two_types ns
  if is_xor o && both_read_as bool_entity vs then value_says bool_entity ns m else None

abbrev pub not_says : List Note → Masks → Option Said
not_says ns m = do
  v ← one_type ns
  if reads_as bool_entity v then value_says bool_entity ns m else None

-- Identity: two values of any type; Bool.
abbrev pub identity_says : List Note → Masks → Option Said
identity_says ns m = do
  vs ← two_types ns
  value_says bool_entity ns m

-- The masks after both of two paths.
abbrev pub meet_masks : Masks → Masks → Masks
meet_masks a b = (meet a.0 b.0, meet a.1 b.1)

-- Lazy: `and` and `or` on two Bools; Bool. The right side starts from the masks after the left one, and may not be
-- evaluated: after the node come the masks that both leave.
abbrev pub lazy_masks : List Note → Masks → Option Masks
lazy_masks ns m = do
  c ← two_notes ns
  if starts c.0 m && starts c.1 (masks_after c.0) then Some (meet_masks (masks_after c.0) (masks_after c.1)) else None

abbrev pub lazy_says : List Note → Masks → Option Said
lazy_says ns m = do
  vs ← two_types ns
  n ← lazy_masks ns m
  if both_read_as bool_entity vs then Some (says_of (Some (bool_entity, form.Val)) n) else None
