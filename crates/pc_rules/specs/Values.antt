-- Rules for literals, `this`, locals and their definitions.
use Rattle.std.specs.Prelude.{ℕ, Bool, true, false, ◌&&◌, List, Option, Some, None, nat_eq, slice_get, if◌then◌else◌}
use Rattle.pc_caps.specs.{Tables.{plain, unalias, stored}, declared.capability.Cap.Cap, declared.capability.Form.Form}
use Rattle.pc_rules.specs.{Parts.{says_of, goes_to, slot_of, reachable, full, through_notes, one_type}, declared.said.Said.Said}
use Rattle.pc_valid.specs.Words.{Ty, Masks, Slots}
use Rattle.pc_core.specs.{declared.nodes.Slot.Slot, declared.nodes.SlotKind.SlotKind, declared.nodes.Node.Node, CoreData.CoreData}
use Rattle.pc_base.specs.Lists.{◌>>=◌}
use Rattle.pc_masks.specs.{declared.mask.Mask.Mask, Masks.{has, with_number, without_number}}
use Rattle.pc_ann.specs.declared.annotation.Note.{Note}
use Rattle.pc_caps.specs.declared.capability.Cap.TheVariants as cap
use Rattle.pc_caps.specs.declared.capability.Form.TheVariants as form
use Rattle.pc_core.specs.declared.nodes.SlotKind.TheVariants as slot

-- A literal: U64, Bool, String or the primitive e, as `val`.
abbrev pub literal_says : ℕ → Masks → Option Said
literal_says e m = Some (says_of (Some (e, form.Val)) m)

-- `this`: the own entity, in the plain form of slot 0's capability if all fields are set and slot 0 is reachable, else
-- as `tag`.
abbrev pub this_form : CoreData → Node → ℕ → Slot × (ℕ × Cap) → Mask → Form
this_form core x e i s = if full core e s && reachable x i then plain i.1.1 else form.Tag

abbrev pub this_says : CoreData → Slots → Node → Masks → Option Said
this_says core slots x m = do
  f ← slice_get core.methods x.method
  i ← slot_of core slots x.method 0
  Some (says_of (Some (f.entity, this_form core x f.entity i m.1)) m)

-- A live and reachable slot.
abbrev pub used : CoreData → Slots → Node → ℕ → Mask → Option (ℕ × Cap)
used core slots x s l = do
  i ← slot_of core slots x.method s
  if has l s && reachable x i then Some i.1 else None

-- Local: the slot's entity, in the plain form of its capability.
abbrev pub local_says : CoreData → Slots → Node → ℕ → Masks → Option Said
local_says core slots x s m = do
  i ← used core slots x s m.0
  Some (says_of (Some (i.0, plain i.1)) m)

-- Consume: the slot's entity, in the form that no place holds; the slot is no longer live.
abbrev pub consume_says : CoreData → Slots → Node → ℕ → Masks → Option Said
consume_says core slots x s m = do
  i ← used core slots x s m.0
  Some (says_of (Some (i.0, unalias i.1)) (without_number m.0 s, m.1))

-- The type given to a slot by its definition: the written one, else that of the value when it is stored.
abbrev pub defined_type : Option (ℕ × Cap) → Ty → ℕ × Cap
defined_type (Some written) v = written
defined_type None v = (v.0, stored v.1)

abbrev pub same_cap : Cap → Cap → Bool
same_cap cap.Iso cap.Iso = true
same_cap cap.Trn cap.Trn = true
same_cap cap.Ref cap.Ref = true
same_cap cap.Val cap.Val = true
same_cap cap.Box cap.Box = true
same_cap cap.Tag cap.Tag = true
same_cap j k = false

abbrev pub same_place : ℕ × Cap → ℕ × Cap → Bool
same_place a b = nat_eq a.0 b.0 && same_cap a.1 b.1

-- Define: the slot has that type, and the value goes to it; the slot is live afterwards. There is no value.
abbrev pub defined : List Note → ℕ → Masks → Option Said
defined ns s m = do
  n ← through_notes ns m
  Some (says_of None (with_number n.0 s, n.1))

abbrev pub defines : CoreData → Slot × (ℕ × Cap) → Ty → Bool
defines core i v = same_place i.1 (defined_type i.0.written v) && goes_to core v i.1

abbrev pub define_says : CoreData → Slots → List Note → Node → ℕ → Masks → Option Said
define_says core slots ns x s m = do
  v ← one_type ns
  i ← slot_of core slots x.method s
  if defines core i v then defined ns s m else None

abbrev pub is_var : SlotKind → Bool
is_var slot.Var = true
is_var slot.This = false
is_var slot.Param = false
is_var slot.Let = false

-- Assign: the slot is a `var` and reachable, and the value goes to its type; the slot is live afterwards. The value is
-- the old one, if there is one.
abbrev pub old_value : ℕ → ℕ × Cap → Mask → Option Ty
old_value s i l = if has l s then Some (i.0, unalias i.1) else None

abbrev pub assigned : List Note → ℕ → ℕ × Cap → Masks → Option Said
assigned ns s i m = do
  n ← through_notes ns m
  Some (says_of (old_value s i n.0) (with_number n.0 s, n.1))

abbrev pub assigns : CoreData → Node → Slot × (ℕ × Cap) → Ty → Bool
assigns core x i v = is_var i.0.kind && (reachable x i && goes_to core v i.1)

abbrev pub assign_says : CoreData → Slots → List Note → Node → ℕ → Masks → Option Said
assign_says core slots ns x s m = do
  v ← one_type ns
  i ← slot_of core slots x.method s
  if assigns core x i v then assigned ns s i.1 m else None
