-- What follows from a node and the notes before it: its slot's type and its note.
-- ---- the types of slots
use Rattle.std.specs.Prelude.{ℕ, ◌+◌, Bool, true, false, ◌&&◌, not, List, [], ◌∷◌, map, Option, Some, None, slice_get, slice_set}
use Rattle.pc_caps.specs.{Tables.stored, declared.capability.Cap.Cap}
use Rattle.pc_tree.specs.Kinds.{none_entity}
use Rattle.pc_core.specs.{declared.declarations.Method.Method, declared.nodes.Slot.Slot, declared.nodes.Node.Node, declared.nodes.NodeKind.NodeKind, CoreData.CoreData, FurtherKinds.defined_slot}
use Rattle.pc_base.specs.Lists.{◌>>=◌}
use Rattle.pc_masks.specs.declared.mask.Mask.{Mask}
use Rattle.pc_ann.specs.{declared.annotation.Note.Note, declared.annotation.Ann.Ann, declared.annotation.Rule.Rule}
use Rattle.pc_rules.specs.{declared.said.Said.Said, Parts.{constructs, full, type_of, one_child}, Rules.says}
use Rattle.pc_valid.specs.Words.{Ty, Masks}
use Rattle.pc_caps.specs.declared.capability.Cap.TheVariants as cap
use Rattle.pc_core.specs.declared.nodes.NodeKind.TheVariants as node
use Rattle.pc_ann.specs.declared.annotation.Rule.TheVariants as rule

-- The type of a slot before its definition: the written one, or an arbitrary one if none is written.
abbrev pub written_type : Option (ℕ × Cap) → ℕ × Cap
written_type (Some ty) = ty
written_type None = (none_entity, cap.Tag)

abbrev pub first_types : CoreData → List (ℕ × Cap)
first_types core = map (λ (y : Slot). written_type y.written) core.slots

-- The type of the value by which a node defines its slot, if no type is written for the slot.
abbrev pub unwritten : Ann → List ℕ → Option (ℕ × Cap) → Option Ty
unwritten ann cs (Some ty) = None
unwritten ann cs None = do
  c ← one_child cs
  type_of ann c

-- The number of the slot with this index if its type follows from node x, and that type.
abbrev pub inferred_slot_type : CoreData → Ann → Node → ℕ → Option (ℕ × (ℕ × Cap))
inferred_slot_type core ann x s = do
  f ← slice_get core.methods x.method
  y ← slice_get core.slots (f.first_slot + s)
  v ← unwritten ann x.children y.written
  Some (f.first_slot + s, (v.0, stored v.1))

abbrev pub inferred_slot : CoreData → Ann → Node → NodeKind → Option (ℕ × (ℕ × Cap))
inferred_slot core ann x k = do
  s ← defined_slot k
  inferred_slot_type core ann x s

abbrev pub with_inferred_slot : Ann → Option (ℕ × (ℕ × Cap)) → Ann
with_inferred_slot ann None = ann
with_inferred_slot ann (Some i) = record { slots = slice_set ann.slots i.0 i.1; notes = ann.notes }

-- The annotation with the type of the slot that node x defines.
abbrev pub with_inferred : CoreData → Ann → Node → Ann
with_inferred core ann x = with_inferred_slot ann (inferred_slot core ann x x.kind)

-- ---- masks

-- The rules for nodes of a kind.
abbrev pub rules_for : NodeKind → List Rule
rules_for (node.Number v) = rule.Number ∷ []
rules_for (node.Truth v) = rule.Truth ∷ []
rules_for (node.Text v) = rule.Text ∷ []
rules_for (node.Prim e) = rule.Prim ∷ []
rules_for node.This = rule.This ∷ []
rules_for (node.Local s) = rule.Local ∷ []
rules_for (node.Consume s) = rule.Consume ∷ []
rules_for (node.Field name) = rule.Get ∷ rule.GetOwn ∷ []
rules_for (node.SetField name) = rule.Put ∷ rule.PutOwn ∷ []
rules_for (node.Define s) = rule.Define ∷ []
rules_for (node.Assign s) = rule.Assign ∷ []
rules_for (node.New m) = rule.New ∷ []
rules_for (node.Spawn m) = rule.Spawn ∷ []
rules_for (node.Call name) = rule.Call ∷ rule.CallRecover ∷ rule.Send ∷ rule.Builtin ∷ []
rules_for (node.Binary o) = rule.Arith ∷ rule.Compare ∷ rule.Equal ∷ rule.Join ∷ rule.Logic ∷ []
rules_for node.Not = rule.Logic ∷ []
rules_for node.And = rule.Lazy ∷ []
rules_for node.Or = rule.Lazy ∷ []
rules_for (node.Same v) = rule.Identity ∷ []
rules_for node.Seq = rule.Seq ∷ []
rules_for node.If = rule.If ∷ []
rules_for node.While = rule.While ∷ []
rules_for (node.Recover k) = rule.Recover ∷ []
rules_for node.Body = rule.Body ∷ []

-- The conclusion of a rule, as a note.
abbrev pub note_of : Rule → Masks → Said → Note
note_of r m q = record { rule = r; ty = q.ty; live_before = m.0; set_before = m.1; live_after = q.live; set_after = q.set }

abbrev pub note_or_else : Rule → Masks → Option Said → Option Note → Option Note
note_or_else r m None o = o
note_or_else r m (Some q) o = Some (note_of r m q)

-- The note by the first of these rules that applies to node x.
abbrev pub first_note : CoreData → Ann → Node → Masks → List Rule → Option Note
first_note core ann x m [] = None
first_note core ann x m (r ∷ rs) = note_or_else r m (says core ann x m r x.kind) (first_note core ann x m rs)

-- ---- constructors

abbrev pub is_body : NodeKind → Bool
is_body node.Body = true
is_body k = false

abbrev pub lacks_field : CoreData → Option Method → Mask → Bool
lacks_field core None s = false
lacks_field core (Some f) s = constructs f.kind && not (full core f.entity s)

-- Node x is the body of a constructor that, by the node's note, leaves a field unset.
abbrev pub leaves_unset : CoreData → Node → Note → Bool
leaves_unset core x t = is_body x.kind && lacks_field core (slice_get core.methods x.method) t.set_after
