-- The slots of a member, for its parameters and its locals.
use Rattle.std.specs.Prelude.{ℕ, ◌+◌, List, ◌∷◌, ◌++◌, map, length, Some}
use Rattle.pc_core.specs.{declared.declarations.ParamInfo.ParamInfo, declared.nodes.Slot.Slot, Entities.param_slot}
use Rattle.pc_body_spec.specs.{Bodies.Context, Slots.Local, Fold.local_slot}
use Rattle.pc_members.specs.Members.{Member, written, added}
use Rattle.pc_file_spec.specs.Cores.{receiver_cap}
use Rattle.pc_core.specs.declared.nodes.SlotKind.TheVariants as slot

-- The index of the slot of the first local.
abbrev pub first_local : Member → ℕ
first_local (written m) = 1 + length m.params
first_local added = 1

-- `this` in method m, a member of the entity with this number.
abbrev pub this_of : (method entity : ℕ) → Member → Slot
this_of m number x = record { method = m; kind = slot.This; depth = 0; written = Some (number, receiver_cap x) }

abbrev pub slots_with : Context → (method entity : ℕ) → Member → List ParamInfo → List Local → List Slot
slots_with c m number x params locals = this_of m number x ∷ map (param_slot m) params ++ map (local_slot c m) locals
