-- A definition does not change the number of slots.
use Rattle.std.proofs.{Common.{◌≡◌, ℕ, length, Option, Some, None, refl}, lemmas.List.length-set}
use Rattle.pc_ann.specs.declared.annotation.Ann.{Ann}
use Rattle.pc_caps.specs.declared.capability.Cap.{Cap}
use Rattle.pc_check.specs.Inference.{inferred_slot, with_inferred, with_inferred_slot}
use Rattle.pc_core.specs.{CoreData.CoreData, declared.nodes.Node.Node}

same_by : (ann : Ann) (o : Option (ℕ × (ℕ × Cap))) → length (with_inferred_slot ann o).slots ≡ length ann.slots
same_by ann None = refl
same_by ann (Some i) = length-set ann.slots i.0 i.1

pub same_length : (core : CoreData) (ann : Ann) (x : Node) → length (with_inferred core ann x).slots ≡ length ann.slots
same_length core ann x = same_by ann (inferred_slot core ann x x.kind)
