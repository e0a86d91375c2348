-- The types of slots, as far as the notes of the first nodes determine them.
use Rattle.std.specs.Prelude.{ℕ, List, [], ◌∷◌, take}
use Rattle.pc_ann.specs.{declared.annotation.Ann.Ann, declared.annotation.Note.Note}
use Rattle.pc_check.specs.Inference.{first_types, with_inferred}
use Rattle.pc_core.specs.{CoreData.CoreData, declared.nodes.Node.Node}
use Rattle.pc_valid.specs.Words.{Slots}

abbrev pub ann_of : Slots → List Note → Ann
ann_of slots notes = record { slots = slots; notes = notes }

-- The annotation after these nodes, one after another, have given types to the slots that they define.
abbrev pub with_inferred_slots : CoreData → Ann → List Node → Ann
with_inferred_slots core ann [] = ann
with_inferred_slots core ann (x ∷ xs) = with_inferred_slots core (with_inferred core ann x) xs

-- The written types, and those that follow from the definitions among the first n nodes. They depend only on the notes.
abbrev pub known_slots : CoreData → List Note → (n : ℕ) → Slots
known_slots core notes n = (with_inferred_slots core (ann_of (first_types core) notes) (take n core.nodes)).slots
