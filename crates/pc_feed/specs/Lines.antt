-- The lines of a derivation's text that have ended, and what they say so far.
use Rattle.std.specs.Prelude.{ℕ, List, [], ◌∷◌, Option, Some, None}
use Rattle.pc_ann.specs.{declared.annotation.Note.Note, declared.annotation.Ann.Ann}
use Rattle.pc_valid.specs.Words.{Slots}
use Rattle.pc_deriv.specs.{declared.line.Line.Line, declared.line.LineFault.LineFault, Lines.{nothing_taken, fed}}
use Rattle.pc_deriv.specs.declared.line.Line.TheVariants as line

-- the lines that have ended in these bytes
abbrev pub lines_in : List ℕ → List Line
lines_in bytes = (fed nothing_taken bytes).0

-- the fault of a line of these bytes, if one has been found
abbrev pub fault_in : List ℕ → Option LineFault
fault_in bytes = (fed nothing_taken bytes).1.fault

-- the numbers of slots and nodes that the first line states
abbrev pub counts_in : List Line → Option (ℕ × ℕ)
counts_in [] = None
counts_in (line.Head version slots nodes ∷ ls) = Some (slots, nodes)
counts_in (line.Slot entity cap ∷ ls) = None
counts_in (line.Node note ∷ ls) = None

-- the types of slots, whose lines come before those of the nodes
abbrev pub slots_in : List Line → Slots
slots_in [] = []
slots_in (line.Head version slots nodes ∷ ls) = slots_in ls
slots_in (line.Slot entity cap ∷ ls) = (entity, cap) ∷ slots_in ls
slots_in (line.Node note ∷ ls) = []

-- the notes of nodes
abbrev pub notes_in : List Line → List Note
notes_in [] = []
notes_in (line.Head version slots nodes ∷ ls) = notes_in ls
notes_in (line.Slot entity cap ∷ ls) = notes_in ls
notes_in (line.Node note ∷ ls) = note ∷ notes_in ls

-- the annotation so far
abbrev pub so_far : List Line → Ann
so_far ls = record { slots = slots_in ls; notes = notes_in ls }
