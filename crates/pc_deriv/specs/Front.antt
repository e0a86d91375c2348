-- The line at the start of a text, with the number of its bytes.
use Rattle.std.specs.Prelude.{ℕ, ◌+◌, ◌-◌, nat_le, List, length, Option, Some, None, option_map, if◌then◌else◌}
use Rattle.pc_caps.specs.declared.capability.Cap.{Cap}
use Rattle.pc_deriv.specs.{Parts.version_number, Reading.{head_at, read_slot, note_at}, declared.version.Version.Version, declared.line.Line.Line}
use Rattle.pc_deriv.specs.declared.line.Line.TheVariants as line

-- what was read as a line, and how many bytes come before what follows
abbrev pub counted : {A : Type 0} → (A → Line) → List ℕ → Option (A × List ℕ) → Option (Line × ℕ)
counted says text read = option_map (λ r. (says r.0, length text - length r.1)) read

abbrev pub head_says : Version × (ℕ × ℕ) → Line
head_says x = line.Head (version_number x.0) x.1.0 x.1.1

abbrev pub slot_says : ℕ × Cap → Line
slot_says x = line.Slot x.0 x.1

abbrev pub front_head : List ℕ → Option (Line × ℕ)
front_head text = counted head_says text (head_at text)

abbrev pub front_slot : List ℕ → Option (Line × ℕ)
front_slot text = counted slot_says text (read_slot text)

abbrev pub front_node : Version → List ℕ → Option (Line × ℕ)
front_node version text = counted line.Node text (note_at version text)

-- The line after `ended` lines: first the counts, then that number of slots and that number of nodes, and then nothing.
abbrev pub front_line : Version → Option (ℕ × ℕ) → (ended : ℕ) → List ℕ → Option (Line × ℕ)
front_line version None ended text = front_head text
front_line version (Some (slots, nodes)) ended text = if nat_le ended slots then front_slot text else (if nat_le ended (slots + nodes) then front_node version text else None)
