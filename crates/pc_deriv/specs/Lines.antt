-- A text that is read in pieces: the lines that have ended, and the state after them.
use Rattle.std.specs.Prelude.{ℕ, ◌+◌, ◌==◌, nat_le, Bool, false, ◌&&◌, List, [], ◌∷◌, ◌++◌, length, map, Option, Some, None, option_map, Result, Ok, Err, if◌then◌else◌}
use Rattle.pc_caps.specs.declared.capability.Cap.{Cap}
use Rattle.pc_ann.specs.declared.annotation.Ann.{Ann}
use Rattle.pc_deriv.specs.{Parts.{derivation_slot_limit, derivation_node_limit, version_number}, Reading.{head_at, read_slot, note_at}, declared.version.Version.Version, declared.line.Line.Line, declared.line.LineFault.LineFault}
use Rattle.pc_deriv.specs.declared.version.Version.TheVariants as version
use Rattle.pc_deriv.specs.declared.line.Line.TheVariants as line
use Rattle.pc_deriv.specs.declared.line.LineFault.TheVariants as fault

-- The state after some bytes: the version and the counts of the first line, once it has ended; how many lines have
-- ended; the bytes after the last of them; the fault, if there is one.
pub record Taken : Type 0 where
  pub version : Version
  pub counts : Option (ℕ × ℕ)
  pub ended : ℕ
  pub pending : List ℕ
  pub fault : Option LineFault

-- no byte was taken
abbrev pub nothing_taken : Taken
nothing_taken = record { version = version.One; counts = None; ended = 0; pending = []; fault = None }

-- the greatest number of bytes of a line, including its end
abbrev pub longest_line : ℕ
longest_line = 128

-- the line that these bytes are, if the first line is expected
abbrev pub head_in : List ℕ → Option Line
head_in bytes = option_map (λ r. line.Head (version_number r.0.0) r.0.1.0 r.0.1.1) (head_at bytes)

abbrev pub slot_line_in : List ℕ → Option Line
slot_line_in bytes = option_map (λ r. line.Slot r.0.0 r.0.1) (read_slot bytes)

abbrev pub node_in : Version → List ℕ → Option Line
node_in version bytes = option_map (λ r. line.Node r.0) (note_at version bytes)

-- The line that these bytes are after `ended` lines: first the counts, then that number of slots and that number of
-- nodes, and then nothing.
abbrev pub line_in : Version → Option (ℕ × ℕ) → (ended : ℕ) → List ℕ → Option Line
line_in version None ended bytes = head_in bytes
line_in version (Some (slots, nodes)) ended bytes = if nat_le ended slots then slot_line_in bytes else (if nat_le ended (slots + nodes) then node_in version bytes else None)

-- counts that exceed a limit are refused
abbrev pub within_limits : Line → Result Line LineFault
within_limits (line.Head version slots nodes) = if nat_le slots derivation_slot_limit && nat_le nodes derivation_node_limit then Ok (line.Head version slots nodes) else Err fault.TooMany
within_limits (line.Slot entity cap) = Ok (line.Slot entity cap)
within_limits (line.Node note) = Ok (line.Node note)

-- line n, or its fault
abbrev pub checked : (n : ℕ) → Option Line → Result Line LineFault
checked n None = Err (fault.BadLine n)
checked n (Some l) = within_limits l

-- the line that these bytes are after `ended` lines, or its fault
abbrev pub line_meaning : Version → Option (ℕ × ℕ) → (ended : ℕ) → List ℕ → Result Line LineFault
line_meaning version counts ended bytes = checked (ended + 1) (line_in version counts ended bytes)

-- the version with this number, which is 1 or 2
abbrev pub version_of : ℕ → Version
version_of number = if number == 2 then version.Two else version.One

-- the version, after a line has ended
abbrev pub version_with : Version → Line → Version
version_with version (line.Head number slots nodes) = version_of number
version_with version (line.Slot entity cap) = version
version_with version (line.Node note) = version

-- the counts, after a line has ended
abbrev pub counts_with : Option (ℕ × ℕ) → Line → Option (ℕ × ℕ)
counts_with counts (line.Head number slots nodes) = Some (slots, nodes)
counts_with counts (line.Slot entity cap) = counts
counts_with counts (line.Node note) = counts

-- the state after a line
abbrev pub behind : Taken → Result Line LineFault → Taken
behind t (Ok l) = record { version = version_with t.version l; counts = counts_with t.counts l; ended = t.ended + 1; pending = []; fault = None }
behind t (Err f) = record { version = t.version; counts = t.counts; ended = t.ended; pending = []; fault = Some f }

-- the line that ended, if one did
abbrev pub answered : Result Line LineFault → Result (Option Line) LineFault
answered (Ok l) = Ok (Some l)
answered (Err f) = Err f

-- a line that ended, and the state after it
abbrev pub closed : Taken → Result Line LineFault → Result (Option Line) LineFault × Taken
closed t r = (answered r, behind t r)

-- a byte that is no line end: the line becomes longer, or longer than any line may be
abbrev pub with_line_byte : Taken → ℕ → Bool → Result (Option Line) LineFault × Taken
with_line_byte t b long = if long then closed t (Err (fault.BadLine (t.ended + 1))) else (Ok None, record t { pending = t.pending ++ b ∷ [] })

-- the result of a byte if there was no fault before
abbrev pub went_on : Taken → ℕ → Result (Option Line) LineFault × Taken
went_on t b = if b == 10 then closed t (line_meaning t.version t.counts t.ended (t.pending ++ b ∷ [])) else with_line_byte t b
    (length t.pending + 1 == longest_line)

-- the result of a byte: after a fault the same fault, and nothing is taken
abbrev pub took_at : Option LineFault → Taken → ℕ → Result (Option Line) LineFault × Taken
took_at (Some f) t b = (Err f, t)
took_at None t b = went_on t b

abbrev pub took : Taken → ℕ → Result (Option Line) LineFault × Taken
took t b = took_at t.fault t b

-- lines, and one before them
abbrev pub with_first_line : Result (Option Line) LineFault → List Line → List Line
with_first_line (Ok (Some l)) ls = l ∷ ls
with_first_line (Ok None) ls = ls
with_first_line (Err f) ls = ls

-- all bytes, one by one: the lines that end in them, and the state after them
abbrev pub fed : Taken → List ℕ → List Line × Taken
fed t [] = ([], t)
fed t (b ∷ bs) = (with_first_line (took t b).0 (fed (took t b).1 bs).0, (fed (took t b).1 bs).1)

-- whether all lines have ended, and nothing follows
abbrev pub is_whole : Option (ℕ × ℕ) → (ended : ℕ) → List ℕ → Bool
is_whole None ended pending = false
is_whole (Some (slots, nodes)) ended pending = ended == slots + nodes + 1 && length pending == 0

-- the fault if nothing follows: the fault so far, or else the line that is incomplete
abbrev pub fault_at_end : Option LineFault → Taken → Result (Unit {0}) LineFault
fault_at_end (Some f) t = Err f
fault_at_end None t = if is_whole t.counts t.ended t.pending then Ok tt else Err (fault.BadLine (t.ended + 1))

abbrev pub ended_so : Taken → Result (Unit {0}) LineFault
ended_so t = fault_at_end t.fault t

-- the lines of an annotation's text in a version
abbrev pub line_of_slot : ℕ × Cap → Line
line_of_slot (entity, cap) = line.Slot entity cap

abbrev pub lines_of : Version → Ann → List Line
lines_of version ann = line.Head (version_number version) (length ann.slots) (length ann.notes) ∷ (map line_of_slot ann.slots ++ map line.Node ann.notes)
