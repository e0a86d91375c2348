-- The state of the reader of lines.
use Rattle.std.specs.Prelude.{◌≡◌, ℕ, ◌+◌, ◌<◌, ◌≤◌, length, take, Option, Some, None}
use Rattle.pc_deriv.specs.{Parts.{derivation_slot_limit, derivation_node_limit}, Lines.{Taken, longest_line}, declared.line_state.LineState.LineState}

abbrev pub taken_of : LineState → Taken
taken_of s = record { version = s.version; counts = s.counts; ended = s.ended; pending = take s.filled s.buffer; fault = s.fault }

-- at most as many lines have ended as there are
abbrev pub Room : Option (ℕ × ℕ) → ℕ → Type 0
Room None ended = ended ≡ 0
Room (Some (slots, nodes)) ended = (slots ≤ derivation_slot_limit) × (nodes ≤ derivation_node_limit) × (ended ≤ slots + nodes + 1)

-- the buffer has room for one more byte
pub record Sound (s : LineState) : Type 0 where
  pub place : s.filled < longest_line
  pub size : length s.buffer ≡ longest_line
  pub room : Room s.counts s.ended
