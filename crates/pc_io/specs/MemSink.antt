-- A sink in memory, of which chosen calls fail.
use Rattle.std.specs.Prelude.{◌≡◌, ◌≢◌, nat_eq, ℕ, List, [], ◌++◌, take, find, Option, None, option_map, unwrap_or, IsSome, Result, Ok, Err}
use Rattle.pc_io.specs.{declared.sink.SinkFault.SinkFault, declared.sink.SinkFault.TheVariants.{Memory, Failed}, Sink.one_more}

-- The bytes written; the numbers of the calls that fail, each with the number of bytes it takes first; the number of
-- the next call; how many calls failed.
pub record Tape : Type 0 where
  pub bytes : List ℕ
  pub failing : List (ℕ × ℕ)
  pub next_call : ℕ
  pub faults : ℕ

-- nothing written, and no calls so far
abbrev pub new_tape : List (ℕ × ℕ) → Tape
new_tape failing = record { bytes = []; failing = failing; next_call = 1; faults = 0 }

-- if the next call is one that fails, how many bytes it takes first
abbrev pub room_next : Tape → Option ℕ
room_next tape = option_map (λ f. f.1) (find (λ f. nat_eq f.0 tape.next_call) tape.failing)

-- Each answer of the next call, and when it comes. Running out of memory is always allowed, except for an empty piece.
abbrev pub IsAnswerOf : Tape → List ℕ → Result (Unit {0}) SinkFault → Type 0
IsAnswerOf tape piece (Ok _) = piece ≢ [] → room_next tape ≡ None
IsAnswerOf tape piece (Err Failed) = (piece ≢ []) × IsSome (room_next tape)
IsAnswerOf tape piece (Err Memory) = piece ≢ []

-- What a call leaves: it is counted, with its failure and the bytes that it took.
abbrev pub after_put : Tape → List ℕ → Result (Unit {0}) SinkFault → Tape
after_put tape piece (Ok _) = record tape { bytes = tape.bytes ++ piece; next_call = one_more tape.next_call }
after_put tape piece (Err Failed) = record tape {
  bytes = tape.bytes ++ take (unwrap_or (room_next tape) 0) piece;
  next_call = one_more tape.next_call;
  faults = one_more tape.faults;
}
after_put tape piece (Err Memory) = record tape { next_call = one_more tape.next_call }
