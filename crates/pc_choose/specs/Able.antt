-- The actors that have something to do.
use Rattle.std.specs.{Prelude.{ℕ, Bool, true, false, List, [], ◌∷◌, filter, length, Option, Some, None, slice_get}, List.range_with_len}
use Rattle.pc_semantics.specs.{declared.actors.Actor.Actor, declared.frames.Frame.Frame, declared.mailbox.Message.Message, Configurations.Configuration, declared.ahead.Ahead.Ahead}
use Rattle.pc_semantics.specs.declared.ahead.Ahead.TheVariants as ahead

-- A frame runs, or a message waits.
abbrev pub has_work : List Frame → List Message → Bool
has_work [] [] = false
has_work [] (m ∷ ms) = true
has_work (f ∷ fs) ms = true

abbrev pub is_able : Option Actor → Bool
is_able None = false
is_able (Some a) = has_work a.frames a.mailbox

-- Actor i exists and has something to do. If so, its step is not skipped; otherwise it is.
abbrev pub able : Configuration → ℕ → Bool
able c i = is_able (slice_get c.actors i)

-- The able actors among `count` numbers from the first one on, in ascending order.
abbrev pub able_among : Configuration → (first count : ℕ) → List ℕ
able_among c first count = filter (able c) (range_with_len first count)

-- All able actors, in the order of their numbers.
abbrev pub able_actors : Configuration → List ℕ
able_actors c = able_among c 0 (length c.actors)

-- The next step is not skipped.
abbrev pub is_ahead : Ahead → Bool
is_ahead ahead.Skipped = false
is_ahead ahead.Lacks = true
is_ahead ahead.TooLong = true
is_ahead ahead.Take = true
is_ahead ahead.Spawn = true
is_ahead (ahead.Send j) = true
is_ahead ahead.Task = true
