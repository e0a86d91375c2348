-- What an actor's next step is.
use Rattle.std.specs.{Prelude.{ℕ, List, [], ◌∷◌, slice_get}, Option.option_map_or}
use Rattle.pc_core.specs.CoreData.{CoreData}
use Rattle.pc_semantics.specs.{declared.actors.Actor.Actor, declared.frames.Frame.Frame, declared.outcome.Outcome.Outcome, Configurations.{Configuration, Move, Stuck, Overflows, Goes, Writes, Makes, Spawns, Enters, Sends, Leaves}, Step.{frame_move, around, take_first}, declared.ahead.Ahead.Ahead}
use Rattle.pc_semantics.specs.declared.outcome.Outcome.TheVariants as outcome
use Rattle.pc_semantics.specs.declared.ahead.Ahead.TheVariants as ahead

-- What a task is to do, by the move that it makes.
abbrev pub by_move : Move → Ahead
by_move (Stuck l) = ahead.Lacks
by_move Overflows = ahead.TooLong
by_move (Goes f) = ahead.Task
by_move (Writes a k v f) = ahead.Task
by_move (Makes a o g f) = ahead.Task
by_move (Spawns o m f) = ahead.Spawn
by_move (Enters g f) = ahead.Task
by_move (Sends j m f) = ahead.Send j
by_move (Leaves v) = ahead.Task

-- What an idle actor is to do, by how taking its oldest message ends.
abbrev pub by_outcome : Outcome → Ahead
by_outcome outcome.Moved = ahead.Take
by_outcome outcome.Skipped = ahead.Skipped
by_outcome (outcome.Lacks l) = ahead.Lacks
by_outcome outcome.TooLong = ahead.TooLong

abbrev pub of_frames : CoreData → Configuration → ℕ → Actor → List Frame → Ahead
of_frames core c i a [] = by_outcome (take_first core c i a.mailbox).0
of_frames core c i a (f ∷ fs) = by_move (frame_move core (around c i) f)

-- What the next step of actor i is.
abbrev pub ahead_of : CoreData → Configuration → ℕ → Ahead
ahead_of core c i = option_map_or (λ (a : Actor). of_frames core c i a a.frames) (slice_get c.actors i) ahead.Skipped
