-- Marks of actors: 1 for one that is able, and 0 for any other.
use Rattle.std.specs.Prelude.{ℕ, ◌≤◌, Bool, true, false, List, [], ◌∷◌, ◌++◌, map, slice_index, slice_set}
use Rattle.pc_semantics.specs.{declared.actors.Actor.Actor, Configurations.Configuration, declared.ahead.Ahead.Ahead}
use Rattle.pc_choose.specs.Able.{has_work}
use Rattle.pc_semantics.specs.declared.ahead.Ahead.TheVariants as ahead

abbrev pub mark : Bool → ℕ
mark true = 1
mark false = 0

abbrev pub mark_of : Actor → ℕ
mark_of a = mark (has_work a.frames a.mailbox)

-- The marks of all actors, in the order of their numbers.
abbrev pub marks_of : Configuration → List ℕ
marks_of c = map mark_of c.actors

-- Each is 0 or 1.
abbrev pub AreMarks : List ℕ → Type 0
AreMarks marks = (i : ℕ) → slice_index marks i ≤ 1

-- The marks of the other actors after a step: whoever is sent a message is able, and so is a new actor.
abbrev pub marks_by : Ahead → List ℕ → List ℕ
marks_by ahead.Skipped marks = marks
marks_by ahead.Lacks marks = marks
marks_by ahead.TooLong marks = marks
marks_by ahead.Take marks = marks
marks_by ahead.Spawn marks = marks ++ 1 ∷ []
marks_by (ahead.Send j) marks = slice_set marks j 1
marks_by ahead.Task marks = marks
