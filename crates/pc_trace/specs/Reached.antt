-- A run that is being traced.
use Rattle.std.specs.{Prelude.{◌≡◌, ◌≤◌, ◌+◌, ℕ, List, [], ◌∷◌, ◌++◌, length, Option, Some, None}, FinMap.len}
use Rattle.pc_core.specs.CoreData.{CoreData}
use Rattle.pc_semantics.specs.{declared.access.Access.Access, Configurations.Configuration, Text.waiting}
use Rattle.pc_clocks.specs.declared.seat.Seat.{Seat}
use Rattle.pc_events.specs.{Before.at_place, Counting.Live}
use Rattle.pc_trace.specs.{declared.touch.Touch.Touch, Keeps.Keeps, Noted.Noted, Traces.actor_limit}

-- After n turns that did not end the run: the configuration, the kept clocks and the accesses so far.
pub record Reached (core : CoreData) (list : List ℕ) (n : ℕ) (c : Configuration) (seats : List Seat) (touches : List Touch) : Type 0 where
  pub here : c ≡ at_place core list n
  pub live : Live core list n
  pub few_actors : length c.actors ≤ actor_limit
  pub few_objects : len c.objects ≤ 3 + n
  pub few_messages : waiting c ≤ 1 + n
  pub keeps : Keeps core list n seats
  pub noted : Noted core list n touches

-- One more access, if an event has one.
abbrev pub noted_with : Option Access → (place actor : ℕ) → List ℕ → List Touch → List Touch
noted_with None place actor clock touches = touches
noted_with (Some x) place actor clock touches =
    touches ++ record { place = place; actor = actor; address = x.address; field = x.field; write = x.write; clock = clock } ∷ []
