-- What is proved of the lists of seeds.
use Rattle.std.specs.{Prelude.{◌≡◌, ◌≢◌, ℕ, ◌+◌, ◌*◌, ◌<◌, ◌≤◌, true, false, List, [], ◌∷◌, ◌++◌, length, ◌⊎◌}, List.AllByRecursion}
use Rattle.pc_core.specs.CoreData.{CoreData}
use Rattle.pc_semantics.specs.{declared.outcome.Outcome.TheVariants.{Moved, Skipped}, Configurations.Configuration, Step.{after, step}, Ahead.ahead_of, declared.ahead.Ahead.TheVariants.{Send, Spawn}, Text.steps_of}
use Rattle.pc_choose.specs.{Able.able, Choice.{most_times, most_turns}, Lists.{Chosen, most_steps}}

-- A step is skipped iff its actor is not able.
pub record SkipsUnable : Type 0 where
  pub skips : (core : CoreData) (c : Configuration) (i : ℕ) → able c i ≡ false → (step core c i).0 ≡ Skipped
  pub goes : (core : CoreData) (c : Configuration) (i : ℕ) → able c i ≡ true → (step core c i).0 ≢ Skipped

-- An actor that is able stays so, whatever steps the others take.
abbrev pub AbleStay : Type 0
AbleStay = (core : CoreData) (c : Configuration) (i j : ℕ) → i ≢ j → able c i ≡ true → able (step core c j).1 i ≡ true

-- A seed has exactly one list.
pub record OneList (core : CoreData) (seed : ℕ) : Type 0 where
  pub list : List ℕ
  pub chosen : Chosen core seed list
  pub one : (other : List ℕ) → Chosen core seed other → other ≡ list

abbrev pub ListsAreOne : Type 0
ListsAreOne = (core : CoreData) (seed : ℕ) → OneList core seed

-- It has at most 1,000,000 steps.
abbrev pub ListsAreShort : Type 0
ListsAreShort = (core : CoreData) (seed : ℕ) (list : List ℕ) → Chosen core seed list → length list ≤ most_steps

-- Every step but the last one moves.
abbrev pub StepsMove : Type 0
StepsMove = (core : CoreData) (seed : ℕ) (before rest : List ℕ) (i j : ℕ) → Chosen core seed (before ++ i ∷ j ∷ rest) → (step core (after core before) i).0 ≡ Moved

-- A step of actor j changes whether an actor is able only for j itself, for the actor that it sends to, and for a new
-- actor.
abbrev pub FewChange : Type 0
FewChange = (core : CoreData) (c : Configuration) (i j : ℕ) → i ≢ j → ahead_of core c j ≢ Send i → (ahead_of core c j ≡ Spawn → i ≢ length c.actors) → able (step core c j).1 i ≡ able c i

-- How a list ends: it has 1,000,000 steps; or at least as many as it may have turns; or no actor is able after it; or
-- its last step did not move. So a list of fewer than 95,000 steps ends only when no actor is able, or at a step that
-- did not move.
abbrev pub ListEndsAt : CoreData → List ℕ → Type 0
ListEndsAt core list = (before : List ℕ) × (i : ℕ) × (list ≡ before ++ i ∷ []) × ((step core (after core before) i).0 ≢ Moved)

abbrev pub EndsAt : CoreData → List ℕ → Type 0
EndsAt core list = (length list ≡ most_steps) ⊎ ((most_turns ≤ length list) ⊎ (((i : ℕ) → able (after core list) i ≡ false) ⊎ ListEndsAt core list))

abbrev pub ListsEnd : Type 0
ListsEnd = (core : CoreData) (seed : ℕ) (list : List ℕ) → Chosen core seed list → EndsAt core list

-- A turn: an actor and a number of steps. A step makes at most one actor, and there are two at the start.
abbrev pub IsTurn : ℕ × ℕ → Type 0
IsTurn t = (t.0 < most_steps + 2) × (0 < t.1) × (t.1 ≤ most_times)

-- The list consists of turns, and not of too many.
pub record InTurns (list : List ℕ) : Type 0 where
  pub turns : List (ℕ × ℕ)
  pub steps : steps_of turns ≡ list
  pub are : AllByRecursion IsTurn turns
  pub few : length turns ≤ most_turns

abbrev pub ListsAreInTurns : Type 0
ListsAreInTurns = (core : CoreData) (seed : ℕ) (list : List ℕ) → Chosen core seed list → InTurns list

-- how many steps an able actor waits at most under seed 0 with this number of actors: twice a round of full turns
abbrev pub longest_wait : (actors : ℕ) → ℕ
longest_wait n = 2 * most_times * n

-- One of the first of these steps, before the limit, is actor j's.
pub record StepsWithin (limit j : ℕ) (steps : List ℕ) : Type 0 where
  pub others : List ℕ
  pub more : List ℕ
  pub are : steps ≡ others ++ j ∷ more
  pub soon : length others < limit

-- Round robin is fair: whenever an actor is able, it takes one of the next steps, within 128 times the number of actors
-- that exist then, unless the list ends before.
abbrev pub RoundRobinIsFair : Type 0
RoundRobinIsFair = (core : CoreData) (before rest : List ℕ) (j : ℕ) → Chosen core 0 (before ++ rest) → able (after core before) j ≡ true
    → StepsWithin (longest_wait (length (after core before).actors)) j rest ⊎ (length rest < longest_wait (length (after core before).actors))
