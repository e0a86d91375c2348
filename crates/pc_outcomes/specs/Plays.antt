-- Plays of seeds, and their outcomes.
use Rattle.std.specs.{Prelude.{◌≡◌, ℕ, zero, suc, Bool, true, false, ◌&&◌, List, length, Option, Some, None, IfSome, slice_get}, Str.bytes_eq}
use Rattle.pc_core.specs.CoreData.{CoreData}
use Rattle.pc_semantics.specs.{declared.outcome.Outcome.Outcome, Step.{after, outcomes}, Text.{lines, end_of}}
use Rattle.pc_choose.specs.{Able.able_actors, Lists.Chosen}
use Rattle.pc_outcomes.specs.{declared.entry.Ending.Ending, declared.entry.Ending.TheVariants.{Done, Cut, TooLong}, declared.entry.Play.Play}

-- How a run ended, given how many actors are able after it and the step that ended it, if one did.
abbrev pub ending_after : (able : ℕ) → Option (ℕ × Outcome) → Ending
ending_after zero None = Done
ending_after (suc n) None = Cut
ending_after n (Some end) = TooLong

-- The play of a seed: the run of its list.
pub record IsPlayOfSeed (core : CoreData) (seed : ℕ) (play : Play) : Type 0 where
  pub list : List ℕ
  pub chosen : Chosen core seed list
  pub text : play.text ≡ lines (after core list).printed
  pub ending : play.ending ≡ ending_after (length (able_actors (after core list))) (end_of (outcomes core list))
  pub steps : play.steps ≡ length list

-- The plays of the seeds below a count, in order.
pub record ArePlays (core : CoreData) (count : ℕ) (plays : List Play) : Type 0 where
  pub all : length plays ≡ count
  pub are : (seed : ℕ) → IfSome (slice_get plays seed) (IsPlayOfSeed core seed)

-- ---- outcomes

abbrev pub same_ending : Ending → Ending → Bool
same_ending Done Done = true
same_ending Cut Cut = true
same_ending TooLong TooLong = true
same_ending Done Cut = false
same_ending Done TooLong = false
same_ending Cut Done = false
same_ending Cut TooLong = false
same_ending TooLong Done = false
same_ending TooLong Cut = false

-- The play has this outcome: it printed this text and ended in this way.
abbrev pub has_outcome : List ℕ → Ending → Play → Bool
has_outcome text ending play = bytes_eq text play.text && same_ending ending play.ending
