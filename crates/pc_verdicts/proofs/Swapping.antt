-- `swap` has a verdict.
use Rattle.std.proofs.{Common.{◌≡◌, ◌≢◌, ◌≤◌, ◌+◌, ◌-◌, ℕ, Bool, true, false, List, [], ◌∷◌, ◌++◌, length, map, None, Ok, Err, inl, inr, refl, sym, subst, arith}, lemmas.Bool.{cases_eq, cases_lt}}
use Rattle.std.specs.{Prelude.IsSome, List.AllByRecursion}
use Rattle.pc_core.specs.CoreData.{CoreData}
use Rattle.pc_base.specs.Lists.{Text}
use Rattle.pc_regions.specs.Laws.{ValidIsSafe}
use Rattle.pc_run.specs.{Ends.NeverLacks, Spreading.spread}
use Rattle.pc_sched.specs.{Schedules.{schedule_limit, turn_limit, SchedulePiece, SpelledTurns, SpellsTurn, TurnList, blank, word}, declared.turns.Turn.Turn}
use Rattle.pc_sched_lines.proofs.Spreads.{length-spread}
use Rattle.pc_semantics.specs.{Ahead.ahead_of, Step.{after, outcomes}, Safety.Safe, Text.end_of}
use Rattle.pc_swap.proofs.{Orders.{steps_swap, whole_lists_swap}, Telling.{are_apart, both_make, first_stays, second_stays, to_one}}
use Rattle.pc_swap.specs.{Apart.{Apart, IsKept}, Ends.{is_moving, one_receiver, two_spawns}, declared.kept.Kept.Kept}
use Rattle.pc_swap.specs.declared.kept.Kept.TheVariants as kept
use Rattle.pc_types.specs.Laws.{AcceptedNeverLacks}
use Rattle.pc_refusal_lines.specs.Lines.{no_place_line, too_long_line, usage_line}
use Rattle.pc_refusals.specs.{Verdict.{Named, EndsWith, refused}, Source.source_limit}
use Rattle.pc_refusals.proofs.Scheduled.{few_turns, schedule_says}
use Rattle.pc_commands.specs.{Swap.{IsPlace, Neighbours, StandAt, SwapText, Swapping, kept_line}, Swap.SwapText.{exchanged, stay}, Swap.Swapping.{no_place, tells, too_long}}
use Rattle.pc_top.specs.{Commands.Swap.{IsSwap, IsSwapAt}, Commands.Swap.IsSwap.{no_number, placed}, CoresFormed.CoresAreFormed}
use Rattle.pc_top.proofs.Deriving.{accepted_core_safe, accepted_lacks_nothing}
use Rattle.pc_commands.proofs.{Neighbouring.{length_exchanged, turns_at}, RunEnds.run_ends}
use Rattle.pc_verdicts.proofs.{Numbers.{Read, place_read}, Runs.{Small, line_is_there, small_append, small_steps}, Shapes.scheduled_answers, Stages.{Answers, HasEnd, ReadOn, ends_answer}}

-- ---- the actors of a schedule have small numbers

small_turn : (b : List ℕ) (turn : Turn) → SpellsTurn b turn → Small turn.actor
small_turn b turn (inl h) = h.0.small
small_turn b turn (inr h) = h.3.small

small_spelled : (ps : List SchedulePiece) (turns : List Turn) → SpelledTurns ps turns → AllByRecursion (λ (t : Turn). Small t.actor) turns
small_spelled [] turns h = subst (λ (ts : List Turn). AllByRecursion (λ (t : Turn). Small t.actor) ts) (sym h) tt
small_spelled (blank b ∷ ps) turns h = small_spelled ps turns h
small_spelled (word b ∷ ps) turns h =
    subst (λ (ts : List Turn). AllByRecursion (λ (t : Turn). Small t.actor) ts) (sym h.2) (small_turn b h.0 h.3, small_spelled ps h.1 h.4)

small_pairs : (turns : List Turn) → AllByRecursion (λ (t : Turn). Small t.actor) turns → AllByRecursion (λ (t : ℕ × ℕ). Small t.0) (map (λ (t : Turn). (t.actor, t.times)) turns)
small_pairs [] a = tt
small_pairs (t ∷ ts) a = (a.0, small_pairs ts a.1)

small_list : (bytes : Text) (turns : List Turn) → TurnList bytes turns → AllByRecursion Small (spread turns)
small_list bytes turns h = small_steps (map (λ (t : Turn). (t.actor, t.times)) turns) (small_pairs turns (small_spelled h.0.0 turns h.0.2))

small_front : (xs ys : List ℕ) → AllByRecursion Small (xs ++ ys) → AllByRecursion Small xs × AllByRecursion Small ys
small_front [] ys a = (tt, a)
small_front (x ∷ xs) ys a = let r = small_front xs ys a.1 in ((a.0, r.0), r.1)

small_exchanged : (front : List ℕ) (i j : ℕ) (rest : List ℕ) → AllByRecursion Small (front ++ i ∷ j ∷ rest) → AllByRecursion Small (front ++ j ∷ i ∷ rest)
small_exchanged front i j rest a =
    let r = small_front front (i ∷ j ∷ rest) a in
    small_append front (j ∷ i ∷ rest) r.0 (r.1.1.0, (r.1.0, r.1.1.1))

-- ---- what is reported of two turns

module _ (core : CoreData) (safe : Safe core) (t : Neighbours) (go : end_of (outcomes core t.front) ≡ None) (small : AllByRecursion Small (t.front ++ t.j ∷ t.i ∷ t.rest))
    (few : length (t.front ++ t.j ∷ t.i ∷ t.rest) ≤ turn_limit) where
  kept_text : (reason : Kept) → IsKept core (after core t.front) t.i t.j reason → (text : Text) × SwapText core t text
  kept_text reason h = (kept_line reason, stay reason go h refl)

  apart_text : Apart core (after core t.front) t.i t.j → (text : Text) × SwapText core t text
  apart_text apart =
      let swapped = steps_swap core safe t.front t.i t.j apart in
      let same = whole_lists_swap core safe t.front t.i t.j t.rest apart in
      let line = line_is_there (t.front ++ t.j ∷ t.i ∷ t.rest) small few in
      (line.0, exchanged (t.front ++ t.j ∷ t.i ∷ t.rest) (record { goes_on = go; apart = apart; new_is = refl; swapped = swapped.0; same = sym same }) line.1)

  module _ (differ : t.i ≢ t.j) where
    by_tests : (a b m s : Bool) → is_moving (ahead_of core (after core t.front) t.i) ≡ a → is_moving (ahead_of core (after core t.front) t.j) ≡ b
        → one_receiver (ahead_of core (after core t.front) t.i) (ahead_of core (after core t.front) t.j) ≡ m
        → two_spawns (ahead_of core (after core t.front) t.i) (ahead_of core (after core t.front) t.j) ≡ s → (text : Text) × SwapText core t text
    by_tests false b m s e f g h =
        kept_text kept.NotMoved (first_stays core (after core t.front) t.i t.j differ (ahead_of core (after core t.front) t.i) (ahead_of core (after core t.front) t.j) refl refl e)
    by_tests true false m s e f g h =
        kept_text kept.NotMoved (second_stays core (after core t.front) t.i t.j differ (ahead_of core (after core t.front) t.i) (ahead_of core (after core t.front) t.j) refl refl f)
    by_tests true true true s e f g h =
        kept_text kept.OneMailbox (to_one core (after core t.front) t.i t.j differ (ahead_of core (after core t.front) t.i) (ahead_of core (after core t.front) t.j) refl refl e f g)
    by_tests true true false true e f g h =
        kept_text kept.BothSpawn (both_make core (after core t.front) t.i t.j differ (ahead_of core (after core t.front) t.i) (ahead_of core (after core t.front) t.j) refl refl e f g h)
    by_tests true true false false e f g h =
        apart_text (are_apart core (after core t.front) t.i t.j differ (ahead_of core (after core t.front) t.i) (ahead_of core (after core t.front) t.j) refl refl e f g h)

  text_told : (text : Text) × SwapText core t text
  text_told = elim (cases_eq t.i t.j) [
    | inl same ↦ kept_text kept.SameActor same
    | inr differ ↦ by_tests differ (is_moving (ahead_of core (after core t.front) t.i)) (is_moving (ahead_of core (after core t.front) t.j))
        (one_receiver (ahead_of core (after core t.front) t.i) (ahead_of core (after core t.front) t.j))
        (two_spawns (ahead_of core (after core t.front) t.i) (ahead_of core (after core t.front) t.j)) refl refl refl refl
  ]

-- ---- the stage

module _ (name : Text) (core : CoreData) (safe : Safe core) (never : NeverLacks core) (list : List ℕ) (small : AllByRecursion Small list) (few : length list ≤ turn_limit) (place : ℕ) where
  at_turns : (t : Neighbours) → StandAt list place t → HasEnd (Swapping name core list place)
  at_turns t at = elim (run_ends core t.front never) [
    | inl go ↦ let longer = length_exchanged list place t at in
        let text = text_told core safe t go (small_exchanged t.front t.i t.j t.rest (subst (λ (l : List ℕ). AllByRecursion Small l) at.0 small)) (omega (arith, longer, few)) in
        (Ok text.0, tells t text.0 at text.1)
    | inr end ↦ (Err (refused 12 (too_long_line name end.0)), too_long t end.0 at end.1)
  ]

  swapping_ends : 1 ≤ place → HasEnd (Swapping name core list place)
  swapping_ends first = elim (cases_lt place (length list)) [
    | inl within ↦ let t = turns_at list place first within in at_turns t.0 t.1
    | inr past ↦ (Err (refused 15 (no_place_line name place)), no_place past)
  ]

module _ (law : CoresAreFormed) (never : AcceptedNeverLacks) (safe : ValidIsSafe) where
  swap_at : (source schedule : Named) (place : ℕ) → 1 ≤ place → ReadOn source_limit source → IsSome source.known → ReadOn schedule_limit schedule → IsSome schedule.known → Answers (IsSwapAt source schedule place)
  swap_at source schedule place first on known also too =
      scheduled_answers law (λ name core list. EndsWith (Swapping name core list place)) source schedule on known also too
      (λ r a h q turns g.
      let says = schedule_says g in
      let count = few_turns g in
      let all = length-spread turns in
      ends_answer (λ text. text) (Swapping schedule.name a.source.core (spread turns) place)
      (swapping_ends schedule.name a.source.core (accepted_core_safe law safe h) (accepted_lacks_nothing law never h) (spread turns) (small_list says.0 turns says.2) (omega (arith, count, all)) place first))

  by_place : (source schedule : Named) (place : Text) → Read (IsPlace place) → ReadOn source_limit source → IsSome source.known → ReadOn schedule_limit schedule → IsSome schedule.known
      → Answers (IsSwap source schedule place)
  by_place source schedule place (inl n) on known also too = let v = swap_at source schedule n.0 n.1.1 on known also too in (v.0, placed n.0 n.1 v.1)
  by_place source schedule place (inr refuted) on known also too = (refused 2 usage_line, no_number refuted refl)

  pub swap_answers : (source schedule : Named) (place : Text) → ReadOn source_limit source → IsSome source.known → ReadOn schedule_limit schedule → IsSome schedule.known → Answers (IsSwap source schedule place)
  swap_answers source schedule place on known also too = by_place source schedule place (place_read place) on known also too
