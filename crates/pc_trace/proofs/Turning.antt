-- A turn, by the results of its calls.
use Rattle.std.specs.Prelude.{◌≡◌, ◌<◌, ◌≤◌, ℕ, ◌+◌, Bool, true, false, List, length, get_or, Option, Some, Ok, Err, slice_get}
use Rattle.std.proofs.Common.{ap, sym, subst, ◌∙◌}
use Rattle.pc_core.specs.CoreData.{CoreData}
use Rattle.pc_semantics.specs.{declared.access.Access.Access, declared.outcome.Outcome.Outcome, declared.outcome.Outcome.TheVariants.{Moved, Skipped, Lacks, TooLong}, Configurations.Configuration, Step.step, Safety.access, declared.ahead.Ahead.Ahead, Ahead.ahead_of}
use Rattle.pc_clocks.specs.{declared.seat.Seat.Seat, Seats.clock_of}
use Rattle.pc_trace.specs.{declared.touch.Touch.Touch, declared.fault.TraceFault.TraceFault, Turns.{FollowsEvent, Ready, Says, Room}, Reached.{Reached, noted_with}, Stops.TraceStops}
use Rattle.pc_trace.specs.declared.fault.TraceFault.TheVariants as fault
use Rattle.pc_machine.specs.Limits.{list_limit}
use Rattle.pc_trace.proofs.{Covering.number_there, Stepping.{moved_ready, moved_on, skipped_on, too_long, lacks, too_many}}

module _ (core : CoreData) (list : List ℕ) (n : ℕ) (c : Configuration) (seats : List Seat) (touches : List Touch) (r : Reached core list n c seats touches) (within : n < length list) (few : length list ≤ list_limit) where
  abbrev i : ℕ
  i = get_or list n 0

  is : slice_get list n ≡ Some (get_or list n 0)
  is = number_there list n within

  module _ (kind : Ahead) (kind_is : kind ≡ ahead_of core c (get_or list n 0)) (count : ℕ) (count_is : count ≡ length c.actors) (place : ℕ) (at : place ≡ n + 1) where
    pub turn_full : (f : TraceFault) → Room kind count place (Err f) → TraceStops core list f
    turn_full f h = subst (TraceStops core list) (sym h.0) (too_many core list n c seats touches r within few (get_or list n 0) is (sym kind_is ∙ h.1) (sym count_is ∙ h.2) place at)

    module _ (o : Outcome) (d : Configuration) (e : ◌≡◌ {A = Outcome × Configuration} (o, d) (step core c (get_or list n 0))) where
      as_outcome : (p : Outcome) → o ≡ p → ◌≡◌ {A = Outcome × Configuration} (p, d) (step core c (get_or list n 0))
      as_outcome p s = ap (λ (x : Outcome). (x, d)) (sym s) ∙ e

      pub turn_ends : (f : TraceFault) → Says o place (Err f) → TraceStops core list f
      turn_ends (fault.TooLong m) h = subst (λ (z : ℕ). TraceStops core list (fault.TooLong z)) (sym h.0) (too_long core list n c seats touches r within few (get_or list n 0) is d (as_outcome TooLong h.1) place at)
      turn_ends (fault.Lacks m) h =
          subst (λ (z : ℕ). TraceStops core list (fault.Lacks z)) (sym h.0) (let w = h.1 in lacks core list n c seats touches r within few (get_or list n 0) is w.0 d (as_outcome (Lacks w.0) w.1) place at)
      turn_ends (fault.TooMany m) h = absurd h
      turn_ends fault.Memory h = absurd h

      pub turn_skips : o ≡ Skipped → Reached core list (n + 1) d seats touches
      turn_skips s = skipped_on core list n c seats touches r within few (get_or list n 0) is d (as_outcome Skipped s)

      module _ (moves : o ≡ Moved) where
        pub turn_ready : Ready kind count (get_or list n 0) seats
        turn_ready =
            subst (λ (x : ℕ). Ready kind x (get_or list n 0) seats) (sym count_is)
            (subst (λ (x : Ahead). Ready x (length c.actors) (get_or list n 0) seats) (sym kind_is) (moved_ready core list n c seats touches r within few (get_or list n 0) is d (as_outcome Moved moves)))

        pub turn_moves : (u : Unit {0}) → Room kind count place (Ok u) → (next : List Seat) → FollowsEvent kind count (get_or list n 0) seats next → (a : Option Access) → a ≡ access core c (get_or list n 0) → (more : List Touch)
            → more ≡ noted_with a place (get_or list n 0) (clock_of next (get_or list n 0)) touches → Reached core list (n + 1) d next more
        turn_moves u room next follows a a_is more made =
            moved_on core list n c seats touches r within few (get_or list n 0) is d (as_outcome Moved moves) next
            (subst (λ (x : ℕ). FollowsEvent (ahead_of core c (get_or list n 0)) x (get_or list n 0) seats next) count_is (subst (λ (x : Ahead). FollowsEvent x count (get_or list n 0) seats next) kind_is follows))
            (λ s. subst (λ (x : ℕ). x < 64) count_is (room (kind_is ∙ s))) place at more (made ∙ ap (λ (x : Option Access). noted_with x place (get_or list n 0) (clock_of next (get_or list n 0)) touches) a_is)

false_true : false ≡ true → ⊥
false_true e = cc

pub says_skipped : (o : Outcome) (place : ℕ) (b : Bool) → b ≡ false → Says o place (Ok b) → o ≡ Skipped
says_skipped o place true e h = absurd (false_true (sym e))
says_skipped o place false e h = h

pub says_moved : (o : Outcome) (place : ℕ) (b : Bool) → b ≡ true → Says o place (Ok b) → o ≡ Moved
says_moved o place true e h = h
says_moved o place false e h = absurd (false_true e)
