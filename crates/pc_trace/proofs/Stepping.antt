-- A turn of a run that is traced.
use Rattle.std.specs.{Prelude.{◌≡◌, ◌⊎◌, ◌<◌, ◌≤◌, ℕ, suc, ◌+◌, List, [], length, Option, Some, slice_get, refl}, FinMap.len}
use Rattle.std.proofs.{Common.{inl, inr, ap, sym, subst, ◌∙◌, arith}, lemmas.Option.{same_Some, none-some}, lemmas.Bool.Decides.leb_tells}
use Rattle.pc_core.specs.CoreData.{CoreData}
use Rattle.pc_heap.specs.Heaps.{object_limit}
use Rattle.pc_semantics.specs.{declared.outcome.Lack.Lack, declared.outcome.Outcome.Outcome, declared.outcome.Outcome.TheVariants.{Moved, Skipped, Lacks, TooLong}, Configurations.{Configuration, start}, Step.{step, followed, after, outcomes}, Safety.access, Text.waiting, declared.ahead.Ahead.Ahead, Ahead.ahead_of}
use Rattle.pc_semantics.specs.declared.ahead.Ahead.TheVariants as ahead
use Rattle.pc_events.specs.{AheadLaws.Agrees, Before.{at_place, Event}, Counting.Live}
use Rattle.pc_events.proofs.{Agrees.ahead_agrees, Boxes.Boxes, Outcomes.turn, Totals.{moving, resting}}
use Rattle.pc_machine.specs.{Machines.message_limit, Limits.list_limit}
use Rattle.pc_machine.proofs.Growing.{Changes, Grown, step_changes, few_at_start}
use Rattle.pc_clocks.specs.{declared.seat.Seat.Seat, Seats.clock_of}
use Rattle.pc_trace.specs.{declared.touch.Touch.Touch, Turns.{FollowsEvent, Ready}, Keeps.{Keeps, first_seats}, Noted.Noted, Reached.{Reached, noted_with}, Traces.{actor_limit, RanOn, TooManyAt, TooLongAt}, Stops.LacksAt}
use Rattle.pc_trace.proofs.{Keeping.{Behind, behind_event}, Rests.{keeps_at_start, few_actors_at_start, keeps_rested}, Ends.{outcome_at, ran_on, at_end, ended, stops}, Recording.{ready, noted_event, noted_rest}}

-- ---- the start

nothing_noted : (core : CoreData) (list : List ℕ) → Noted core list 0 []
nothing_noted core list = record {
  each = λ k t e. absurd (none-some t e);
  order = λ k m t u l e f. absurd (none-some t e);
  all = λ p i x l e a. absurd (none_below p l);
}
  where
    none_below : (p : ℕ) → p < 0 → ⊥
    none_below p l = omega (arith, l)

pub reached_start : (core : CoreData) (list : List ℕ) (c : Configuration) (seats : List Seat) → c ≡ start core → seats ≡ first_seats (length c.actors) → Reached core list 0 c seats []
reached_start core list c seats is made =
    let two = few_actors_at_start core in
    let f = few_at_start core in
    let objects = f.objects in
    let messages = f.messages in
    subst (λ (d : Configuration). Reached core list 0 d seats []) (sym is) (record {
      here = refl;
      live = λ m b. absurd (none_below m b);
      few_actors = omega (arith, two);
      few_objects = omega (arith, objects);
      few_messages = omega (arith, messages);
      keeps = subst (Keeps core list 0) (sym (made ∙ ap (λ (d : Configuration). first_seats (length d.actors)) is)) (keeps_at_start core list);
      noted = nothing_noted core list;
    })
  where
    none_below : (p : ℕ) → p < 0 → ⊥
    none_below p l = omega (arith, l)

-- ---- a turn

actors_few : (c d : Configuration) (i : ℕ) (h : Ahead) → Boxes c d i h → (h ≡ ahead.Spawn → length c.actors < 64) → length c.actors ≤ 64 → length d.actors ≤ 64
actors_few c d i ahead.Take b less few = same_few _ _ b.0 few
  where
    same_few : (n m : ℕ) → n ≡ m → m ≤ 64 → n ≤ 64
    same_few n m e l = omega (arith, e, l)
actors_few c d i (ahead.Send r) b less few = same_few _ _ b.0 few
  where
    same_few : (n m : ℕ) → n ≡ m → m ≤ 64 → n ≤ 64
    same_few n m e l = omega (arith, e, l)
actors_few c d i ahead.Spawn b less few = next_few _ _ b.0 (less refl)
  where
    next_few : (n m : ℕ) → n ≡ suc m → m < 64 → n ≤ 64
    next_few n m e l = omega (arith, e, l)
actors_few c d i ahead.Task b less few = same_few _ _ b.0 few
  where
    same_few : (n m : ℕ) → n ≡ m → m ≤ 64 → n ≤ 64
    same_few n m e l = omega (arith, e, l)
actors_few c d i ahead.Skipped b less few = absurd b
actors_few c d i ahead.Lacks b less few = absurd b
actors_few c d i ahead.TooLong b less few = absurd b

module _ (core : CoreData) (list : List ℕ) (n : ℕ) (c : Configuration) (seats : List Seat) (touches : List Touch) (r : Reached core list n c seats touches) (within : n < length list) (few : length list ≤ list_limit) where
  pub room_for_objects : len c.objects < object_limit
  room_for_objects = let k = r.few_objects in omega (arith, k, within, few)

  pub room_for_messages : waiting c < message_limit
  room_for_messages = let k = r.few_messages in omega (arith, k, within, few)

  few_places : n < list_limit
  few_places = omega (arith, within, few)

  one_on : suc n ≡ n + 1
  one_on = omega arith

  module _ (i : ℕ) (is : slice_get list n ≡ Some i) where
    abbrev here : Configuration
    here = at_place core list n

    module _ (o : Outcome) (d : Configuration) (e : ◌≡◌ {A = Outcome × Configuration} (o, d) (step core c i)) where
      outcome_is : slice_get (outcomes core list) n ≡ Some o
      outcome_is = outcome_at core list n i r.live is ∙ ap (λ (x : Configuration). Some (step core x i).0) (sym r.here) ∙ ap (λ (x : Outcome × Configuration). Some x.0) (sym e)

      here_ends : (step core here i).0 ≡ o
      here_ends = ap (λ (x : Configuration). (step core x i).0) (sym r.here) ∙ ap (λ (x : Outcome × Configuration). x.0) (sym e)

      changed : Changes c (o, d)
      changed = subst (λ (x : Outcome × Configuration). Changes c x) (sym e) (step_changes c core i)

    live_next : (o : Outcome) → slice_get (outcomes core list) n ≡ Some o → (◌≡◌ {A = Option Outcome} (Some o) (Some Moved)) ⊎ (◌≡◌ {A = Option Outcome} (Some o) (Some Skipped)) → Live core list (suc n)
    live_next o e goes m b =
        elim (leb_tells n m) [
          | inl s ↦
              let k = s.1 in
              let same : m ≡ n = omega (arith, b, k) in
              elim goes [
                | inl g ↦ inl (ap (slice_get (outcomes core list)) same ∙ e ∙ g)
                | inr g ↦ inr (ap (slice_get (outcomes core list)) same ∙ e ∙ g)
              ]
          | inr s ↦ r.live m s.1
        ]

    -- ---- it moves

    module _ (d : Configuration) (e : ◌≡◌ {A = Outcome × Configuration} (Moved, d) (step core c i)) where
      event : Event core list n i
      event = record { actor = is; moved = outcome_is Moved d e }

      next_is : d ≡ at_place core list (suc n)
      next_is =
          let t = turn core list (start core) n Moved (outcome_is Moved d e) in
          let same : t.actor ≡ i = same_Some t.actor i (sym t.is ∙ is) in
          let back : step core here t.actor ≡ (Moved, d) = ap (step core here) same ∙ ap (λ (x : Configuration). step core x i) (sym r.here) ∙ sym e in
          sym (t.next ∙ ap (followed (λ x. x) here here) back)

      pub moved_ready : Ready (ahead_of core c i) (length c.actors) i seats
      moved_ready = subst (λ (x : Configuration). Ready (ahead_of core x i) (length x.actors) i seats) (sym r.here) (ready core list n few_places i event seats r.keeps)

      module _ (next : List Seat) (follows : FollowsEvent (ahead_of core c i) (length c.actors) i seats next) where
        behind : Behind core list n i next
        behind = behind_event core list n i r.live event seats r.keeps next (subst (λ (x : Configuration). FollowsEvent (ahead_of core x i) (length x.actors) i seats next) r.here follows)

        touched : access core here i ≡ access core c i
        touched = ap (λ (x : Configuration). access core x i) (sym r.here)

        pub moved_on : (less : ahead_of core c i ≡ ahead.Spawn → length c.actors < 64) (place : ℕ) → place ≡ n + 1 → (more : List Touch) → more ≡ noted_with (access core c i) place i (clock_of next i) touches → Reached core list (n + 1) d next more
        moved_on less place at more made =
            let g : Grown c d = changed Moved d e in
            let objects = g.objects in
            let messages = g.messages in
            let old_objects = r.few_objects in
            let old_messages = r.few_messages in
            let boxes : Boxes c d i (ahead_of core c i) =
            subst (λ (x : Configuration). Boxes c x i (ahead_of core c i)) (sym next_is) (subst (λ (x : Configuration). Boxes x (at_place core list (suc n)) i (ahead_of core x i)) (sym r.here) (moving core list n i event).boxes)
            in
            subst (λ (m : ℕ). Reached core list m d next more) one_on (record {
              here = next_is;
              live = live_next Moved (outcome_is Moved d e) (inl refl);
              few_actors = actors_few c d i (ahead_of core c i) boxes less r.few_actors;
              few_objects = omega (arith, objects, old_objects);
              few_messages = omega (arith, messages, old_messages);
              keeps = behind.keeps;
              noted = subst (Noted core list (suc n)) (sym made) (noted_event core list n touches r.noted i event (clock_of next i) behind.width behind.clock (access core c i) touched place (at ∙ sym one_on));
            })

    -- ---- it is skipped

    pub skipped_on : (d : Configuration) → ◌≡◌ {A = Outcome × Configuration} (Skipped, d) (step core c i) → Reached core list (n + 1) d seats touches
    skipped_on d e =
        let same : d ≡ c = changed Skipped d e in
        let out = outcome_is Skipped d e in
        let old_objects = r.few_objects in
        let old_messages = r.few_messages in
        subst (λ (m : ℕ). Reached core list m d seats touches) one_on (subst (λ (x : Configuration). Reached core list (suc n) x seats touches) (sym same) (record {
          here = r.here ∙ sym (resting core list n out).same;
          live = live_next Skipped out (inr refl);
          few_actors = r.few_actors;
          few_objects = omega (arith, old_objects);
          few_messages = omega (arith, old_messages);
          keeps = keeps_rested core list n seats out r.keeps;
          noted = noted_rest core list n touches r.noted out;
        }))

    -- ---- it ends the run

    few_at_end : (o : Outcome) (d : Configuration) → ◌≡◌ {A = Outcome × Configuration} (o, d) (step core c i) → after core list ≡ here → length (after core list).actors ≤ actor_limit
    few_at_end o d e s = subst (λ (x : Configuration). length x.actors ≤ actor_limit) (r.here ∙ sym s) r.few_actors

    pub too_long : (d : Configuration) → ◌≡◌ {A = Outcome × Configuration} (TooLong, d) (step core c i) → (place : ℕ) → place ≡ n + 1 → TooLongAt core list place
    too_long d e place at = (
      ended core list n i TooLong r.live is (here_ends TooLong d e) tt place at,
      few_at_end TooLong d e (stops core list n i TooLong r.live is (here_ends TooLong d e) tt),
    )

    pub lacks : (l : Lack) (d : Configuration) → ◌≡◌ {A = Outcome × Configuration} (Lacks l, d) (step core c i) → (place : ℕ) → place ≡ n + 1 → LacksAt core list place
    lacks l d e place at = (
      l,
      ended core list n i (Lacks l) r.live is (here_ends (Lacks l) d e) tt place at,
      few_at_end (Lacks l) d e (stops core list n i (Lacks l) r.live is (here_ends (Lacks l) d e) tt),
    )

    -- ---- it would make too many actors

    pub too_many : ahead_of core c i ≡ ahead.Spawn → length c.actors ≡ 64 → (place : ℕ) → place ≡ n + 1 → TooManyAt core list place
    too_many spawns full place at =
        let there : ahead_of core here i ≡ ahead.Spawn = ap (λ (x : Configuration). ahead_of core x i) (sym r.here) ∙ spawns in
        let moves : (step core here i).0 ≡ Moved = subst (λ (k : Ahead). Agrees k (step core here i).0) there (ahead_agrees core here i) in
        record {
          p = n;
          i = i;
          place = at ∙ sym one_on;
          event = record { actor = is; moved = outcome_at core list n i r.live is ∙ ap Some moves };
          spawns = there;
          full = ap (λ (x : Configuration). length x.actors) (sym r.here) ∙ full;
        }

-- ---- the end of the list

pub all_reached : (core : CoreData) (list : List ℕ) (c : Configuration) (seats : List Seat) (touches : List Touch) → Reached core list (length list) c seats touches → RanOn core list × Noted core list (length list) touches
all_reached core list c seats touches r = (
  record { goes_on = ran_on core list r.live; few = subst (λ (x : Configuration). length x.actors ≤ actor_limit) (r.here ∙ at_end core list) r.few_actors },
  r.noted,
)
