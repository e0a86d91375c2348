-- A turn, by the results of its calls.
use Rattle.std.specs.Prelude.{◌≡◌, ◌<◌, ℕ, suc, ◌+◌, List, [], length, get_or, Option, Some, slice_get}
use Rattle.std.proofs.{Common.{ap, sym, subst, ◌∙◌, arith}, lemmas.Option.none-some}
use Rattle.pc_base.proofs.Gets.{get_below}
use Rattle.pc_core.specs.CoreData.{CoreData}
use Rattle.pc_semantics.specs.{Ahead.ahead_of, Configurations.{Configuration, start}, Step.{outcomes, step}, Safety.access, declared.access.Access.Access, declared.ahead.Ahead.Ahead, declared.outcome.Outcome.Outcome, declared.outcome.Outcome.TheVariants.{Moved, Skipped}}
use Rattle.pc_semantics.specs.declared.ahead.Ahead.TheVariants as ahead
use Rattle.pc_clocks.specs.{Seats.clock_of, declared.seat.Seat.Seat}
use Rattle.pc_events.specs.Before.{at_place, Event}
use Rattle.pc_run_events.specs.{Events.{AllEvents, SentAt, touches_in}, Kept.{PostsKeep, Recorded, Under, first_posts}, Sights.sight, Turns.{HasRow, Posted, deed_after, noted_with, sent_by}, declared.events.Deed.Deed, declared.events.RunEvent.RunEvent, declared.sight.Sight.Sight}
use Rattle.pc_run_events.proofs.{Posting.{has_row, posts_at_start, posts_event, posts_rested, taken_at}, Recording.{recorded_event, recorded_rest, touches_event}}
use Rattle.pc_trace.specs.{Keeps.first_seats, Noted.Noted, Reached.{Reached, noted_with as touched_with}, Traces.RanOn, Turns.FollowsEvent}
use Rattle.pc_trace.proofs.{Covering.number_there, Ends.outcome_at, Keeping.{Behind, behind_event}, Stepping.{all_reached, reached_start}}

one_on : (n : ℕ) → suc n ≡ n + 1
one_on n = omega arith

-- ---- the start

nothing_recorded : (core : CoreData) (list : List ℕ) → Recorded core list 0 []
nothing_recorded core list = record {
  each = λ k t e. absurd (none-some t e);
  order = λ k m t u l e f. absurd (none-some t e);
  all = λ p i d l v w. absurd (none_below p l);
}
  where
    none_below : (p : ℕ) → p < 0 → ⊥
    none_below p l = omega (arith, l)

pub under_start : (core : CoreData) (list : List ℕ) (c : Configuration) (seats : List Seat) (posts : List (List ℕ)) (events : List RunEvent) → c ≡ start core → seats ≡ first_seats (length c.actors) → posts ≡ first_posts (length c.actors) → events ≡ []
    → Under core list 0 c seats posts events
under_start core list c seats posts events is made kept none =
    let posted : PostsKeep core list 0 posts = subst (PostsKeep core list 0) (sym (kept ∙ ap (λ (x : Configuration). first_posts (length x.actors)) is)) (posts_at_start core list) in
    subst (Under core list 0 c seats posts) (sym none) (record { reached = reached_start core list c seats is made; kept = posted; recorded = nothing_recorded core list })

-- ---- a turn

module _ (core : CoreData) (list : List ℕ) (n : ℕ) (c : Configuration) (seats : List Seat) (posts : List (List ℕ)) (events : List RunEvent) (u : Under core list n c seats posts events) (within : n < length list) where
  abbrev i : ℕ
  i = get_or list n 0

  abbrev here : Configuration
  here = at_place core list n

  is : slice_get list n ≡ Some (get_or list n 0)
  is = number_there list n within

  same : c ≡ here
  same = u.reached.here

  module _ (o : Outcome) (d : Configuration) (e : ◌≡◌ {A = Outcome × Configuration} (o, d) (step core c (get_or list n 0))) where
    outcome : slice_get (outcomes core list) n ≡ Some o
    outcome = outcome_at core list n i u.reached.live is ∙ ap (λ (x : Configuration). Some (step core x (get_or list n 0)).0) (sym same) ∙ ap (λ (x : Outcome × Configuration). Some x.0) (sym e)

    pub under_skips : o ≡ Skipped → Reached core list (n + 1) d seats (touches_in events) → Under core list (n + 1) d seats posts events
    under_skips s reached =
        let out : slice_get (outcomes core list) n ≡ Some Skipped = outcome ∙ ap (λ (x : Outcome). Some x) s in
        record {
          reached = reached;
          kept = subst (λ (m : ℕ). PostsKeep core list m posts) (one_on n) (posts_rested core list n posts out u.kept);
          recorded = subst (λ (m : ℕ). Recorded core list m events) (one_on n) (recorded_rest core list n events u.recorded out);
        }

    module _ (moves : o ≡ Moved) (seen : Sight) (seen_is : seen ≡ sight core c (get_or list n 0)) where
      ev : Event core list n (get_or list n 0)
      ev = record { actor = is; moved = outcome ∙ ap (λ (x : Outcome). Some x) moves }

      seen_here : seen ≡ sight core here (get_or list n 0)
      seen_here = seen_is ∙ ap (λ (x : Configuration). sight core x (get_or list n 0)) same

      kind_here : seen.ahead ≡ ahead_of core here (get_or list n 0)
      kind_here = ap (λ (s : Sight). s.ahead) seen_here

      pub row_there : HasRow seen.ahead (get_or list n 0) posts
      row_there = subst (λ (h : Ahead). HasRow h (get_or list n 0) posts) (sym kind_here) (has_row core list n (get_or list n 0) ev posts u.kept)

      module _ (place : ℕ) (at : place ≡ n + 1) (next : List Seat) (follows : FollowsEvent seen.ahead seen.actors (get_or list n 0) seats next) (sent : ℕ) (sent_is : sent ≡ sent_by seen.ahead (get_or list n 0) posts)
          (deed : Option Deed) (deed_is : deed ≡ deed_after seen d (get_or list n 0) sent) (more : List RunEvent) (made : more ≡ noted_with deed place (get_or list n 0) (clock_of next (get_or list n 0)) events) where
        count_here : seen.actors ≡ length here.actors
        count_here = ap (λ (s : Sight). s.actors) seen_here

        access_here : seen.access ≡ access core here (get_or list n 0)
        access_here = ap (λ (s : Sight). s.access) seen_here

        behind : Behind core list n (get_or list n 0) next
        behind =
            behind_event core list n (get_or list n 0) u.reached.live ev seats u.reached.keeps next
            (subst (λ (m : ℕ). FollowsEvent (ahead_of core here (get_or list n 0)) m (get_or list n 0) seats next) count_here (subst (λ (h : Ahead). FollowsEvent h seen.actors (get_or list n 0) seats next) kind_here follows))

        place_here : place ≡ suc n
        place_here = at ∙ sym (one_on n)

        abbrev grown : Configuration → List RunEvent
        grown e = noted_with (deed_after (sight core here (get_or list n 0)) e (get_or list n 0) sent) place (get_or list n 0) (clock_of next (get_or list n 0)) events

        more_here : more ≡ grown d
        more_here =
            made ∙ ap (λ (x : Option Deed). noted_with x place (get_or list n 0) (clock_of next (get_or list n 0)) events) (deed_is ∙ ap (λ (s : Sight). deed_after s d (get_or list n 0) sent) seen_here)

        -- The accesses among the events are those that a trace notes.
        pub touches_made : touches_in more ≡ touched_with seen.access place (get_or list n 0) (clock_of next (get_or list n 0)) (touches_in events)
        touches_made =
            ap touches_in more_here
            ∙ touches_event core list n events u.recorded (get_or list n 0) ev (clock_of next (get_or list n 0)) behind.width behind.clock place place_here d sent
            ∙ ap (λ (x : Option Access). touched_with x place (get_or list n 0) (clock_of next (get_or list n 0)) (touches_in events)) (sym access_here)

        -- A message that is taken was sent at this place.
        sent_there : ahead_of core here (get_or list n 0) ≡ ahead.Take → SentAt core list n sent
        sent_there take =
            subst (SentAt core list n) (sym (sent_is ∙ ap (λ (h : Ahead). sent_by h (get_or list n 0) posts) (kind_here ∙ take))) (taken_at core list n (get_or list n 0) ev posts u.kept take)

        pub under_moves : (later : List (List ℕ)) → Posted seen.ahead (get_or list n 0) place posts later → Reached core list (n + 1) d next (touches_in more) → Under core list (n + 1) d next later more
        under_moves later posted reached = record {
          reached = reached;
          kept =
              subst (λ (m : ℕ). PostsKeep core list m later) (one_on n)
              (posts_event core list n (get_or list n 0) ev posts u.kept place place_here later (subst (λ (h : Ahead). Posted h (get_or list n 0) place posts later) kind_here posted));
          recorded =
              subst (λ (m : ℕ). Recorded core list m more) (one_on n)
              (subst (Recorded core list (suc n)) (sym (more_here ∙ ap grown after))
              (recorded_event core list n events u.recorded (get_or list n 0) ev (clock_of next (get_or list n 0)) behind.width behind.clock place place_here sent sent_there));
        }
          where
            after : d ≡ at_place core list (suc n)
            after = reached.here ∙ ap (at_place core list) (sym (one_on n))

-- ---- the end

pub all_under : (core : CoreData) (list : List ℕ) (c : Configuration) (seats : List Seat) (posts : List (List ℕ)) (events : List RunEvent) → Under core list (length list) c seats posts events
    → RanOn core list × Noted core list (length list) (touches_in events) × Recorded core list (length list) events
all_under core list c seats posts events u = let r = all_reached core list c seats (touches_in events) u.reached in (r.0, r.1, u.recorded)

-- The events that were recorded are all.
pub all_events : (core : CoreData) (list : List ℕ) (events : List RunEvent) → Recorded core list (length list) events → AllEvents core list events
all_events core list events r = record {
  each = λ k t e. let w = r.each k t e in (w.0, w.2, w.3);
  order = r.order;
  all = λ p i d v w. r.all p i d (below p i v) v w;
}
  where
    below : (p i : ℕ) → Event core list p i → p < length list
    below p i v = get_below list p i v.actor
