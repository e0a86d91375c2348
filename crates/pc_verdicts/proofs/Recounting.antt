-- `events` has a verdict.
use Rattle.std.proofs.{Common.{◌≡◌, ◌⊎◌, ℕ, zero, suc, List, [], ◌∷◌, ◌++◌, length, Option, Some, None, Ok, Err, inl, inr, refl, sym, ap, ◌∙◌, subst, arith, append-nil}, lemmas.Option.none-some}
use Rattle.std.specs.Prelude.{IsSome}
use Rattle.pc_core.specs.{CoreData.CoreData, Formed.Formed}
use Rattle.pc_events.proofs.{Boxes.Boxes, Events.one_actor, Order.earlier_comes_before, Totals.moving}
use Rattle.pc_events.specs.{Before.{Carries, Event, at_place, waiting_for}, Clock.Clocks}
use Rattle.pc_base.specs.Lists.{Text}
use Rattle.pc_regions.specs.Laws.{ValidIsSafe}
use Rattle.pc_run.specs.Spreading.{spread}
use Rattle.pc_run_events.proofs.{Access.IsTask, Effects.{Effects, NoneMade, OneMade, effects_at}, Naming.all_named, Recording.{first_waits, none_of, nothing_done, touches_push}}
use Rattle.pc_run_events.specs.{Events.{AllEvents, Does, EventAt, SentAt, touches_in, touches_with}, Lines.events_text_of_run, declared.events.Deed.Deed, declared.events.RunEvent.RunEvent}
use Rattle.pc_run_events.specs.declared.events.Deed.TheVariants as deed
use Rattle.pc_sched.specs.Schedules.{schedule_limit}
use Rattle.pc_semantics.specs.{Ahead.ahead_of, Safety.{Safe, access}, declared.access.Access.Access, declared.ahead.Ahead.Ahead}
use Rattle.pc_semantics.specs.declared.ahead.Ahead.TheVariants as ahead
use Rattle.pc_trace.specs.declared.touch.Touch.{Touch}
use Rattle.pc_refusal_lines.specs.Lines.{many_actors_line, too_long_line}
use Rattle.pc_refusals.specs.{Verdict.{Named, EndsWith, refused}, Source.source_limit}
use Rattle.pc_commands.specs.{Events.EventsTelling, Events.EventsTelling.{tells, too_long, too_many}}
use Rattle.pc_top.specs.{Commands.Events.IsEvents, CoresFormed.CoresAreFormed}
use Rattle.pc_top.proofs.Deriving.{accepted_core_safe, accepted_source, source_formed}
use Rattle.pc_verdicts.proofs.{Clocks.{carries_told, clocks_are_there, event_at, event_below}, Deciding.some_told, Placing.{Listed, listed_more, listed_none, listed_rest}, Shapes.scheduled_answers, Stages.{Answers, HasEnd, ReadOn, ends_answer}, Tracing.{Noted, RunEnd, all_noted, long, many, note_touch, ran, run_end, skip_touch, unaccessed}}

module _ (core : CoreData) (list : List ℕ) where
  abbrev place_of : RunEvent → ℕ
  place_of t = t.place

  abbrev Done : ℕ → Type 0
  Done p = (i : ℕ) × (d : Deed) × Event core list p i × Does core list p i d

  -- All events before a place that do something, in order, and the accesses among them.
  abbrev Recorded : ℕ → List RunEvent → Type 0
  Recorded n events = Listed place_of (EventAt core list) Done n events × Noted core list n (touches_in events)

  -- ---- which event sent a message

  sent_at : (q : ℕ) → (sent : ℕ) × SentAt core list q sent
  sent_at q = elim (some_told (λ p. Carries core list p q) (λ p. carries_told core list p q) (length list)) [
    | inl h ↦ (suc h.0, h.2)
    | inr none ↦ (0, λ p c. none (p, event_below core list p c.sender c.puts, c))
  ]

  -- ---- one place more

  module _ (n : ℕ) (events : List RunEvent) (h : Recorded n events) (i : ℕ) (e : Event core list n i) (clock : List ℕ) (c : Clocks core list n clock) where
    abbrev event_of : Deed → RunEvent
    event_of d = record { place = suc n; actor = i; deed = d; clock = clock }

    recorded : (d : Deed) → Does core list n i d → Listed place_of (EventAt core list) Done (suc n) (events ++ event_of d ∷ [])
    recorded d does = listed_more place_of (EventAt core list) Done n events h.0 (event_of d) refl (record { event = e; does = does; clock = c })

    -- A deed that is not an access.
    quiet : (d : Deed) → Does core list n i d → touches_with (event_of d) d [] ≡ [] → access core (at_place core list n) i ≡ None → (more : List RunEvent) × Recorded (suc n) more
    quiet d does none free =
        let same : touches_in (events ++ event_of d ∷ []) ≡ touches_in events = touches_push events (event_of d) ∙ ap (λ (l : List Touch). touches_in events ++ l) none ∙ append-nil (touches_in events) in
        (events ++ event_of d ∷ [], (recorded d does, subst (λ (l : List Touch). Noted core list (suc n) l) (sym same) (skip_touch core list n (touches_in events) h.1 (unaccessed core list n i e free))))

    touched : (x : Access) → access core (at_place core list n) i ≡ Some x → (more : List RunEvent) × Recorded (suc n) more
    touched x a =
        let d = deed.Touch x in
        (events ++ event_of (deed.Touch x) ∷ [], (recorded (deed.Touch x) a, subst (λ (l : List Touch). Noted core list (suc n) l) (sym (touches_push events (event_of (deed.Touch x)))) (note_touch core list n (touches_in events) h.1 i e x a clock c)))

    rests : ahead_of core (at_place core list n) i ≡ ahead.Task → access core (at_place core list n) i ≡ None → NoneMade (at_place core list n) (at_place core list (suc n)) → (more : List RunEvent) × Recorded (suc n) more
    rests is none unmade = (
      events,
      (
        listed_rest place_of (EventAt core list) Done n events h.0 (λ w. nothing_done core list n i is none unmade w.1 (subst (λ k. Does core list n k w.1) (one_actor core list n w.0 i w.2 e) w.3)),
        skip_touch core list n (touches_in events) h.1 (unaccessed core list n i e none),
      ),
    )

    by_task : ahead_of core (at_place core list n) i ≡ ahead.Task → NoneMade (at_place core list n) (at_place core list (suc n)) ⊎ OneMade core (at_place core list n) (at_place core list (suc n)) i
        → (o : Option Access) → access core (at_place core list n) i ≡ o → (more : List RunEvent) × Recorded (suc n) more
    by_task is made (Some x) a = touched x a
    by_task is (inl unmade) None a = rests is a unmade
    by_task is (inr one) None a = quiet (deed.New one.address one.entity) (is, one.made) refl a

    free : (k : Ahead) → (IsTask k → ⊥) → ahead_of core (at_place core list n) i ≡ k → access core (at_place core list n) i ≡ None
    free k apart is = none_of core (at_place core list n) i k is apart (access core (at_place core list n) i) refl

    by_ahead : (k : Ahead) → ahead_of core (at_place core list n) i ≡ k → Boxes (at_place core list n) (at_place core list (suc n)) i k
        → Effects core (at_place core list n) (at_place core list (suc n)) i k → (more : List RunEvent) × Recorded (suc n) more
    by_ahead ahead.Take is b f =
        let m = first_waits (at_place core list n) i (waiting_for (at_place core list (suc n)) i) b.1 in
        let sent = sent_at n in
        quiet (deed.Take m.0 sent.0) (is, m.1, sent.1) refl (free ahead.Take (λ x. x) is)
    by_ahead (ahead.Send r) is b f = quiet (deed.Send r f.0) (is, f.2) refl (free (ahead.Send r) (λ x. x) is)
    by_ahead ahead.Spawn is b f =
        let m = first_waits (at_place core list (suc n)) (length (at_place core list n).actors) 0 b.1 in
        quiet (deed.Make (length (at_place core list n).actors) m.0) (is, refl, m.1) refl (free ahead.Spawn (λ x. x) is)
    by_ahead ahead.Task is b f = by_task is f (access core (at_place core list n) i) refl
    by_ahead ahead.Skipped is b f = absurd b
    by_ahead ahead.Lacks is b f = absurd b
    by_ahead ahead.TooLong is b f = absurd b

    next_event : (more : List RunEvent) × Recorded (suc n) more
    next_event = by_ahead (ahead_of core (at_place core list n) i) refl (moving core list n i e).boxes (effects_at core list n i e)

  next_recorded : (n : ℕ) (events : List RunEvent) → Recorded n events → (more : List RunEvent) × Recorded (suc n) more
  next_recorded n events h = elim (event_at core list n) [
    | inl e ↦ let clock = clocks_are_there core list n in next_event n events h e.0 e.2 clock.0 clock.1
    | inr none ↦ (
      events,
      (
        listed_rest place_of (EventAt core list) Done n events h.0 (λ w. none (w.0, w.2.actor, w.2)),
        skip_touch core list n (touches_in events) h.1 (λ w. none (w.0, w.2.actor, w.2)),
      ),
    )
  ]

  recorded_to : (n : ℕ) → (events : List RunEvent) × Recorded n events
  recorded_to zero = ([], (listed_none place_of (EventAt core list) Done, record { each = λ k t e. absurd (none-some t e); order = λ k m t u l e f. absurd (none-some t e); all = λ p l w. absurd (omega (arith, l)) }))
  recorded_to (suc n) = let r = recorded_to n in next_recorded n r.0 r.1

  -- ---- the stage

  by_end : (name : Text) → Formed core → Safe core → RunEnd core list → HasEnd (EventsTelling name core list)
  by_end name formed safe (ran h) =
      let r = recorded_to (length list) in
      let all : AllEvents core list r.0 = record {
        each = λ k t e. let x = r.1.0.each k t e in (x.0, x.2, x.3);
        order = r.1.0.order;
        all = λ p i d e does. r.1.0.all p (event_below core list p i e) (i, d, e, does);
      }
      in
      (Ok (events_text_of_run core r.0), tells r.0 (events_text_of_run core r.0) (h, all, all_noted core list (touches_in r.0) r.1.1, earlier_comes_before core safe list, all_named core formed safe list r.0 all) refl)
  by_end name formed safe (long n h) = (Err (refused 12 (too_long_line name n)), too_long n h)
  by_end name formed safe (many n h) = (Err (refused 8 (many_actors_line name n)), too_many n h)

pub events_answers : CoresAreFormed → ValidIsSafe → (source schedule : Named) → ReadOn source_limit source → IsSome source.known → ReadOn schedule_limit schedule → IsSome schedule.known → Answers (IsEvents source schedule)
events_answers law safe source schedule on known also too =
    scheduled_answers law (λ name core list. EndsWith (EventsTelling name core list)) source schedule on known also too
    (λ r a h q turns g.
    let core = a.source.core in
    let is = accepted_core_safe law safe h in
    ends_answer (λ text. text) (EventsTelling schedule.name core (spread turns)) (by_end core (spread turns) schedule.name (source_formed law (accepted_source h).0).0 is (run_end core (spread turns) is)))
