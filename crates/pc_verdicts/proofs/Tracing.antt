-- `trace` has a verdict.
use Rattle.std.proofs.{Common.{◌≡◌, ◌⊎◌, ◌≤◌, ◌+◌, ℕ, zero, suc, List, [], ◌∷◌, ◌++◌, length, take, Option, Some, None, Ok, Err, inl, inr, refl, sym, ap, ◌∙◌, subst, arith}, lemmas.Bool.{cases_eq, cases_lt}, lemmas.Option.none-some}
use Rattle.std.specs.Prelude.{IsSome, slice_get}
use Rattle.pc_core.specs.CoreData.{CoreData}
use Rattle.pc_events.proofs.{Boxes.Boxes, Events.one_actor, Order.earlier_comes_before, Outcomes.turn, Totals.{moving, resting}}
use Rattle.pc_events.specs.{Before.{Event, at_place}, Clock.Clocks, Counting.Live}
use Rattle.pc_base.proofs.Gets.{get_within}
use Rattle.pc_base.specs.Lists.{Text}
use Rattle.pc_regions.specs.Laws.{ValidIsSafe}
use Rattle.pc_run.specs.Spreading.{spread}
use Rattle.pc_sched.specs.Schedules.{schedule_limit}
use Rattle.pc_semantics.specs.{Ahead.ahead_of, Configurations.{Configuration, start}, Step.{after, outcomes, step}, Safety.{LacksNothing, Safe, access}, declared.access.Access.Access, declared.ahead.Ahead.Ahead, declared.outcome.Outcome.Outcome, declared.outcome.Outcome.TheVariants.{Lacks, Moved, Skipped, TooLong}}
use Rattle.pc_semantics.specs.declared.ahead.Ahead.TheVariants as ahead
use Rattle.pc_trace.proofs.{Ends.{at_end, ended, outcome_at, ran_on, stops}, Rests.few_actors_at_start}
use Rattle.pc_trace.specs.{Traces.{AllTouches, RanOn, TooLongAt, TooManyAt, TouchAt, actor_limit}, declared.touch.Touch.Touch}
use Rattle.pc_refusal_lines.specs.Lines.{many_actors_line, too_long_line}
use Rattle.pc_refusals.specs.{Verdict.{Named, EndsWith, refused}, Source.source_limit}
use Rattle.pc_run_events.specs.Lines.{trace_text}
use Rattle.pc_commands.specs.{Trace.Tracing, Trace.Tracing.{tells, too_long, too_many}}
use Rattle.pc_top.specs.{Commands.Trace.IsTrace, CoresFormed.CoresAreFormed}
use Rattle.pc_top.proofs.Deriving.{accepted_core_safe}
use Rattle.pc_verdicts.proofs.{Clocks.{clocks_are_there, event_at, event_below}, Placing.{Listed, listed_more, listed_none, listed_rest}, Shapes.scheduled_answers, Stages.{Answers, HasEnd, ReadOn, ends_answer}}

module _ (core : CoreData) (list : List ℕ) where
  -- ---- accesses

  abbrev pub place_of : Touch → ℕ
  place_of t = t.place

  abbrev pub Accessed : ℕ → Type 0
  Accessed p = (i : ℕ) × (x : Access) × Event core list p i × (access core (at_place core list p) i ≡ Some x)

  -- All accesses before a place, in order.
  abbrev pub Noted : ℕ → List Touch → Type 0
  Noted n touches = Listed place_of (TouchAt core list) Accessed n touches

  -- An actor has the event of a place, and accesses this or nothing.
  pub unaccessed : (n i : ℕ) → Event core list n i → access core (at_place core list n) i ≡ None → Accessed n → ⊥
  unaccessed n i e none h = none-some h.1 (sym none ∙ subst (λ k. access core (at_place core list n) k ≡ Some h.1) (one_actor core list n h.0 i h.2 e) h.3)

  pub note_touch : (n : ℕ) (touches : List Touch) → Noted n touches → (i : ℕ) → Event core list n i → (x : Access) → access core (at_place core list n) i ≡ Some x
      → (clock : List ℕ) → Clocks core list n clock → Noted (suc n) (touches ++ record { place = suc n; actor = i; address = x.address; field = x.field; write = x.write; clock = clock } ∷ [])
  note_touch n touches h i e x a clock c =
      listed_more place_of (TouchAt core list) Accessed n touches h (record { place = suc n; actor = i; address = x.address; field = x.field; write = x.write; clock = clock }) refl
      (record { event = e; touches = a; clock = c })

  pub skip_touch : (n : ℕ) (touches : List Touch) → Noted n touches → (Accessed n → ⊥) → Noted (suc n) touches
  skip_touch n touches h = listed_rest place_of (TouchAt core list) Accessed n touches h

  module _ (n : ℕ) (touches : List Touch) (h : Noted n touches) where
    by_access : (i : ℕ) → Event core list n i → (o : Option Access) → access core (at_place core list n) i ≡ o → (more : List Touch) × Noted (suc n) more
    by_access i e None a = (touches, skip_touch n touches h (unaccessed n i e a))
    by_access i e (Some x) a =
        let clock = clocks_are_there core list n in
        (touches ++ record { place = suc n; actor = i; address = x.address; field = x.field; write = x.write; clock = clock.0 } ∷ [], note_touch n touches h i e x a clock.0 clock.1)

    next_noted : (more : List Touch) × Noted (suc n) more
    next_noted = elim (event_at core list n) [
      | inl e ↦ by_access e.0 e.2 (access core (at_place core list n) e.0) refl
      | inr none ↦ (touches, skip_touch n touches h (λ a. none (a.0, a.2.actor, a.2)))
    ]

  noted_to : (n : ℕ) → (touches : List Touch) × Noted n touches
  noted_to zero = ([], listed_none place_of (TouchAt core list) Accessed)
  noted_to (suc n) = let r = noted_to n in next_noted n r.0 r.1

  pub all_noted : (touches : List Touch) → Noted (length list) touches → AllTouches core list touches
  all_noted touches h = record {
    each = λ k t e. let x = h.each k t e in (x.0, x.2, x.3);
    order = h.order;
    all = λ p i x e a. h.all p (event_below core list p i e) (i, x, e, a);
  }

  touches_are_there : (touches : List Touch) × AllTouches core list touches
  touches_are_there = let r = noted_to (length list) in (r.0, all_noted r.0 r.1)

  -- ---- how the run ends

  -- Every step goes on, or this one would make a text that is too long.
  pub data Ending : Type 0 where
    through : Live core list (length list) → Ending
    stopped : (n i : ℕ) → Live core list n → slice_get list n ≡ Some i → (step core (at_place core list n) i).0 ≡ TooLong → Ending

  module _ (never : (l : List ℕ) → LacksNothing core (after core l)) where
    module _ (n i : ℕ) (live : Live core list n) (is : slice_get list n ≡ Some i) (on : Live core list (suc n) → Ending) where
      live_next : (slice_get (outcomes core list) n ≡ Some Moved) ⊎ (slice_get (outcomes core list) n ≡ Some Skipped) → Live core list (suc n)
      live_next h m l = elim (cases_lt m n) [
        | inl low ↦ live m low
        | inr high ↦ let same : n ≡ m = omega (arith, l, high) in subst (λ k. (slice_get (outcomes core list) k ≡ Some Moved) ⊎ (slice_get (outcomes core list) k ≡ Some Skipped)) same h
      ]

      by_outcome : (o : Outcome) → (step core (at_place core list n) i).0 ≡ o → Ending
      by_outcome Moved e = on (live_next (inl (outcome_at core list n i live is ∙ ap Some e)))
      by_outcome Skipped e = on (live_next (inr (outcome_at core list n i live is ∙ ap Some e)))
      by_outcome (Lacks l) e = absurd (never (take n list) i l e)
      by_outcome TooLong e = stopped n i live is e

    run_on : (rest n : ℕ) → n + rest ≡ length list → Live core list n → Ending
    run_on zero n count live = let same : n ≡ length list = omega (arith, count) in through (subst (Live core list) same live)
    run_on (suc rest) n count live =
        let i = get_within list n (omega (arith, count)) in
        by_outcome n i.0 live i.1 (λ more. run_on rest (suc n) (omega (arith, count)) more) (step core (at_place core list n) i.0).0 refl

    pub ending : Ending
    ending = run_on (length list) 0 (omega arith) (λ m l. absurd (omega (arith, l)))

  -- ---- how many actors there are

  -- There are no more than a clock may have numbers for, or a step made one too many.
  abbrev pub Counted : ℕ → Type 0
  Counted n = (length (at_place core list n).actors ≤ actor_limit) ⊎ ((m : ℕ) × TooManyAt core list m)

  module _ (n i : ℕ) (e : Event core list n i) (few : length (at_place core list n).actors ≤ actor_limit) where
    by_ahead : (h : Ahead) → ahead_of core (at_place core list n) i ≡ h → Boxes (at_place core list n) (at_place core list (suc n)) i h → Counted (suc n)
    by_ahead ahead.Take is b = let same = b.0 in inl (omega (arith, same, few))
    by_ahead (ahead.Send r) is b = let same = b.0 in inl (omega (arith, same, few))
    by_ahead ahead.Task is b = let same = b.0 in inl (omega (arith, same, few))
    by_ahead ahead.Spawn is b = elim (cases_eq (length (at_place core list n).actors) actor_limit) [
      | inl full ↦ inr (suc n, record { p = n; i = i; place = refl; event = e; spawns = is; full = full })
      | inr room ↦ let next = b.0 in elim (cases_lt (length (at_place core list n).actors) actor_limit) [
        | inl less ↦ inl (omega (arith, next, less))
        | inr more ↦ absurd (room (omega (arith, more, few)))
      ]
    ]
    by_ahead ahead.Skipped is b = absurd b
    by_ahead ahead.Lacks is b = absurd b
    by_ahead ahead.TooLong is b = absurd b

    counted_next : Counted (suc n)
    counted_next = by_ahead (ahead_of core (at_place core list n) i) refl (moving core list n i e).boxes

  by_turn : (n : ℕ) → (slice_get (outcomes core list) n ≡ Some Moved) ⊎ (slice_get (outcomes core list) n ≡ Some Skipped) → length (at_place core list n).actors ≤ actor_limit → Counted (suc n)
  by_turn n (inl e) few = let t = turn core list (start core) n Moved e in counted_next n t.actor (record { actor = t.is; moved = e }) few
  by_turn n (inr e) few = let same = ap (λ (c : Configuration). length c.actors) (resting core list n e).same in inl (omega (arith, same, few))

  pub counted : (n : ℕ) → Live core list n → Counted n
  counted zero live = let few = few_actors_at_start core in inl (omega (arith, few))
  counted (suc n) live = elim (counted n (λ m l. live m (omega (arith, l)))) [
    | inl few ↦ by_turn n (live n (omega arith)) few
    | inr many ↦ inr many
  ]

  -- ---- the three ends

  -- The run went on and there are few actors; or it was ended by a text, with few actors; or there are too many.
  pub data RunEnd : Type 0 where
    ran : RanOn core list → RunEnd
    long : (n : ℕ) → TooLongAt core list n → RunEnd
    many : (n : ℕ) → TooManyAt core list n → RunEnd

  by_ending : Ending → RunEnd
  by_ending (through live) = elim (counted (length list) live) [
    | inl few ↦ ran (record { goes_on = ran_on core list live; few = subst (λ (c : Configuration). length c.actors ≤ actor_limit) (at_end core list) few })
    | inr h ↦ many h.0 h.1
  ]
  by_ending (stopped n i live is e) = elim (counted n live) [
    | inl few ↦ long (n + 1) (ended core list n i TooLong live is e tt (n + 1) refl, subst (λ (c : Configuration). length c.actors ≤ actor_limit) (sym (stops core list n i TooLong live is e tt)) few)
    | inr h ↦ many h.0 h.1
  ]

  pub run_end : Safe core → RunEnd
  run_end safe = by_ending (ending (λ l. (safe l).lacks_nothing))

  -- ---- the stage

  by_end : (name : Text) → Safe core → RunEnd → HasEnd (Tracing name core list)
  by_end name safe (ran h) = let t = touches_are_there in (Ok (trace_text t.0), tells t.0 (trace_text t.0) (h, t.1, earlier_comes_before core safe list) refl)
  by_end name safe (long n h) = (Err (refused 12 (too_long_line name n)), too_long n h)
  by_end name safe (many n h) = (Err (refused 8 (many_actors_line name n)), too_many n h)

  tracing_ends : (name : Text) → Safe core → HasEnd (Tracing name core list)
  tracing_ends name safe = by_end name safe (run_end safe)

pub trace_answers : CoresAreFormed → ValidIsSafe → (source schedule : Named) → ReadOn source_limit source → IsSome source.known → ReadOn schedule_limit schedule → IsSome schedule.known → Answers (IsTrace source schedule)
trace_answers law safe source schedule on known also too =
    scheduled_answers law (λ name core list. EndsWith (Tracing name core list)) source schedule on known also too
    (λ r a h q turns g. ends_answer (λ text. text) (Tracing schedule.name a.source.core (spread turns)) (tracing_ends a.source.core (spread turns) schedule.name (accepted_core_safe law safe h)))
