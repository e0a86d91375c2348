-- Any two verdicts on the events of a run are equal: there is only one list of events.
use Rattle.std.proofs.{Common.{◌≡◌, ◌<◌, ℕ, suc, List, Some, Ok, Err, sym, ap, ◌∙◌, subst, arith}, lemmas.Option.{none-some, same_Some}}
use Rattle.pc_core.specs.CoreData.{CoreData}
use Rattle.pc_base.specs.Lists.{Has, Text}
use Rattle.pc_run_events.specs.{Events.{AllEvents, Does, EventAt}, Lines.events_text_of_run, declared.events.Deed.Deed, declared.events.RunEvent.RunEvent}
use Rattle.pc_run_events.proofs.One.{one_deed}
use Rattle.pc_semantics.specs.{Step.outcomes, Text.end_of}
use Rattle.pc_semantics.specs.declared.outcome.Outcome.TheVariants as outcome
use Rattle.pc_refusals.specs.{Ends.HasOneEnd, Verdict.refused}
use Rattle.pc_refusal_lines.specs.Lines.{many_actors_line, too_long_line}
use Rattle.pc_commands.specs.{Events.EventsTelling, Events.EventsTelling.{tells, too_long, too_many}}
use Rattle.pc_commands.proofs.{InOrder.{less_apart, order_one}, Crowding.one_crowd, RunEnds.step_same, OneTrace.{crowd_apart, one_clock}}

with_deed : ℕ → ℕ → Deed → List ℕ → RunEvent
with_deed p i d c = record { place = p; actor = i; deed = d; clock = c }

event_same : (t u : RunEvent) → t.place ≡ u.place → t.actor ≡ u.actor → t.deed ≡ u.deed → t.clock ≡ u.clock → t ≡ u
unfolding with_deed
event_same t u e f g h =
    ap (λ (p : ℕ). with_deed p t.actor t.deed t.clock) e ∙ ap (λ (i : ℕ). with_deed u.place i t.deed t.clock) f
    ∙ ap (λ (d : Deed). with_deed u.place u.actor d t.clock) g ∙ ap (λ (c : List ℕ). with_deed u.place u.actor u.deed c) h

one_event : (core : CoreData) (list : List ℕ) (p : ℕ) (t u : RunEvent) → t.place ≡ u.place → EventAt core list p t → EventAt core list p u → t ≡ u
one_event core list p t u e a b =
    let actor : t.actor ≡ u.actor = same_Some t.actor u.actor (sym a.event.actor ∙ b.event.actor) in
    let does : Does core list p t.actor u.deed = subst (λ (i : ℕ). Does core list p i u.deed) (sym actor) b.does in
    event_same t u e actor (one_deed core list p t.actor a.event t.deed u.deed a.does does) (one_clock core list p t.clock u.clock a.clock b.clock)

module _ (core : CoreData) (list : List ℕ) where
  within : (xs ys : List RunEvent) → AllEvents core list xs → AllEvents core list ys → (t : RunEvent) → Has xs t → Has ys t
  within xs ys a b t h =
      let r = a.each h.0 t h.1 in
      let found = b.all r.0 t.actor t.deed r.2.event r.2.does in
      let u = found.1 in
      let s = b.each found.0 u found.2 in
      let places : r.0 ≡ s.0 = before r.0 s.0 u.place found.3 s.1 in
      let there : EventAt core list r.0 u = subst (λ (p : ℕ). EventAt core list p u) (sym places) s.2 in
      let same : t ≡ u = one_event core list r.0 t u (r.1 ∙ sym found.3) r.2 there in
      (found.0, found.2 ∙ ap (λ (x : RunEvent). Some x) (sym same))
    where
      before : (p q n : ℕ) → n ≡ suc p → n ≡ suc q → p ≡ q
      before p q n e f = omega (arith, e, f)

  apart : (t u : RunEvent) → t.place < u.place → u.place < t.place → ⊥
  apart t u l m = less_apart t.place u.place l m

  one_list : (xs ys : List RunEvent) → AllEvents core list xs → AllEvents core list ys → xs ≡ ys
  one_list xs ys a b = order_one (λ (t u : RunEvent). t.place < u.place) apart xs ys a.order b.order (within xs ys a b) (within ys xs b a)

  pub one_telling : (name : Text) → HasOneEnd (EventsTelling name core list)
  one_telling name _ _ (tells xs x h e) (tells ys y k f) =
      ap (λ (text : Text). Ok text) (e ∙ ap (events_text_of_run core) (one_list xs ys h.1 k.1) ∙ sym f)
  one_telling name _ _ (tells xs x h e) (too_long n k) = absurd (none-some (n, outcome.TooLong) (sym h.0.goes_on ∙ k.0))
  one_telling name _ _ (tells xs x h e) (too_many n k) = absurd (crowd_apart core list n k h.0.few)
  one_telling name _ _ (too_long n h) (tells ys y k f) = absurd (none-some (n, outcome.TooLong) (sym k.0.goes_on ∙ h.0))
  one_telling name _ _ (too_long n h) (too_long m k) = ap (λ (x : ℕ). Err (refused 12 (too_long_line name x))) (step_same n m (end_of (outcomes core list)) h.0 k.0)
  one_telling name _ _ (too_long n h) (too_many m k) = absurd (crowd_apart core list m k h.1)
  one_telling name _ _ (too_many n h) (tells ys y k f) = absurd (crowd_apart core list n h k.0.few)
  one_telling name _ _ (too_many n h) (too_long m k) = absurd (crowd_apart core list n h k.1)
  one_telling name _ _ (too_many n h) (too_many m k) = ap (λ (x : ℕ). Err (refused 8 (many_actors_line name x))) (one_crowd core list n m h k)
