-- From why a run did not reach its end to what is reported of it, and what its verdicts have.
use Rattle.std.proofs.Common.{◌≡◌, ℕ, List, [], Ok, Err, inl, inr, refl, sym, subst, arith}
use Rattle.pc_core.specs.CoreData.{CoreData}
use Rattle.pc_trace.specs.Traces.{TooLongAt, TooManyAt}
use Rattle.pc_base.specs.Lists.{Text}
use Rattle.pc_refusal_lines.specs.Lines.{many_actors_line, too_long_line}
use Rattle.pc_run_events.specs.{Lines.events_text_of_run, declared.events.RunEvent.RunEvent}
use Rattle.pc_refusals.specs.Verdict.{IsAccepting, Verdict, refused}
use Rattle.pc_refusals.proofs.Statuses.{IsLate}
use Rattle.pc_commands.specs.{Events.{AreEventsOfRun, EventsTelling}, Events.EventsTelling.{tells, too_long, too_many}}

module _ (name : Text) (core : CoreData) (list : List ℕ) where
  pub long_told : (n : ℕ) (line : Text) → TooLongAt core list n → line ≡ too_long_line name n → EventsTelling name core list (Err (refused 12 line))
  long_told n line h is = subst (λ (l : Text). EventsTelling name core list (Err (refused 12 l))) (sym is) (too_long n h)

  pub many_told : (n : ℕ) (line : Text) → TooManyAt core list n → line ≡ many_actors_line name n → EventsTelling name core list (Err (refused 8 line))
  many_told n line h is = subst (λ (l : Text). EventsTelling name core list (Err (refused 8 l))) (sym is) (too_many n h)

-- ---- its verdicts

pub telling_late : {name : Text} {core : CoreData} {list : List ℕ} {v : Verdict} → EventsTelling name core list (Err v) → IsLate v.status
telling_late (too_long n h) = inr (inr (inl refl))
telling_late (too_many n h) = inr (inl (omega arith, omega arith))

pub events_say : {name : Text} {core : CoreData} {list : List ℕ} {text : Text} → EventsTelling name core list (Ok text)
    → (events : List RunEvent) × AreEventsOfRun core list events × (text ≡ events_text_of_run core events)
events_say (tells list text h is) = (list, h, is)

eight_refuses : IsAccepting 8 → ⊥
eight_refuses (inl e) = omega (arith, e)
eight_refuses (inr e) = omega (arith, e)

-- if a text ended the run
pub events_cut : {name : Text} {core : CoreData} {list : List ℕ} {v : Verdict} → EventsTelling name core list (Err v) → IsAccepting v.status → (v.status ≡ 12) × (v.out ≡ [])
events_cut (too_long n h) e = (refl, refl)
events_cut (too_many n h) e = absurd (eight_refuses e)
