-- From the result of tracing a run to what is reported of it, and what its verdicts have.
use Rattle.std.proofs.Common.{◌≡◌, ℕ, List, [], Ok, Err, inl, inr, refl, sym, subst, arith}
use Rattle.pc_core.specs.CoreData.{CoreData}
use Rattle.pc_trace.specs.{Traces.{TooLongAt, TooManyAt}, declared.touch.Touch.Touch}
use Rattle.pc_base.specs.Lists.{Text}
use Rattle.pc_refusal_lines.specs.Lines.{many_actors_line, too_long_line}
use Rattle.pc_run_events.specs.Lines.{trace_text}
use Rattle.pc_refusals.specs.Verdict.{IsAccepting, Verdict, refused}
use Rattle.pc_refusals.proofs.Statuses.{IsLate}
use Rattle.pc_commands.specs.{Trace.{Traced, Tracing}, Trace.Tracing.{tells, too_long, too_many}}

module _ (name : Text) (core : CoreData) (list : List ℕ) where
  pub long_told : (n : ℕ) (line : Text) → TooLongAt core list n → line ≡ too_long_line name n → Tracing name core list (Err (refused 12 line))
  long_told n line h is = subst (λ (l : Text). Tracing name core list (Err (refused 12 l))) (sym is) (too_long n h)

  pub many_told : (n : ℕ) (line : Text) → TooManyAt core list n → line ≡ many_actors_line name n → Tracing name core list (Err (refused 8 line))
  many_told n line h is = subst (λ (l : Text). Tracing name core list (Err (refused 8 l))) (sym is) (too_many n h)

-- ---- its verdicts

pub tracing_late : {name : Text} {core : CoreData} {list : List ℕ} {v : Verdict} → Tracing name core list (Err v) → IsLate v.status
tracing_late (too_long n h) = inr (inr (inl refl))
tracing_late (too_many n h) = inr (inl (omega arith, omega arith))

pub trace_says : {name : Text} {core : CoreData} {list : List ℕ} {text : Text} → Tracing name core list (Ok text) → (touches : List Touch) × Traced core list touches × (text ≡ trace_text touches)
trace_says (tells touches text h is) = (touches, h, is)

eight_refuses : IsAccepting 8 → ⊥
eight_refuses (inl e) = omega (arith, e)
eight_refuses (inr e) = omega (arith, e)

-- if a text ended the run
pub trace_cut : {name : Text} {core : CoreData} {list : List ℕ} {v : Verdict} → Tracing name core list (Err v) → IsAccepting v.status → (v.status ≡ 12) × (v.out ≡ [])
trace_cut (too_long n h) e = (refl, refl)
trace_cut (too_many n h) e = absurd (eight_refuses e)
