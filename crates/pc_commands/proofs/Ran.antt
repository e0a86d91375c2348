-- A run of a core: its status, its text, and that any two verdicts on it are equal.
use Rattle.std.proofs.{Common.{◌≡◌, ℕ, List, inl, inr, refl, sym, ap, ◌∙◌}, lemmas.Option.none-some}
use Rattle.pc_base.specs.Lists.{Text}
use Rattle.pc_core.specs.CoreData.{CoreData}
use Rattle.pc_semantics.specs.{Step.outcomes, Text.{end_of, run_text}, declared.outcome.Outcome.TheVariants.TooLong}
use Rattle.pc_refusal_lines.specs.Lines.{too_long_line}
use Rattle.pc_refusals.specs.Verdict.{Verdict, stopped}
use Rattle.pc_refusals.proofs.Statuses.{IsLate}
use Rattle.pc_commands.specs.{Run.Ran, Run.Ran.{whole, cut}}
use Rattle.pc_commands.proofs.RunEnds.{step_same}

pub ran_late : (name : Text) (core : CoreData) (list : List ℕ) (v : Verdict) → Ran name core list v → IsLate v.status
ran_late name core list _ (whole h) = inl refl
ran_late name core list _ (cut n h) = inr (inr (inl refl))

pub ran_says : {name : Text} {core : CoreData} {list : List ℕ} {v : Verdict} → Ran name core list v → v.out ≡ run_text core list
ran_says (whole h) = refl
ran_says (cut n h) = refl

pub one_ran : (name : Text) (core : CoreData) (list : List ℕ) (v w : Verdict) → Ran name core list v → Ran name core list w → v ≡ w
one_ran name core list _ _ (whole h) (whole k) = refl
one_ran name core list _ _ (whole h) (cut n k) = absurd (none-some (n, TooLong) (sym h ∙ k))
one_ran name core list _ _ (cut n h) (whole k) = absurd (none-some (n, TooLong) (sym k ∙ h))
one_ran name core list _ _ (cut n h) (cut m k) =
    ap (λ (x : ℕ). stopped 12 (run_text core list) (too_long_line name x)) (step_same n m (end_of (outcomes core list)) h k)

-- Under another name for the schedule it has the same status and writes the same text.
pub ran_same : (name other : Text) (core : CoreData) (list : List ℕ) (v w : Verdict) → Ran name core list v → Ran other core list w → (v.status ≡ w.status) × (v.out ≡ w.out)
ran_same name other core list _ _ (whole h) (whole k) = (refl, refl)
ran_same name other core list _ _ (whole h) (cut n k) = absurd (none-some (n, TooLong) (sym h ∙ k))
ran_same name other core list _ _ (cut n h) (whole k) = absurd (none-some (n, TooLong) (sym k ∙ h))
ran_same name other core list _ _ (cut n h) (cut m k) = (refl, refl)
