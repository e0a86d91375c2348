-- A run of a core over which no step lacks anything has a verdict.
use Rattle.std.proofs.{Common.{◌≡◌, ◌+◌, ◌⊎◌, ℕ, List, [], ◌∷◌, Option, Some, None, inl, inr, refl, sym, ap, ◌∙◌, subst}, lemmas.Option.same_Some}
use Rattle.pc_core.specs.CoreData.{CoreData}
use Rattle.pc_base.specs.Lists.{Text}
use Rattle.pc_run.specs.Ends.{NeverLacks}
use Rattle.pc_semantics.specs.{Configurations.{Configuration, start}, Step.{followed, outcomes, outcomes_from, run_from, step}, Safety.LacksNothing, Text.{ended_at, run_text}, declared.outcome.Outcome.Outcome, declared.outcome.Outcome.TheVariants.{Moved, Skipped, Lacks, TooLong}}
use Rattle.pc_refusal_lines.specs.Lines.{too_long_line}
use Rattle.pc_refusals.specs.Verdict.{Verdict, done, stopped}
use Rattle.pc_commands.specs.{Run.Ran, Run.Ran.{whole, cut}}

-- The steps did not end the run, or one was too long.
abbrev pub Ended : ℕ → List Outcome → Type 0
Ended n os = (ended_at n os ≡ None) ⊎ ((m : ℕ) × (ended_at n os ≡ Some (m, TooLong)))

behind_step : (core : CoreData) (c : Configuration) (n i : ℕ) (is : List ℕ) → ((more : List ℕ) → LacksNothing core (run_from core c more)) → (s : Outcome × Configuration) → step core c i ≡ s
    → ((d : Configuration) → ((more : List ℕ) → LacksNothing core (run_from core d more)) → Ended (n + 1) (outcomes_from core d is))
    → Ended n (s.0 ∷ followed (λ next. outcomes_from core next is) [] c s)
behind_step core c n i is safe (Moved, next) e rest =
    rest next (λ more. subst (λ (s : Outcome × Configuration). LacksNothing core (followed (λ d. run_from core d more) c c s)) e (safe (i ∷ more)))
behind_step core c n i is safe (Skipped, next) e rest = rest c safe
behind_step core c n i is safe (TooLong, next) e rest = inr (n, refl)
behind_step core c n i is safe (Lacks l, next) e rest = absurd (safe [] i l (ap (λ (s : Outcome × Configuration). s.0) e))

ends : (core : CoreData) (c : Configuration) (n : ℕ) (list : List ℕ) → ((more : List ℕ) → LacksNothing core (run_from core c more)) → Ended n (outcomes_from core c list)
ends core c n [] safe = inl refl
ends core c n (i ∷ is) safe = behind_step core c n i is safe (step core c i) refl (λ d also. ends core d (n + 1) is also)

pub run_ends : (core : CoreData) (list : List ℕ) → NeverLacks core → Ended 1 (outcomes core list)
run_ends core list safe = ends core (start core) 1 list safe

-- Only one step ends it.
pub step_same : (n m : ℕ) (end : Option (ℕ × Outcome)) → end ≡ Some (n, TooLong) → end ≡ Some (m, TooLong) → n ≡ m
step_same n m end p q = ap (λ (x : ℕ × Outcome). x.0) (same_Some (n, TooLong) (m, TooLong) (sym p ∙ q))

-- ---- the verdict

module _ (name : Text) (core : CoreData) (list : List ℕ) where
  -- The run has a verdict, whose text is the run's.
  abbrev pub HasVerdict : Type 0
  HasVerdict = (v : Verdict) × Ran name core list v × (v.out ≡ run_text core list)

  verdict_on : Ended 1 (outcomes core list) → HasVerdict
  verdict_on (inl e) = (done (run_text core list), whole e, refl)
  verdict_on (inr e) = (stopped 12 (run_text core list) (too_long_line name e.0), cut e.0 e.1, refl)

  pub has_verdict : NeverLacks core → HasVerdict
  has_verdict safe = verdict_on (run_ends core list safe)
