-- The list of steps of a seed.
use Rattle.std.specs.Prelude.{◌≡◌, ℕ, zero, suc, List, [], ◌∷◌, None, IsSomeAnd}
use Rattle.pc_core.specs.CoreData.{CoreData}
use Rattle.pc_semantics.specs.{declared.outcome.Outcome.Outcome, declared.outcome.Outcome.TheVariants.{Moved, Skipped, Lacks, TooLong}, Configurations.{Configuration, start}, Step.step}
use Rattle.pc_sched.specs.Schedules.{turn_limit}
use Rattle.pc_choose.specs.{declared.point.Point.Point, Choice.{turn, stepped, at_first}}

-- the greatest number of steps of a list: as many as a schedule may have
abbrev pub most_steps : ℕ
most_steps = turn_limit

-- After a step that moved, the rest continues as stated; after any other step there is none.
abbrev pub AfterStep : (Configuration → Type 0) → List ℕ → Outcome × Configuration → Type 0
AfterStep goes_on rest (Moved, d) = goes_on d
AfterStep goes_on rest (Skipped, d) = rest ≡ []
AfterStep goes_on rest (Lacks l, d) = rest ≡ []
AfterStep goes_on rest (TooLong, d) = rest ≡ []

-- From configuration c on, with room for this number of steps: each step is taken by the actor whose turn it is, and
-- the list ends when it is no one's turn.
abbrev pub Follows : CoreData → (seed room : ℕ) → Point → Configuration → List ℕ → Type 0
Follows core seed zero p c list = list ≡ []
Follows core seed (suc room) p c [] = turn seed p c ≡ None
Follows core seed (suc room) p c (i ∷ is) =
    IsSomeAnd (turn seed p c) (λ q. (i ≡ q.actor) × AfterStep (λ d. Follows core seed room (stepped q) d is) is (step core c i))

-- The list of the seed.
abbrev pub Chosen : CoreData → (seed : ℕ) → List ℕ → Type 0
Chosen core seed list = Follows core seed most_steps at_first (start core) list
