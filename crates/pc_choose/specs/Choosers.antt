-- Choosers: the state of a choice.
use Rattle.std.specs.{Prelude.{◌≡◌, ℕ, ◌*◌, List, Option, Some, None, IfSome, IsSomeAnd, refl}, Coded.{Coded, code_by, coded×, coded_list, coded_ℕ}}
use Rattle.pc_core.specs.CoreData.{CoreData}
use Rattle.pc_semantics.specs.{declared.ahead.Ahead.Ahead, declared.outcome.Outcome.Outcome, Ahead.ahead_of, Configurations.Configuration, Step.step}
use Rattle.pc_draws.specs.Draws.{state}
use Rattle.pc_choose.specs.{declared.point.Point.Point, declared.step.Onward.Onward, declared.step.Step.Step, Choice.{turn, stepped}, Marks.marks_of}
use Rattle.pc_choose.specs.contracts.point.Point as point

-- The seed, the state of its draws, the point, and the marks of the able actors.
pub record ChooserData : Type 0 where
  pub seed : ℕ
  pub drawn : ℕ
  pub point : Point
  pub marks : List ℕ

abbrev pub coded_chooser : Coded ChooserData
coded_chooser =
    code_by (ℕ × (ℕ × (Point × List ℕ))) (coded× coded_ℕ (coded× coded_ℕ (coded× point.the_row.coded (coded_list coded_ℕ))))
    (λ c. (c.seed, (c.drawn, (c.point, c.marks)))) (λ p. record { seed = p.0; drawn = p.1.0; point = p.1.1.0; marks = p.1.1.1 }) (λ _. refl)

-- The chooser is at a configuration: two numbers have been drawn for each turn that began, and it knows who is able.
pub record IsAt (chooser : ChooserData) (c : Configuration) : Type 0 where
  pub drawn : chooser.drawn ≡ state chooser.seed (2 * chooser.point.turns)
  pub marks : chooser.marks ≡ marks_of c

-- From point p and configuration c to q and d: it is no one's turn, or the actor whose turn it is took its step.
abbrev pub Advances : CoreData → (seed : ℕ) → Point → Configuration → Point → Configuration → Option Step → Type 0
Advances core seed p c q d None = (turn seed p c ≡ None) × (d ≡ c)
Advances core seed p c q d (Some taken) = IsSomeAnd (turn seed p c) (λ t. (taken.actor ≡ t.actor) × (q ≡ stepped t) × (◌≡◌ {A = Outcome × Configuration} (taken.outcome, d) (step core c taken.actor)))

-- The step alone, if one was taken.
abbrev pub step_of : Option Onward → Option Step
step_of None = None
step_of (Some onward) = Some onward.step

-- This is actor i's next step, if it is known.
abbrev pub IsKnown : CoreData → Configuration → (i : ℕ) → Option Ahead → Type 0
IsKnown core c i known = IfSome known (λ ahead. ahead ≡ ahead_of core c i)
