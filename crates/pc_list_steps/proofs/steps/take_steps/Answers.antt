use Rattle.std.proofs.Common.{◌≡◌, ℕ, get_or, refl, sym, ap, ◌∙◌, subst, arith, length}
use Rattle.pc_core.specs.CoreData.{CoreData}
use Rattle.pc_semantics.specs.{declared.outcome.Outcome.Outcome, Configurations.Configuration, Step.step}
use Rattle.pc_semantics.specs.declared.outcome.Outcome.TheVariants as outcome
use Rattle.pc_list_steps.proofs.{Underway.Underway, Stepping.{begins, is_behind, is_ended, moved, skipped, too_long_end, too_long_behind, never}, steps.take_steps.Goals.{in-Moved, in-Skipped}}
use Rattle.pc_list_steps.proofs.steps.take_steps.Goals as goal

pub loop-at-init : goal.loop-at-init
loop-at-init c = record { underway = begins c.args.machine.core c.args.actors.now c.args.machine.configuration c.requires.started; core = refl }

pub returns-clause-ends : goal.returns-clause-ends
returns-clause-ends c =
    let e : c.loop-at.at ≡ length c.args.actors.now = omega (arith, c.loop-at-test.false, c.loop-at.auto.at-end) in
    let u = subst (λ n. Underway c.args.machine.core c.args.actors.now n c.loop-at.machine.configuration) e c.loop-at.invariant.underway in
    (is_ended c.args.machine.core c.args.actors.now c.loop-at.machine.configuration u, (c.loop-at.invariant.core, is_behind c.args.machine.core c.args.actors.now c.loop-at.machine.configuration u))

-- how the step ended, by the core that is there throughout
stepped : (k core : CoreData) (c d : Configuration) (i : ℕ) (o wanted : Outcome) → k ≡ core → o ≡ wanted → ◌≡◌ {A = Outcome × Configuration} (o, d) (step k c i) → ◌≡◌ {A = Outcome × Configuration} (wanted, d) (step core c i)
stepped k core c d i o wanted same is e = sym (ap (λ (x : Outcome). (x, d)) is) ∙ e ∙ ap (λ (x : CoreData). step x c i) same

pub returns-in-TooLong-clause-ends : goal.returns-in-TooLong-clause-ends
returns-in-TooLong-clause-ends c =
    let n = c.loop-at.at in
    let i = get_or c.args.actors.now n 0 in
    let u = c.loop-at.invariant.underway in
    let e = stepped c.loop-at.machine.core c.args.machine.core c.loop-at.machine.configuration c.step.new.self.configuration i c.in_ok-step.field-0 outcome.TooLong c.loop-at.invariant.core c.in-TooLong.is c.in_ok-step.ensures.ok in (
      too_long_end c.args.machine.core c.args.actors.now n c.loop-at.machine.configuration u c.loop-at-test.true c.requires.few i refl c.step.new.self.configuration e,
      (
        c.in_ok-step.ensures.core ∙ c.loop-at.invariant.core,
        too_long_behind c.args.machine.core c.args.actors.now n c.loop-at.machine.configuration u c.loop-at-test.true c.requires.few i refl c.step.new.self.configuration e,
      ),
    )

pub unreachable-requires : goal.unreachable-requires
unreachable-requires c =
    let n = c.loop-at.at in
    let i = get_or c.args.actors.now n 0 in
    let u = c.loop-at.invariant.underway in
    let e = stepped c.loop-at.machine.core c.args.machine.core c.loop-at.machine.configuration c.step.new.self.configuration i c.in_ok-step.field-0 c.in_ok-step.field-0 c.loop-at.invariant.core refl c.in_ok-step.ensures.ok in
    never c.args.machine.core c.args.actors.now n c.loop-at.machine.configuration u c.loop-at-test.true c.requires.few i refl c.step.new.self.configuration c.requires.never_lacks c.in_ok-step.field-0 e c.in-Lacks.field-0 c.in-Lacks.is

pub loop-at-preserved : goal.loop-at-preserved
loop-at-preserved c =
    let n = c.loop-at.at in
    let i = get_or c.args.actors.now n 0 in
    let u = c.loop-at.invariant.underway in
    let same = c.in_ok-step.ensures.core ∙ c.loop-at.invariant.core in
    elim c.match-branch-2.branch [
      | in-Moved w ↦
          let e = stepped c.loop-at.machine.core c.args.machine.core c.loop-at.machine.configuration c.step.new.self.configuration i c.in_ok-step.field-0 outcome.Moved c.loop-at.invariant.core w.in-Moved.is c.in_ok-step.ensures.ok in
          record { underway = moved c.args.machine.core c.args.actors.now n c.loop-at.machine.configuration u c.loop-at-test.true c.requires.few i refl c.step.new.self.configuration e; core = same }
      | in-Skipped w ↦
          let e = stepped c.loop-at.machine.core c.args.machine.core c.loop-at.machine.configuration c.step.new.self.configuration i c.in_ok-step.field-0 outcome.Skipped c.loop-at.invariant.core w.in-Skipped.is c.in_ok-step.ensures.ok in
          record { underway = skipped c.args.machine.core c.args.actors.now n c.loop-at.machine.configuration u c.loop-at-test.true c.requires.few i refl c.step.new.self.configuration e; core = same }
    ]
