use Rattle.std.proofs.Common.{rules, ◌≡◌, ℕ, ◌∙◌, Some, None, refl, sym, ap, subst, arith}
use Rattle.pc_run.specs.{declared.counts.Progress.TheVariants.Going, Counting.counted}
use Rattle.pc_choose.specs.{Choosers.step_of, Lists.most_steps}
use Rattle.pc_play.specs.Plays.{IsThrough}
use Rattle.pc_choose.proofs.Underway.{of_same, skipped_ends, too_long_ends, lacks_ends}
use Rattle.pc_play.proofs.UnderPlay.{taken_all, begins, is_full, is_over, goes_on, stops, never_lacks}
use Rattle.pc_play.proofs.playing.take_steps.Goals as goal

pub steps-init : goal.steps-init
steps-init c = record {
  under = begins c.args.machine.now.core c.args.chooser.now.seed c.args.chooser.now.point c.args.machine.now.configuration c.requires.first c.requires.started;
  at = c.requires.at;
  ahead = tt;
  seed = refl;
  core = refl;
}

pub returns-in-None-clause-through : goal.returns-in-None-clause-through
returns-in-None-clause-through c =
    subst (λ (m : ℕ). IsThrough c.args.machine.now.core c.args.chooser.now.seed c.step_on.new.machine.configuration (Going (record { moved = m; skipped = 0 })) c.steps.step) (sym c.from.ensures) (is_over c.args.machine.now.core c.args.chooser.now.seed c.steps.step c.steps.chooser.point c.steps.machine.configuration c.steps.invariant.under c.steps-test.true c.step_on.new.self.point c.step_on.new.machine.configuration
    (of_same c.args.machine.now.core c.steps.machine.core c.args.chooser.now.seed c.steps.chooser.seed c.steps.chooser.point c.steps.machine.configuration c.step_on.new.self.point c.step_on.new.machine.configuration (step_of c.in_ok-taken.field-0) None c.steps.invariant.core c.steps.invariant.seed (ap step_of c.in-None.is) c.in_ok-taken.ensures.advances))

pub returns-clause-through : goal.returns-clause-through
returns-clause-through c =
    let full : c.steps.step ≡ most_steps = omega (arith, c.steps-test.false) in
    subst (λ (m : ℕ). IsThrough c.args.machine.now.core c.args.chooser.now.seed c.steps.machine.configuration (Going (record { moved = m; skipped = 0 })) most_steps) (sym c.from-2.ensures)
    (subst (λ (n : ℕ). IsThrough c.args.machine.now.core c.args.chooser.now.seed c.steps.machine.configuration (Going (taken_all n)) n) full
    (is_full c.args.machine.now.core c.args.chooser.now.seed c.steps.step c.steps.chooser.point c.steps.machine.configuration c.steps.invariant.under (omega (arith, c.steps-test.false))))

pub returns-in-Skipped-clause-through : goal.returns-in-Skipped-clause-through
returns-in-Skipped-clause-through c =
    stops c.args.machine.now.core c.args.chooser.now.seed c.steps.step c.steps.chooser.point c.steps.machine.configuration c.steps.invariant.under c.steps-test.true c.step_on.new.self.point c.step_on.new.machine.configuration c.in-Some.taken.step
    (of_same c.args.machine.now.core c.steps.machine.core c.args.chooser.now.seed c.steps.chooser.seed c.steps.chooser.point c.steps.machine.configuration c.step_on.new.self.point c.step_on.new.machine.configuration (step_of c.in_ok-taken.field-0) (Some c.in-Some.taken.step) c.steps.invariant.core c.steps.invariant.seed (ap step_of c.in-Some.is) c.in_ok-taken.ensures.advances)
    c.requires.never_lacks (skipped_ends c.in-Some.taken.step.outcome c.in-Skipped.is) c.with_step.result (c.with_step.ensures ∙ ap (λ (m : ℕ). counted (record { moved = m; skipped = 0 }) c.in-Some.taken.step.outcome) c.from.ensures)

pub returns-in-TooLong-clause-through : goal.returns-in-TooLong-clause-through
returns-in-TooLong-clause-through c =
    stops c.args.machine.now.core c.args.chooser.now.seed c.steps.step c.steps.chooser.point c.steps.machine.configuration c.steps.invariant.under c.steps-test.true c.step_on.new.self.point c.step_on.new.machine.configuration c.in-Some.taken.step
    (of_same c.args.machine.now.core c.steps.machine.core c.args.chooser.now.seed c.steps.chooser.seed c.steps.chooser.point c.steps.machine.configuration c.step_on.new.self.point c.step_on.new.machine.configuration (step_of c.in_ok-taken.field-0) (Some c.in-Some.taken.step) c.steps.invariant.core c.steps.invariant.seed (ap step_of c.in-Some.is) c.in_ok-taken.ensures.advances)
    c.requires.never_lacks (too_long_ends c.in-Some.taken.step.outcome c.in-TooLong.is) c.with_step-in-TooLong.result (c.with_step-in-TooLong.ensures ∙ ap (λ (m : ℕ). counted (record { moved = m; skipped = 0 }) c.in-Some.taken.step.outcome) c.from.ensures)

pub returns-in-Lacks-clause-through : goal.returns-in-Lacks-clause-through
returns-in-Lacks-clause-through c =
    stops c.args.machine.now.core c.args.chooser.now.seed c.steps.step c.steps.chooser.point c.steps.machine.configuration c.steps.invariant.under c.steps-test.true c.step_on.new.self.point c.step_on.new.machine.configuration c.in-Some.taken.step
    (of_same c.args.machine.now.core c.steps.machine.core c.args.chooser.now.seed c.steps.chooser.seed c.steps.chooser.point c.steps.machine.configuration c.step_on.new.self.point c.step_on.new.machine.configuration (step_of c.in_ok-taken.field-0) (Some c.in-Some.taken.step) c.steps.invariant.core c.steps.invariant.seed (ap step_of c.in-Some.is) c.in_ok-taken.ensures.advances)
    c.requires.never_lacks (lacks_ends c.in-Some.taken.step.outcome c.in-Lacks.field-0 c.in-Lacks.is) c.with_step-in-Lacks.result (c.with_step-in-Lacks.ensures ∙ ap (λ (m : ℕ). counted (record { moved = m; skipped = 0 }) c.in-Some.taken.step.outcome) c.from.ensures)

pub with_step-requires-in-Lacks-clause-lacks_nothing : goal.with_step-requires-in-Lacks-clause-lacks_nothing
with_step-requires-in-Lacks-clause-lacks_nothing c =
    never_lacks c.args.machine.now.core c.args.chooser.now.seed c.steps.step c.steps.chooser.point c.steps.machine.configuration c.steps.invariant.under c.steps-test.true c.step_on.new.self.point c.step_on.new.machine.configuration c.in-Some.taken.step
    (of_same c.args.machine.now.core c.steps.machine.core c.args.chooser.now.seed c.steps.chooser.seed c.steps.chooser.point c.steps.machine.configuration c.step_on.new.self.point c.step_on.new.machine.configuration (step_of c.in_ok-taken.field-0) (Some c.in-Some.taken.step) c.steps.invariant.core c.steps.invariant.seed (ap step_of c.in-Some.is) c.in_ok-taken.ensures.advances)
    c.requires.never_lacks

pub steps-preserved : goal.steps-preserved
steps-preserved c = record {
  under =
      goes_on c.args.machine.now.core c.args.chooser.now.seed c.steps.step c.steps.chooser.point c.steps.machine.configuration c.steps.invariant.under c.steps-test.true c.step_on.new.self.point c.step_on.new.machine.configuration c.in-Some.taken.step
      (of_same c.args.machine.now.core c.steps.machine.core c.args.chooser.now.seed c.steps.chooser.seed c.steps.chooser.point c.steps.machine.configuration c.step_on.new.self.point c.step_on.new.machine.configuration (step_of c.in_ok-taken.field-0) (Some c.in-Some.taken.step) c.steps.invariant.core c.steps.invariant.seed (ap step_of c.in-Some.is) c.in_ok-taken.ensures.advances)
      c.requires.never_lacks c.in-Moved.is;
  at = search rules;
  ahead = search rules;
  seed = c.step_on.ensures.seed ∙ c.steps.invariant.seed;
  core = c.step_on.ensures.core ∙ c.steps.invariant.core;
}
