use Rattle.std.proofs.Common.{◌+◌, ◌∙◌, drop}
use Rattle.pc_run.specs.{Spreading.spread, declared.counts.Progress.TheVariants.{Going, TooLong}}
use Rattle.pc_run.proofs.Stepping.{refused, turn_never_lacks, turn_stepped}
use Rattle.pc_run.proofs.turns.take_turn.Goals as goal

pub returns-in_err-outcome-clause-err : goal.returns-in_err-outcome-clause-err
returns-in_err-outcome-clause-err c = refused _ _ _ _ _ _ _ c.loop-step.invariant.1 c.in_err-outcome.ensures.err

pub with_step-requires-clause-lacks_nothing : goal.with_step-requires-clause-lacks_nothing
with_step-requires-clause-lacks_nothing c =
    turn_never_lacks _ _ _ (spread (drop (c.args.at + 1) c.args.turns.now)) _ _ _ _ c.loop-step._step _ _ c.requires.never_lacks c.loop-step.invariant.0 c.loop-step.invariant.1 c.loop-step-test.true c.in_ok-outcome.ensures.ok

pub returns-in-TooLong-clause-ok : goal.returns-in-TooLong-clause-ok
returns-in-TooLong-clause-ok c =
    turn_stepped _ _ _ (spread (drop (c.args.at + 1) c.args.turns.now)) _ _ _ _ c.loop-step._step _ _ c.requires.never_lacks c.loop-step.invariant.0 c.loop-step.invariant.1 c.loop-step-test.true c.in_ok-outcome.ensures.ok (TooLong c.in-TooLong.step) c.in-TooLong.ensures

pub loop-step-preserved : goal.loop-step-preserved
loop-step-preserved c = (
  c.in_ok-outcome.ensures.core ∙ c.loop-step.invariant.0,
  turn_stepped _ _ _ (spread (drop (c.args.at + 1) c.args.turns.now)) _ _ _ _ c.loop-step._step _ _ c.requires.never_lacks c.loop-step.invariant.0 c.loop-step.invariant.1 c.loop-step-test.true c.in_ok-outcome.ensures.ok (Going c.in-Going.next) c.in-Going.ensures,
)
