use Rattle.std.proofs.{Common.arith, lemmas.Result.err_from_is_err_and}
use Rattle.pc_sched.proofs.Reached.{goes_on, nearer, ends_so, stuck_so}
use Rattle.pc_sched.proofs.reading.read_all.Goals as goal

pub returns-in_err-at-clause-err : goal.returns-in_err-at-clause-err
returns-in_err-at-clause-err c =
    let p = err_from_is_err_and c.from_residual.result c.from_residual.ensures.1 in
    rw (p.1, p.2) (stuck_so c.args.text.now c.loop-at.at c.loop-at.total c.loop-at.turns c.loop-at-test.true c.loop-at.invariant c.in_err-at.field-0.0 c.in_err-at.ensures.err)

pub loop-at-smaller : goal.loop-at-smaller
loop-at-smaller c =
    let less = nearer c.args.text.now c.loop-at.at c.loop-at.total c.loop-at.turns c.step.new.turns (c.in_ok-at.field-0-0, c.in_ok-at.field-0-1) c.in_ok-at.ensures.ok in
    omega (arith, less, c.in_ok-at.ensures.moves)

pub loop-at-preserved : goal.loop-at-preserved
loop-at-preserved c =
    goes_on c.args.text.now c.loop-at.at c.loop-at.total c.loop-at.turns c.loop-at-test.true c.loop-at.invariant c.step.new.turns (c.in_ok-at.field-0-0, c.in_ok-at.field-0-1) c.in_ok-at.ensures.ok

pub returns-clause-ok : goal.returns-clause-ok
returns-clause-ok c =
    ends_so c.args.text.now c.loop-at.at c.loop-at.total c.loop-at.turns (omega (arith, c.loop-at-test.false)) c.loop-at.invariant
