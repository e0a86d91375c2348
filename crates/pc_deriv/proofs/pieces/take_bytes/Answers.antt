use Rattle.std.proofs.lemmas.Result.{err_from_is_err_and}
use Rattle.pc_deriv.specs.LineState.{taken_of}
use Rattle.pc_deriv.proofs.Feeding.{quiet_on, next_line, next_fault}
use Rattle.pc_deriv.proofs.pieces.take_bytes.Goals as goal

pub returns-in_err-ended-clause-answer : goal.returns-in_err-ended-clause-answer
returns-in_err-ended-clause-answer c =
    let p = err_from_is_err_and c.from_residual.result c.from_residual.ensures.1 in
    rw (p.1, p.2) (next_fault (taken_of c.args.state.now) c.args.piece.now c.args.at c.loop-stop.stop (taken_of c.loop-stop.state) c.loop-stop.invariant.1 c.loop-stop-test.true
    c.in_err-ended.field-0.0 (taken_of c.take.new.self) c.in_err-ended.ensures.step)

pub returns-in-Some-clause-answer : goal.returns-in-Some-clause-answer
returns-in-Some-clause-answer c =
    next_line (taken_of c.args.state.now) c.args.piece.now c.args.at c.loop-stop.stop (taken_of c.loop-stop.state) c.loop-stop.invariant.1 c.loop-stop-test.true
    c.in-Some.line (taken_of c.take.new.self) (rw c.in-Some.is at c.in_ok-ended.ensures.step)

pub loop-stop-preserved : goal.loop-stop-preserved
loop-stop-preserved c = (
  c.in_ok-ended.ensures.sound,
  quiet_on (taken_of c.args.state.now) c.args.piece.now c.args.at c.loop-stop.stop (taken_of c.loop-stop.state) c.loop-stop.invariant.1 c.loop-stop-test.true
      (taken_of c.take.new.self) (rw c.in-None.is at c.in_ok-ended.ensures.step),
)
