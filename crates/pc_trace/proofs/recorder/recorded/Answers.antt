use Rattle.std.proofs.Common.{◌≡◌, length, sym, ap, ◌∙◌, subst, arith}
use Rattle.std.specs.Prelude.{List}
use Rattle.pc_trace.specs.{declared.touch.Touch.Touch, Keeps.first_seats, Reached.Reached}
use Rattle.pc_trace.proofs.Stepping.{reached_start, all_reached}
use Rattle.pc_trace.proofs.recorder.recorded.Goals as goal

pub loop-at-init : goal.loop-at-init
loop-at-init c =
    let core = c.args.core.now in
    let list = c.args.list.now in
    let here = c.in_ok-machine.machine.configuration in
    let seats = c.in_ok-seats.seats in
    record {
      reached = subst (λ (t : List Touch). Reached core list 0 here seats t) (sym c.new-touches.ensures) (reached_start core list here seats c.in_ok-machine.ensures.configuration (c.in_ok-seats.ensures ∙ ap first_seats c.actors.ensures));
      core = c.in_ok-machine.ensures.core;
    }

pub returns : goal.returns
returns c =
    let core = c.args.core.now in
    let list = c.args.list.now in
    let here = c.loop-at.machine.configuration in
    let seats = c.loop-at.seats in
    let touches = c.loop-at.touches in
    let e : c.loop-at.at ≡ length list = omega (arith, c.loop-at-test.false, c.loop-at.auto.at-end) in
    all_reached core list here seats touches (subst (λ n. Reached core list n here seats touches) e c.loop-at.invariant.reached)
