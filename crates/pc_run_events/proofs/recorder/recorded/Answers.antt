use Rattle.std.proofs.Common.{◌≡◌, length, ap, ◌∙◌, subst, arith}
use Rattle.pc_run_events.specs.Kept.{Under, first_posts}
use Rattle.pc_run_events.proofs.Turning.{all_under, under_start}
use Rattle.pc_run_events.proofs.recorder.recorded.Goals as goal
use Rattle.pc_trace.specs.Keeps.{first_seats}

pub loop-at-init : goal.loop-at-init
loop-at-init c =
    let core = c.args.core.now in
    let list = c.args.list.now in
    let here = c.in_ok-machine.machine.configuration in
    record {
      under =
          under_start core list here c.in_ok-seats.seats c.in_ok-posts.posts c.new-events.result c.in_ok-machine.ensures.configuration (c.in_ok-seats.ensures ∙ ap first_seats c.actors.ensures)
          (c.in_ok-posts.ensures ∙ ap first_posts c.actors-2.ensures) c.new-events.ensures;
      core = c.in_ok-machine.ensures.core;
    }

pub returns : goal.returns
returns c =
    let core = c.args.core.now in
    let list = c.args.list.now in
    let e : c.loop-at.at ≡ length list = omega (arith, c.loop-at-test.false, c.loop-at.auto.at-end) in
    all_under core list c.loop-at.machine.configuration c.loop-at.seats c.loop-at.posts c.loop-at.events
    (subst (λ n. Under core list n c.loop-at.machine.configuration c.loop-at.seats c.loop-at.posts c.loop-at.events) e c.loop-at.invariant.under)
