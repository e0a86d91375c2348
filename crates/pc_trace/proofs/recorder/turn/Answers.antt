use Rattle.std.proofs.Common.{◌+◌, refl}
use Rattle.pc_trace.proofs.Turning.{turn_full, turn_ends, turn_skips, turn_ready, turn_moves, says_skipped, says_moved}
use Rattle.pc_trace.proofs.recorder.turn.Goals as goal

pub returns-in-Err-clause-err : goal.returns-in-Err-clause-err
returns-in-Err-clause-err c =
    turn_full c.args.machine.now.core c.args.list.now c.args.at c.args.machine.now.configuration c.args.seats.now c.args.touches.now c.requires.reached c.requires.within c.requires.few
    c.ahead-ahead.result c.ahead-ahead.ensures c.actors-actors.result c.actors-actors.ensures _ refl c.in-Err.fault c.in-Err.ensures

pub returns-in-Ok-false-clause-ok : goal.returns-in-Ok-false-clause-ok
returns-in-Ok-false-clause-ok c =
    turn_skips c.args.machine.now.core c.args.list.now c.args.at c.args.machine.now.configuration c.args.seats.now c.args.touches.now c.requires.reached c.requires.within c.requires.few
    c.ahead-ahead.result c.ahead-ahead.ensures c.actors-actors.result c.actors-actors.ensures _ refl c.in_ok-outcome.outcome c.step.new.self.configuration c.in_ok-outcome.ensures.ok
    (says_skipped c.in_ok-outcome.outcome (c.args.at + 1) c.in-Ok-false.field-0 c.in-Ok-false.field-0-test c.in-Ok-false.ensures)

pub returns-in-Err-moved-clause-err : goal.returns-in-Err-moved-clause-err
returns-in-Err-moved-clause-err c =
    turn_ends c.args.machine.now.core c.args.list.now c.args.at c.args.machine.now.configuration c.args.seats.now c.args.touches.now c.requires.reached c.requires.within c.requires.few
    c.ahead-ahead.result c.ahead-ahead.ensures c.actors-actors.result c.actors-actors.ensures _ refl c.in_ok-outcome.outcome c.step.new.self.configuration c.in_ok-outcome.ensures.ok c.in-Err-moved.fault c.in-Err-moved.ensures

pub follow-requires : goal.follow-requires
follow-requires c =
    turn_ready c.args.machine.now.core c.args.list.now c.args.at c.args.machine.now.configuration c.args.seats.now c.args.touches.now c.requires.reached c.requires.within c.requires.few
    c.ahead-ahead.result c.ahead-ahead.ensures c.actors-actors.result c.actors-actors.ensures _ refl c.in_ok-outcome.outcome c.step.new.self.configuration c.in_ok-outcome.ensures.ok
    (says_moved c.in_ok-outcome.outcome (c.args.at + 1) c.in-Ok-true.field-0 c.in-Ok-true.field-0-test c.in-Ok-true.ensures)

pub returns-clause-ok : goal.returns-clause-ok
returns-clause-ok c =
    turn_moves c.args.machine.now.core c.args.list.now c.args.at c.args.machine.now.configuration c.args.seats.now c.args.touches.now c.requires.reached c.requires.within c.requires.few
    c.ahead-ahead.result c.ahead-ahead.ensures c.actors-actors.result c.actors-actors.ensures _ refl c.in_ok-outcome.outcome c.step.new.self.configuration c.in_ok-outcome.ensures.ok
    (says_moved c.in_ok-outcome.outcome (c.args.at + 1) c.in-Ok-true.field-0 c.in-Ok-true.field-0-test c.in-Ok-true.ensures) c.in-Ok.field-0 c.in-Ok.ensures c.follow.new.seats c.in_ok-follow.ensures c.access-access.result c.access-access.ensures
    c.note.new.touches c.in_ok-note.ensures
