use Rattle.std.proofs.Common.{◌+◌, ap, refl}
use Rattle.pc_run_events.specs.{Events.touches_in, declared.sight.Sight.Sight}
use Rattle.pc_run_events.proofs.Turning.{row_there, touches_made, under_moves, under_skips}
use Rattle.pc_run_events.proofs.recorder.turn.Goals as goal
use Rattle.pc_trace.proofs.Turning.{says_moved, says_skipped, turn_ends, turn_full, turn_moves, turn_ready, turn_skips}

pub returns-in-Err-clause-err : goal.returns-in-Err-clause-err
returns-in-Err-clause-err c =
    let kind = ap (λ (s : Sight). s.ahead) c.look-seen.ensures in
    let count = ap (λ (s : Sight). s.actors) c.look-seen.ensures in
    turn_full c.args.machine.now.core c.args.list.now c.args.at c.args.machine.now.configuration c.args.seats.now (touches_in c.args.events.now) c.requires.under.reached c.requires.within c.requires.few
    c.look-seen.result.ahead kind c.look-seen.result.actors count _ refl c.in-Err.fault c.in-Err.ensures

pub returns-in-Ok-false-clause-ok : goal.returns-in-Ok-false-clause-ok
returns-in-Ok-false-clause-ok c =
    let kind = ap (λ (s : Sight). s.ahead) c.look-seen.ensures in
    let count = ap (λ (s : Sight). s.actors) c.look-seen.ensures in
    let skipped = says_skipped c.in_ok-outcome.outcome (c.args.at + 1) c.in-Ok-false.field-0 c.in-Ok-false.field-0-test c.in-Ok-false.ensures in
    under_skips c.args.machine.now.core c.args.list.now c.args.at c.args.machine.now.configuration c.args.seats.now c.args.posts.now c.args.events.now c.requires.under c.requires.within
    c.in_ok-outcome.outcome c.step.new.self.configuration c.in_ok-outcome.ensures.ok skipped
    (turn_skips c.args.machine.now.core c.args.list.now c.args.at c.args.machine.now.configuration c.args.seats.now (touches_in c.args.events.now) c.requires.under.reached c.requires.within c.requires.few
    c.look-seen.result.ahead kind c.look-seen.result.actors count _ refl c.in_ok-outcome.outcome c.step.new.self.configuration c.in_ok-outcome.ensures.ok skipped)

pub returns-in-Err-moved-clause-err : goal.returns-in-Err-moved-clause-err
returns-in-Err-moved-clause-err c =
    let kind = ap (λ (s : Sight). s.ahead) c.look-seen.ensures in
    let count = ap (λ (s : Sight). s.actors) c.look-seen.ensures in
    turn_ends c.args.machine.now.core c.args.list.now c.args.at c.args.machine.now.configuration c.args.seats.now (touches_in c.args.events.now) c.requires.under.reached c.requires.within c.requires.few
    c.look-seen.result.ahead kind c.look-seen.result.actors count _ refl c.in_ok-outcome.outcome c.step.new.self.configuration c.in_ok-outcome.ensures.ok c.in-Err-moved.fault c.in-Err-moved.ensures

pub follow-requires : goal.follow-requires
follow-requires c =
    let kind = ap (λ (s : Sight). s.ahead) c.look-seen.ensures in
    let count = ap (λ (s : Sight). s.actors) c.look-seen.ensures in
    turn_ready c.args.machine.now.core c.args.list.now c.args.at c.args.machine.now.configuration c.args.seats.now (touches_in c.args.events.now) c.requires.under.reached c.requires.within c.requires.few
    c.look-seen.result.ahead kind c.look-seen.result.actors count _ refl c.in_ok-outcome.outcome c.step.new.self.configuration c.in_ok-outcome.ensures.ok
    (says_moved c.in_ok-outcome.outcome (c.args.at + 1) c.in-Ok-true.field-0 c.in-Ok-true.field-0-test c.in-Ok-true.ensures)

pub post-requires : goal.post-requires
post-requires c =
    row_there c.args.machine.now.core c.args.list.now c.args.at c.args.machine.now.configuration c.args.seats.now c.args.posts.now c.args.events.now c.requires.under c.requires.within
    c.in_ok-outcome.outcome c.step.new.self.configuration c.in_ok-outcome.ensures.ok (says_moved c.in_ok-outcome.outcome (c.args.at + 1) c.in-Ok-true.field-0 c.in-Ok-true.field-0-test c.in-Ok-true.ensures)
    c.look-seen.result c.look-seen.ensures

pub returns-clause-ok : goal.returns-clause-ok
returns-clause-ok c =
    let kind = ap (λ (s : Sight). s.ahead) c.look-seen.ensures in
    let count = ap (λ (s : Sight). s.actors) c.look-seen.ensures in
    let access = ap (λ (s : Sight). s.access) c.look-seen.ensures in
    let moved = says_moved c.in_ok-outcome.outcome (c.args.at + 1) c.in-Ok-true.field-0 c.in-Ok-true.field-0-test c.in-Ok-true.ensures in
    let made =
    touches_made c.args.machine.now.core c.args.list.now c.args.at c.args.machine.now.configuration c.args.seats.now c.args.posts.now c.args.events.now c.requires.under c.requires.within
    c.in_ok-outcome.outcome c.step.new.self.configuration c.in_ok-outcome.ensures.ok moved c.look-seen.result c.look-seen.ensures _ refl
    c.follow.new.seats c.in_ok-follow.ensures c.in_ok-sent.sent c.in_ok-sent.ensures.sent c.deed_after-deed.result c.deed_after-deed.ensures c.note.new.events c.in_ok-note.ensures
    in
    under_moves c.args.machine.now.core c.args.list.now c.args.at c.args.machine.now.configuration c.args.seats.now c.args.posts.now c.args.events.now c.requires.under c.requires.within
    c.in_ok-outcome.outcome c.step.new.self.configuration c.in_ok-outcome.ensures.ok moved c.look-seen.result c.look-seen.ensures _ refl
    c.follow.new.seats c.in_ok-follow.ensures c.in_ok-sent.sent c.in_ok-sent.ensures.sent c.deed_after-deed.result c.deed_after-deed.ensures c.note.new.events c.in_ok-note.ensures
    c.post.new.posts c.in_ok-sent.ensures.posts
    (turn_moves c.args.machine.now.core c.args.list.now c.args.at c.args.machine.now.configuration c.args.seats.now (touches_in c.args.events.now) c.requires.under.reached c.requires.within c.requires.few
    c.look-seen.result.ahead kind c.look-seen.result.actors count _ refl c.in_ok-outcome.outcome c.step.new.self.configuration c.in_ok-outcome.ensures.ok moved
    c.in-Ok.field-0 c.in-Ok.ensures c.follow.new.seats c.in_ok-follow.ensures c.look-seen.result.access access (touches_in c.note.new.events) made)
