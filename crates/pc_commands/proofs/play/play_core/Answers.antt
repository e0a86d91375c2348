use Rattle.std.proofs.{Common.{[], inr}, lemmas.Result.err_from_is_err_and}
use Rattle.pc_io.specs.Sink.{change}
use Rattle.pc_commands.proofs.{Chosen.{chosen_part, chosen_told}, RanEnds.{cut_part, cut_told, run_part, run_told}}
use Rattle.pc_commands.proofs.play.play_core.Goals as goal

pub returns-in-Ok-clause-ends : goal.returns-in-Ok-clause-ends
returns-in-Ok-clause-ends g c =
    let out = change (g.O.Sink.written c.args.out.now) (g.O.Sink.written c.play.new.out) (g.O.Sink.faults c.args.out.now) (g.O.Sink.faults c.play.new.out) in
    let p = c.in-Ok.ensures.played in
    chosen_told c.args.name.now c.args.core.now c.args.seed p.list p.chosen out 0 [] (run_told c.args.name.now c.args.core.now p.list out c.in-Ok.field-0 p.answers p.writes)

pub returns-in_err-make_too_long_line-in-Err-TooLong-clause-ends :
    goal.returns-in_err-make_too_long_line-in-Err-TooLong-clause-ends
returns-in_err-make_too_long_line-in-Err-TooLong-clause-ends g c =
    let q = err_from_is_err_and c.from_residual.result c.from_residual.ensures.1 in
    let out = change (g.O.Sink.written c.args.out.now) (g.O.Sink.written c.play.new.out) (g.O.Sink.faults c.args.out.now) (g.O.Sink.faults c.play.new.out) in
    let p = rw c.in-Err-TooLong.field-0-is at c.in-Err-TooLong.ensures.played in
    rw (q.1, q.2)
    (inr (chosen_part c.args.name.now c.args.core.now c.args.seed p.list p.chosen out (cut_part c.args.name.now c.args.core.now p.list out c.in-Err-TooLong.step p.answers p.writes)))

pub returns-in_ok-make_too_long_line-in-Err-TooLong-clause-ends : goal.returns-in_ok-make_too_long_line-in-Err-TooLong-clause-ends
returns-in_ok-make_too_long_line-in-Err-TooLong-clause-ends g c =
    let line = c.in_ok-make_too_long_line-in-Err-TooLong.field-0 in
    let out = change (g.O.Sink.written c.args.out.now) (g.O.Sink.written c.play.new.out) (g.O.Sink.faults c.args.out.now) (g.O.Sink.faults c.play.new.out) in
    let p = rw c.in-Err-TooLong.field-0-is at c.in-Err-TooLong.ensures.played in
    chosen_told c.args.name.now c.args.core.now c.args.seed p.list p.chosen out 12 line
    (cut_told c.args.name.now c.args.core.now p.list out c.in-Err-TooLong.step line p.answers c.in_ok-make_too_long_line-in-Err-TooLong.ensures p.writes)

pub returns-in-Err-Sink-clause-ends : goal.returns-in-Err-Sink-clause-ends
returns-in-Err-Sink-clause-ends g c =
    let out = change (g.O.Sink.written c.args.out.now) (g.O.Sink.written c.play.new.out) (g.O.Sink.faults c.args.out.now) (g.O.Sink.faults c.play.new.out) in
    let p = rw c.in-Err-Sink.field-0-is at c.in-Err-Sink.ensures.played in
    (p.answers, chosen_part c.args.name.now c.args.core.now c.args.seed p.list p.chosen out (run_part c.args.name.now c.args.core.now p.list out c.requires.never_lacks p.writes))

pub returns-in-Err-Memory-clause-ends : goal.returns-in-Err-Memory-clause-ends
returns-in-Err-Memory-clause-ends g c =
    let out = change (g.O.Sink.written c.args.out.now) (g.O.Sink.written c.play.new.out) (g.O.Sink.faults c.args.out.now) (g.O.Sink.faults c.play.new.out) in
    let p = rw c.in-Err-Memory.field-0-is at c.in-Err-Memory.ensures.played in
    inr (chosen_part c.args.name.now c.args.core.now c.args.seed p.list p.chosen out (run_part c.args.name.now c.args.core.now p.list out c.requires.never_lacks p.writes))
