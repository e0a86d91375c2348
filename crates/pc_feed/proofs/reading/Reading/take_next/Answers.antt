use Rattle.std.proofs.{Common.{Err, ap}, lemmas.Result.err_from_is_err_and}
use Rattle.pc_feed.specs.{declared.fault.StreamFault.TheVariants.Text, Lines.lines_in}
use Rattle.pc_feed.proofs.Piecewise.{next_fault, next_none, next_room, next_comes, next_line, next_ran_out, no_line_behind, same_fault_behind}
use Rattle.pc_feed.proofs.reading.Reading.take_next.Goals as goal

pub judge_line-requires-clause-room : goal.judge_line-requires-clause-room
judge_line-requires-clause-room g c =
    next_room c.args.core.now c.requires.fed.0 c.args.self.now c.requires.fed.1 c.args.piece.now c.args.at c.next.new.self c.in-Ok.stop c.in-Ok.ended c.in-Some.line c.in-Some.is c.in-Ok.ensures

pub returns-in_err-judge_line-in-Some-clause-fed : goal.returns-in_err-judge_line-in-Some-clause-fed
returns-in_err-judge_line-in-Some-clause-fed g c = λ bytes read.
    let p = err_from_is_err_and c.from_residual.result c.from_residual.ensures.1 in
    let comes = next_comes c.args.core.now bytes c.args.self.now read c.args.piece.now c.args.at c.next.new.self c.in-Ok.stop c.in-Ok.ended c.in-Some.line c.in-Some.is c.in-Ok.ensures in
    rw (p.1, p.2)
    (next_ran_out c.args.core.now bytes c.args.self.now read c.args.piece.now c.args.at c.next.new.self c.in-Ok.stop c.in-Ok.ended c.in-Some.line c.in-Some.is c.in-Ok.ensures
    c.judge_line.new.self (g.R.Referee.asked c.args.referee.now) (g.R.Referee.asked c.judge_line.new.referee) c.in_err-judge_line-in-Some.field-0.0 (c.in_err-judge_line-in-Some.ensures (lines_in bytes) comes read.judged))

pub returns-in-Err-clause-fed : goal.returns-in-Err-clause-fed
returns-in-Err-clause-fed g c = λ bytes read. next_fault c.args.core.now bytes c.args.self.now read c.args.piece.now c.args.at c.next.new.self c.in-Err.fault (g.R.Referee.asked c.args.referee.now) c.in-Err.ensures

pub returns-in-None-clause-fed : goal.returns-in-None-clause-fed
returns-in-None-clause-fed g c = λ bytes read.
    next_none c.args.core.now bytes c.args.self.now read c.args.piece.now c.args.at c.next.new.self c.in-Ok.stop c.in-Ok.ended c.in-None.is (g.R.Referee.asked c.args.referee.now) c.in-Ok.ensures

pub returns-in_ok-judge_line-in-Some-clause-fed : goal.returns-in_ok-judge_line-in-Some-clause-fed
returns-in_ok-judge_line-in-Some-clause-fed g c = λ bytes read.
    let comes = next_comes c.args.core.now bytes c.args.self.now read c.args.piece.now c.args.at c.next.new.self c.in-Ok.stop c.in-Ok.ended c.in-Some.line c.in-Some.is c.in-Ok.ensures in
    next_line c.args.core.now bytes c.args.self.now read c.args.piece.now c.args.at c.next.new.self c.in-Ok.stop c.in-Ok.ended c.in-Some.line c.in-Some.is c.in-Ok.ensures
    c.judge_line.new.self (g.R.Referee.asked c.args.referee.now) (g.R.Referee.asked c.judge_line.new.referee) c.in_ok-judge_line-in-Some.field-0 (c.in_ok-judge_line-in-Some.ensures (lines_in bytes) comes read.judged)

pub returns-in_err-judge_line-in-Some-clause-kept : goal.returns-in_err-judge_line-in-Some-clause-kept
returns-in_err-judge_line-in-Some-clause-kept g c = λ f e. absurd (no_line_behind c.args.self.now.lines c.next.new.self c.args.piece.now c.args.at c.in-Ok.stop c.in-Ok.ended f e c.in-Ok.ensures)

pub returns-in-Err-clause-kept : goal.returns-in-Err-clause-kept
returns-in-Err-clause-kept g c = λ f e. ap (λ h. Err (Text h)) (same_fault_behind c.args.self.now.lines c.next.new.self c.args.piece.now c.args.at f c.in-Err.fault e c.in-Err.ensures)

pub returns-in-None-clause-kept : goal.returns-in-None-clause-kept
returns-in-None-clause-kept g c = λ f e. absurd (no_line_behind c.args.self.now.lines c.next.new.self c.args.piece.now c.args.at c.in-Ok.stop c.in-Ok.ended f e c.in-Ok.ensures)

pub returns-in_ok-judge_line-in-Some-clause-kept : goal.returns-in_ok-judge_line-in-Some-clause-kept
returns-in_ok-judge_line-in-Some-clause-kept g c = λ f e. absurd (no_line_behind c.args.self.now.lines c.next.new.self c.args.piece.now c.args.at c.in-Ok.stop c.in-Ok.ended f e c.in-Ok.ensures)
