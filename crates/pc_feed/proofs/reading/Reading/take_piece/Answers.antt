use Rattle.std.proofs.{Common.{ℕ, List, ◌++◌, Err, take, ap, ◌∙◌}, lemmas.Result.err_from_is_err_and}
use Rattle.pc_feed.specs.Streams.{ReadSo}
use Rattle.pc_feed.proofs.Piecewise.{underway_by, taken_by, piece_stopped, not_both, same_err}
use Rattle.pc_feed.proofs.reading.Reading.take_piece.Goals as goal

pub returns-in_err-take_next-clause-fed : goal.returns-in_err-take_next-clause-fed
returns-in_err-take_next-clause-fed g c = λ bytes read.
    let p = err_from_is_err_and c.from_residual.result c.from_residual.ensures.1 in
    let so = c.lines.invariant.1 bytes read in
    rw (p.1, p.2)
    (piece_stopped c.args.core.now bytes c.args.piece.now c.lines.at c.args.self.now c.lines.self c.take_next.new.self (g.R.Referee.asked c.args.referee.now) (g.R.Referee.asked c.lines.referee) (g.R.Referee.asked c.take_next.new.referee) so
    c.in_err-take_next.field-0.0 (c.in_err-take_next.ensures.fed (bytes ++ take c.lines.at c.args.piece.now) so.went.reads))

pub returns-in-None-clause-fed : goal.returns-in-None-clause-fed
returns-in-None-clause-fed g c = λ bytes read.
    let so = c.lines.invariant.1 bytes read in
    taken_by c.args.core.now bytes c.args.piece.now c.lines.at c.args.self.now c.lines.self c.take_next.new.self (g.R.Referee.asked c.args.referee.now) (g.R.Referee.asked c.lines.referee) (g.R.Referee.asked c.take_next.new.referee) so
    c.in_ok-take_next.field-0 c.in-None.is (c.in_ok-take_next.ensures.fed (bytes ++ take c.lines.at c.args.piece.now) so.went.reads)

pub lines-preserved : goal.lines-preserved
lines-preserved g c =
    let on = λ (bytes : List ℕ) (read : ReadSo c.args.core.now bytes c.args.self.now).
    let so = c.lines.invariant.1 bytes read in
    underway_by c.args.core.now bytes c.args.piece.now c.lines.at c.args.self.now c.lines.self c.take_next.new.self (g.R.Referee.asked c.args.referee.now) (g.R.Referee.asked c.lines.referee) (g.R.Referee.asked c.take_next.new.referee) so
    c.in_ok-take_next.field-0 c.in-Some.stop c.in-Some.is (c.in_ok-take_next.ensures.fed (bytes ++ take c.lines.at c.args.piece.now) so.went.reads) in
    ((on c.requires.fed.0 c.requires.fed.1).within, on, λ f e. absurd (not_both _ f (c.in_ok-take_next.ensures.kept f (c.lines.invariant.2 f e))))

pub returns-in_err-take_next-clause-kept : goal.returns-in_err-take_next-clause-kept
returns-in_err-take_next-clause-kept g c = λ f e.
    let p = err_from_is_err_and c.from_residual.result c.from_residual.ensures.1 in
    p.1 ∙ ap Err p.2 ∙ same_err _ f (c.in_err-take_next.ensures.kept f (c.lines.invariant.2 f e))

pub returns-in-None-clause-kept : goal.returns-in-None-clause-kept
returns-in-None-clause-kept g c = λ f e. absurd (not_both _ f (c.in_ok-take_next.ensures.kept f (c.lines.invariant.2 f e)))
