use Rattle.std.proofs.Common.{sym, ap, ◌∙◌, arith}
use Rattle.pc_deriv.specs.{Lines.behind, LineState.taken_of}
use Rattle.pc_deriv.proofs.WholeLines.{stands_at, nothing_left, whole_line, whole_fault}
use Rattle.pc_deriv.proofs.pieces.take_front.Goals as goal

pub end_with-requires-clause-read : goal.end_with-requires-clause-read
end_with-requires-clause-read c =
    let state = c.args.state.now in
    let so = stands_at state.version state.counts state.ended c.args.piece.now c.args.at c.in-Some.line c.in-Some.size (sym c.in-Some.is ∙ c.front_line.ensures) in
    (so.line, sym so.same)

pub returns-in-Ok-clause-answer : goal.returns-in-Ok-clause-answer
returns-in-Ok-clause-answer c =
    let state = c.args.state.now in
    let so = stands_at state.version state.counts state.ended c.args.piece.now c.args.at c.in-Some.line c.in-Some.size (sym c.in-Some.is ∙ c.front_line.ensures) in
    whole_line (taken_of state) c.args.piece.now c.args.at c.in-Some.size c.in-Some.line c.requires.right (nothing_left state.filled state.buffer (omega (arith, c.if-state-gt0.false))) c.requires.within so
    c.in-Ok.line (taken_of c.end_with.new.self) (sym c.in-Ok.is ∙ c.end_with.ensures.answer) (c.end_with.ensures.taken ∙ ap (behind (taken_of state)) c.in-Ok.is)

pub returns-in-Err-clause-answer : goal.returns-in-Err-clause-answer
returns-in-Err-clause-answer c =
    let state = c.args.state.now in
    let so = stands_at state.version state.counts state.ended c.args.piece.now c.args.at c.in-Some.line c.in-Some.size (sym c.in-Some.is ∙ c.front_line.ensures) in
    whole_fault (taken_of state) c.args.piece.now c.args.at c.in-Some.size c.in-Some.line c.requires.right (nothing_left state.filled state.buffer (omega (arith, c.if-state-gt0.false))) c.requires.within so
    c.in-Err.fault (taken_of c.end_with.new.self) (sym c.in-Err.is ∙ c.end_with.ensures.answer) (c.end_with.ensures.taken ∙ ap (behind (taken_of state)) c.in-Err.is)
