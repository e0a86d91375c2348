use Rattle.std.proofs.{Common.{◌≤◌, ◌+◌, length, subst, sym, ◌∙◌, arith, length-append}, lemmas.Result.err_from_is_err_and}
use Rattle.pc_lex.specs.Pieces.{token_limit, Tokens}
use Rattle.pc_lex.proofs.{Blanks.passes_on, Reached.{goes_on, nearer, ends_so, stuck_so}}
use Rattle.pc_lex.proofs.lexing.read_all.Goals as goal

pub returns-in_err-end-clause-err : goal.returns-in_err-end-clause-err
returns-in_err-end-clause-err c =
    let p = err_from_is_err_and c.from_residual.result c.from_residual.ensures.1 in
    rw (p.1, p.2) (stuck_so c.args.text.now c.pieces.at c.pieces.first c.pieces.tokens.items c.in_err-end.field-0.0 c.pieces-test.true c.pieces.invariant c.in_err-end.ensures.err)

pub pieces-smaller : goal.pieces-smaller
pieces-smaller c =
    let less = nearer c.args.text.now c.pieces.at c.pieces.first c.pieces.tokens.items c.step.new.tokens.items (c.in_ok-end.end, c.in_ok-end.begins) c.pieces-test.true c.in_ok-end.ensures.ok in
    omega (arith, less, c.in_ok-end.ensures.moves, c.pass_blanks.ensures.within)

pub pieces-preserved : goal.pieces-preserved
pieces-preserved c =
    passes_on c.step.new.tokens.items
    (goes_on c.args.text.now c.pieces.at c.pieces.first c.pieces.tokens.items c.step.new.tokens.items (c.in_ok-end.end, c.in_ok-end.begins) c.pieces-test.true c.pieces.invariant c.in_ok-end.ensures.ok) c.pass_blanks.ensures.passes

pub returns-clause-ok : goal.returns-clause-ok
returns-clause-ok c =
    let text = c.args.text.now in
    let past : length text ≤ c.pieces.at = omega (arith, c.pieces-test.false) in
    subst (λ l. Tokens text l × (length l ≤ token_limit + 1)) (sym (c.from_vec.ensures ∙ c.in_ok-put_token.ensures.ok))
    (ends_so text c.pieces.at c.pieces.first c.pieces.tokens.items past c.pieces.invariant, omega (arith, c.pieces.invariant.few, length-append c.pieces.tokens.items))
