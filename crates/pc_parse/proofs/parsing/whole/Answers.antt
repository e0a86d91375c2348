use Rattle.std.proofs.{Common.{◌≤◌, length, arith}, lemmas.Result.err_from_is_err_and}
use Rattle.pc_tree.specs.View.{file_view}
use Rattle.pc_parse.proofs.Public.{spells_all, goes_on, stops_right}
use Rattle.pc_parse.proofs.parsing.whole.Goals as goal

pub returns-in_err-file-clause-refused : goal.returns-in_err-file-clause-refused
returns-in_err-file-clause-refused c =
    let p = err_from_is_err_and c.from_residual.result c.from_residual.ensures.1 in
    rw (p.1, p.2) (stops_right c.args.tokens.now c.in_err-file.field-0.0 c.in_err-file.ensures.gives)

pub returns-then-to-tokens-clause-refused : goal.returns-then-to-tokens-clause-refused
returns-then-to-tokens-clause-refused c =
    goes_on c.args.tokens.now c.in_ok-file.to (file_view c.in_ok-file.file) c.in_ok-file.ensures.gives c.if-to-tokens.true

pub returns-clause-read : goal.returns-clause-read
returns-clause-read c =
    let past : length c.args.tokens.now ≤ c.in_ok-file.to = omega (arith, c.if-to-tokens.false) in
    spells_all c.args.tokens.now c.in_ok-file.to (file_view c.in_ok-file.file) c.in_ok-file.ensures.gives past
