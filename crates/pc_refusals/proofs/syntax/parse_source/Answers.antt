use Rattle.std.proofs.lemmas.Result.{err_from_is_err_and}
use Rattle.pc_tree.specs.View.{file_view}
use Rattle.pc_refusals.proofs.Spelling.{lexed_end, syntax_ends, syntax_stops}
use Rattle.pc_refusals.proofs.syntax.parse_source.Goals as goal

pub returns-in_err-tokens : goal.returns-in_err-tokens
returns-in_err-tokens c =
    let p = err_from_is_err_and c.from_residual.result c.from_residual.ensures.1 in
    rw (p.1, p.2) (syntax_stops c.args.name.now c.args.bytes.now _ c.in_err-tokens.ensures)

pub read_tree-requires : goal.read_tree-requires
read_tree-requires c = lexed_end c.args.name.now c.args.bytes.now c.in_ok-tokens.tokens c.as_slice.result.now c.tokens_are_in_order.ensures.end c.in_ok-tokens.ensures c.as_slice.ensures

pub returns : goal.returns
returns c =
    syntax_ends file_view c.args.name.now c.args.bytes.now c.as_slice.result.now c.in_ok-tokens.tokens c.read_tree.result c.as_slice.ensures c.in_ok-tokens.ensures c.read_tree.ensures
