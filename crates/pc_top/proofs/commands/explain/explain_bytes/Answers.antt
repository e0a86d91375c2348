use Rattle.std.proofs.lemmas.Result.{err_from_is_err_and}
use Rattle.pc_tree.specs.View.{file_view}
use Rattle.pc_top.proofs.{Facts.tree_spelled, Rooms.Explain.Ends.{syntax_stops, syntax_tokens, tree_ends}}
use Rattle.pc_top.proofs.commands.explain.explain_bytes.Goals as goal

pub returns-in_err-file : goal.returns-in_err-file
returns-in_err-file c =
    let p = err_from_is_err_and c.from_residual.result c.from_residual.ensures.1 in
    rw (p.1, p.2) (syntax_stops c.args.name.now c.args.bytes.now c.requires _ c.in_err-file.ensures)

pub explain_tree-requires-clause-lexed : goal.explain_tree-requires-clause-lexed
explain_tree-requires-clause-lexed c = syntax_tokens c.in_ok-file.ensures

pub explain_tree-requires-clause-spelled : goal.explain_tree-requires-clause-spelled
explain_tree-requires-clause-spelled c = tree_spelled c.tokens_are_in_order.ensures.ascend c.in_ok-file.ensures

pub returns : goal.returns
returns c = tree_ends c.args.name.now c.args.bytes.now c.requires (file_view c.in_ok-file.file) c.explain_tree.result c.in_ok-file.ensures c.explain_tree.ensures
