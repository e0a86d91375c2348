use Rattle.std.proofs.lemmas.Result.{err_from_is_err_and}
use Rattle.pc_tree.specs.View.{file_view}
use Rattle.pc_top.proofs.Facts.{elaborating_ends, syntax_stops, tree_spelled}
use Rattle.pc_top.proofs.source.read_core.Goals as goal

pub returns-in_err-file : goal.returns-in_err-file
returns-in_err-file c =
    let p = err_from_is_err_and c.from_residual.result c.from_residual.ensures.1 in
    rw (p.1, p.2) (syntax_stops c.args.name.now c.args.bytes.now _ c.in_err-file.ensures)

pub elaborate_tree-requires : goal.elaborate_tree-requires
elaborate_tree-requires c = tree_spelled c.tokens_are_in_order.ensures.ascend c.in_ok-file.ensures

pub returns : goal.returns
returns c = elaborating_ends c.args.name.now c.args.bytes.now (file_view c.in_ok-file.file) c.elaborate_tree.result c.in_ok-file.ensures c.elaborate_tree.ensures
