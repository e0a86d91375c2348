use Rattle.std.proofs.Common.{◌<◌, ◌-◌, length, arith, ap, ◌∙◌, map}
use Rattle.pc_tree.specs.View.{suffix_view}
use Rattle.pc_tree.proofs.Views.{view_dot, view_args}
use Rattle.pc_emit.proofs.{Walks.at_view, Suffixes.{cut_dot, cut_args}}
use Rattle.pc_emit.proofs.chains.cut.Goals as goal

pub returns-in-Dot-clause-cut : goal.returns-in-Dot-clause-cut
returns-in-Dot-clause-cut c =
    let within : c.args.left - 1 < length c.args.suffixes.now = omega (arith, c.requires.some, c.requires.within) in
    rw (c.text_of.ensures, c.as_slice.ensures)
    (cut_dot c.args.context.now (map suffix_view c.args.suffixes.now) c.args.left c.in-Dot.name c.requires.some
    (at_view suffix_view c.args.suffixes.now (c.args.left - 1) c.index-suffixes-left.result _ within c.index-suffixes-left.is (ap suffix_view c.in-Dot.is ∙ view_dot c.in-Dot.name)))

pub returns-in-Args-clause-cut : goal.returns-in-Args-clause-cut
returns-in-Args-clause-cut c =
    let within : c.args.left - 1 < length c.args.suffixes.now = omega (arith, c.requires.some, c.requires.within) in
    cut_args c.args.context.now (map suffix_view c.args.suffixes.now) c.args.left _ _ _ _ c.requires.some
    (at_view suffix_view c.args.suffixes.now (c.args.left - 1) c.index-suffixes-left.result _ within c.index-suffixes-left.is (ap suffix_view c.in-Args.is ∙ view_args _ _))
    c.cut_args.ensures.cut
