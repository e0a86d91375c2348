use Rattle.std.proofs.{Common.{◌<◌, ◌-◌, ℕ, length, arith, sym, ap, ◌∙◌, map}, lemmas.List.length-map}
use Rattle.pc_tree.specs.View.{suffix_view}
use Rattle.pc_tree.proofs.Views.{view_dot, view_args}
use Rattle.pc_emit.proofs.{Walks.at_view, Suffixes.{split_none, split_dot, split_args}}
use Rattle.pc_emit.proofs.chains.split_field.Goals as goal

pub returns-in-Dot-clause-split : goal.returns-in-Dot-clause-split
returns-in-Dot-clause-split c =
    let n : ℕ = length c.args.suffixes.now in
    let some : 0 < n = omega (arith, c.if-count-eq0.false) in
    let within : n - 1 < n = omega (arith, some) in
    rw (c.text_of.ensures, c.as_slice.ensures)
    (split_dot c.args.context.now (map suffix_view c.args.suffixes.now) n c.in-Dot.name (sym (length-map c.args.suffixes.now suffix_view)) some
    (at_view suffix_view c.args.suffixes.now (n - 1) c.index-suffixes-count.result _ within c.index-suffixes-count.is (ap suffix_view c.in-Dot.is ∙ view_dot c.in-Dot.name)))

pub returns-in-Args-clause-split : goal.returns-in-Args-clause-split
returns-in-Args-clause-split c =
    let n : ℕ = length c.args.suffixes.now in
    let some : 0 < n = omega (arith, c.if-count-eq0.false) in
    let within : n - 1 < n = omega (arith, some) in
    split_args c.args.context.now (map suffix_view c.args.suffixes.now) n _ _ (sym (length-map c.args.suffixes.now suffix_view)) some
    (at_view suffix_view c.args.suffixes.now (n - 1) c.index-suffixes-count.result _ within c.index-suffixes-count.is (ap suffix_view c.in-Args.is ∙ view_args _ _))

pub returns-then-count-eq0-clause-split : goal.returns-then-count-eq0-clause-split
returns-then-count-eq0-clause-split c = split_none c.args.context.now (map suffix_view c.args.suffixes.now) (length-map c.args.suffixes.now suffix_view ∙ c.if-count-eq0.true)
