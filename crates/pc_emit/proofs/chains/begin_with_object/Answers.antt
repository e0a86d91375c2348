use Rattle.std.proofs.Common.{◌≡◌, map, sym, ap, ◌∙◌}
use Rattle.std.specs.Prelude.{slice_get, Some}
use Rattle.pc_tree.specs.Tree as t
use Rattle.pc_tree.specs.View.{suffix_view, exprs_view}
use Rattle.pc_tree.proofs.Views.{view_dot, view_args}
use Rattle.pc_emit.proofs.Suffixes.{begins_behind_name, begins_with_create, first_view, two_taken}
use Rattle.pc_emit.specs.Closing.{is_args}
use Rattle.pc_emit.proofs.chains.begin_with_object.Goals as goal

pub returns-in-Dot-clause-begins : goal.returns-in-Dot-clause-begins
returns-in-Dot-clause-begins c =
    let at : slice_get (map suffix_view c.args.suffixes.now) 0 ≡ Some (t.dot c.in-Dot.name) = first_view c.args.suffixes.now _ _ (sym c.in-Some.ensures.value) (ap suffix_view c.in-Dot.is ∙ view_dot c.in-Dot.name) in
    rw c.begin_behind_name.ensures (begins_behind_name c.args.context.now c.args.actor c.args.constructors.now c.in-Dot.name (map suffix_view c.args.suffixes.now) at)

pub returns-in-Args-clause-begins : goal.returns-in-Args-clause-begins
returns-in-Args-clause-begins c =
    let at : slice_get (map suffix_view c.args.suffixes.now) 0 ≡ Some (t.args (exprs_view c.in-Args.args) c.in-Args.span) = first_view c.args.suffixes.now _ _ (sym c.in-Some.ensures.value) (ap suffix_view c.in-Args.is ∙ view_args c.in-Args.args c.in-Args.span) in
    rw (c.begin_object.ensures, c.create.ensures) (begins_with_create c.args.context.now c.args.actor c.args.constructors.now (map suffix_view c.args.suffixes.now) (ap is_args at))

pub returns-in-Dot-clause-within : goal.returns-in-Dot-clause-within
returns-in-Dot-clause-within c = rw c.begin_behind_name.ensures (two_taken c.args.actor _ c.args.suffixes.now)
