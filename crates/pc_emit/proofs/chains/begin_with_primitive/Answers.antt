use Rattle.std.proofs.Common.{map, refl, sym, ◌∙◌}
use Rattle.pc_tree.specs.View.{suffix_view}
use Rattle.pc_emit.proofs.Suffixes.{begins_with_empty, begins_with_primitive, one_taken}
use Rattle.pc_emit.specs.Closing.{is_empty_args}
use Rattle.pc_emit.proofs.chains.begin_with_primitive.Goals as goal

pub returns-else-has_no_arguments-clause-begins : goal.returns-else-has_no_arguments-clause-begins
returns-else-has_no_arguments-clause-begins c =
    begins_with_primitive c.args.context.now c.args.entity (map suffix_view c.args.suffixes.now) (sym c.has_no_arguments.ensures ∙ c.if-has_no_arguments.false)

pub returns-then-has_no_arguments-clause-begins : goal.returns-then-has_no_arguments-clause-begins
returns-then-has_no_arguments-clause-begins c =
    begins_with_empty c.args.context.now c.args.entity (map suffix_view c.args.suffixes.now) (sym c.has_no_arguments.ensures ∙ c.if-has_no_arguments.true)

pub returns-then-has_no_arguments-clause-within : goal.returns-then-has_no_arguments-clause-within
returns-then-has_no_arguments-clause-within c = one_taken is_empty_args c.args.suffixes.now refl (sym c.has_no_arguments.ensures ∙ c.if-has_no_arguments.true)
