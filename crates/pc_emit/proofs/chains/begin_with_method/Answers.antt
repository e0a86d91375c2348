use Rattle.std.proofs.Common.{map, refl, sym, ◌∙◌}
use Rattle.pc_tree.specs.View.{suffix_view}
use Rattle.pc_emit.proofs.Suffixes.{begins_on_this, begins_with_method, one_taken}
use Rattle.pc_emit.specs.Closing.{is_args}
use Rattle.pc_emit.proofs.chains.begin_with_method.Goals as goal

pub returns-else-has_args-clause-begins : goal.returns-else-has_args-clause-begins
returns-else-has_args-clause-begins c =
    begins_with_method c.args.context.now c.args.name.now (map suffix_view c.args.suffixes.now) (sym c.has_args.ensures ∙ c.if-has_args.false)

pub returns-then-has_args-clause-begins : goal.returns-then-has_args-clause-begins
returns-then-has_args-clause-begins c =
    rw (c.text_of-text.ensures, c.as_slice.ensures) (begins_on_this c.args.context.now c.args.name.now (map suffix_view c.args.suffixes.now) (sym c.has_args.ensures ∙ c.if-has_args.true))

pub returns-then-has_args-clause-within : goal.returns-then-has_args-clause-within
returns-then-has_args-clause-within c = one_taken is_args c.args.suffixes.now refl (sym c.has_args.ensures ∙ c.if-has_args.true)
