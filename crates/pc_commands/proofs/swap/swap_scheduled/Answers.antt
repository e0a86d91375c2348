use Rattle.std.proofs.Common.{◌∙◌, List, ℕ, subst}
use Rattle.pc_refusals.specs.Inner.Stages.{StageEnds}
use Rattle.pc_commands.specs.Swap.{Swapping}
use Rattle.pc_commands.proofs.Turns.{few_steps}
use Rattle.pc_commands.proofs.swap.swap_scheduled.Goals as goal

pub swap_list-requires-clause-few : goal.swap_list-requires-clause-few
swap_list-requires-clause-few c = few_steps c.args.turns.now c.as_slice.result.now (c.as_slice.ensures ∙ c.in_ok-list.ensures) c.requires.few

pub returns : goal.returns
returns c = subst (λ (list : List ℕ). StageEnds (Swapping c.args.name.now c.args.core.now list c.args.place) c.swap_list.result) (c.as_slice.ensures ∙ c.in_ok-list.ensures) c.swap_list.ensures
