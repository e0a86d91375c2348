use Rattle.std.proofs.Common.{◌∙◌, List, ℕ, subst}
use Rattle.pc_refusals.specs.Inner.Stages.{StageEnds}
use Rattle.pc_commands.specs.Events.{EventsTelling}
use Rattle.pc_commands.proofs.Turns.{few_steps}
use Rattle.pc_commands.proofs.events.tell_turns.Goals as goal

pub tell_list-requires-clause-few : goal.tell_list-requires-clause-few
tell_list-requires-clause-few c = few_steps c.args.turns.now c.as_slice.result.now (c.as_slice.ensures ∙ c.in_ok-list.ensures) c.requires.few

pub returns : goal.returns
returns c = subst (λ (list : List ℕ). StageEnds (EventsTelling c.args.name.now c.args.core.now list) c.tell_list.result) (c.as_slice.ensures ∙ c.in_ok-list.ensures) c.tell_list.ensures
