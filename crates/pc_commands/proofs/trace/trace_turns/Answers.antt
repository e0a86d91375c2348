use Rattle.std.proofs.Common.{◌∙◌, List, ℕ, subst}
use Rattle.pc_refusals.specs.Inner.Stages.{StageEnds}
use Rattle.pc_commands.specs.Trace.{Tracing}
use Rattle.pc_commands.proofs.Turns.{few_steps}
use Rattle.pc_commands.proofs.trace.trace_turns.Goals as goal

pub trace_list-requires-clause-few : goal.trace_list-requires-clause-few
trace_list-requires-clause-few c = few_steps c.args.turns.now c.as_slice.result.now (c.as_slice.ensures ∙ c.in_ok-list.ensures) c.requires.few

pub returns : goal.returns
returns c = subst (λ (list : List ℕ). StageEnds (Tracing c.args.name.now c.args.core.now list) c.trace_list.result) (c.as_slice.ensures ∙ c.in_ok-list.ensures) c.trace_list.ensures
