use Rattle.pc_choose.proofs.Cutting.{lists_are_in_turns}
use Rattle.pc_choose.proofs.laws.lists_are_in_turns.Goals as goal

pub returns : goal.returns
returns c = lists_are_in_turns
