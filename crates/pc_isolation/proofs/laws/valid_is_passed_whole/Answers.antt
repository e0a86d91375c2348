use Rattle.pc_isolation.proofs.Passing.{valid_is_passed_whole}
use Rattle.pc_isolation.proofs.laws.valid_is_passed_whole.Goals as goal

pub returns : goal.returns
returns c = valid_is_passed_whole c.only_moves_change.ensures
