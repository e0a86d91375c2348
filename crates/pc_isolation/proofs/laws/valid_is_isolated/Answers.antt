use Rattle.pc_isolation.proofs.Isolation.{valid_is_isolated}
use Rattle.pc_isolation.proofs.laws.valid_is_isolated.Goals as goal

pub returns : goal.returns
returns c = valid_is_isolated
