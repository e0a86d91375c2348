use Rattle.pc_regions.proofs.Safe.{valid_is_safe}
use Rattle.pc_regions.proofs.laws.valid_is_safe.Goals as goal

pub returns : goal.returns
returns c = valid_is_safe
