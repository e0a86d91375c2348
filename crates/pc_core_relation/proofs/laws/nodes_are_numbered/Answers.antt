use Rattle.pc_core_relation.proofs.Numbers.{what_is_put_is_numbered, what_is_numbered_is_put}
use Rattle.pc_core_relation.proofs.laws.nodes_are_numbered.Goals as goal

pub returns : goal.returns
returns c = record { put = what_is_put_is_numbered; numbered = what_is_numbered_is_put }
