use Rattle.pc_core_relation.proofs.Exists.{core_or_fault, never_both}
use Rattle.pc_core_relation.proofs.laws.core_stands_or_fault.Goals as goal

pub returns : goal.returns
returns c = record { some = core_or_fault c.cores_are_one.ensures.some; apart = never_both c.cores_are_one.ensures.apart }
