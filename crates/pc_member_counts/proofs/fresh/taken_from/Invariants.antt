use Rattle.std.proofs.Common.{◌≡◌, drop}
use Rattle.pc_masks.specs.Masks.{empty}
use Rattle.pc_member_counts.specs.Fresh.{taken_from}
use Rattle.pc_member_counts.proofs.fresh.taken_from.Given as goal

abbrev pub invariant-loop-number : goal.invariant-loop-number
invariant-loop-number l = taken_from l.kind l.table empty l.targets ≡ taken_from l.kind l.table l.set (drop l.number-index l.targets)
