use Rattle.std.proofs.Common.{◌≡◌, drop}
use Rattle.pc_member_counts.specs.Fresh.{without_all}
use Rattle.pc_member_counts.proofs.fresh.without_all.Given as goal

abbrev pub invariant-loop-number : goal.invariant-loop-number
invariant-loop-number l = without_all l.start l.fn.set l.numbers ≡ without_all l.start l.rest (drop l.number-index l.numbers)
