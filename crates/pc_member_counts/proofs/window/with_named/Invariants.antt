use Rattle.std.proofs.Common.{◌≡◌, drop}
use Rattle.pc_member_counts.specs.Windows.{with_named}
use Rattle.pc_member_counts.proofs.window.with_named.Given as goal

abbrev pub invariant-loop-number : goal.invariant-loop-number
invariant-loop-number l = with_named l.table l.fn.own l.targets ≡ with_named l.table l.block (drop l.number-index l.targets)
