use Rattle.std.proofs.Common.{◌≡◌, take}
use Rattle.pc_machine.proofs.arguments.copied.Given as goal

abbrev pub invariant-loop-value : goal.invariant-loop-value
invariant-loop-value l = l.arguments ≡ take l.value-index l.values
