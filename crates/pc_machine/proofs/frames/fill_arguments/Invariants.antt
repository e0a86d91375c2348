use Rattle.std.proofs.Common.{◌≡◌, ◌++◌, Some, take}
use Rattle.std.specs.Prelude.{map}
use Rattle.pc_machine.proofs.frames.fill_arguments.Given as goal

abbrev pub invariant-loop-argument : goal.invariant-loop-argument
invariant-loop-argument l = l.filled.items ≡ l.fn.filled.items ++ map Some (take l.argument-index l.arguments)
