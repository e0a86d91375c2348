use Rattle.std.proofs.Common.{◌≡◌, map, take}
use Rattle.pc_core.specs.MethodKeys.{method_key}
use Rattle.pc_core.proofs.index.MethodIndex.of.Given as goal

abbrev pub invariant-loop-method : goal.invariant-loop-method
invariant-loop-method l = record { keys : l.keys.keys ≡ map method_key (take l.method-index l.methods) }
