use Rattle.std.proofs.Common.{◌≡◌, ◌++◌, take}
use Rattle.pc_emit.proofs.bodies.append.Given as goal

abbrev pub invariant-loop-x : goal.invariant-loop-x
invariant-loop-x l = l.all ≡ l.fn.first ++ take l.x-index l.more
