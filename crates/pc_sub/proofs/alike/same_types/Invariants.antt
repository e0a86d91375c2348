use Rattle.std.proofs.Common.{◌≡◌, drop}
use Rattle.pc_sub.specs.Alike.{same_types}
use Rattle.pc_sub.proofs.alike.same_types.Given as goal

abbrev pub invariant-loop-param : goal.invariant-loop-param
invariant-loop-param l = same_types (drop l.param-index l.first) l.left ≡ same_types l.first l.second
