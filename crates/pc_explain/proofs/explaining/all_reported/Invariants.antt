use Rattle.std.proofs.Common.{◌≡◌, map, take}
use Rattle.pc_explain.specs.Explanation.{reported}
use Rattle.pc_explain.proofs.explaining.all_reported.Given as goal

abbrev pub invariant-loop-reason : goal.invariant-loop-reason
invariant-loop-reason l = l.all ≡ map (reported l.stop) (take l.reason-index l.reasons)
