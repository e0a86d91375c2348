use Rattle.std.proofs.Common.{◌≡◌, ◌++◌, ◌-◌}
use Rattle.pc_members.specs.Edges.{ascending}
use Rattle.pc_members.proofs.reach.sort_found.Given as goal

abbrev pub invariant-loop-number : goal.invariant-loop-number
invariant-loop-number l =
    ascending l.found 0 l.count ≡ l.ascending ++ ascending l.found l.number (l.count - l.number)
