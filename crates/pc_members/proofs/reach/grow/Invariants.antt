use Rattle.std.proofs.Common.{◌≡◌, ◌+◌, ◌-◌, length}
use Rattle.pc_members.specs.Edges as spec
use Rattle.pc_members.proofs.reach.grow.Given as goal

abbrev pub invariant-loop-at : goal.invariant-loop-at
invariant-loop-at l =
    spec.grow (length l.edges + 1) l.edges l.fn.found 0 ≡ spec.grow (length l.edges + 1 - l.at) l.edges l.found l.at
