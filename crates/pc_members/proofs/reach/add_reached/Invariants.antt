use Rattle.std.proofs.Common.{◌≡◌, ◌++◌, ◌-◌, length}
use Rattle.pc_members.specs.Edges.{above_from, above_all}
use Rattle.pc_members.proofs.reach.add_reached.Given as goal

abbrev pub invariant-loop-from : goal.invariant-loop-from
invariant-loop-from l =
    l.fn.lists ++ above_all l.edges ≡ l.lists ++ above_from l.edges l.from (length l.edges - l.from)
