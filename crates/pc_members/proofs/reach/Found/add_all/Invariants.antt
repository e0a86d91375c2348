use Rattle.std.proofs.Common.{◌≡◌, drop}
use Rattle.pc_members.specs.Edges.{add_all}
use Rattle.pc_members.proofs.reach.Found.add_all.Given as goal

abbrev pub invariant-loop-number : goal.invariant-loop-number
invariant-loop-number l =
    add_all l.fn.self l.numbers ≡ add_all l.self (drop l.number-index l.numbers)
