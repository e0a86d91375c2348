use Rattle.std.proofs.Common.{◌≡◌, drop}
use Rattle.pc_members.specs.Edges.{has_number}
use Rattle.pc_names.proofs.cycles.has.Given as goal

abbrev pub invariant-loop-number : goal.invariant-loop-number
invariant-loop-number l =
    has_number l.numbers l.wanted ≡ has_number (drop l.number-index l.numbers) l.wanted
