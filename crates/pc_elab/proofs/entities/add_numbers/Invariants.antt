use Rattle.std.proofs.Common.{◌≡◌, ◌++◌, drop}
use Rattle.pc_members.specs.Edges.{entity_numbers}
use Rattle.pc_elab.proofs.entities.add_numbers.Given as goal

abbrev pub invariant-loop-name : goal.invariant-loop-name
invariant-loop-name l =
    l.fn.numbers ++ entity_numbers l.names.entities l.provides ≡ l.numbers ++ entity_numbers l.names.entities (drop l.name-index l.provides)
