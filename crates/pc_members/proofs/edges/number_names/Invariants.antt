use Rattle.std.proofs.Common.{◌≡◌, ◌++◌, drop}
use Rattle.pc_members.specs.Edges.{entity_numbers}
use Rattle.pc_members.proofs.edges.number_names.Given as goal

abbrev pub invariant-loop-name : goal.invariant-loop-name
invariant-loop-name l =
    entity_numbers l.entities l.names ≡ l.numbers ++ entity_numbers l.entities (drop l.name-index l.names)
