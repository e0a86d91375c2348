use Rattle.std.proofs.Common.{◌≡◌, drop}
use Rattle.std.specs.Prelude.{find}
use Rattle.pc_places.specs.Names.{defines_slot}
use Rattle.pc_places.proofs.locals.first_definition.Given as goal

abbrev pub invariant-loop-node : goal.invariant-loop-node
invariant-loop-node l = find (λ n. defines_slot l.slot n.kind) (drop l.node-index l.nodes) ≡ find (λ n. defines_slot l.slot n.kind) l.nodes
