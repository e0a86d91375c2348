use Rattle.std.proofs.Common.{◌≡◌, ◌++◌, drop}
use Rattle.pc_body_spec.specs.Slots.{placed_from}
use Rattle.pc_body_walks.proofs.placing.add_placed.Given as goal

abbrev pub invariant-loop-local : goal.invariant-loop-local
invariant-loop-local l = l.fn.placed ++ placed_from l.first l.locals ≡ l.placed ++ placed_from l.slot (drop l.local-index l.locals)
