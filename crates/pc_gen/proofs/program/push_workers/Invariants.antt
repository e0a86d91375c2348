use Rattle.std.proofs.Common.{◌≡◌, ◌++◌, ◌*◌, map}
use Rattle.std.specs.List.{range_with_len}
use Rattle.pc_tree.specs.View.{entity_view}
use Rattle.pc_draws.specs.Draws.{state}
use Rattle.pc_gen.specs.Program.{worker}
use Rattle.pc_gen.proofs.program.push_workers.Given as goal

abbrev pub invariant-loop-i : goal.invariant-loop-i
invariant-loop-i l = (l.draws.state ≡ state l.seed (l.i * 2)) × (map entity_view l.entities ≡ map entity_view l.initial.entities ++ map (worker l.seed l.size) (range_with_len 0 l.i))
