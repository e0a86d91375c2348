use Rattle.std.proofs.Common.{◌≡◌, ◌++◌, map, take}
use Rattle.pc_sends.specs.Tables.{row}
use Rattle.pc_sends.proofs.rows.add_rows.Given as goal

abbrev pub invariant-loop-target : goal.invariant-loop-target
invariant-loop-target l = l.rows ≡ l.fn.rows ++ map (row l.from) (take l.target-index l.targets)
