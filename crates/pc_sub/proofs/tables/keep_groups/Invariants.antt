use Rattle.pc_sub.specs.Tables.{TellsGroups}
use Rattle.pc_sub.proofs.tables.keep_groups.Given as goal

abbrev pub invariant-loop-group : goal.invariant-loop-group
invariant-loop-group l = TellsGroups l.core l.groups l.group l.sets
