use Rattle.pc_tree.specs.View.{file_view}
use Rattle.pc_members.specs.{Rounds.Knows, Numbered.numbered_table}
use Rattle.pc_members.proofs.traits.list_methods.Given as goal

abbrev pub invariant-loop-rank : goal.invariant-loop-rank
invariant-loop-rank l = Knows (file_view l.file) l.above l.rank 0 (numbered_table l.table)
