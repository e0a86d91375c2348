use Rattle.pc_tree.specs.View.{file_view}
use Rattle.pc_members.specs.{Rounds.Knows, Numbered.numbered_table}
use Rattle.pc_members.proofs.traits.reach_rank.Given as goal

abbrev pub invariant-loop-place : goal.invariant-loop-place
invariant-loop-place l = Knows (file_view l.file) l.above l.rank l.place (numbered_table l.table)
