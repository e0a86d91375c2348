use Rattle.std.proofs.{Common.{arith, length, ◌∙◌, sym}, lemmas.List.length-map}
use Rattle.pc_tree.specs.View.{entity_view, file_view}
use Rattle.pc_members.specs.Numbered.{numbered_table, numbered_view}
use Rattle.pc_members.proofs.Rounding.{knows_none, last_rank}
use Rattle.pc_members.proofs.traits.list_methods.Goals as goal

pub loop-rank-init : goal.loop-rank-init
loop-rank-init c =
    knows_none (file_view c.args.file.now) c.args.above.now (numbered_table c.in_ok-table.table)
    (length-map c.in_ok-table.table numbered_view ∙ c.in_ok-table.ensures ∙ c.len.ensures ∙ sym (length-map c.args.file.now.entities entity_view))

pub returns : goal.returns
returns c =
    last_rank (file_view c.args.file.now) c.args.above.now c.loop-rank.rank (length c.args.file.now.entities) (numbered_table c.loop-rank.table)
    (let l = c.loop-rank-test.false in let k = c.loop-rank.auto.rank-end in let n = c.len-rank-end.ensures in omega (arith, l, k, n)) c.loop-rank.invariant
