use Rattle.std.proofs.{Common.arith, lemmas.List.length-map}
use Rattle.pc_tree.specs.View.{entity_view, file_view}
use Rattle.pc_members.specs.Numbered.{numbered_table}
use Rattle.pc_members.proofs.Rounding.{next_rank}
use Rattle.pc_members.proofs.traits.reach_rank.Goals as goal

pub returns : goal.returns
returns c =
    next_rank (file_view c.args.file.now) c.args.above.now c.args.rank c.loop-place.place (numbered_table c.loop-place.table)
    (let l = c.loop-place-test.false in let k = c.loop-place.auto.place-end in let n = c.len-place-end.ensures in let m = length-map c.args.file.now.entities entity_view in omega (arith, l, k, n, m)) c.loop-place.invariant
