use Rattle.std.proofs.Common.{◌++◌, ◌∷◌, [], take}
use Rattle.pc_sched_lines.proofs.Grouping.{one_more, row_within}
use Rattle.pc_sched_lines.proofs.rows.rows_from.Goals as goal

pub with_step-requires : goal.with_step-requires
with_step-requires c =
    row_within c.args.first c.args.rest.now c.loop-actor.actor-index c.loop-actor.rows c.loop-actor.row c.loop-actor-test.true c.requires c.loop-actor.invariant

pub loop-actor-preserved : goal.loop-actor-preserved
loop-actor-preserved c =
    let rows = c.with_step.new.rows ++ c.in_ok-row.row ∷ [] in
    one_more c.args.first c.args.rest.now c.loop-actor.actor-index 0 rows c.loop-actor-test.true
    (c.in_ok-row.ensures (c.args.first ∷ take c.loop-actor.actor-index c.args.rest.now) c.loop-actor.invariant)
