use Rattle.std.proofs.Common.{◌++◌, ◌∷◌, [], List, sym, subst}
use Rattle.pc_sched.specs.declared.turns.Turn.{Turn}
use Rattle.pc_sched_lines.specs.Rows.{RowsOf}
use Rattle.pc_sched_lines.proofs.Grouping.{begins, goes_on_with}
use Rattle.pc_sched_lines.proofs.rows.with_step.Goals as goal

pub returns-then-actor-row : goal.returns-then-actor-row
returns-then-actor-row c list r = goes_on_with list c.args.rows.now c.args.row c.args.actor c.if-actor-row.true c.requires r

pub returns : goal.returns
returns c list r =
    let next : Turn = record { actor = c.args.actor; times = 1 } in
    subst (λ (xs : List Turn). RowsOf (list ++ c.args.actor ∷ []) (xs ++ next ∷ [])) (sym c.in_ok-push.ensures.ok)
    (begins list c.args.rows.now c.args.row c.args.actor c.ranges.actor.fits c.if-actor-row.false r)
