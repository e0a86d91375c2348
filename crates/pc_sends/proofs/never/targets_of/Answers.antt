use Rattle.std.proofs.{Common.{[], get_or}, lemmas.Option.slice_get-get_or}
use Rattle.pc_sends.specs.declared.table.Row.{Row}
use Rattle.pc_sends.proofs.{Grows.{list_turn, list_all}, Tabled.{TargetOf, targets_are}}
use Rattle.pc_sends.proofs.never.targets_of.Goals as goal

pub loop-row-preserved : goal.loop-row-preserved
loop-row-preserved c =
    let rows = c.args.rows.now in
    let k = c.loop-row.row-index in
    let none : Row = record { from = 0; target = 0 } in
    list_turn TargetOf rows k (get_or rows k none) [] c.loop-row.targets c.add.new.self (slice_get-get_or rows k none c.loop-row-test.true) c.loop-row.invariant c.in_ok-add.ensures

pub returns : goal.returns
returns c = λ t. targets_are c.args.rows.now c.loop-row.targets t (list_all TargetOf c.args.rows.now c.loop-row.row-index [] c.loop-row.targets c.loop-row-test.false c.loop-row.invariant)
