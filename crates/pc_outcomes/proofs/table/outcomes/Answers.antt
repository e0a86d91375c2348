use Rattle.std.proofs.Common.{◌<◌, ◌+◌, ◌^◌, refl, arith}
use Rattle.pc_outcomes.proofs.Adding.{begins, ends, numbers_fit}
use Rattle.pc_outcomes.proofs.table.outcomes.Goals as goal

pub seeds-init : goal.seeds-init
seeds-init c = begins c.args.core.now c.new-entries.result (record { steps = 0; texts = 0 }) c.new-entries.ensures refl

pub add-requires-clause-few : goal.add-requires-clause-few
add-requires-clause-few c =
    let l : c.seeds.seed + 1 < 2 ^ 32 = omega (arith, c.requires.few, c.seeds-test.true) in
    numbers_fit c.args.core.now c.seeds.seed c.seeds.entries c.seeds.totals c.seeds.invariant l

pub returns-in-Err : goal.returns-in-Err
returns-in-Err c =
    ends c.args.core.now c.seeds.seed c.args.count c.add.new.entries c.in-Err.fault c.seeds-test.true (c.in-Err.ensures c.args.core.now c.seeds.invariant c.in_ok-play.ensures)
