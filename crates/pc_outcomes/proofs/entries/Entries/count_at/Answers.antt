use Rattle.std.proofs.Common.{arith}
use Rattle.pc_outcomes.proofs.Finding.{counted_at, few_at}
use Rattle.pc_outcomes.proofs.entries.Entries.count_at.Goals as goal

pub overflow_add-seeds : goal.overflow_add-seeds
overflow_add-seeds c =
    let l = few_at c.self.inside.seeds.entries c.args.at c.index_mut-seeds.result.now c.index_mut-seeds.ensures.value (rw (c.self.view_is) c.requires.few) in
    omega (arith, l)

pub returns : goal.returns
returns c = rw (← c.self.view_is) (counted_at c.self.inside.seeds.entries c.args.at c.index_mut-seeds.result.now c.index_mut-seeds.ensures.value)
