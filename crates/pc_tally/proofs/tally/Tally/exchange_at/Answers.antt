use Rattle.std.proofs.{Common.{◌≡◌, ◌<◌, ◌-◌, ◌+◌, ◌^◌, ◌∙◌, Some, set, sum, ap, arith}, lemmas.Option.slice_get_within}
use Rattle.std.specs.Prelude.{slice_get}
use Rattle.pc_tally.proofs.Sums.{group_holds, in_block, block_holds, total_holds, number_now, tally_now}
use Rattle.pc_tally.proofs.tally.Tally.exchange_at.Goals as goal

pub exchange-requires-2-clause-holds : goal.exchange-requires-2-clause-holds
exchange-requires-2-clause-holds c =
    let s = c.self.inside in
    let here : slice_get s.numbers.items c.args.at ≡ Some c.args.old = cc in
    group_holds s.numbers.items s.groups.items s.blocks.items s.total c.args.at c.args.old 0 c.self.invariant here (slice_get_within s.numbers.items c.args.at c.args.old here)

pub exchange-requires-3-clause-there : goal.exchange-requires-3-clause-there
exchange-requires-3-clause-there c =
    let s = c.self.inside in
    let here : slice_get s.numbers.items c.args.at ≡ Some c.args.old = cc in
    in_block s.numbers.items s.groups.items s.blocks.items s.total c.args.at c.args.old 0 c.self.invariant here (slice_get_within s.numbers.items c.args.at c.args.old here)

pub exchange-requires-3-clause-holds : goal.exchange-requires-3-clause-holds
exchange-requires-3-clause-holds c =
    let s = c.self.inside in
    let here : slice_get s.numbers.items c.args.at ≡ Some c.args.old = cc in
    block_holds s.numbers.items s.groups.items s.blocks.items s.total c.args.at c.args.old 0 c.self.invariant here (slice_get_within s.numbers.items c.args.at c.args.old here)

pub overflow_sub-self : goal.overflow_sub-self
overflow_sub-self c =
    let s = c.self.inside in
    let here : slice_get s.numbers.items c.args.at ≡ Some c.args.old = cc in
    total_holds s.numbers.items s.groups.items s.blocks.items s.total c.args.at c.args.old 0 c.self.invariant here (slice_get_within s.numbers.items c.args.at c.args.old here)

pub invariant_of-self : goal.invariant_of-self
invariant_of-self c =
    let s = c.self.inside in
    let here : slice_get s.numbers.items c.args.at ≡ Some c.args.old = cc in
    let few : sum s.numbers.items + c.args.new < 2 ^ 32 + c.args.old = let e : sum c.args.self.now ≡ sum s.numbers.items = cc in omega (arith, c.requires.few, e) in
    rw (c.exchange.ensures, c.exchange-2.ensures, c.exchange-3.ensures)
    (tally_now s.numbers.items s.groups.items s.blocks.items s.total c.args.at c.args.old c.args.new c.self.invariant here (slice_get_within s.numbers.items c.args.at c.args.old here) few)

pub returns : goal.returns
returns c =
    let s = c.self.inside in
    let here : slice_get s.numbers.items c.args.at ≡ Some c.args.old = cc in
    let same : set s.numbers.items c.args.at c.args.new ≡ set c.args.self.now c.args.at c.args.new = cc in
    c.exchange.ensures
    ∙ ap (set s.numbers.items c.args.at) (number_now s.numbers.items s.groups.items s.blocks.items s.total c.args.at c.args.old c.args.new c.self.invariant here (slice_get_within s.numbers.items c.args.at c.args.old here))
    ∙ same
