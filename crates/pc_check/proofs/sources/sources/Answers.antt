use Rattle.std.proofs.Common.{length, sym, ap, subst, arith}
use Rattle.pc_check.specs.Sources.{Filled}
use Rattle.pc_check.proofs.Filling.{filled_start, filled_end}
use Rattle.pc_check.proofs.sources.sources.Goals as goal

pub loop-left-init : goal.loop-left-init
loop-left-init c =
    let core = c.args.core.now in
    let count = ap length c.nodes-left.ensures in
    record { filled = subst (Filled core _) (sym count) (filled_start core _ c.formed.ensures c.in_ok-sources.ensures); within = omega (arith, count) }

pub returns : goal.returns
returns c =
    let zero = c.loop-left-test.false in
    filled_end c.args.core.now _ c.formed.ensures (subst (Filled c.args.core.now _) (omega (arith, zero)) c.loop-left.invariant.filled)
