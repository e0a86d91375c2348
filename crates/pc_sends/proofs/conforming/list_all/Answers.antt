use Rattle.std.proofs.Common.{◌≡◌, ◌+◌, length, ap, sym, subst, arith}
use Rattle.pc_sends.proofs.Listed.{ListsTo, lists_none, lists_push, lists_all}
use Rattle.pc_sends.proofs.conforming.list_all.Goals as goal

pub loop-known-init : goal.loop-known-init
loop-known-init c = subst (ListsTo c.args.core.now 0) (sym c.new-lists.ensures) (lists_none c.args.core.now)

pub loop-known-preserved : goal.loop-known-preserved
loop-known-preserved c =
    subst (ListsTo c.args.core.now (c.loop-known.known + 1)) (sym c.in_ok-push.ensures.ok)
    (lists_push c.args.core.now c.loop-known.known c.loop-known.lists c.in_ok-all_of.field-0 c.loop-known.invariant c.in_ok-all_of.ensures)

pub returns : goal.returns
returns c =
    let high = c.loop-known.auto.known-end in
    let low = c.loop-known-test.false in
    let same = ap length c.entities.ensures in
    let all : c.loop-known.known ≡ length c.args.core.now.entities = omega (arith, high, low, same) in
    lists_all c.args.core.now c.loop-known.known c.loop-known.lists c.loop-known.invariant all
