use Rattle.std.proofs.{Common.refl, lemmas.Bool.both_ways}
use Rattle.pc_feed.proofs.{Openings.{slot_wrong, slot_pushed}, Places.slot_at, Taking.nothing}
use Rattle.pc_feed.proofs.judging.Judging.take_slot.Goals as goal

pub returns-then-not-may_have : goal.returns-then-not-may_have
returns-then-not-may_have c = λ ls m h.
    let so = nothing c.args.core.now ls c.args.self.now c.requires.right h in
    let at = slot_at c.args.core.now ls c.args.self.now so c.args.ty.0 c.args.ty.1 m in
    (slot_wrong c.args.core.now ls c.args.self.now so c.args.ty at c.len-number.result c.len-number.ensures (λ e. both_ways c.may_have.result c.if-not-may_have.true (c.may_have.ensures.1 e)), refl)

pub returns : goal.returns
returns c = λ ls m h.
    let so = nothing c.args.core.now ls c.args.self.now c.requires.right h in
    let at = slot_at c.args.core.now ls c.args.self.now so c.args.ty.0 c.args.ty.1 m in
    slot_pushed c.args.core.now ls c.args.self.now so c.args.ty at c.len-number.result c.len-number.ensures (c.may_have.ensures.0 c.if-not-may_have.false) c.requires.right c.push.new.self c.push.result c.push.ensures.ok
