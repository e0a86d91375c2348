use Rattle.std.proofs.Common.{Ok, refl}
use Rattle.std.specs.declared.alloc.AllocError.{AllocError}
use Rattle.pc_feed.proofs.Taking.{taken_as}
use Rattle.pc_feed.proofs.judging.Judging.take_next.Goals as goal

pub returns-in-Head : goal.returns-in-Head
returns-in-Head g c = λ ls m h.
    taken_as {E = AllocError} c.args.core.now ls c.args.line _ c.args.self.now c.take_head.new.self (g.R.Referee.asked c.args.referee.now) (g.R.Referee.asked c.args.referee.now) (Ok tt) c.in-Head.is (c.take_head.ensures _ ls) m h refl

pub returns-in-Slot : goal.returns-in-Slot
returns-in-Slot g c = λ ls m h.
    taken_as c.args.core.now ls c.args.line _ c.args.self.now c.take_slot.new.self (g.R.Referee.asked c.args.referee.now) (g.R.Referee.asked c.args.referee.now) c.take_slot.result c.in-Slot.is (c.take_slot.ensures ls) m h refl
