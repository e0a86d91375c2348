use Rattle.std.proofs.{Common.{sym, subst}, lemmas.Result.on_ok_weaker}
use Rattle.pc_base.proofs.Bools.{no_both}
use Rattle.pc_sends.specs.Reached.{IsMessage}
use Rattle.pc_sends.proofs.{Grows.grown_there, Sent.{MessageOf, message_found}}
use Rattle.pc_sends.proofs.messages.find_message.Goals as goal

pub returns-then-is_message_at : goal.returns-then-is_message_at
returns-then-is_message_at c =
    on_ok_weaker c.add.result (message_found c.args.core.now c.args.number c.args.messages.now c.add.new.self (c.is_message_at.ensures.0 c.if-is_message_at.true)) c.add.ensures

pub returns-else-is_message_at : goal.returns-else-is_message_at
returns-else-is_message_at c =
    grown_there (MessageOf c.args.core.now c.args.number) c.args.messages.now
    (λ t m. absurd (no_both c.is_message_at.result (c.is_message_at.ensures.1 (subst (IsMessage c.args.core.now) (sym m.0) m.1)) c.if-is_message_at.false))
