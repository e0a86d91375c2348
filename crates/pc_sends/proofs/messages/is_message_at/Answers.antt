use Rattle.std.proofs.Common.{sym}
use Rattle.pc_core.specs.declared.declarations.Method.{Method}
use Rattle.pc_sends.specs.Tables.{is_message}
use Rattle.pc_sends.proofs.Tests.{passes_there, passes_none}
use Rattle.pc_sends.proofs.messages.is_message_at.Goals as goal

pub returns-in-Some : goal.returns-in-Some
returns-in-Some c = passes_there (λ (x : Method). is_message x.kind) c.args.core.now.methods c.args.number c.in-Some.method.now c.is_message.result (sym c.in-Some.ensures) c.is_message.ensures

pub returns-in-None : goal.returns-in-None
returns-in-None c = passes_none (λ (x : Method). is_message x.kind) c.args.core.now.methods c.args.number (sym c.in-None.ensures)
