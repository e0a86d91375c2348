use Rattle.std.proofs.Common.{[]}
use Rattle.pc_sends.specs.Growth.{Grown, TurnsBelow}
use Rattle.pc_sends.proofs.{Grows.At, Sent.MessageOf}
use Rattle.pc_sends.proofs.messages.messages_of.Given as goal

abbrev pub invariant-loop-number : goal.invariant-loop-number
invariant-loop-number l = Grown (TurnsBelow (At (MessageOf l.core) l.numbers) 0 l.number-index) [] l.messages
