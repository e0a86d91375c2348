use Rattle.std.proofs.Common.{[]}
use Rattle.pc_sends.specs.{Growth.{Grown, TurnsBelow}, Found.CallsAreFound, Reached.ReachedUses}
use Rattle.pc_sends.proofs.messages.used_from.Given as goal

abbrev pub invariant-loop-number : goal.invariant-loop-number
invariant-loop-number l = record {
  grown : Grown (TurnsBelow (ReachedUses l.noted.core.now l.noted.entities.now) l.first l.number) [] l.walk.found;
  known : CallsAreFound l.noted.core.now l.walk.calls l.walk.found;
}
