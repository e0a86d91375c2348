use Rattle.pc_sends.specs.{Found.CallsAreFound, Reached.Found}
use Rattle.pc_sends.proofs.reaching.reach.Given as goal

abbrev pub invariant-loop-at : goal.invariant-loop-at
invariant-loop-at l = record {
  found : Found l.noted.core.now l.noted.entities.now l.at l.walk.found;
  known : CallsAreFound l.noted.core.now l.walk.calls l.walk.found;
}
