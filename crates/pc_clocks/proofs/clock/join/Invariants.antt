use Rattle.std.proofs.Common.{◌≡◌, ◌<◌, ◌≤◌, ℕ, max, length}
use Rattle.pc_clocks.specs.Seats.{number}
use Rattle.pc_clocks.proofs.clock.join.Given as goal

abbrev pub invariant-loop-actor : goal.invariant-loop-actor
invariant-loop-actor l = record {
  count : length l.clock ≡ length l.fn.clock;
  joined : (a : ℕ) → a < l.actor → number l.clock a ≡ max (number l.fn.clock a) (number l.other a);
  left : (a : ℕ) → l.actor ≤ a → number l.clock a ≡ number l.fn.clock a;
}
