use Rattle.std.proofs.Common.{◌≡◌, ℕ, length}
use Rattle.pc_clocks.specs.Seats.{number}
use Rattle.pc_clocks.proofs.clock.widen.Given as goal

abbrev pub invariant-loop : goal.invariant-loop
invariant-loop l = record {
  count : length l.clock ≡ l.counter;
  same : (a : ℕ) → number l.clock a ≡ number l.fn.clock a;
}
