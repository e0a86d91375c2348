use Rattle.std.proofs.Common.{◌≡◌, ◌-◌, ◌<◌, ◌≤◌, ℕ, Some, slice_get, length}
use Rattle.pc_token.specs.declared.kinds.Token.{Token}
use Rattle.pc_places.proofs.locals.count_until.Given as goal

abbrev pub invariant-loop-low : goal.invariant-loop-low
invariant-loop-low l = record {
  ordered : l.low ≤ l.high;
  within : l.high ≤ length l.tokens;
  before : (k : ℕ) (t : Token) → k < l.low → slice_get l.tokens k ≡ Some t → t.span.start ≤ l.place;
  after : (k : ℕ) (t : Token) → l.high ≤ k → slice_get l.tokens k ≡ Some t → l.place < t.span.start;
}

abbrev pub decreases-loop-low : goal.decreases-loop-low
decreases-loop-low l = l.high - l.low
