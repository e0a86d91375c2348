-- Conflicts between the accesses that are reported.
use Rattle.std.specs.Prelude.{◌≡◌, ◌≢◌, ◌⊎◌, ◌<◌, ◌≤◌, ℕ, suc, true, List, length, Option, Some, None, slice_get}
use Rattle.pc_clocks.specs.Seats.{number}
use Rattle.pc_trace.specs.{declared.touch.Touch.Touch, declared.touch.Verdict.Verdict, declared.touch.Verdict.TheVariants.{Ordered, Conflict}}

-- Two accesses of different actors to one field, one of which writes.
pub record Clash (q p : Touch) : Type 0 where
  pub differ : q.actor ≢ p.actor
  pub address : q.address ≡ p.address
  pub field : q.field ≡ p.field
  pub writes : (q.write ≡ true) ⊎ (p.write ≡ true)

-- The clock of p counts q.
abbrev pub IsKnownTo : Touch → Touch → Type 0
IsKnownTo q p = number q.clock q.actor ≤ number p.clock q.actor

abbrev pub Unknown : Touch → Touch → Type 0
Unknown q p = Clash q p × (number p.clock q.actor < number q.clock q.actor)

-- The clock of p counts all of these accesses that clash with p, from one place on and before another.
abbrev pub KnownBetween : List Touch → (from to : ℕ) → Touch → Type 0
KnownBetween touches from to p = (m : ℕ) (q : Touch) → from ≤ m → m < to → slice_get touches m ≡ Some q → Clash q p → IsKnownTo q p

-- Each access before this place counts all earlier ones that clash with it.
abbrev pub KnownUpTo : List Touch → ℕ → Type 0
KnownUpTo touches to = (n : ℕ) (p : Touch) → n < to → slice_get touches n ≡ Some p → KnownBetween touches 0 n p

-- The latest access before a place that clashes with p and is not counted by it.
pub record LatestUnknown (touches : List Touch) (to : ℕ) (p : Touch) (m : ℕ) : Type 0 where
  pub other : Touch
  pub below : m < to
  pub is : slice_get touches m ≡ Some other
  pub unknown : Unknown other p
  pub later : KnownBetween touches (suc m) to p

-- What is found about the access at a place.
abbrev pub FoundOfAccess : List Touch → ℕ → Option ℕ → Type 0
FoundOfAccess touches at None = (p : Touch) → slice_get touches at ≡ Some p → KnownBetween touches 0 at p
FoundOfAccess touches at (Some m) = (p : Touch) → slice_get touches at ≡ Some p → LatestUnknown touches at p m

-- The first access that does not count one it clashes with, and the latest of those.
pub record FirstUnknown (touches : List Touch) (first second : ℕ) : Type 0 where
  pub at : ℕ
  pub from : ℕ
  pub one : Touch
  pub other : Touch
  pub is : slice_get touches at ≡ Some one
  pub is_too : slice_get touches from ≡ Some other
  pub first_is : first ≡ other.place
  pub second_is : second ≡ one.place
  pub latest : LatestUnknown touches at one from
  pub earlier : KnownUpTo touches at

abbrev pub JudgedAccesses : List Touch → Verdict → Type 0
JudgedAccesses touches Ordered = KnownUpTo touches (length touches)
JudgedAccesses touches (Conflict first second) = FirstUnknown touches first second
