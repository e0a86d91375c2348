-- For each field, the accesses that represent all earlier ones.
use Rattle.std.specs.Prelude.{◌≡◌, ◌⊎◌, ◌<◌, ◌≤◌, ℕ, true, false, List, Option, Some, None, slice_get}
use Rattle.pc_base.specs.Lists.{Has}
use Rattle.pc_clocks.specs.Seats.{number}
use Rattle.pc_trace.specs.{declared.lasts.Spot.Spot, declared.touch.Touch.Touch, Clashes.Unknown, Lasts.{RowList, row_of}}

abbrev pub spot_of : Touch → Spot
spot_of t = record { maker = t.address.maker; serial = t.address.serial; field = t.field }

-- The later of two accesses to a field represents the earlier one: they are of one actor, and the later one writes if
-- the earlier one does.
abbrev pub Replaces : Touch → Touch → Type 0
Replaces later earlier = (later.actor ≡ earlier.actor) × ((later.write ≡ true) ⊎ (earlier.write ≡ false))

-- One of the places kept for its field represents access q at place m.
pub record StandsForAccess (touches : List Touch) (rows : RowList) (m : ℕ) (q : Touch) : Type 0 where
  pub place : ℕ
  pub other : Touch
  pub later : m ≤ place
  pub has : Has (row_of rows (spot_of q)) place
  pub is : slice_get touches place ≡ Some other
  pub address : other.address ≡ q.address
  pub field : other.field ≡ q.field
  pub replaces : (place ≡ m) ⊎ Replaces other q

-- This holds for all accesses before a place, and no later place is kept.
pub record Covers (touches : List Touch) (at : ℕ) (rows : RowList) : Type 0 where
  pub below : (s : Spot) (m : ℕ) → Has (row_of rows s) m → m < at
  pub covered : (m : ℕ) (q : Touch) → m < at → slice_get touches m ≡ Some q → StandsForAccess touches rows m q

-- Of two accesses of one actor, the later one's clock counts more of its events.
abbrev pub Rises : List Touch → Type 0
Rises touches = (m n : ℕ) (q p : Touch) → m < n → slice_get touches m ≡ Some q → slice_get touches n ≡ Some p → q.actor ≡ p.actor → number q.clock q.actor < number p.clock p.actor

-- None of the first `count` places of a row has an access that clashes with p and is not counted by it.
abbrev pub NoneUnknown : List Touch → List ℕ → ℕ → Touch → Type 0
NoneUnknown touches row count p = (k m : ℕ) (q : Touch) → k < count → slice_get row k ≡ Some m → slice_get touches m ≡ Some q → Unknown q p → ⊥

-- The access at this place of the row does, and none of the others that do is later.
pub record LatestKnownOf (touches : List Touch) (row : List ℕ) (count : ℕ) (p : Touch) (best : ℕ) : Type 0 where
  pub among : Has row best
  pub other : Touch
  pub is : slice_get touches best ≡ Some other
  pub unknown : Unknown other p
  pub latest : (k m : ℕ) (q : Touch) → k < count → slice_get row k ≡ Some m → slice_get touches m ≡ Some q → Unknown q p → m ≤ best

abbrev pub LatestOf : List Touch → List ℕ → ℕ → Touch → Option ℕ → Type 0
LatestOf touches row count p None = NoneUnknown touches row count p
LatestOf touches row count p (Some best) = LatestKnownOf touches row count p best

-- What remains of the first places of a row after access p.
pub record KeptOf (touches : List Touch) (row : List ℕ) (count : ℕ) (p : Touch) (new : List ℕ) : Type 0 where
  pub kept : (k m : ℕ) (q : Touch) → k < count → slice_get row k ≡ Some m → slice_get touches m ≡ Some q → Replaces p q ⊎ Has new m
  pub only : (m : ℕ) → Has new m → Has row m
