-- A value goes up its way: through branches that are joined, and out of recovers that end. Some world makes it fit at
-- the top of the way, and shifts what was there: the frame's other values are preserved, except for those in a recover
-- that has ended.
use Rattle.std.specs.Prelude.{◌≡◌, ℕ, ◌+◌, ◌<◌, Bool, false, ◌&&◌, ◌||◌, List, nat_eq, nat_lt}
use Rattle.pc_heap.specs.{Objects.ObjectMap, declared.value.Value.Value}
use Rattle.pc_core.specs.CoreData.{CoreData}
use Rattle.pc_types.proofs.Types.{OfSome}
use Rattle.pc_regions.proofs.{World.{Place, InSlot, OnStack, InField, InMail, World, FitsSome, AliasSome, WorldOk}, StackForms.{Entry, Ascent, Climbs, top_of}, Fitting.OpenedTo, Changes.Shifts}

-- The place of depth n on the stack of the frame of height h of actor i, at any level; and all places of this frame above level k.
abbrev pub passed : (i h n k : ℕ) → Place → Bool
passed i h n k (InSlot j g s l) = nat_eq i j && (nat_eq h g && nat_lt k l)
passed i h n k (OnStack j g d l) = nat_eq i j && (nat_eq h g && (nat_eq n d || nat_lt k l))
passed i h n k (InField a f) = false
passed i h n k (InMail j t f) = false

-- The value is at this place, in a frame of level `base`, whose last level is that of the entry.
pub record Stands (core : CoreData) (w : World) (objects : ObjectMap) (count i h n base : ℕ) (e : Entry) (v : Value) : Type 0 where
  pub world : WorldOk w objects count
  pub here : i < count
  pub top : w.top i ≡ base + e.depth
  pub opened : OpenedTo w i base e.depth
  pub typed : OfSome core objects e.ty v
  pub fits : FitsSome w (OnStack i h n (base + e.depth)) e.ty v
  pub alias : AliasSome w i base (base + e.depth) e.ty v

-- From world w, in which it was lower, it has come to be there in w'.
pub record Climbed (core : CoreData) (w w' : World) (objects : ObjectMap) (count i h n base : ℕ) (e : Entry) (v : Value) : Type 0 where
  pub stands : Stands core w' objects count i h n base e v
  pub shifts : Shifts w w' objects count i base (passed i h n (base + e.depth))

abbrev pub ClimbLaw : CoreData → Type 0
ClimbLaw core =
    (w : World) (objects : ObjectMap) (count i h n base : ℕ) (way : List Ascent) (e : Entry) (v : Value) → Climbs core way e → Stands core w objects count i h n base e v
    → (w' : World) × Climbed core w w' objects count i h n base (top_of way e) v
