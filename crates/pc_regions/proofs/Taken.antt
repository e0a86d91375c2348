-- A value that an `iso` or `trn` place holds is taken to a stack: its region is held there, or is a child there, and
-- everything else is unchanged.
use Rattle.std.specs.Prelude.{◌≡◌, ◌≢◌, ℕ, ◌<◌, ◌≤◌, Bool, true}
use Rattle.pc_heap.specs.{Objects.ObjectMap, declared.value.Value.Value, declared.value.Value.TheVariants.At}
use Rattle.pc_caps.specs.declared.capability.Form.{Form}
use Rattle.pc_caps.specs.declared.capability.Form.TheVariants as form
use Rattle.pc_regions.proofs.{World.{Place, OnStack, Opened, World, home, Fits, Over, Belongs, WorldOk}, Changes.Shifts}

-- The value is not an object of region q.
abbrev pub Outside : World → ℕ → Value → Type 0
Outside w q (At a) = w.region a ≢ q
Outside w q v = Unit {0}

-- What an `iso` or `trn` place p holds has come to the stack: its region is held there, and everything else is
-- unchanged.
pub record Taken (w w' : World) (objects : ObjectMap) (count i b : ℕ) (gone : Place → Bool) (f : Form) (to : Place) (v : Value) : Type 0 where
  pub shifts : Shifts w w' objects count i b gone
  pub region : w'.region ≡ w.region
  pub role : (q : ℕ) → w'.role q ≡ w.role q
  pub context : (j l : ℕ) → j < count → l ≤ w.top j → w'.context j l ≡ w.context j l
  pub top : (j : ℕ) → w'.top j ≡ w.top j
  pub opened : (q j : ℕ) → w.stands q ≡ Opened j → w'.stands q ≡ Opened j
  pub others : (q : ℕ) → Outside w q v → w'.stands q ≡ w.stands q
  pub fits : Fits w' to f v

-- It is free to be taken: it belongs to the actor, and no level below b is over it.
abbrev pub FreeIn : World → ℕ → ℕ → ℕ → Type 0
FreeIn w i b q = Belongs w i q × ((l : ℕ) → l < b → Over w i q l → ⊥)

abbrev pub Free : World → ℕ → ℕ → Value → Type 0
Free w i b (At a) = FreeIn w i b (w.region a)
Free w i b v = Unit {0}

-- Its form is `iso^`, or `trn^` and the stack's place lives with the same region.
abbrev pub Takes : World → Place → Form → Place → Type 0
Takes w p form.IsoE to = Unit {0}
Takes w p form.TrnE to = home w to ≡ home w p
Takes w p f to = ⊥

abbrev pub TakeLaw : Type 0
TakeLaw =
    (w : World) (objects : ObjectMap) (count : ℕ) → WorldOk w objects count → (i : ℕ) → i < count → (b : ℕ)
    → ((j : ℕ) → b < j → j ≤ w.top i → w.stands (w.context i j) ≡ Opened i) → (p : Place) (gone : Place → Bool) → gone p ≡ true
    → (h d l : ℕ) → l ≤ w.top i → (f : Form) (v : Value) → Fits w p f v → Free w i b v → Takes w p f (OnStack i h d l)
    → (w' : World) × Taken w w' objects count i b gone f (OnStack i h d l) v
