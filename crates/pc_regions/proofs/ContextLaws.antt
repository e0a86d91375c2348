-- What is preserved while contexts come and go: one is opened, a region is lent as the next one, or the last one ends.
use Rattle.std.specs.Prelude.{◌≡◌, ◌≢◌, ◌⊎◌, ℕ, suc, ◌<◌, ◌≤◌, Bool, true, false, ◌&&◌, None, nat_eq, nat_lt}
use Rattle.pc_heap.specs.{Objects.ObjectMap, declared.value.Value.Value}
use Rattle.pc_caps.specs.declared.capability.Form.{Form}
use Rattle.pc_caps.specs.declared.capability.Form.TheVariants as form
use Rattle.pc_regions.proofs.{World.{World, Place, InSlot, OnStack, InField, InMail, Opened, Alias, Over, WorldOk}, Changes.{with_open, lent, left_by, without_last, Shifts}}

-- The places of frames of actor i above level k.
abbrev pub higher : ℕ → ℕ → Place → Bool
higher i k (InSlot j h s l) = nat_eq i j && nat_lt k l
higher i k (OnStack j h d l) = nat_eq i j && nat_lt k l
higher i k (InField a n) = false
higher i k (InMail j t n) = false

-- ---- a context comes

-- A new region is opened as the next context. What is over other regions stays, and aliases stay what they were.
pub record Opens (w w' : World) (objects : ObjectMap) (count i b : ℕ) (gone : Place → Bool) : Type 0 where
  pub shifts : Shifts w w' objects count i b gone
  pub over : (j : ℕ) {q l : ℕ} → Over w j q l → Over w' j q l
  pub alias : (j c k : ℕ) (f : Form) (v : Value) → j < count → k ≤ w.top j → Alias w j c k f v → Alias w' j c k f v

abbrev pub OpenLaw : Type 0
OpenLaw =
    (w : World) (objects : ObjectMap) (count : ℕ) → WorldOk w objects count → (i : ℕ) → i < count → (b : ℕ) → b ≤ w.top i
    → (gone : Place → Bool) → ((p : Place) → higher i (w.top i) p ≡ true → gone p ≡ true) → Opens w (with_open w i) objects count i b gone

-- A region that is not a context, and that some level from b on is over, is lent as the next context, by a frame of
-- level b above which all contexts are open. What is over it stays over it.
abbrev pub LentLaw : Type 0
LentLaw =
    (w : World) (objects : ObjectMap) (count : ℕ) → WorldOk w objects count → (i : ℕ) → i < count → (b : ℕ) → b ≤ w.top i
    → ((j : ℕ) → b < j → j ≤ w.top i → w.stands (w.context i j) ≡ Opened i) → (q l : ℕ) → w.role q ≡ None → b ≤ l → l ≤ w.top i → Over w i q l
    → (gone : Place → Bool) → ((p : Place) → higher i (w.top i) p ≡ true → gone p ≡ true)
    → Shifts w (lent w i q) objects count i b gone × Over (lent w i q) i q l

-- ---- a context goes

-- The last context, of level k + 1, is one no more. What is over regions at lower levels stays.
pub record Ends (w w' : World) (objects : ObjectMap) (count i k : ℕ) (gone : Place → Bool) : Type 0 where
  pub shifts : Shifts w w' objects count i k gone
  pub over : (j l : ℕ) {q : ℕ} → (i ≢ j) ⊎ (l ≤ k) → Over w j q l → Over w' j q l
  pub alias : (c n : ℕ) (f : Form) (v : Value) → n ≤ k → Alias w i c n f v → Alias w' i c n f v

abbrev pub EndLaw : Type 0
EndLaw =
    (w : World) (objects : ObjectMap) (count : ℕ) → WorldOk w objects count → (i : ℕ) → i < count → (k : ℕ) → w.top i ≡ suc k
    → (gone : Place → Bool) → Ends w (without_last w i) objects count i k gone

-- What the places of its level held is loose before it ends. If it is lent, and some level of a frame that goes on is
-- over it, an alias of form `iso` comes down to that frame.
abbrev pub ended : World → ℕ → ℕ → World
ended w i k = without_last (left_by w (higher i k) i k) i

abbrev pub FallLaw : Type 0
FallLaw =
    (w : World) (objects : ObjectMap) (count : ℕ) → WorldOk w objects count → (i : ℕ) → i < count → (k : ℕ) → w.top i ≡ suc k
    → (gone : Place → Bool) → ((p : Place) → higher i k p ≡ true → gone p ≡ true)
    → Ends w (ended w i k) objects count i k gone
    × ((c l m : ℕ) (v : Value) → c ≤ l → l ≤ k → c ≤ m → Over w i (w.context i (suc k)) l → Alias w i m (suc k) form.Iso v → Alias (ended w i k) i c k form.Iso v)
