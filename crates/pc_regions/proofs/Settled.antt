-- A value on a stack settles: it comes to another place, at the same form or at one above. Its region is held there,
-- becomes a child or a part of the one that the place lives with, freezes, or is loose; a value of a form that shares
-- its region with others just comes. Nothing is over what a stack holds, so everything that is over another region
-- stays.
use Rattle.std.specs.{Prelude.{◌≡◌, ◌≢◌, ◌⊎◌, ℕ, ◌<◌, ◌≤◌, Bool, true, Option, Some}, FinMap.get}
use Rattle.pc_heap.specs.{Objects.{ObjectMap, Object}, declared.value.Value.Value}
use Rattle.pc_caps.specs.{Computed.is_below, Tables.sendable_form, declared.capability.Form.Form}
use Rattle.pc_caps.specs.declared.capability.Form.TheVariants as form
use Rattle.pc_regions.proofs.{World.{Place, InSlot, OnStack, InField, InMail, Held, Child, World, home, Fits, Alias, WorldOk}, Calm.Calm}

-- ---- where a value may come to

-- A place of a level of the actor; a field of an object that is there, whose region is not the one that place p holds; or a message,
-- for what may be sent.
abbrev pub Lands : World → ObjectMap → ℕ → Place → Form → Place → Type 0
Lands w objects i p g (InSlot j h s l) = (j ≡ i) × (l ≤ w.top i)
Lands w objects i p g (OnStack j h d l) = (j ≡ i) × (l ≤ w.top i)
Lands w objects i p g (InField a k) = ((o : Object) × (get objects a ≡ Some o)) × (w.stands (w.region a) ≢ Held p) × ((u : ℕ) → w.stands (w.region a) ≢ Child u (Some p))
Lands w objects i p g (InMail j t k) = sendable_form g ≡ true

-- What is tied to the region of its place goes to where that is the same one. A `trn^` may also go below a child of it.
abbrev pub NearTrn : World → Place → Place → Type 0
NearTrn w p to = (home w to ≡ home w p) ⊎ ((at : Option Place) × (w.stands (home w to) ≡ Child (home w p) at))

abbrev pub NearFrom : World → Place → Form → Place → Type 0
NearFrom w p form.TrnE to = NearTrn w p to
NearFrom w p form.Trn to = home w to ≡ home w p
NearFrom w p form.Ref to = home w to ≡ home w p
NearFrom w p form.Box to = home w to ≡ home w p
NearFrom w p f to = Unit {0}

-- From place p with form f to another place with form g, if nothing is required of a form that is tied to no region.
abbrev pub Near : World → Place → Form → Form → Place → Type 0
Near w p f form.IsoE to = Unit {0}
Near w p f form.Iso to = Unit {0}
Near w p f form.Val to = Unit {0}
Near w p f form.Tag to = Unit {0}
Near w p f g to = NearFrom w p f to

-- ---- what settles

-- The value has come to place `to` with form g: all contexts, roles and levels are unchanged, including those over
-- other regions and of aliases. If f was the form of an alias that may be used, or of no alias, g is that of one that
-- may be used at the last level.
pub record Settled (w w' : World) (objects : ObjectMap) (count i : ℕ) (gone : Place → Bool) (f g : Form) (to : Place) (v : Value) : Type 0 where
  pub calm : Calm w w' objects count i gone
  pub fits : Fits w' to g v
  pub fresh : (c : ℕ) → c ≤ w.top i → (g ≡ form.Trn → home w to ≡ w.context i (w.top i)) → Alias w i c (w.top i) f v → Alias w' i c (w.top i) g v

-- What is at a place of a stack of the actor may settle at each place where it lands, near enough. It leaves its old
-- place.
abbrev pub SettleLaw : Type 0
SettleLaw =
    (w : World) (objects : ObjectMap) (count : ℕ) → WorldOk w objects count → (i : ℕ) → i < count → (h d l : ℕ) → l ≤ w.top i
    → (gone : Place → Bool) → gone (OnStack i h d l) ≡ true → (to : Place) (f g : Form) (v : Value) → is_below f g ≡ true
    → Fits w (OnStack i h d l) f v → Near w (OnStack i h d l) f g to → Lands w objects i (OnStack i h d l) g to
    → (w' : World) × Settled w w' objects count i gone f g to v
