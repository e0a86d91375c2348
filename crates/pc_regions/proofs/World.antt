-- Regions: each object is in one, and each region stands in one way: it is held at one place, is a child of another, is
-- open for an actor, is loose, or is frozen. What follows from that goes along chains of holders, and is not part of
-- the state.
use Rattle.std.specs.{Prelude.{◌≡◌, ◌⊎◌, ℕ, ◌<◌, ◌≤◌, Bool, true, false, Option, Some, None}, FinMap.get}
use Rattle.pc_heap.specs.{Objects.{ObjectMap, Object}, declared.value.Address.Address, declared.value.Value.Value, declared.value.Value.TheVariants.At}
use Rattle.pc_caps.specs.declared.capability.Form.{Form}
use Rattle.pc_caps.specs.declared.capability.Form.TheVariants as form
use Rattle.pc_semantics.specs.Configurations.{own_address}
use Rattle.pc_valid.specs.Words.{Ty}

-- ---- places

-- Where a value can be. Frames count from the first, places of a stack from its bottom, and messages in the order in
-- which they were sent, so that no push, return or take renames a place. A place of a frame has the level of its
-- context.
pub data Place : Type 0 where
  InSlot : (actor height slot level : ℕ) → Place
  OnStack : (actor height depth level : ℕ) → Place
  InField : (object : Address) (field : ℕ) → Place
  InMail : (actor ticket argument : ℕ) → Place

-- ---- regions

-- Not in use; frozen; open, when an actor makes things and no place holds it; loose, with no holder, at a level of an
-- actor; held at a place that is declared `iso`; or a `trn` child of a region, at a place that is declared `trn` or at
-- none.
pub data Standing : Type 0 where
  Unused : Standing
  Froze : Standing
  Opened : (actor : ℕ) → Standing
  Loose : (actor level : ℕ) → Standing
  Held : (at : Place) → Standing
  Child : (parent : ℕ) (at : Option Place) → Standing

-- For each object its region, and for each region how it stands. Each actor has contexts, of the levels 0 to `top`, and
-- a region that is a context has a role. Each actor was sent a number of messages. From `next` on no region is in use.
pub record World : Type 0 where
  pub region : Address → ℕ
  pub stands : ℕ → Standing
  pub role : ℕ → Option (ℕ × ℕ)
  pub context : ℕ → ℕ → ℕ
  pub top : ℕ → ℕ
  pub sent : ℕ → ℕ
  pub next : ℕ

-- The region with which a place lives.
abbrev pub home : World → Place → ℕ
home w (InSlot i h s l) = w.context i l
home w (OnStack i h d l) = w.context i l
home w (InField a k) = w.region a
home w (InMail i t k) = 0

-- ---- chains

-- Frozen itself, held by a field of an object that is, or a child of what is.
pub data Frozen (w : World) : ℕ → Type 0 where
  ice : {q : ℕ} → w.stands q ≡ Froze → Frozen w q
  in_ice : {q : ℕ} → (a : Address) (k : ℕ) → w.stands q ≡ Held (InField a k) → Frozen w (w.region a) → Frozen w q
  under_ice : {q : ℕ} → (u : ℕ) (at : Option Place) → w.stands q ≡ Child u at → Frozen w u → Frozen w q

-- Of actor i: open for it or loose, held by a slot or a stack of it, held by a field of an object of it, or a child of it.
pub data Belongs (w : World) (i : ℕ) : ℕ → Type 0 where
  opened : {q : ℕ} → w.stands q ≡ Opened i → Belongs w i q
  loose : {q : ℕ} → (l : ℕ) → w.stands q ≡ Loose i l → Belongs w i q
  slot : {q : ℕ} → (h s l : ℕ) → w.stands q ≡ Held (InSlot i h s l) → Belongs w i q
  stack : {q : ℕ} → (h d l : ℕ) → w.stands q ≡ Held (OnStack i h d l) → Belongs w i q
  field : {q : ℕ} → (a : Address) (k : ℕ) → w.stands q ≡ Held (InField a k) → Belongs w i (w.region a) → Belongs w i q
  child : {q : ℕ} → (u : ℕ) (at : Option Place) → w.stands q ≡ Child u at → Belongs w i u → Belongs w i q

-- What is read from region p: p itself, a child of what is read from it, or frozen.
pub data Seen (w : World) (p : ℕ) : ℕ → Type 0 where
  same : {q : ℕ} → q ≡ p → Seen w p q
  under : {q : ℕ} → (u : ℕ) (at : Option Place) → w.stands q ≡ Child u at → Seen w p u → Seen w p q
  frozen : {q : ℕ} → Frozen w q → Seen w p q

-- A place that is not on a stack.
abbrev pub steady : Option Place → Bool
steady (Some (OnStack i h d l)) = false
steady at = true

-- What holds region q is at level l of actor i: a slot of that level, or a context of that level whose field or child it is,
-- or a region over which level l is. There is none over what a stack holds: it is taken from there before it is used.
pub data Over (w : World) (i : ℕ) : ℕ → ℕ → Type 0 where
  over_loose : {q l : ℕ} → w.stands q ≡ Loose i l → Over w i q l
  over_slot : {q l : ℕ} → (h s : ℕ) → w.stands q ≡ Held (InSlot i h s l) → Over w i q l
  over_own : {q l : ℕ} → (a : Address) (k : ℕ) → w.stands q ≡ Held (InField a k) → w.role (w.region a) ≡ Some (i, l) → Over w i q l
  over_field : {q l : ℕ} → (a : Address) (k : ℕ) → w.stands q ≡ Held (InField a k) → w.role (w.region a) ≡ None → Over w i (w.region a) l → Over w i q l
  over_part : {q l : ℕ} → (u : ℕ) (at : Option Place) → w.stands q ≡ Child u at → steady at ≡ true → w.role u ≡ Some (i, l) → Over w i q l
  over_child : {q l : ℕ} → (u : ℕ) (at : Option Place) → w.stands q ≡ Child u at → steady at ≡ true → w.role u ≡ None → Over w i u l → Over w i q l

-- ---- values at places

-- Region q, of a value of this form at place p. An alias of form `iso` or `tag` requires nothing of it.
abbrev pub FitsIn : World → Place → Form → ℕ → Type 0
FitsIn w p form.IsoE q = w.stands q ≡ Held p
FitsIn w p form.TrnE q = w.stands q ≡ Child (home w p) (Some p)
FitsIn w p form.Iso q = Unit {0}
FitsIn w p form.Trn q = Seen w (home w p) q
FitsIn w p form.Ref q = q ≡ home w p
FitsIn w p form.Val q = Frozen w q
FitsIn w p form.Box q = Seen w (home w p) q
FitsIn w p form.Tag q = Unit {0}

-- A value of this form at place p. A place that is declared of a capability has what would be stored there.
abbrev pub Fits : World → Place → Form → Value → Type 0
Fits w p f (At a) = FitsIn w p f (w.region a)
Fits w p f v = Unit {0}

abbrev pub FitsSome : World → Place → Option Ty → Value → Type 0
FitsSome w p None v = Unit {0}
FitsSome w p (Some t) v = Fits w p t.1 v

-- An alias that is about to be used, in a frame of level b of actor i at level k: its region is not a context, and what
-- is over it is at a level from b to k. An `iso` one is not a child, and a `trn` one is a child of the context of level
-- k.
abbrev pub AliasIn : World → ℕ → ℕ → ℕ → Form → ℕ → Type 0
AliasIn w i b k form.Iso q = (w.role q ≡ None) × ((u : ℕ) (at : Option Place) → w.stands q ≡ Child u at → ⊥) × (l : ℕ) × (b ≤ l) × (l ≤ k) × Over w i q l
AliasIn w i b k form.Trn q = (w.role q ≡ None) × (at : Option Place) × (w.stands q ≡ Child (w.context i k) at) × (steady at ≡ true)
AliasIn w i b k f q = Unit {0}

abbrev pub Alias : World → ℕ → ℕ → ℕ → Form → Value → Type 0
Alias w i b k f (At a) = AliasIn w i b k f (w.region a)
Alias w i b k f v = Unit {0}

abbrev pub AliasSome : World → ℕ → ℕ → ℕ → Option Ty → Value → Type 0
AliasSome w i b k None v = Unit {0}
AliasSome w i b k (Some t) v = Alias w i b k t.1 v

-- ---- contexts

-- A world fits the objects and this number of actors: the contexts and the roles agree, the first context of an actor
-- is open and has its object, and each other one is open, or is lent: then what is over it is at a lower level. What is
-- in use is below `next`. The region of an address without an object is not in use; that of an object is, and so is
-- each region that is or was a context.
pub record WorldOk (w : World) (objects : ObjectMap) (count : ℕ) : Type 0 where
  pub zero : w.role 0 ≡ Some (0, 0)
  pub named : (i j : ℕ) → i < count → j ≤ w.top i → w.role (w.context i j) ≡ Some (i, j)
  pub roles : (q i j : ℕ) → w.role q ≡ Some (i, j) → (i < count) × (j ≤ w.top i) × (w.context i j ≡ q)
  pub root : (i : ℕ) → i < count → w.stands (w.context i 0) ≡ Opened i
  pub own : (i : ℕ) → i < count → w.region (own_address i) ≡ w.context i 0
  pub contexts : (i j : ℕ) → i < count → j ≤ w.top i → (w.stands (w.context i j) ≡ Opened i) ⊎ ((l : ℕ) × (l < j) × Over w i (w.context i j) l)
  pub unused : (q : ℕ) → w.next ≤ q → (w.stands q ≡ Unused) × (w.role q ≡ None)
  pub regions : (a : Address) → w.region a < w.next
  pub parents : (q u : ℕ) (at : Option Place) → w.stands q ≡ Child u at → u < w.next
  pub holders : (q : ℕ) (a : Address) (k : ℕ) → w.stands q ≡ Held (InField a k) → (o : Object) × (get objects a ≡ Some o)
  pub absent : (a : Address) → get objects a ≡ None → w.stands (w.region a) ≡ Unused
  pub present : (a : Address) (o : Object) → get objects a ≡ Some o → w.stands (w.region a) ≡ Unused → ⊥
  pub homes : (i l : ℕ) → i < count → w.stands (w.context i l) ≡ Unused → ⊥
