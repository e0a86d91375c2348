-- A field is written: how the world changes from the origin, which is let go, to the old value, which is then where the
-- new one was.
use Rattle.std.specs.{Prelude.{◌≡◌, ◌≢◌, ℕ, suc, ◌+◌, ◌<◌, ◌≤◌, Bool, true, false, Option, Some, None, refl}, FinMap.get}
use Rattle.std.proofs.Common.{inl, inr, ap, sym, subst, ◌∙◌, arith}
use Rattle.pc_heap.specs.{Objects.{ObjectMap, Object}, declared.value.Address.Address, declared.value.Value.Value, declared.value.Value.TheVariants.At}
use Rattle.pc_caps.specs.{Computed.{is_below, may_write}, Tables.{unalias, taken}, declared.capability.Cap.Cap, declared.capability.Form.Form}
use Rattle.pc_caps.specs.declared.capability.Form.TheVariants as form
use Rattle.pc_core.specs.CoreData.{CoreData}
use Rattle.pc_ann.specs.declared.annotation.Ann.{Ann}
use Rattle.pc_valid.specs.Words.{Ty}
use Rattle.pc_regions.proofs.{World.{Place, InSlot, OnStack, InField, InMail, Child, World, home, Fits, FitsSome, Alias, AliasSome, WorldOk}, Fitting.OpenedTo, MoveFits.elsewhere, Changes.Shifts, Settled.{NearFrom, Near, SettleLaw}, CallerKept.from_elsewhere, FieldDrawn.{writer, fits_along, taken_alias, the_field, Through, draw}, FieldLands.{field_near, field_lands}, FieldSeen.{let_go, origin_leaves}, Calm.Calm, ArgumentsSettle.{the_place, the_place_is, from_place, other_place, one_later, near_home, PassedOne, pass_near}, Shifts.{lower_shift, wider, shifts_then}, ControlKeeps.same_below, Taken.TakeLaw}

-- ---- places that are left

-- This field, and the places of the stack from a depth on.
abbrev pub put_gone : (i h n : ℕ) → Address → ℕ → Place → Bool
put_gone i h n a k (InField b f) = the_field a k (InField b f)
put_gone i h n a k (OnStack j g d l) = from_place i h n (OnStack j g d l)
put_gone i h n a k (InSlot j g s l) = false
put_gone i h n a k (InMail j t f) = false

pub put_far : (i h n : ℕ) (a : Address) (k : ℕ) (p : Place) → elsewhere i p ≡ true → put_gone i h n a k p ≡ false
put_far i h n a k (InSlot j g s l) e = refl
put_far i h n a k (OnStack j g d l) e = from_elsewhere i h n (OnStack j g d l) e
put_far i h n a k (InField b f) e = let bad : false ≡ true = e in cc
put_far i h n a k (InMail j t f) e = refl

field_among : (i h n : ℕ) (a : Address) (k : ℕ) (p : Place) → put_gone i h n a k p ≡ false → the_field a k p ≡ false
field_among i h n a k (InSlot j g s l) e = refl
field_among i h n a k (OnStack j g d l) e = refl
field_among i h n a k (InField b f) e = e
field_among i h n a k (InMail j t f) e = refl

place_among : (i h n : ℕ) (a : Address) (k m : ℕ) → n ≤ m → (p : Place) → put_gone i h n a k p ≡ false → the_place i h m p ≡ false
place_among i h n a k m up (InSlot j g s l) e = refl
place_among i h n a k m up (OnStack j g d l) e = one_later i h n m up (OnStack j g d l) e
place_among i h n a k m up (InField b f) e = refl
place_among i h n a k m up (InMail j t f) e = refl

-- ---- near enough still

near_from_on : (w v : World) (p to : Place) (f : Form) → home v to ≡ home w to → home v p ≡ home w p → v.stands (home w to) ≡ w.stands (home w to) → NearFrom w p f to → NearFrom v p f to
near_from_on w v p to form.TrnE a b s (inl e) = inl (a ∙ e ∙ sym b)
near_from_on w v p to form.TrnE a b s (inr e) = inr (e.0, ap v.stands a ∙ s ∙ e.1 ∙ ap (λ (u : ℕ). Child u e.0) (sym b))
near_from_on w v p to form.Trn a b s e = a ∙ e ∙ sym b
near_from_on w v p to form.Ref a b s e = a ∙ e ∙ sym b
near_from_on w v p to form.Box a b s e = a ∙ e ∙ sym b
near_from_on w v p to form.IsoE a b s e = tt
near_from_on w v p to form.Iso a b s e = tt
near_from_on w v p to form.Val a b s e = tt
near_from_on w v p to form.Tag a b s e = tt

-- In another world in which both places live with what they did, and the one that it goes to stands as it did.
near_on : (w v : World) (p to : Place) (f g : Form) → home v to ≡ home w to → home v p ≡ home w p → v.stands (home w to) ≡ w.stands (home w to) → Near w p f g to → Near v p f g to
near_on w v p to f form.IsoE a b s e = tt
near_on w v p to f form.Iso a b s e = tt
near_on w v p to f form.Val a b s e = tt
near_on w v p to f form.Tag a b s e = tt
near_on w v p to f form.TrnE a b s e = near_from_on w v p to f a b s e
near_on w v p to f form.Trn a b s e = near_from_on w v p to f a b s e
near_on w v p to f form.Ref a b s e = near_from_on w v p to f a b s e
near_on w v p to f form.Box a b s e = near_from_on w v p to f a b s e

-- ---- the field is written

pub other_depth : (m : ℕ) → suc m ≢ m
other_depth m e = omega (arith, e)

later_depth : (m : ℕ) → m ≢ suc m
later_depth m e = omega (arith, e)

base_low : (base d t : ℕ) → t ≡ base + d → base ≤ t
base_low base d t e = omega (arith, e)

-- What settles from a place of the stack, from this depth on, leaves no other places.
pub place_shift : (objects : ObjectMap) (count i base d h m : ℕ) (a : Address) (k : ℕ) (v x : World) (n : ℕ) → m ≤ n → v.top i ≡ base + d → Calm v x objects count i (the_place i h n) → Shifts v x objects count i base (put_gone i h m a k)
place_shift objects count i base d h m a k v x n up top calm =
    wider v x objects count i base (the_place i h n) (put_gone i h m a k) (λ p e. place_among i h m a k n up p e) (lower_shift v x objects count i (v.top i) base (the_place i h n) (base_low base d (v.top i) top) calm.shifts)

module _ (settle : SettleLaw) (take : TakeLaw) (core : CoreData) (ann : Ann) (objects : ObjectMap) (count i base d : ℕ) (here : i < count) (h m : ℕ) (a : Address) (x : Object) (at : get objects a ≡ Some x) (k : ℕ) (c : Cap) where
  -- An origin that stood above the value is let go.
  pub origin_through : (w : World) → WorldOk w objects count → w.top i ≡ base + d → OpenedTo w i base d → (o g : Form) → taken o c ≡ Some g → Fits w (OnStack i h (suc m) (base + d)) o (At a) → Alias w i base (base + d) o (At a)
      → (u : World) × Calm w u objects count i (the_place i h (suc m)) × Through objects count i base d here h (suc m) a k u (let_go o)
  origin_through w ok top opened o g is fits alias =
      let got = origin_leaves settle w objects count ok i here h (suc m) base d top (the_place i h (suc m)) (the_place_is i h (suc m) (base + d)) o (At a) fits alias in (
        got.0,
        got.1.calm,
        record {
          world = got.1.calm.shifts.world;
          top = got.1.calm.top i ∙ top;
          opened = λ j low up. ap got.0.stands (got.1.calm.context i j here (subst (λ (l : ℕ). j ≤ l) (sym top) up)) ∙ got.1.calm.opened (w.context i j) i (opened j low up);
          writes = writer o g c is;
          fits = got.1.fits;
          alias = got.2;
        },
      )

  -- A value of form f, which was below the origin, is in the field, and the old one is where that value was.
  pub record Written (u : World) (y : Value) (ty : Option Ty) (z : Value) : Type 0 where
    pub world : World
    pub shifts : Shifts u world objects count i base (put_gone i h m a k)
    pub top : world.top i ≡ base + d
    pub opened : OpenedTo world i base d
    pub fits : Fits world (InField a k) (unalias c) y
    pub old : FitsSome world (OnStack i h m (base + d)) ty z
    pub alias : AliasSome world i base (base + d) ty z

  module _ (u : World) (o : Form) (t : Through objects count i base d here h (suc m) a k u o) (f : Form) (y : Value) (less : is_below f (unalias c) ≡ true) (may : may_write o f c ≡ true) (fit : Fits u (OnStack i h m (base + d)) f y) where
    abbrev level : ℕ
    level = base + d

    abbrev place : Place
    place = OnStack i h m (base + d)

    low : level ≤ level
    low = omega arith

    -- The value settles in the field, in a world in which the origin's region stands as it did.
    enters : (v : World) → WorldOk v objects count → v.top i ≡ level → v.region a ≡ u.region a → v.context i level ≡ u.context i level → v.stands (u.region a) ≡ u.stands (u.region a) → Fits v place f y
        → PassedOne core ann settle objects count i h level level here low v m (InField a k) (unalias c) y
    enters v ok top region context stands fits =
        let near = field_near u objects count i base d t.world here t.top h m a k o f c may t.writes (fits_along u i h (suc m) m level o (u.region a) t.writes t.fits) t.alias in
        let lands = field_lands u objects count i base d t.world here t.top h (suc m) a k m level o (unalias c) x at t.writes t.fits t.alias in
        let is : v.stands (v.region a) ≡ u.stands (u.region a) = ap v.stands region ∙ stands in
        pass_near core ann settle objects count i h level level here low v ok top m (InField a k) f (unalias c) y less fits (near_on u v place (InField a k) f (unalias c) region context stands near)
        (lands.0, λ e. lands.1 (sym is ∙ e), λ q e. lands.2 q (sym is ∙ e))

    still_open : (v x : World) (n : ℕ) → v.top i ≡ level → Calm v x objects count i (the_place i h n) → OpenedTo v i base d → OpenedTo x i base d
    still_open v x n top calm opened j up to = ap x.stands (calm.context i j here (subst (λ (l : ℕ). j ≤ l) (sym top) to)) ∙ calm.opened (v.context i j) i (opened j up to)

    -- If nothing is required of the old value.
    pub put_new : (z : Value) → Written u y None z
    put_new z =
        let one = enters u t.world t.top refl refl refl fit in
        record {
          world = one.world;
          shifts = place_shift objects count i base d h m a k u one.world m (omega arith) t.top one.calm;
          top = one.calm.top i ∙ t.top;
          opened = still_open u one.world m t.top one.calm t.opened;
          fits = one.fits;
          old = tt;
          alias = tt;
        }

    -- If the origin gives up the old value.
    pub put_old : (e : ℕ) (g : Form) (z : Value) → taken o c ≡ Some g → Fits u (InField a k) (unalias c) z → Written u y (Some (e, g)) z
    put_old e g z is was =
        let up = draw objects count i base d here h (suc m) a k take u o t c g is z was in
        let v : World = up.world in
        let top_v : v.top i ≡ level = up.top ∙ t.top in
        let one = enters v up.shifts.world top_v up.region up.context up.stands (up.shifts.fits place f y refl fit) in
        let b : World = one.world in
        let top_b : b.top i ≡ level = one.calm.top i ∙ top_v in
        let two = pass_near core ann settle objects count i h level level here low b one.calm.shifts.world top_b (suc m) place g g z (same_below g)
        (one.calm.shifts.fits (OnStack i h (suc m) level) g z (other_place i h m (suc m) level (later_depth m)) up.fits) (near_home b (OnStack i h (suc m) level) g g place refl) (refl, subst (λ (l : ℕ). level ≤ l) (sym top_b) low)
        in
        let gone = put_gone i h m a k in
        let drawn : Shifts u v objects count i base gone = wider u v objects count i base (the_field a k) gone (λ p q. field_among i h m a k p q) up.shifts in
        record {
          world = two.world;
          shifts = shifts_then u b two.world objects count i base gone (shifts_then u v b objects count i base gone drawn (place_shift objects count i base d h m a k v b m (omega arith) top_v one.calm)) (place_shift objects count i base d h m a k b two.world (suc m) (omega arith) top_b two.calm);
          top = two.calm.top i ∙ top_b;
          opened = still_open b two.world (suc m) top_b two.calm (still_open v b m top_v one.calm up.opened);
          fits = two.calm.shifts.fits (InField a k) (unalias c) y refl one.fits;
          old = two.fits;
          alias = taken_alias two.world i base level o g c z is;
        }
