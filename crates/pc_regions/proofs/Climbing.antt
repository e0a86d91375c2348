-- A value goes up its way, step by step.
use Rattle.std.specs.{Prelude.{◌≡◌, ℕ, suc, ◌+◌, ◌-◌, ◌<◌, ◌≤◌, Bool, true, false, ◌&&◌, ◌||◌, cond, [], ◌∷◌, Option, Some, None, nat_eq, nat_lt, refl}, FinMap.get}
use Rattle.std.proofs.{Common.{inl, ap, sym, subst, ◌∙◌, arith}, lemmas.Bool.{eq-eqb, ltb-false, le-ltb, or_from}, lemmas.Option.same_Some}
use Rattle.pc_heap.specs.{Objects.{ObjectMap, Object}, declared.value.Address.Address, declared.value.Value.Value, declared.value.Value.TheVariants.{Num, Truth, Text, Prim, At}}
use Rattle.pc_caps.specs.{Tables.{unalias, lift}, Computed.fits, declared.capability.Cap.Cap, declared.capability.Form.Form}
use Rattle.pc_caps.specs.declared.capability.Form.TheVariants as form
use Rattle.pc_core.specs.CoreData.{CoreData}
use Rattle.pc_base.specs.Lists.{◌>>=◌}
use Rattle.pc_ann.specs.declared.annotation.Ann.{Ann}
use Rattle.pc_valid.specs.Words.{Ty}
use Rattle.pc_rules.specs.Control.{recovered}
use Rattle.pc_base.proofs.Options.{kept}
use Rattle.pc_types.proofs.{Types.{OfType, OfSome}, Needs.Needs, Basic.of_lower, Tables.{below_sees, recovered_sees}, Values.is_truth}
use Rattle.pc_regions.proofs.{World.{Place, InSlot, OnStack, InField, InMail, Unused, Opened, Froze, Held, Child, Standing, World, Frozen, ice, under_ice, Seen, same, under, frozen, Fits, FitsSome, Alias, AliasIn, AliasSome, WorldOk}, StackForms.{Entry, Below, Ascent, Joins, Decides, Recovers, recovered_type, ascend, MayAscend, top_of}, Fitting.OpenedTo, Changes.{standing, lowered, without_last, Shifts}, Settled.{NearFrom, Near, SettleLaw}, ContextLaws.EndLaw, Climbed.{passed, Stands, Climbed, ClimbLaw}, Shifts.{shifts_both, shifts_none, shifts_less}, StandsOtherwise.{stand_here, held_used, froze_used}, Closing.{fits_closed, opened_closed, closed_shifts}, ValueKeeps.{tag_fits, no_alias, val_moved}, Waiting.top_down}

-- ---- what is passed

-- The place itself, at each level.
pub passed_self : (i h n k l : ℕ) → passed i h n k (OnStack i h n l) ≡ true
passed_self i h n k l =
    ap (λ (b : Bool). b && (nat_eq h h && (nat_eq n n || nat_lt k l))) (eq-eqb i i refl) ∙ ap (λ (b : Bool). b && (nat_eq n n || nat_lt k l)) (eq-eqb h h refl) ∙ ap (λ (b : Bool). b || nat_lt k l) (eq-eqb n n refl)

less_passed : (a b c e : Bool) → (e ≡ false → c ≡ false) → (a && (b && e)) ≡ false → (a && (b && c)) ≡ false
less_passed false b c e k g = refl
less_passed true false c e k g = refl
less_passed true true c e k g = k g

either_passed : (a c e : Bool) → (e ≡ false → c ≡ false) → (a || e) ≡ false → (a || c) ≡ false
either_passed true c e k g = g
either_passed false c e k g = k g

lower_passed : (k m l : ℕ) → m ≤ k → nat_lt m l ≡ false → nat_lt k l ≡ false
lower_passed k m l low e = let far = ltb-false m l e in le-ltb k l (omega (arith, far, low))

-- At a higher level fewer places are passed.
pub passed_less : (i h n k m : ℕ) → m ≤ k → (p : Place) → passed i h n m p ≡ false → passed i h n k p ≡ false
passed_less i h n k m low (InSlot j g s l) e = less_passed (nat_eq i j) (nat_eq h g) (nat_lt k l) (nat_lt m l) (lower_passed k m l low) e
passed_less i h n k m low (OnStack j g d l) e = less_passed (nat_eq i j) (nat_eq h g) (nat_eq n d || nat_lt k l) (nat_eq n d || nat_lt m l) (either_passed (nat_eq n d) (nat_lt k l) (nat_lt m l) (lower_passed k m l low)) e
passed_less i h n k m low (InField a f) e = refl
passed_less i h n k m low (InMail j t f) e = refl

-- Two steps, of which the second leads to a level that is no higher.
pub both_passed : (w v u : World) (objects : ObjectMap) (count i b h n k m : ℕ) → m ≤ k → Shifts w v objects count i b (passed i h n k) → Shifts v u objects count i b (passed i h n m) → Shifts w u objects count i b (passed i h n m)
both_passed w v u objects count i b h n k m low x y =
    shifts_less w u objects count i b b (λ p. passed i h n k p || passed i h n m p) (passed i h n m) (omega arith) (λ p e. or_from (passed i h n k p) (passed i h n m p) (passed_less i h n k m low p e) e)
    (shifts_both w v u objects count i b (passed i h n k) (passed i h n m) x y)

-- A step that leaves no place.
then_all : (w v u : World) (objects : ObjectMap) (count i b h n k : ℕ) → Shifts w v objects count i b (passed i h n k) → Shifts v u objects count i b (λ p. false) → Shifts w u objects count i b (passed i h n k)
then_all w v u objects count i b h n k x y =
    shifts_less w u objects count i b b (λ p. passed i h n k p || false) (passed i h n k) (omega arith) (λ p e. or_from (passed i h n k p) false e refl)
    (shifts_both w v u objects count i b (passed i h n k) (λ p. false) x y)

-- ---- forms

from_same : (w : World) (i h n l : ℕ) (f : Form) → NearFrom w (OnStack i h n l) f (OnStack i h n l)
from_same w i h n l form.IsoE = tt
from_same w i h n l form.TrnE = inl refl
from_same w i h n l form.Iso = tt
from_same w i h n l form.Trn = refl
from_same w i h n l form.Ref = refl
from_same w i h n l form.Val = tt
from_same w i h n l form.Box = refl
from_same w i h n l form.Tag = tt

pub near_same : (w : World) (i h n l : ℕ) (f g : Form) → Near w (OnStack i h n l) f g (OnStack i h n l)
near_same w i h n l f form.IsoE = tt
near_same w i h n l f form.TrnE = from_same w i h n l f
near_same w i h n l f form.Iso = tt
near_same w i h n l f form.Trn = from_same w i h n l f
near_same w i h n l f form.Ref = from_same w i h n l f
near_same w i h n l f form.Val = tt
near_same w i h n l f form.Box = from_same w i h n l f
near_same w i h n l f form.Tag = tt

-- What comes out of a recover is not an alias that is used.
lift_in : (w : World) (i b k : ℕ) (f : Form) (q : ℕ) → AliasIn w i b k (lift f) q
lift_in w i b k form.IsoE q = tt
lift_in w i b k form.TrnE q = tt
lift_in w i b k form.Iso q = tt
lift_in w i b k form.Trn q = tt
lift_in w i b k form.Ref q = tt
lift_in w i b k form.Val q = tt
lift_in w i b k form.Box q = tt
lift_in w i b k form.Tag q = tt

lift_alias : (w : World) (i b k : ℕ) (f : Form) (v : Value) → Alias w i b k (lift f) v
lift_alias w i b k f (At a) = lift_in w i b k f (w.region a)
lift_alias w i b k f (Num n) = tt
lift_alias w i b k f (Truth t) = tt
lift_alias w i b k f (Text t) = tt
lift_alias w i b k f (Prim e) = tt

-- What is seen from a frozen region is frozen.
pub seen_cold : (w : World) (p : ℕ) {q : ℕ} → Frozen w p → Seen w p q → Frozen w q
seen_cold w p cold (same e) = subst (Frozen w) (sym e) cold
seen_cold w p cold (under u at e k) = under_ice u at e (seen_cold w p cold k)
seen_cold w p cold (frozen f) = f

-- The last context comes off.
abbrev pub DropLaw : Type 0
DropLaw =
    (w : World) (objects : ObjectMap) (count : ℕ) → WorldOk w objects count → (i : ℕ) → i < count → (b : ℕ) → b < w.top i → (gone : Place → Bool) → Shifts w (without_last w i) objects count i b gone

pub drops : EndLaw → DropLaw
drops ends w objects count ok i here b low gone =
    let k : ℕ = w.top i - 1 in
    let is : w.top i ≡ suc k = omega (arith, low) in
    shifts_less w (without_last w i) objects count i k b gone gone (omega (arith, is, low)) (λ p e. e) (ends w objects count ok i here k is gone).shifts

-- ---- steps

module _ (core : CoreData) (ann : Ann) (needs : Needs core ann) (settle : SettleLaw) (drop : DropLaw) where
  module _ (w : World) (objects : ObjectMap) (count i h n base : ℕ) (e : Entry) (v : Value) (s : Stands core w objects count i h n base e v) where
    abbrev place : Place
    place = OnStack i h n (base + e.depth)

    low_base : base ≤ w.top i
    low_base = let t = s.top in omega (arith, t)

    at_top : base + e.depth ≤ w.top i
    at_top = let t = s.top in omega (arith, t)

    typed_at : (t : Ty) → e.ty ≡ Some t → OfType core objects t v
    typed_at t is = subst (λ (o : Option Ty). OfSome core objects o v) is s.typed

    fits_at : (t : Ty) → e.ty ≡ Some t → Fits w place t.1 v
    fits_at t is = subst (λ (o : Option Ty). FitsSome w place o v) is s.fits

    alias_at : (t : Ty) → e.ty ≡ Some t → Alias w i base (base + e.depth) t.1 v
    alias_at t is = subst (λ (o : Option Ty). AliasSome w i base (base + e.depth) o v) is s.alias

    -- ---- joining

    joins_none : (x : World) × Climbed core w x objects count i h n base (record { ty = None; depth = e.depth }) v
    joins_none = (
      w,
      record {
        stands = record { world = s.world; here = s.here; top = s.top; opened = s.opened; typed = tt; fits = tt; alias = tt };
        shifts = shifts_none w objects count i base (passed i h n (base + e.depth)) s.world;
      },
    )

    joins_some : (g t : Ty) → e.ty ≡ Some t → Below core t g → (x : World) × Climbed core w x objects count i h n base (record { ty = Some g; depth = e.depth }) v
    joins_some g t is below =
        let gone : Place → Bool = passed i h n (base + e.depth) in
        let got = settle w objects count s.world i s.here h n (base + e.depth) at_top gone (passed_self i h n (base + e.depth) (base + e.depth)) place t.1 g.1 v below.1 (fits_at t is) (near_same w i h n (base + e.depth) t.1 g.1) (refl, at_top) in
        let t2 = s.top in (
          got.0,
          record {
            stands = record {
              world = got.1.calm.shifts.world;
              here = s.here;
              top = got.1.calm.top i ∙ s.top;
              opened = λ j a b. subst (λ (c : ℕ). got.0.stands c ≡ Opened i) (sym (got.1.calm.context i j s.here (omega (arith, b, t2)))) (got.1.calm.opened (w.context i j) i (s.opened j a b));
              typed = of_lower core ann needs objects t g v (below.0, below_sees t.1 g.1 below.1) (typed_at t is);
              fits = got.1.fits;
              alias = subst (λ (k : ℕ). Alias got.0 i base k g.1 v) s.top (got.1.fresh base low_base (λ trn. ap (w.context i) (sym s.top)) (subst (λ (k : ℕ). Alias w i base k t.1 v) (sym s.top) (alias_at t is)));
            };
            shifts = shifts_less w got.0 objects count i (w.top i) base gone gone low_base (λ p z. z) got.1.calm.shifts;
          },
        )

    -- ---- deciding

    decides : (t : Ty) → e.ty ≡ Some t → t.0 ≡ 2 → (x : World) × Climbed core w x objects count i h n base (record { ty = Some (2, form.Val); depth = e.depth }) v
    decides t is two =
        let b = is_truth core ann needs objects t.1 v (subst (λ (k : ℕ). OfType core objects (k, t.1) v) two (typed_at t is)) in
        let typed : OfType core objects (2, form.Val) (Truth b.0) = record { entity = 2; is_entity = refl; below = inl refl; kind = tt; finished = λ h. tt } in (
          w,
          record {
            stands = record {
              world = s.world;
              here = s.here;
              top = s.top;
              opened = s.opened;
              typed = subst (λ (u : Value). OfType core objects (2, form.Val) u) (sym b.1) typed;
              fits = subst (λ (u : Value). Fits w place form.Val u) (sym b.1) tt;
              alias = subst (λ (u : Value). Alias w i base (base + e.depth) form.Val u) (sym b.1) tt;
            };
            shifts = shifts_none w objects count i base (passed i h n (base + e.depth)) s.world;
          },
        )

    -- ---- the end of a recover

    module _ (inner : 0 < e.depth) where
      abbrev low : ℕ
      low = base + (e.depth - 1)

      abbrev to : Place
      to = OnStack i h n low

      abbrev gone : Place → Bool
      gone = passed i h n low

      -- The value fits outside in the form in which it comes out.
      record Lifted (x : World) (f : Form) : Type 0 where
        shifts : Shifts w x objects count i base gone
        top : x.top i ≡ low
        opened : OpenedTo x i base (e.depth - 1)
        fits : Fits x to (lift f) v

      low_top : low ≤ w.top i
      low_top = let t = s.top in omega (arith, t)

      one_less : (k : ℕ) → k ≡ base + e.depth → k - 1 ≡ low
      one_less k is = omega (arith, is, inner)

      -- From a world in which the recover's context is the last one still.
      module _ (a : World) (x : Shifts w a objects count i base gone) (last : a.top i ≡ base + e.depth) (ajar : OpenedTo a i base e.depth) where
        abbrev b : World
        b = without_last a i

        abbrev u : ℕ
        u = a.context i (a.top i)

        above : base < a.top i
        above = omega (arith, last, inner)

        off : Shifts a b objects count i base (λ p. false)
        off = drop a objects count x.world i s.here base above (λ p. false)

        b_shifts : Shifts w b objects count i base gone
        b_shifts = then_all w a b objects count i base h n low x off

        b_top : b.top i ≡ low
        b_top = ap (λ (q : Bool). cond q (a.top i - 1) (a.top i)) (eq-eqb i i refl) ∙ one_less (a.top i) last

        b_opened : OpenedTo b i base (e.depth - 1)
        b_opened j above_it within = ap (lowered i (a.top i - 1)) (ajar j above_it (omega (arith, within)))

        u_opened : b.stands u ≡ Opened i
        u_opened = ap (lowered i (a.top i - 1)) (ajar (a.top i) above (omega (arith, last)))

        u_bare : b.role u ≡ None
        u_bare = ap (λ (q : Bool). cond q None (a.role u)) (eq-eqb u u refl)

        b_lifted : (f : Form) → Fits a to (lift f) v → Lifted b f
        b_lifted f fit = record { shifts = b_shifts; top = b_top; opened = b_opened; fits = off.fits to (lift f) v refl fit }

        -- The recover's region is closed.
        module _ (c : Standing) (parent : (z : ℕ) (at : Option Place) → c ≡ Child z at → z < b.next) (holder : (z : Address) (k : ℕ) → c ≡ Held (InField z k) → (o : Object) × (get objects z ≡ Some o)) (alive : c ≡ Unused → ⊥) where
          abbrev closed : World
          closed = standing b u c

          c_shifts : Shifts w closed objects count i base gone
          c_shifts = then_all w b closed objects count i base h n low b_shifts (closed_shifts b objects count off.world i s.here u c u_opened u_bare parent holder alive base (λ p. false) (omega (arith, b_top)))

          c_opened : OpenedTo closed i base (e.depth - 1)
          c_opened j above_it within = opened_closed b objects count off.world i s.here u c u_opened u_bare parent holder alive i j s.here (omega (arith, within, b_top)) (b_opened j above_it within)

          c_lifted : (f : Form) → Fits closed to (lift f) v → Lifted closed f
          c_lifted f fit = record { shifts = c_shifts; top = b_top; opened = c_opened; fits = fit }

        -- Closed as what the place holds: the value's region is the recover's own.
        no_parent : (z : ℕ) (at : Option Place) → Held to ≡ Child z at → z < b.next
        no_parent z at is = absurd (cc)

        no_holder : (z : Address) (k : ℕ) → Held to ≡ Held (InField z k) → (o : Object) × (get objects z ≡ Some o)
        no_holder z k is = absurd (cc)

        held_fits : (z : Value) → Fits a place form.Ref z → Fits (closed (Held to) no_parent no_holder (held_used to)) to form.IsoE z
        held_fits (At q) is = ap (closed (Held to) no_parent no_holder (held_used to)).stands (is ∙ ap (a.context i) (sym last)) ∙ stand_here b.stands u (Held to)
        held_fits (Num m) is = tt
        held_fits (Truth t) is = tt
        held_fits (Text t) is = tt
        held_fits (Prim m) is = tt

        -- Closed as frozen: what was read from the recover's region freezes with it.
        ice_parent : (z : ℕ) (at : Option Place) → Froze ≡ Child z at → z < b.next
        ice_parent z at is = absurd (cc)

        ice_holder : (z : Address) (k : ℕ) → Froze ≡ Held (InField z k) → (o : Object) × (get objects z ≡ Some o)
        ice_holder z k is = absurd (cc)

        abbrev cold : World
        cold = closed Froze ice_parent ice_holder froze_used

        cold_fits : (z : Value) → Fits cold place form.Box z → Fits cold to form.Val z
        cold_fits (At q) k =
            let at : a.context i (base + e.depth) ≡ u = ap (a.context i) (sym last) in
            seen_cold cold u (ice (stand_here b.stands u Froze)) (subst (λ (c : ℕ). Seen cold c (a.region q)) at k)
        cold_fits (Num m) k = tt
        cold_fits (Truth t) k = tt
        cold_fits (Text t) k = tt
        cold_fits (Prim m) k = tt

        box_out : Fits a place form.Box v → Fits cold to form.Val v
        box_out fit = cold_fits v (fits_closed b objects count off.world i s.here u Froze u_opened u_bare ice_parent ice_holder froze_used place form.Box v (off.fits place form.Box v refl fit))

      trn_box : (z : Value) → Fits w place form.Trn z → Fits w place form.Box z
      trn_box (At q) k = k
      trn_box (Num m) k = tt
      trn_box (Truth t) k = tt
      trn_box (Text t) k = tt
      trn_box (Prim m) k = tt

      same_shifts : Shifts w w objects count i base gone
      same_shifts = shifts_none w objects count i base gone s.world

      -- What does not move is lifted unchanged.
      plainly : (f : Form) → Fits w to (lift f) v → (x : World) × Lifted x f
      plainly f fit = (b w same_shifts s.top s.opened, b_lifted w same_shifts s.top s.opened f fit)

      frozenly : (f : Form) → lift f ≡ form.Val → Fits w place form.Box v → (x : World) × Lifted x f
      frozenly f is fit = (
        cold w same_shifts s.top s.opened,
        c_lifted w same_shifts s.top s.opened Froze (ice_parent w same_shifts s.top s.opened) (ice_holder w same_shifts s.top s.opened) froze_used f
            (subst (λ (g : Form). Fits (cold w same_shifts s.top s.opened) to g v) (sym is) (box_out w same_shifts s.top s.opened fit)),
      )

      heldly : (f : Form) → lift f ≡ form.IsoE → (a : World) (x : Shifts w a objects count i base gone) (last : a.top i ≡ base + e.depth) (ajar : OpenedTo a i base e.depth) → Fits a place form.Ref v → (x : World) × Lifted x f
      heldly f is a x last ajar fit = (
        closed a x last ajar (Held to) (no_parent a x last ajar) (no_holder a x last ajar) (held_used to),
        c_lifted a x last ajar (Held to) (no_parent a x last ajar) (no_holder a x last ajar) (held_used to) f
            (subst (λ (g : Form). Fits (closed a x last ajar (Held to) (no_parent a x last ajar) (no_holder a x last ajar) (held_used to)) to g v) (sym is) (held_fits a x last ajar v fit)),
      )

      lifted : (f : Form) → Fits w place f v → (x : World) × Lifted x f
      lifted form.IsoE fit =
          let got = settle w objects count s.world i s.here h n (base + e.depth) at_top gone (passed_self i h n low (base + e.depth)) to form.IsoE form.IsoE v refl fit tt (refl, low_top) in
          let x = shifts_less w got.0 objects count i (w.top i) base gone gone low_base (λ p z. z) got.1.calm.shifts in
          let last : got.0.top i ≡ base + e.depth = got.1.calm.top i ∙ s.top in
          let t = s.top in
          let ajar : OpenedTo got.0 i base e.depth = λ j y z. subst (λ (c : ℕ). got.0.stands c ≡ Opened i) (sym (got.1.calm.context i j s.here (omega (arith, z, t)))) (got.1.calm.opened (w.context i j) i (s.opened j y z)) in
          (b got.0 x last ajar, b_lifted got.0 x last ajar form.IsoE got.1.fits)
      lifted form.TrnE fit =
          let got = settle w objects count s.world i s.here h n (base + e.depth) at_top gone (passed_self i h n low (base + e.depth)) place form.TrnE form.Ref v refl fit refl2 (refl, at_top) in
          let x = shifts_less w got.0 objects count i (w.top i) base gone gone low_base (λ p z. z) got.1.calm.shifts in
          let last : got.0.top i ≡ base + e.depth = got.1.calm.top i ∙ s.top in
          let t = s.top in
          let ajar : OpenedTo got.0 i base e.depth = λ j y z. subst (λ (c : ℕ). got.0.stands c ≡ Opened i) (sym (got.1.calm.context i j s.here (omega (arith, z, t)))) (got.1.calm.opened (w.context i j) i (s.opened j y z)) in
          heldly form.TrnE refl got.0 x last ajar got.1.fits
        where
          refl2 : Near w place form.TrnE form.Ref place
          refl2 = inl refl
      lifted form.Iso fit = plainly form.Iso (tag_fits w to v)
      lifted form.Trn fit = frozenly form.Trn refl (trn_box v fit)
      lifted form.Ref fit = heldly form.Ref refl w same_shifts s.top s.opened fit
      lifted form.Val fit = plainly form.Val (val_moved w place to v fit)
      lifted form.Box fit = frozenly form.Box refl fit
      lifted form.Tag fit = plainly form.Tag (tag_fits w to v)

      -- In the form that was written, or as it is.
      module _ (t g : Ty) (is : e.ty ≡ Some t) (typed : OfType core objects g v) (x : World) (out : Lifted x t.1) where
        as_lifted : lift t.1 ≡ g.1 → (y : World) × Climbed core w y objects count i h n base (record { ty = Some g; depth = e.depth - 1 }) v
        as_lifted at = (
          x,
          record {
            stands = record {
              world = out.shifts.world;
              here = s.here;
              top = out.top;
              opened = out.opened;
              typed = typed;
              fits = subst (λ (f : Form). Fits x to f v) at out.fits;
              alias = subst (λ (f : Form). Alias x i base low f v) at (lift_alias x i base low t.1 v);
            };
            shifts = out.shifts;
          },
        )

        as_written : (k : Cap) → fits (lift t.1) k ≡ true → unalias k ≡ g.1 → (y : World) × Climbed core w y objects count i h n base (record { ty = Some g; depth = e.depth - 1 }) v
        as_written k may at =
            let t2 = out.top in
            let got = settle x objects count out.shifts.world i s.here h n low (omega (arith, t2)) gone (passed_self i h n low low) to (lift t.1) (unalias k) v may out.fits (near_same x i h n low (lift t.1) (unalias k)) (refl, omega (arith, t2)) in (
              got.0,
              record {
                stands = record {
                  world = got.1.calm.shifts.world;
                  here = s.here;
                  top = got.1.calm.top i ∙ out.top;
                  opened = λ j y z. subst (λ (c : ℕ). got.0.stands c ≡ Opened i) (sym (got.1.calm.context i j s.here (omega (arith, z, t2)))) (got.1.calm.opened (x.context i j) i (out.opened j y z));
                  typed = typed;
                  fits = subst (λ (f : Form). Fits got.0 to f v) at got.1.fits;
                  alias = subst (λ (f : Form). Alias got.0 i base low f v) at (no_alias got.0 i base low k v);
                };
                shifts = both_passed w x got.0 objects count i base h n low low (omega arith) out.shifts (shifts_less x got.0 objects count i (x.top i) base gone gone (omega (arith, t2)) (λ p z. z) got.1.calm.shifts);
              },
            )

      recovers : (k : Option Cap) (t : Ty) (f : Form) → e.ty ≡ Some t → recovered k t.1 ≡ Some f → (y : World) × Climbed core w y objects count i h n base (record { ty = Some (t.0, f); depth = e.depth - 1 }) v
      recovers None t f is out =
          let x = lifted t.1 (fits_at t is) in
          as_lifted t (t.0, f) is (of_lower core ann needs objects t (t.0, f) v (inl refl, recovered_sees None t.1 f out) (typed_at t is)) x.0 x.1 (same_Some (lift t.1) f out)
      recovers (Some k) t f is out =
          let x = lifted t.1 (fits_at t is) in
          let p = kept (fits (lift t.1) k) (Some (unalias k)) f out in
          as_written t (t.0, f) is (of_lower core ann needs objects t (t.0, f) v (inl refl, recovered_sees (Some k) t.1 f out) (typed_at t is)) x.0 x.1 k p.0 (same_Some (unalias k) f p.1)

    -- ---- one step

    step : (a : Ascent) → MayAscend core a e → (x : World) × Climbed core w x objects count i h n base (ascend a e) v
    step (Joins None) may = joins_none
    step (Joins (Some g)) may = joins_some g may.0 may.1 may.2
    step Decides may = decides may.0 may.1 may.2
    step (Recovers k) may =
        let got = recovers may.4 k may.0 may.1 may.2 may.3 in
        let is : Some (may.0.0, may.1) ≡ recovered_type k e.ty = sym (ap (recovered_type k) may.2 ∙ ap (λ (o : Option Form). o >>= λ f. Some (may.0.0, f)) may.3) in
        (got.0, subst (λ (o : Option Ty). Climbed core w got.0 objects count i h n base (record { ty = o; depth = e.depth - 1 }) v) is got.1)

  -- ---- the whole way

  pub climb : ClimbLaw core
  climb w objects count i h n base [] e v climbs s = (w, record { stands = s; shifts = shifts_none w objects count i base (passed i h n (base + e.depth)) s.world })
  climb w objects count i h n base (a ∷ way) e v climbs s =
      let one = step w objects count i h n base e v s a climbs.0 in
      let rest = climb one.0 objects count i h n base way (ascend a e) v climbs.1 one.1.stands in
      let low = top_down way (ascend a e) in
      (rest.0, record { stands = rest.1.stands; shifts = both_passed w one.0 rest.0 objects count i base h n (base + (ascend a e).depth) (base + (top_of way (ascend a e)).depth) (omega (arith, low)) one.1.shifts rest.1.shifts })
