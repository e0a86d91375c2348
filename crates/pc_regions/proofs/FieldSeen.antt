-- What is seen of a field through an origin, by regions. An origin that no place holds was let go before: it is an alias then.
use Rattle.std.specs.Prelude.{◌≡◌, ℕ, ◌+◌, ◌<◌, ◌≤◌, Bool, true, Some, refl}
use Rattle.std.proofs.{Common.{ap, sym, subst, ◌∙◌, arith}, lemmas.Option.{same_Some, none-some}}
use Rattle.pc_heap.specs.{Objects.ObjectMap, declared.value.Address.Address, declared.value.Value.Value, declared.value.Value.TheVariants.{Num, Truth, Text, Prim, At}}
use Rattle.pc_caps.specs.{Computed.is_below, Tables.{unalias, view}, declared.capability.Cap.Cap, declared.capability.Form.Form}
use Rattle.pc_caps.specs.declared.capability.Cap.TheVariants as cap
use Rattle.pc_caps.specs.declared.capability.Form.TheVariants as form
use Rattle.pc_regions.proofs.{World.{Place, OnStack, InField, Held, Child, World, Frozen, in_ice, under_ice, Seen, same, under, frozen, Over, over_own, over_field, over_part, FitsIn, Fits, AliasIn, Alias, WorldOk}, Fitting.OpenedTo, Settled.{Settled, SettleLaw}, SlotSeen.{no_role, child_shut, held_shut, held_no_part}, Climbing.{near_same, seen_cold}}

-- What is seen from what is seen is seen.
pub seen_far : (w : World) (p r : ℕ) {q : ℕ} → Seen w p r → Seen w r q → Seen w p q
seen_far w p r a (same e) = subst (Seen w p) (sym e) a
seen_far w p r a (under u at e k) = under u at e (seen_far w p r a k)
seen_far w p r a (frozen f) = frozen f

module _ (w : World) (objects : ObjectMap) (count i base d : ℕ) (ok : WorldOk w objects count) (here : i < count) (top : w.top i ≡ base + d) (opened : OpenedTo w i base d) (h n : ℕ) (a : Address) (j : ℕ) where
  abbrev place : Place
  place = OnStack i h n (base + d)

  -- What fits on the stack and, if it is an alias, may be used.
  abbrev Reads : Form → ℕ → Type 0
  Reads f q = FitsIn w place f q × AliasIn w i base (base + d) f q

  abbrev r : ℕ
  r = w.region a

  abbrev context : ℕ
  context = w.context i (base + d)

  is_last : w.role context ≡ Some (i, base + d)
  is_last = ok.named i (base + d) here (omega (arith, top))

  -- An `iso` field, over which this level is.
  iso_read : (q l : ℕ) → w.stands q ≡ Held (InField a j) → Over w i q l → base ≤ l → l ≤ base + d → Reads form.Iso q
  iso_read q l e o low high = (tt, (no_role w objects count i base d ok here top opened q l o low (held_shut w (InField a j) q e), λ u at g. held_no_part w (InField a j) q u at e g, l, low, high, o))

  from_iso : (c : Cap) (q : ℕ) (g : Form) → view form.Iso c ≡ Some g → AliasIn w i base (base + d) form.Iso r → FitsIn w (InField a j) (unalias c) q → Reads g q
  from_iso cap.Iso q g is o e = subst (λ (f : Form). Reads f q) (same_Some form.Iso g is) (iso_read q o.2 e (over_field a j e o.0 o.5) o.3 o.4)
  from_iso cap.Trn q g is o e = subst (λ (f : Form). Reads f q) (same_Some form.Tag g is) (tt, tt)
  from_iso cap.Ref q g is o e = subst (λ (f : Form). Reads f q) (same_Some form.Tag g is) (tt, tt)
  from_iso cap.Val q g is o e = subst (λ (f : Form). Reads f q) (same_Some form.Val g is) (e, tt)
  from_iso cap.Box q g is o e = subst (λ (f : Form). Reads f q) (same_Some form.Tag g is) (tt, tt)
  from_iso cap.Tag q g is o e = subst (λ (f : Form). Reads f q) (same_Some form.Tag g is) (tt, tt)

  part_over : AliasIn w i base (base + d) form.Trn r → Over w i r (base + d)
  part_over o = over_part context o.1 o.2 o.3 is_last

  part_seen : AliasIn w i base (base + d) form.Trn r → Seen w context r
  part_seen o = under context o.1 o.2 (same refl)

  from_trn : (c : Cap) (q : ℕ) (g : Form) → view form.Trn c ≡ Some g → AliasIn w i base (base + d) form.Trn r → FitsIn w (InField a j) (unalias c) q → Reads g q
  from_trn cap.Iso q g is o e = subst (λ (f : Form). Reads f q) (same_Some form.Iso g is) (iso_read q (base + d) e (over_field a j e o.0 (part_over o)) (omega arith) (omega arith))
  from_trn cap.Trn q g is o e = subst (λ (f : Form). Reads f q) (same_Some form.Box g is) (under r (Some (InField a j)) e (part_seen o), tt)
  from_trn cap.Ref q g is o e = subst (λ (f : Form). Reads f q) (same_Some form.Box g is) (seen_far w context r (part_seen o) (same e), tt)
  from_trn cap.Val q g is o e = subst (λ (f : Form). Reads f q) (same_Some form.Val g is) (e, tt)
  from_trn cap.Box q g is o e = subst (λ (f : Form). Reads f q) (same_Some form.Box g is) (seen_far w context r (part_seen o) e, tt)
  from_trn cap.Tag q g is o e = subst (λ (f : Form). Reads f q) (same_Some form.Tag g is) (tt, tt)

  from_ref : (c : Cap) (q : ℕ) (g : Form) → view form.Ref c ≡ Some g → r ≡ context → FitsIn w (InField a j) (unalias c) q → Reads g q
  from_ref cap.Iso q g is o e = subst (λ (f : Form). Reads f q) (same_Some form.Iso g is) (iso_read q (base + d) e (over_own a j e (ap w.role o ∙ is_last)) (omega arith) (omega arith))
  from_ref cap.Trn q g is o e =
      let at : w.stands q ≡ Child context (Some (InField a j)) = e ∙ ap (λ (u : ℕ). Child u (Some (InField a j))) o in
      subst (λ (f : Form). Reads f q) (same_Some form.Trn g is) (
        under context (Some (InField a j)) at (same refl),
        (no_role w objects count i base d ok here top opened q (base + d) (over_part context (Some (InField a j)) at refl is_last) (omega arith) (child_shut w q context (Some (InField a j)) at), Some (InField a j), at, refl),
      )
  from_ref cap.Ref q g is o e = subst (λ (f : Form). Reads f q) (same_Some form.Ref g is) (e ∙ o, tt)
  from_ref cap.Val q g is o e = subst (λ (f : Form). Reads f q) (same_Some form.Val g is) (e, tt)
  from_ref cap.Box q g is o e = subst (λ (f : Form). Reads f q) (same_Some form.Box g is) (subst (λ (u : ℕ). Seen w u q) o e, tt)
  from_ref cap.Tag q g is o e = subst (λ (f : Form). Reads f q) (same_Some form.Tag g is) (tt, tt)

  from_val : (c : Cap) (q : ℕ) (g : Form) → view form.Val c ≡ Some g → Frozen w r → FitsIn w (InField a j) (unalias c) q → Reads g q
  from_val cap.Iso q g is o e = subst (λ (f : Form). Reads f q) (same_Some form.Val g is) (in_ice a j e o, tt)
  from_val cap.Trn q g is o e = subst (λ (f : Form). Reads f q) (same_Some form.Val g is) (under_ice r (Some (InField a j)) e o, tt)
  from_val cap.Ref q g is o e = subst (λ (f : Form). Reads f q) (same_Some form.Val g is) (subst (Frozen w) (sym e) o, tt)
  from_val cap.Val q g is o e = subst (λ (f : Form). Reads f q) (same_Some form.Val g is) (e, tt)
  from_val cap.Box q g is o e = subst (λ (f : Form). Reads f q) (same_Some form.Val g is) (seen_cold w r o e, tt)
  from_val cap.Tag q g is o e = subst (λ (f : Form). Reads f q) (same_Some form.Tag g is) (tt, tt)

  from_box : (c : Cap) (q : ℕ) (g : Form) → view form.Box c ≡ Some g → Seen w context r → FitsIn w (InField a j) (unalias c) q → Reads g q
  from_box cap.Iso q g is o e = subst (λ (f : Form). Reads f q) (same_Some form.Tag g is) (tt, tt)
  from_box cap.Trn q g is o e = subst (λ (f : Form). Reads f q) (same_Some form.Box g is) (under r (Some (InField a j)) e o, tt)
  from_box cap.Ref q g is o e = subst (λ (f : Form). Reads f q) (same_Some form.Box g is) (seen_far w context r o (same e), tt)
  from_box cap.Val q g is o e = subst (λ (f : Form). Reads f q) (same_Some form.Val g is) (e, tt)
  from_box cap.Box q g is o e = subst (λ (f : Form). Reads f q) (same_Some form.Box g is) (seen_far w context r o e, tt)
  from_box cap.Tag q g is o e = subst (λ (f : Form). Reads f q) (same_Some form.Tag g is) (tt, tt)

  -- What is seen of field j of the object at a, through an alias of this form.
  pub seen_through : (o g : Form) (c : Cap) (q : ℕ) → view o c ≡ Some g → FitsIn w place o r → AliasIn w i base (base + d) o r → (o ≡ form.IsoE → ⊥) → (o ≡ form.TrnE → ⊥) → FitsIn w (InField a j) (unalias c) q → Reads g q
  seen_through form.IsoE g c q is f al no_iso no_trn e = absurd (no_iso refl)
  seen_through form.TrnE g c q is f al no_iso no_trn e = absurd (no_trn refl)
  seen_through form.Iso g c q is f al no_iso no_trn e = from_iso c q g is al e
  seen_through form.Trn g c q is f al no_iso no_trn e = from_trn c q g is al e
  seen_through form.Ref g c q is f al no_iso no_trn e = from_ref c q g is f e
  seen_through form.Val g c q is f al no_iso no_trn e = from_val c q g is f e
  seen_through form.Box g c q is f al no_iso no_trn e = from_box c q g is f e
  seen_through form.Tag g c q is f al no_iso no_trn e = absurd (none-some g is)

  -- The same of values.
  pub value_seen : (o g : Form) (c : Cap) (z : Value) → view o c ≡ Some g → Fits w place o (At a) → Alias w i base (base + d) o (At a) → (o ≡ form.IsoE → ⊥) → (o ≡ form.TrnE → ⊥) → Fits w (InField a j) (unalias c) z → Fits w place g z × Alias w i base (base + d) g z
  value_seen o g c (At b) is f al no_iso no_trn e = seen_through o g c (w.region b) is f al no_iso no_trn e
  value_seen o g c (Num m) is f al no_iso no_trn e = (tt, tt)
  value_seen o g c (Truth t) is f al no_iso no_trn e = (tt, tt)
  value_seen o g c (Text t) is f al no_iso no_trn e = (tt, tt)
  value_seen o g c (Prim m) is f al no_iso no_trn e = (tt, tt)

-- ---- an origin is let go

-- The form of an alias of what is let go, through which as much is seen.
abbrev pub let_go : Form → Form
let_go form.IsoE = form.Iso
let_go form.TrnE = form.Trn
let_go f = f

pub let_go_above : (f : Form) → is_below f (let_go f) ≡ true
let_go_above form.IsoE = refl
let_go_above form.TrnE = refl
let_go_above form.Iso = refl
let_go_above form.Trn = refl
let_go_above form.Ref = refl
let_go_above form.Val = refl
let_go_above form.Box = refl
let_go_above form.Tag = refl

pub let_go_sees : (f : Form) (c : Cap) → view (let_go f) c ≡ view f c
let_go_sees form.IsoE c = refl
let_go_sees form.TrnE c = refl
let_go_sees form.Iso c = refl
let_go_sees form.Trn c = refl
let_go_sees form.Ref c = refl
let_go_sees form.Val c = refl
let_go_sees form.Box c = refl
let_go_sees form.Tag c = refl

pub let_go_iso : (f : Form) → let_go f ≡ form.IsoE → ⊥
let_go_iso form.IsoE e = cc
let_go_iso form.TrnE e = cc
let_go_iso form.Iso e = cc
let_go_iso form.Trn e = cc
let_go_iso form.Ref e = cc
let_go_iso form.Val e = cc
let_go_iso form.Box e = cc
let_go_iso form.Tag e = cc

pub let_go_trn : (f : Form) → let_go f ≡ form.TrnE → ⊥
let_go_trn form.IsoE e = cc
let_go_trn form.TrnE e = cc
let_go_trn form.Iso e = cc
let_go_trn form.Trn e = cc
let_go_trn form.Ref e = cc
let_go_trn form.Val e = cc
let_go_trn form.Box e = cc
let_go_trn form.Tag e = cc

-- The origin on top of the stack is let go: its alias may be used still. That place is left, at least.
pub origin_leaves : SettleLaw → (w : World) (objects : ObjectMap) (count : ℕ) → WorldOk w objects count → (i : ℕ) → i < count → (h n base d : ℕ) → w.top i ≡ base + d → (gone : Place → Bool) → gone (OnStack i h n (base + d)) ≡ true
    → (f : Form) (v : Value) → Fits w (OnStack i h n (base + d)) f v → Alias w i base (base + d) f v
    → (x : World) × Settled w x objects count i gone f (let_go f) (OnStack i h n (base + d)) v × Alias x i base (base + d) (let_go f) v
origin_leaves settle w objects count ok i here h n base d top gone left f v fit alias =
    let low : base + d ≤ w.top i = omega (arith, top) in
    let got = settle w objects count ok i here h n (base + d) low gone left (OnStack i h n (base + d)) f (let_go f) v (let_go_above f) fit (near_same w i h n (base + d) f (let_go f)) (refl, low) in
    (got.0, got.1, subst (λ (k : ℕ). Alias got.0 i base k (let_go f) v) top (got.1.fresh base (omega (arith, top)) (λ is. ap (w.context i) (sym top)) (subst (λ (k : ℕ). Alias w i base k f v) (sym top) alias)))
