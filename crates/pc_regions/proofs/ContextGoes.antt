-- A context goes: the last one of an actor is no longer one, and what the places of its level held is loose.
use Rattle.std.specs.Prelude.{◌≡◌, ◌≢◌, ◌⊎◌, ℕ, suc, ◌-◌, ◌<◌, ◌≤◌, Bool, true, false, ◌&&◌, cond, Option, Some, None, nat_eq, nat_lt, refl}
use Rattle.std.proofs.{Common.{inl, inr, ap, sym, subst, ◌∙◌, arith}, lemmas.Bool.{ne_eqb, le-ltb, cases_eq, cases_lt, cases_Bool, and_left, and_right, cond-true, cond-false}, lemmas.Option.{same_Some, none-some}}
use Rattle.pc_heap.specs.{Objects.ObjectMap, declared.value.Address.Address, declared.value.Value.Value, declared.value.Value.TheVariants.{Num, Truth, Text, Prim, At}}
use Rattle.pc_caps.specs.declared.capability.Form.{Form}
use Rattle.pc_caps.specs.declared.capability.Form.TheVariants as form
use Rattle.pc_base.proofs.Bools.{false_true}
use Rattle.pc_regions.proofs.{World.{Place, InSlot, OnStack, InField, InMail, Standing, Unused, Froze, Opened, Loose, Held, Child, World, home, steady, AliasIn, Alias, Over, over_loose, over_slot, over_own, over_field, over_part, over_child, WorldOk}, Changes.{with_number, let_go, left_by, lowered, without_last, Shifts}, ContextLaws.{higher, Ends, EndLaw, ended, FallLaw}, ContextComes.high_slot, SameRegions.{number_here, number_other, role_here, role_other}}
use Rattle.pc_regions.proofs.SameRegions as renewed

-- ---- the last context is one no more

lowered_child : (i m u : ℕ) (at : Option Place) (s : Standing) → lowered i m s ≡ Child u at → s ≡ Child u at
lowered_child i m u at (Child v to) e = e
lowered_child i m u at Unused e = e
lowered_child i m u at Froze e = e
lowered_child i m u at (Opened j) e = e
lowered_child i m u at (Loose j l) e = absurd (cc)
lowered_child i m u at (Held p) e = e

lowered_held : (i m : ℕ) (p : Place) (s : Standing) → lowered i m s ≡ Held p → s ≡ Held p
lowered_held i m p (Child v to) e = e
lowered_held i m p Unused e = e
lowered_held i m p Froze e = e
lowered_held i m p (Opened j) e = e
lowered_held i m p (Loose j l) e = absurd (cc)
lowered_held i m p (Held o) e = e

lowered_unused : (i m : ℕ) (s : Standing) → lowered i m s ≡ Unused → s ≡ Unused
lowered_unused i m (Child v to) e = e
lowered_unused i m Unused e = e
lowered_unused i m Froze e = e
lowered_unused i m (Opened j) e = e
lowered_unused i m (Loose j l) e = absurd (cc)
lowered_unused i m (Held p) e = e

module _ (w : World) (objects : ObjectMap) (count : ℕ) (ok : WorldOk w objects count) (i : ℕ) (here : i < count) (k : ℕ) (last : w.top i ≡ suc k) where
  firm : (x : ℕ) (s : Standing) → w.stands x ≡ s → lowered i (w.top i - 1) s ≡ s → (without_last w i).stands x ≡ s
  firm x s e stays = ap (lowered i (w.top i - 1)) e ∙ stays

  not_lowered : (j l : ℕ) → (i ≢ j) ⊎ (l ≤ k) → (nat_eq i j && nat_lt (w.top i - 1) l) ≡ false
  not_lowered j l (inl n) = and_left (nat_eq i j) (nat_lt (w.top i - 1) l) (ne_eqb i j n)
  not_lowered j l (inr low) = and_right (nat_eq i j) (nat_lt (w.top i - 1) l) (le-ltb (w.top i - 1) l (omega (arith, low, last)))

  loose_stays : (x j l : ℕ) → (i ≢ j) ⊎ (l ≤ k) → w.stands x ≡ Loose j l → (without_last w i).stands x ≡ Loose j l
  loose_stays x j l low e = firm x (Loose j l) e (ap (λ (b : Bool). Loose j (cond b (w.top i - 1) l)) (not_lowered j l low))

  last_role : w.role (w.context i (w.top i)) ≡ Some (i, w.top i)
  last_role = ok.named i (w.top i) here (omega arith)

  not_last : (x j l : ℕ) → (i ≢ j) ⊎ (l ≤ k) → w.role x ≡ Some (j, l) → w.context i (w.top i) ≡ x → ⊥
  not_last x j l low e is =
      let pair = same_Some (i, w.top i) (j, l) (sym last_role ∙ ap w.role is ∙ e) in
      let a : i ≡ j = ap (λ (p : ℕ × ℕ). p.0) pair in
      let b : w.top i ≡ l = ap (λ (p : ℕ × ℕ). p.1) pair in
      elim low [
        | inl n ↦ n a
        | inr t ↦ omega (arith, b, t, last)
      ]

  role_stays : (x j l : ℕ) → (i ≢ j) ⊎ (l ≤ k) → w.role x ≡ Some (j, l) → (without_last w i).role x ≡ Some (j, l)
  role_stays x j l low e = role_other w.role (w.context i (w.top i)) None x (not_last x j l low e) ∙ e

  none_stays : (x : ℕ) → w.role x ≡ None → (without_last w i).role x ≡ None
  none_stays x e =
      elim (cases_eq (w.context i (w.top i)) x) [
        | inl is ↦ role_here w.role (w.context i (w.top i)) None x is
        | inr n ↦ role_other w.role (w.context i (w.top i)) None x n ∙ e
      ]

  children : (x u : ℕ) (at : Option Place) → w.stands x ≡ Child u at → (to : Option Place) × ((without_last w i).stands x ≡ Child u to) × (steady at ≡ true → steady to ≡ true)
  children x u at e = (at, firm x (Child u at) e refl, λ s. s)

  over_on : (j l x : ℕ) → (i ≢ j) ⊎ (l ≤ k) → Over w j x l → Over (without_last w i) j x l
  over_on j l x low o =
      renewed.over_same w (without_last w i) (λ a. refl) (λ y e. firm y Froze e refl) (λ y a n e. firm y (Held (InField a n)) e refl) children j l
      (λ y e. loose_stays y j l low e) (λ y h s e. firm y (Held (InSlot j h s l)) e refl) (λ y e. role_stays y j l low e) (λ y u e. none_stays y e) o

  alias_on : (j c n : ℕ) → (i ≢ j) ⊎ (n ≤ k) → (f : Form) (v : Value) → Alias w j c n f v → Alias (without_last w i) j c n f v
  alias_on j c n low f v a =
      renewed.alias_same w (without_last w i) (λ a. refl) (λ y e. firm y Froze e refl) (λ y a m e. firm y (Held (InField a m)) e refl) children j n
      (λ l x t o. over_on j l x (lower l t low) o) (λ x l o e. none_stays x e) (λ x at e r. none_stays x r)
      (λ x u at e. (at, lowered_child i (w.top i - 1) u at (w.stands x) e)) refl c f v a
    where
      lower : (l : ℕ) → l ≤ n → (i ≢ j) ⊎ (n ≤ k) → (i ≢ j) ⊎ (l ≤ k)
      lower l t (inl differ) = inl differ
      lower l t (inr m) = inr (omega (arith, t, m))

  lower_levels : (j l : ℕ) → l ≤ with_number w.top i (w.top i - 1) j → ((i ≢ j) ⊎ (l ≤ k)) × (l ≤ w.top j)
  lower_levels j l t =
      elim (cases_eq i j) [
        | inl is ↦ let e : with_number w.top i (w.top i - 1) j ≡ w.top i - 1 = ap (with_number w.top i (w.top i - 1)) (sym is) ∙ number_here w.top i (w.top i - 1) in
            let same : w.top i ≡ w.top j = ap w.top is in
            (inr (omega (arith, t, e, last)), omega (arith, t, e, last, same))
        | inr differ ↦ let e = number_other w.top i (w.top i - 1) j differ in (inl differ, omega (arith, t, e))
      ]

  roles_on : (x j l : ℕ) → (without_last w i).role x ≡ Some (j, l) → (j < count) × (l ≤ (without_last w i).top j) × (w.context j l ≡ x)
  roles_on x j l e =
      elim (cases_eq (w.context i (w.top i)) x) [
        | inl is ↦ absurd (none-some (j, l) (sym (role_here w.role (w.context i (w.top i)) None x is) ∙ e))
        | inr differ ↦ let y = ok.roles x j l (sym (role_other w.role (w.context i (w.top i)) None x differ) ∙ e) in
            (y.0, lower y.1 y.2 differ, y.2)
      ]
    where
      lower : l ≤ w.top j → w.context j l ≡ x → (w.context i (w.top i) ≡ x → ⊥) → l ≤ with_number w.top i (w.top i - 1) j
      lower t at differ =
          elim (cases_eq i j) [
            | inl is ↦ elim (cases_eq (w.top i) l) [
              | inl top ↦ absurd (differ (subst (λ (y : ℕ). w.context i y ≡ x) (sym top) (subst (λ (y : ℕ). w.context y l ≡ x) (sym is) at)))
              | inr less ↦ let e : with_number w.top i (w.top i - 1) j ≡ w.top i - 1 = ap (with_number w.top i (w.top i - 1)) (sym is) ∙ number_here w.top i (w.top i - 1) in
                  let same : w.top i ≡ w.top j = ap w.top is in
                  omega (arith, t, e, same, less, last)
            ]
            | inr apart ↦ let e = number_other w.top i (w.top i - 1) j apart in omega (arith, t, e)
          ]

  contexts_on : (j l : ℕ) → ((i ≢ j) ⊎ (l ≤ k)) → ((w.stands (w.context j l) ≡ Opened j) ⊎ ((m : ℕ) × (m < l) × Over w j (w.context j l) m))
      → ((without_last w i).stands (w.context j l) ≡ Opened j) ⊎ ((m : ℕ) × (m < l) × Over (without_last w i) j (w.context j l) m)
  contexts_on j l low (inl e) = inl (firm (w.context j l) (Opened j) e refl)
  contexts_on j l low (inr o) = inr (o.0, o.1, over_on j o.0 (w.context j l) (lower o.0 o.1 low) o.2)
    where
      lower : (m : ℕ) → m < l → (i ≢ j) ⊎ (l ≤ k) → (i ≢ j) ⊎ (m ≤ k)
      lower m t (inl differ) = inl differ
      lower m t (inr n) = inr (omega (arith, t, n))

  world_on : WorldOk (without_last w i) objects count
  world_on = record {
    zero = role_stays 0 0 0 (inr (omega arith)) ok.zero;
    named = λ j l there t. let y = lower_levels j l t in role_stays (w.context j l) j l y.0 (ok.named j l there y.1);
    roles = roles_on;
    root = λ j there. firm (w.context j 0) (Opened j) (ok.root j there) refl;
    own = ok.own;
    contexts = λ j l there t. let y = lower_levels j l t in contexts_on j l y.0 (ok.contexts j l there y.1);
    unused = λ x more. (firm x Unused (ok.unused x more).0 refl, none_stays x (ok.unused x more).1);
    regions = ok.regions;
    parents = λ x u at e. ok.parents x u at (lowered_child i (w.top i - 1) u at (w.stands x) e);
    holders = λ x a n e. ok.holders x a n (lowered_held i (w.top i - 1) (InField a n) (w.stands x) e);
    absent = λ a e. firm (w.region a) Unused (ok.absent a e) refl;
    present = λ a o e u. ok.present a o e (lowered_unused i (w.top i - 1) (w.stands (w.region a)) u);
    homes = λ j l there u. ok.homes j l there (lowered_unused i (w.top i - 1) (w.stands (w.context j l)) u);
  }

  ends_so : (gone : Place → Bool) → Ends w (without_last w i) objects count i k gone
  ends_so gone = record {
    shifts = record {
      world = world_on;
      fits = λ p f v g e.
          renewed.fits_same w (without_last w i) (λ a. refl) (λ y e. firm y Froze e refl) (λ y a n e. firm y (Held (InField a n)) e refl) children
          gone homes (λ x p g e. firm x (Held p) e refl) (λ x u p g e. firm x (Child u (Some p)) e refl) p f v g e;
      sent = λ j. refl;
      top = λ j n. number_other w.top i (w.top i - 1) j n;
      context = λ l n. refl;
      contexts = λ j l t n u. refl;
      opened = λ j l n e. firm (w.context j l) (Opened j) e refl;
      alias = λ j c f v t n a. alias_on j c (w.top j) (inl n) f v a;
      over = λ j m l t n o. over_on j l (w.context j m) (inl n) o;
      low = λ m l n t o. over_on i l (w.context i m) (inr (omega (arith, t))) o;
    };
    over = λ j l {q = x} low o. over_on j l x low o;
    alias = λ c n f v low a. alias_on i c n (inr low) f v a;
  }
    where
      homes : (p : Place) → gone p ≡ false → home (without_last w i) p ≡ home w p
      homes (InSlot j h s l) g = refl
      homes (OnStack j h d l) g = refl
      homes (InField a n) g = refl
      homes (InMail j t n) g = refl

pub ends : EndLaw
ends w objects count ok i here k last gone = ends_so w objects count ok i here k last gone

-- ---- what is left

let_go_child : (are : Place → Bool) (i l u : ℕ) (at : Option Place) → (to : Option Place) × (let_go are i l (Child u at) ≡ Child u to) × (steady at ≡ true → steady to ≡ true)
let_go_child are i l u None = (None, refl, λ s. s)
let_go_child are i l u (Some p) =
    elim (cases_Bool (are p)) [
      | inl t ↦ (None, ap (Child u) (cond-true (are p) None (Some p) t), λ s. refl)
      | inr f ↦ (Some p, ap (Child u) (cond-false (are p) None (Some p) f), λ s. s)
    ]

was_part : (are : Place → Bool) (i l u : ℕ) (at : Option Place) (s : Standing) → let_go are i l s ≡ Child u at → (to : Option Place) × (s ≡ Child u to)
was_part are i l u at (Child v None) e = (None, ap (λ (x : ℕ). Child x None) (same_parent e))
  where
    same_parent : Child v None ≡ Child u at → v ≡ u
    same_parent f = cc
was_part are i l u at (Child v (Some p)) e = (Some p, ap (λ (x : ℕ). Child x (Some p)) (same_parent e))
  where
    same_parent : Child v (cond (are p) None (Some p)) ≡ Child u at → v ≡ u
    same_parent f = cc
was_part are i l u at Unused e = absurd (cc)
was_part are i l u at Froze e = absurd (cc)
was_part are i l u at (Opened j) e = absurd (cc)
was_part are i l u at (Loose j m) e = absurd (cc)
was_part are i l u at (Held p) e =
    elim (cases_Bool (are p)) [
      | inl t ↦ absurd (loose_is (sym (cond-true (are p) (Loose i l) (Held p) t) ∙ e))
      | inr f ↦ absurd (held_is (sym (cond-false (are p) (Loose i l) (Held p) f) ∙ e))
    ]
  where
    loose_is : Loose i l ≡ Child u at → ⊥
    loose_is f = cc

    held_is : Held p ≡ Child u at → ⊥
    held_is f = cc

was_held : (are : Place → Bool) (i l : ℕ) (o : Place) (s : Standing) → let_go are i l s ≡ Held o → s ≡ Held o
was_held are i l o (Child v None) e = absurd (cc)
was_held are i l o (Child v (Some p)) e = absurd (cc)
was_held are i l o Unused e = e
was_held are i l o Froze e = e
was_held are i l o (Opened j) e = e
was_held are i l o (Loose j m) e = e
was_held are i l o (Held p) e =
    elim (cases_Bool (are p)) [
      | inl t ↦ absurd (loose_is (sym (cond-true (are p) (Loose i l) (Held p) t) ∙ e))
      | inr f ↦ sym (cond-false (are p) (Loose i l) (Held p) f) ∙ e
    ]
  where
    loose_is : Loose i l ≡ Held o → ⊥
    loose_is f = cc

was_empty : (are : Place → Bool) (i l : ℕ) (s : Standing) → let_go are i l s ≡ Unused → s ≡ Unused
was_empty are i l (Child v None) e = absurd (cc)
was_empty are i l (Child v (Some p)) e = absurd (cc)
was_empty are i l Unused e = e
was_empty are i l Froze e = e
was_empty are i l (Opened j) e = e
was_empty are i l (Loose j m) e = e
was_empty are i l (Held p) e =
    elim (cases_Bool (are p)) [
      | inl t ↦ absurd (loose_is (sym (cond-true (are p) (Loose i l) (Held p) t) ∙ e))
      | inr f ↦ absurd (held_is (sym (cond-false (are p) (Loose i l) (Held p) f) ∙ e))
    ]
  where
    loose_is : Loose i l ≡ Unused → ⊥
    loose_is f = cc

    held_is : Held p ≡ Unused → ⊥
    held_is f = cc

module _ (w : World) (objects : ObjectMap) (count : ℕ) (ok : WorldOk w objects count) (i : ℕ) (here : i < count) (k : ℕ) (last : w.top i ≡ suc k) where
  abbrev quit : World
  quit = left_by w (higher i k) i k

  quits : (x : ℕ) (s : Standing) → w.stands x ≡ s → let_go (higher i k) i k s ≡ s → quit.stands x ≡ s
  quits x s e stays = ap (let_go (higher i k) i k) e ∙ stays

  held_stays : (p : Place) → higher i k p ≡ false → let_go (higher i k) i k (Held p) ≡ Held p
  held_stays p f = cond-false (higher i k p) (Loose i k) (Held p) f

  part_stays : (u : ℕ) (p : Place) → higher i k p ≡ false → let_go (higher i k) i k (Child u (Some p)) ≡ Child u (Some p)
  part_stays u p f = ap (Child u) (cond-false (higher i k p) None (Some p) f)

  low_place : (j l : ℕ) → (i ≢ j) ⊎ (l ≤ k) → (nat_eq i j && nat_lt k l) ≡ false
  low_place j l (inl n) = and_left (nat_eq i j) (nat_lt k l) (ne_eqb i j n)
  low_place j l (inr low) = and_right (nat_eq i j) (nat_lt k l) (le-ltb k l low)

  quit_children : (x u : ℕ) (at : Option Place) → w.stands x ≡ Child u at → (to : Option Place) × (quit.stands x ≡ Child u to) × (steady at ≡ true → steady to ≡ true)
  quit_children x u at e = let y = let_go_child (higher i k) i k u at in (y.0, ap (let_go (higher i k) i k) e ∙ y.1, y.2)

  quit_over : (j l x : ℕ) → (i ≢ j) ⊎ (l ≤ k) → Over w j x l → Over quit j x l
  quit_over j l x low o =
      renewed.over_same w quit (λ a. refl) (λ y e. quits y Froze e refl) (λ y a n e. quits y (Held (InField a n)) e refl) quit_children j l
      (λ y e. quits y (Loose j l) e refl) (λ y h s e. quits y (Held (InSlot j h s l)) e (held_stays (InSlot j h s l) (low_place j l low))) (λ y e. e) (λ y u e. e) o

  quit_alias : (j c n : ℕ) → (i ≢ j) ⊎ (n ≤ k) → (f : Form) (v : Value) → Alias w j c n f v → Alias quit j c n f v
  quit_alias j c n low f v a =
      renewed.alias_same w quit (λ a. refl) (λ y e. quits y Froze e refl) (λ y a m e. quits y (Held (InField a m)) e refl) quit_children j n
      (λ l x t o. quit_over j l x (lower l t low) o) (λ x l o e. e) (λ x at e r. r)
      (λ x u at e. was_part (higher i k) i k u at (w.stands x) e) refl c f v a
    where
      lower : (l : ℕ) → l ≤ n → (i ≢ j) ⊎ (n ≤ k) → (i ≢ j) ⊎ (l ≤ k)
      lower l t (inl differ) = inl differ
      lower l t (inr m) = inr (omega (arith, t, m))

  quit_contexts : (j l : ℕ) → j < count → l ≤ w.top j → ((w.stands (w.context j l) ≡ Opened j) ⊎ ((m : ℕ) × (m < l) × Over w j (w.context j l) m))
      → (quit.stands (w.context j l) ≡ Opened j) ⊎ ((m : ℕ) × (m < l) × Over quit j (w.context j l) m)
  quit_contexts j l there t (inl e) = inl (quits (w.context j l) (Opened j) e refl)
  quit_contexts j l there t (inr o) = inr (o.0, o.1, quit_over j o.0 (w.context j l) (lower o.0 o.1) o.2)
    where
      lower : (m : ℕ) → m < l → (i ≢ j) ⊎ (m ≤ k)
      lower m less =
          elim (cases_eq i j) [
            | inl is ↦ let same : w.top i ≡ w.top j = ap w.top is in inr (omega (arith, less, t, same, last))
            | inr n ↦ inl n
          ]

  quit_ok : WorldOk quit objects count
  quit_ok = record {
    zero = ok.zero;
    named = ok.named;
    roles = ok.roles;
    root = λ j there. quits (w.context j 0) (Opened j) (ok.root j there) refl;
    own = ok.own;
    contexts = λ j l there t. quit_contexts j l there t (ok.contexts j l there t);
    unused = λ x more. (quits x Unused (ok.unused x more).0 refl, (ok.unused x more).1);
    regions = ok.regions;
    parents = λ x u at e. let y = was_part (higher i k) i k u at (w.stands x) e in ok.parents x u y.0 y.1;
    holders = λ x a n e. ok.holders x a n (was_held (higher i k) i k (InField a n) (w.stands x) e);
    absent = λ a e. quits (w.region a) Unused (ok.absent a e) refl;
    present = λ a o e u. ok.present a o e (was_empty (higher i k) i k (w.stands (w.region a)) u);
    homes = λ j l there u. ok.homes j l there (was_empty (higher i k) i k (w.stands (w.context j l)) u);
  }

  -- ---- and one no more

  module _ (gone : Place → Bool) (high : (p : Place) → higher i k p ≡ true → gone p ≡ true) where
    low_of : (p : Place) → gone p ≡ false → higher i k p ≡ false
    low_of p g =
        elim (cases_Bool (higher i k p)) [
          | inl t ↦ absurd (false_true (sym g ∙ high p t))
          | inr f ↦ f
        ]

    quit_homes : (p : Place) → gone p ≡ false → home quit p ≡ home w p
    quit_homes (InSlot j h s l) g = refl
    quit_homes (OnStack j h d l) g = refl
    quit_homes (InField a n) g = refl
    quit_homes (InMail j t n) g = refl

    quit_shifts : Shifts w quit objects count i k gone
    quit_shifts = record {
      world = quit_ok;
      fits = λ p f v g e.
          renewed.fits_same w quit (λ a. refl) (λ y e. quits y Froze e refl) (λ y a n e. quits y (Held (InField a n)) e refl) quit_children
          gone quit_homes (λ x p g e. quits x (Held p) e (held_stays p (low_of p g))) (λ x u p g e. quits x (Child u (Some p)) e (part_stays u p (low_of p g))) p f v g e;
      sent = λ j. refl;
      top = λ j n. refl;
      context = λ l n. refl;
      contexts = λ j l t n u. refl;
      opened = λ j l n e. quits (w.context j l) (Opened j) e refl;
      alias = λ j c f v t n a. quit_alias j c (w.top j) (inl n) f v a;
      over = λ j m l t n o. quit_over j l (w.context j m) (inl n) o;
      low = λ m l n t o. quit_over i l (w.context i m) (inr (omega (arith, t))) o;
    }

    after : Ends quit (ended w i k) objects count i k gone
    after = ends quit objects count quit_ok i here k last gone

    fall_shifts : Shifts w (ended w i k) objects count i k gone
    fall_shifts = record {
      world = after.shifts.world;
      fits = λ p f v g e. after.shifts.fits p f v g (quit_shifts.fits p f v g e);
      sent = λ j. refl;
      top = λ j n. after.shifts.top j n;
      context = λ l n. refl;
      contexts = λ j l t n u. refl;
      opened = λ j l n e. after.shifts.opened j l n (quit_shifts.opened j l n e);
      alias = λ j c f v t n a. after.shifts.alias j c f v t n (quit_shifts.alias j c f v t n a);
      over = λ j m l t n o. after.shifts.over j m l t n (quit_shifts.over j m l t n o);
      low = λ m l n t o. after.shifts.low m l n t (quit_shifts.low m l n t o);
    }

    fall_over : (j l x : ℕ) → (i ≢ j) ⊎ (l ≤ k) → Over w j x l → Over (ended w i k) j x l
    fall_over j l x low o = after.over j l low (quit_over j l x low o)

    fall_ends : Ends w (ended w i k) objects count i k gone
    fall_ends = record {
      shifts = fall_shifts;
      over = λ j l {q = x} low o. fall_over j l x low o;
      alias = λ c n f v low a. after.alias c n f v low (quit_alias i c n (inr low) f v a);
    }

    -- ---- an alias comes down

    -- The last context is lent by level l, which is one of the frame that goes on.
    module _ (c l : ℕ) (least : c ≤ l) (most : l ≤ k) (held : Over w i (w.context i (suc k)) l) where
      -- Some level of that frame is over the region then.
      abbrev Down : ℕ → Type 0
      Down x = (m : ℕ) × (c ≤ m) × (m ≤ k) × Over (ended w i k) i x m

      stood : (x : ℕ) (s : Standing) → quit.stands x ≡ s → lowered i (w.top i - 1) s ≡ s → (ended w i k).stands x ≡ s
      stood x s e stays = ap (lowered i (w.top i - 1)) e ∙ stays

      none_last : (x : ℕ) → w.context i (suc k) ≡ x → (ended w i k).role x ≡ None
      none_last x is = role_here w.role (w.context i (w.top i)) None x (ap (w.context i) last ∙ is)

      none_still : (x : ℕ) → w.role x ≡ None → (ended w i k).role x ≡ None
      none_still x e =
          elim (cases_eq (w.context i (w.top i)) x) [
            | inl is ↦ role_here w.role (w.context i (w.top i)) None x is
            | inr n ↦ role_other w.role (w.context i (w.top i)) None x n ∙ e
          ]

      child_still : (x u : ℕ) (at : Option Place) → w.stands x ≡ Child u at → steady at ≡ true → (to : Option Place) × ((ended w i k).stands x ≡ Child u to) × (steady to ≡ true)
      child_still x u at e s = let y = quit_children x u at e in (y.0, stood x (Child u y.0) y.1 refl, y.2 s)

      field_still : (x : ℕ) (a : Address) (n : ℕ) → w.stands x ≡ Held (InField a n) → (ended w i k).stands x ≡ Held (InField a n)
      field_still x a n e = stood x (Held (InField a n)) (quits x (Held (InField a n)) e refl) refl

      one_less : w.top i - 1 ≡ k
      one_less = omega (arith, last)

      loose_down : (x m : ℕ) → quit.stands x ≡ Loose i m → k ≤ m → (ended w i k).stands x ≡ Loose i k
      loose_down x m e more =
          elim (cases_eq m k) [
            | inl is ↦ ap (lowered i (w.top i - 1)) e ∙ ap (λ (b : Bool). Loose i (cond b (w.top i - 1) m)) (and_right (nat_eq i i) (nat_lt (w.top i - 1) m) (le-ltb (w.top i - 1) m (omega (arith, is, one_less)))) ∙ ap (Loose i) is
            | inr n ↦ ap (lowered i (w.top i - 1)) e ∙ ap (λ (b : Bool). Loose i (cond b (w.top i - 1) m)) (high_slot i (w.top i - 1) i m refl (omega (arith, more, n, one_less))) ∙ ap (Loose i) one_less
          ]

      falls_over : (m x : ℕ) → c ≤ m → Over w i x m → Down x
      falls_over m x up o =
          elim (cases_lt k m) [
            | inl high' ↦ goes o high'
            | inr low ↦ (m, up, low, fall_over i m x (inr low) o)
          ]
        where
          level_is : (y : ℕ) → w.role y ≡ Some (i, m) → k < m → w.context i (suc k) ≡ y
          level_is y r more = let z = ok.roles y i m r in let t = z.1 in let is : m ≡ suc k = omega (arith, t, more, last) in subst (λ (n : ℕ). w.context i n ≡ y) is z.2

          goes : {y : ℕ} → Over w i y m → k < m → Down y
          goes {y} (over_loose e) more = (k, omega (arith, least, most), omega arith, over_loose (loose_down y m (quits y (Loose i m) e refl) (omega (arith, more))))
          goes {y} (over_slot h s e) more =
              (k, omega (arith, least, most), omega arith, over_loose (loose_down y k (ap (let_go (higher i k) i k) e ∙ cond-true (higher i k (InSlot i h s m)) (Loose i k) (Held (InSlot i h s m)) (high_slot i k i m refl more)) (omega arith)))
          goes {y} (over_own a n e r) more =
              let is = level_is (w.region a) r more in
              (l, least, most, over_field a n (field_still y a n e) (none_last (w.region a) is) (subst (λ (z : ℕ). Over (ended w i k) i z l) is (fall_over i l (w.context i (suc k)) (inr most) held)))
          goes {y} (over_field a n e r o) more =
              let z = goes o more in
              (z.0, z.1, z.2, over_field a n (field_still y a n e) (none_still (w.region a) r) z.3)
          goes {y} (over_part u at e s r) more =
              let is = level_is u r more in
              let t = child_still y u at e s in
              (l, least, most, over_child u t.0 t.1 t.2 (none_last u is) (subst (λ (z : ℕ). Over (ended w i k) i z l) is (fall_over i l (w.context i (suc k)) (inr most) held)))
          goes {y} (over_child u at e s r o) more =
              let z = goes o more in
              let t = child_still y u at e s in
              (z.0, z.1, z.2, over_child u t.0 t.1 t.2 (none_still u r) z.3)

      falls_in : (m x : ℕ) → c ≤ m → AliasIn w i m (suc k) form.Iso x → AliasIn (ended w i k) i c k form.Iso x
      falls_in m x up a =
          let at = a.3 in
          let z = falls_over a.2 x (omega (arith, at, up)) a.5 in
          (none_still x a.0, λ u to e. let y = was_part (higher i k) i k u to (w.stands x) (lowered_child i (w.top i - 1) u to (quit.stands x) e) in a.1 u y.0 y.1, z.0, z.1, z.2, z.3)

      falls_on : (m : ℕ) (v : Value) → c ≤ m → Alias w i m (suc k) form.Iso v → Alias (ended w i k) i c k form.Iso v
      falls_on m (At a) up e = falls_in m (w.region a) up e
      falls_on m (Num n) up e = tt
      falls_on m (Truth t) up e = tt
      falls_on m (Text t) up e = tt
      falls_on m (Prim n) up e = tt

pub falls : FallLaw
falls w objects count ok i here k last gone high =
    (fall_ends w objects count ok i here k last gone high, λ c l m v least most up held a. falls_on w objects count ok i here k last gone high c l least most held m v up a)
