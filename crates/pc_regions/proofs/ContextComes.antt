-- A context comes: a new region is opened, or one is lent, as the next context of an actor.
use Rattle.std.specs.Prelude.{◌≡◌, ◌≢◌, ◌⊎◌, ℕ, suc, ◌<◌, ◌≤◌, Bool, true, false, ◌&&◌, Option, Some, None, nat_eq, nat_lt, refl}
use Rattle.std.proofs.{Common.{inl, inr, ap, sym, subst, ◌∙◌, arith}, lemmas.Bool.{eq-eqb, lt-ltb, cases_eq, cases_lt, and_from}, lemmas.Option.{same_Some, none-some}}
use Rattle.pc_heap.specs.{Objects.ObjectMap, declared.value.Address.Address, declared.value.Value.Value}
use Rattle.pc_caps.specs.declared.capability.Form.{Form}
use Rattle.pc_base.proofs.Bools.{false_true}
use Rattle.pc_regions.proofs.{World.{Place, InSlot, OnStack, InField, InMail, Standing, Unused, Froze, Opened, Loose, Held, Child, World, home, Belongs, child, steady, Alias, Over, over_loose, over_slot, over_own, over_field, over_part, over_child, WorldOk}, Changes.{with_context, with_number, with_role, with_open, lent, Shifts}, ContextLaws.{higher, OpenLaw, LentLaw}, OneHolder.{one_actor, context_belongs, over_is_of}, StandsOtherwise.{stand_here, stand_other, one_level}, SameRegions.{context_other, context_here, number_here, number_other, role_here, role_other}}
use Rattle.pc_regions.proofs.SameRegions as renewed

-- What a level is over is in use.
pub over_used : (w : World) (j x l : ℕ) → Over w j x l → w.stands x ≡ Unused → ⊥
over_used w j x l (over_loose e) u = cc
over_used w j x l (over_slot h s e) u = cc
over_used w j x l (over_own a k e r) u = cc
over_used w j x l (over_field a k e r o) u = cc
over_used w j x l (over_part v at e s r) u = cc
over_used w j x l (over_child v at e s r o) u = cc

pub high_slot : (i k j l : ℕ) → i ≡ j → k < l → (nat_eq i j && nat_lt k l) ≡ true
high_slot i k j l e low = and_from (nat_eq i j) (nat_lt k l) (eq-eqb i j e) (lt-ltb k l low)

-- ---- region n is the next context

module _ (w : World) (objects : ObjectMap) (count : ℕ) (ok : WorldOk w objects count) (i : ℕ) (here : i < count) (n : ℕ) (plain : w.role n ≡ None) where
  abbrev context' : ℕ → ℕ → ℕ
  context' j l = with_context w.context i (suc (w.top i)) n j l

  pub has_role : (x j l : ℕ) → w.role x ≡ Some (j, l) → n ≡ x → ⊥
  has_role x j l e is = none-some (j, l) (sym plain ∙ ap w.role is ∙ e)

  pub role_kept : (x j l : ℕ) → w.role x ≡ Some (j, l) → with_role w.role n (Some (i, suc (w.top i))) x ≡ Some (j, l)
  role_kept x j l e = role_other w.role n (Some (i, suc (w.top i))) x (has_role x j l e) ∙ e

  top_is : (j : ℕ) → i ≡ j → with_number w.top i (suc (w.top i)) j ≡ suc (w.top i)
  top_is j is = ap (with_number w.top i (suc (w.top i))) (sym is) ∙ number_here w.top i (suc (w.top i))

  pub top_grows : (j l : ℕ) → l ≤ w.top j → l ≤ with_number w.top i (suc (w.top i)) j
  top_grows j l t =
      elim (cases_eq i j) [
        | inl is ↦ let e = top_is j is in let same : w.top i ≡ w.top j = ap w.top is in omega (arith, t, e, same)
        | inr differ ↦ let e = number_other w.top i (suc (w.top i)) j differ in omega (arith, t, e)
      ]

  no_later : (j l : ℕ) → l ≤ w.top j → i ≡ j → suc (w.top i) ≡ l → ⊥
  no_later j l t is e = let same : w.top i ≡ w.top j = ap w.top is in omega (arith, t, e, same)

  pub old_context : (j l : ℕ) → l ≤ w.top j → with_context w.context i (suc (w.top i)) n j l ≡ w.context j l
  old_context j l t = context_other w.context i (suc (w.top i)) n j l (no_later j l t)

  -- A level is an old one, or the new one.
  pub levels : (j l : ℕ) → l ≤ with_number w.top i (suc (w.top i)) j → ((i ≡ j) × (suc (w.top i) ≡ l)) ⊎ (l ≤ w.top j)
  levels j l t =
      elim (cases_eq i j) [
        | inl is ↦ elim (cases_eq (suc (w.top i)) l) [
          | inl at ↦ inl (is, at)
          | inr differ ↦ let e = top_is j is in let same : w.top i ≡ w.top j = ap w.top is in inr (omega (arith, t, e, same, differ))
        ]
        | inr apart ↦ let e = number_other w.top i (suc (w.top i)) j apart in inr (omega (arith, t, e))
      ]

  pub named_on : (j l : ℕ) → j < count → l ≤ with_number w.top i (suc (w.top i)) j → with_role w.role n (Some (i, suc (w.top i))) (with_context w.context i (suc (w.top i)) n j l) ≡ Some (j, l)
  named_on j l there t =
      elim (levels j l t) [
        | inl k ↦ let is : i ≡ j = k.0 in
            let at : suc (w.top i) ≡ l = k.1 in
            let both : ◌≡◌ {A = Option (ℕ × ℕ)} (Some (i, suc (w.top i))) (Some (j, l)) = cc in
            role_here w.role n (Some (i, suc (w.top i))) (context' j l) (sym (context_here w.context i (suc (w.top i)) n j l is at)) ∙ both
        | inr low ↦ ap (with_role w.role n (Some (i, suc (w.top i)))) (old_context j l low) ∙ role_kept (w.context j l) j l (ok.named j l there low)
      ]

  pub roles_on : (x j l : ℕ) → with_role w.role n (Some (i, suc (w.top i))) x ≡ Some (j, l) → (j < count) × (l ≤ with_number w.top i (suc (w.top i)) j) × (with_context w.context i (suc (w.top i)) n j l ≡ x)
  roles_on x j l e =
      elim (cases_eq n x) [
        | inl is ↦ let pair = same_Some (i, suc (w.top i)) (j, l) (sym (role_here w.role n (Some (i, suc (w.top i))) x is) ∙ e) in
            let a : i ≡ j = ap (λ (p : ℕ × ℕ). p.0) pair in
            let b : suc (w.top i) ≡ l = ap (λ (p : ℕ × ℕ). p.1) pair in
            let t = top_is j a in
            (omega (arith, here, a), omega (arith, b, t), context_here w.context i (suc (w.top i)) n j l a b ∙ is)
        | inr differ ↦ let k = ok.roles x j l (sym (role_other w.role n (Some (i, suc (w.top i))) x differ) ∙ e) in (k.0, top_grows j l k.1, old_context j l k.1 ∙ k.2)
      ]

  pub place_home : (high : Bool) (j l : ℕ) → ((nat_eq i j && nat_lt (w.top i) l) ≡ true → high ≡ true) → high ≡ false → with_context w.context i (suc (w.top i)) n j l ≡ w.context j l
  place_home high j l up low =
      context_other w.context i (suc (w.top i)) n j l
      (λ is at. false_true (sym low ∙ up (high_slot i (w.top i) j l is (omega (arith, at)))))

-- ---- a region is opened

module _ (w : World) (objects : ObjectMap) (count : ℕ) (ok : WorldOk w objects count) (i : ℕ) (here : i < count) where
  fresh : (w.stands w.next ≡ Unused) × (w.role w.next ≡ None)
  fresh = ok.unused w.next (omega arith)

  kept : (x : ℕ) (s : Standing) → w.stands x ≡ s → (s ≡ Unused → ⊥) → (with_open w i).stands x ≡ s
  kept x s e used = stand_other w.stands w.next (Opened i) x (λ is. used (sym e ∙ sym (ap w.stands is) ∙ fresh.0)) ∙ e

  there : (with_open w i).stands w.next ≡ Opened i
  there = stand_here w.stands w.next (Opened i)

  role_stays : (x : ℕ) → (w.stands x ≡ Unused → ⊥) → w.role x ≡ None → (with_open w i).role x ≡ None
  role_stays x used e = role_other w.role w.next (Some (i, suc (w.top i))) x (λ is. used (sym (ap w.stands is) ∙ fresh.0)) ∙ e

  before : (x : ℕ) (s : Standing) → (with_open w i).stands x ≡ s → (Opened i ≡ s → ⊥) → w.stands x ≡ s
  before x s e other =
      elim (cases_eq w.next x) [
        | inl is ↦ absurd (other (sym there ∙ ap (with_open w i).stands is ∙ e))
        | inr differ ↦ sym (stand_other w.stands w.next (Opened i) x differ) ∙ e
      ]

  children : (x u : ℕ) (at : Option Place) → w.stands x ≡ Child u at → (to : Option Place) × ((with_open w i).stands x ≡ Child u to) × (steady at ≡ true → steady to ≡ true)
  children x u at e = (at, kept x (Child u at) e (λ f. cc), λ s. s)

  over_on : (j l x : ℕ) → Over w j x l → Over (with_open w i) j x l
  over_on j l x o =
      renewed.over_same w (with_open w i) (λ a. refl) (λ y e. kept y Froze e (λ f. cc)) (λ y a k e. kept y (Held (InField a k)) e (λ f. cc)) children j l
      (λ y e. kept y (Loose j l) e (λ f. cc)) (λ y h s e. kept y (Held (InSlot j h s l)) e (λ f. cc)) (λ y e. role_kept w objects count ok i here w.next fresh.1 y j l e)
      (λ y k e. role_stays y (over_used w j y l k) e) o

  opened_on : (x j : ℕ) → w.stands x ≡ Opened j → (with_open w i).stands x ≡ Opened j
  opened_on x j e = kept x (Opened j) e (λ f. cc)

  contexts_on : (j l : ℕ) → ((w.stands (w.context j l) ≡ Opened j) ⊎ ((m : ℕ) × (m < l) × Over w j (w.context j l) m))
      → ((with_open w i).stands (w.context j l) ≡ Opened j) ⊎ ((m : ℕ) × (m < l) × Over (with_open w i) j (w.context j l) m)
  contexts_on j l (inl e) = inl (opened_on (w.context j l) j e)
  contexts_on j l (inr o) = inr (o.0, o.1, over_on j o.0 (w.context j l) o.2)

  all_contexts : (j l : ℕ) → j < count → l ≤ with_number w.top i (suc (w.top i)) j
      → ((with_open w i).stands ((with_open w i).context j l) ≡ Opened j) ⊎ ((m : ℕ) × (m < l) × Over (with_open w i) j ((with_open w i).context j l) m)
  all_contexts j l in_count t =
      elim (levels w objects count ok i here w.next fresh.1 j l t) [
        | inl k ↦ inl (ap (with_open w i).stands (context_here w.context i (suc (w.top i)) w.next j l k.0 k.1) ∙ there ∙ ap Opened k.0)
        | inr low ↦ subst (λ (c : ℕ). ((with_open w i).stands c ≡ Opened j) ⊎ ((m : ℕ) × (m < l) × Over (with_open w i) j c m)) (sym (old_context w objects count ok i here w.next fresh.1 j l low)) (contexts_on j l (ok.contexts j l in_count low))
      ]

  used_on : (x : ℕ) → (w.stands x ≡ Unused → ⊥) → (with_open w i).stands x ≡ Unused → ⊥
  used_on x used e = used (before x Unused e (λ f. cc))

  homes_on : (j l : ℕ) → j < count → (with_open w i).stands ((with_open w i).context j l) ≡ Unused → ⊥
  homes_on j l in_count e =
      elim (cases_eq i j) [
        | inl is ↦ elim (cases_eq (suc (w.top i)) l) [
          | inl at ↦ opened_not (sym there ∙ ap (with_open w i).stands (sym (context_here w.context i (suc (w.top i)) w.next j l is at)) ∙ e)
          | inr n ↦ used_on (w.context j l) (ok.homes j l in_count) (ap (with_open w i).stands (sym (context_other w.context i (suc (w.top i)) w.next j l (λ same at. n at))) ∙ e)
        ]
        | inr n ↦ used_on (w.context j l) (ok.homes j l in_count) (ap (with_open w i).stands (sym (context_other w.context i (suc (w.top i)) w.next j l (λ same at. n same))) ∙ e)
      ]
    where
      opened_not : Opened i ≡ Unused → ⊥
      opened_not f = cc

  absent_on : (a : Address) → w.stands (w.region a) ≡ Unused → (with_open w i).stands (w.region a) ≡ Unused
  absent_on a e = stand_other w.stands w.next (Opened i) (w.region a) (λ is. let low = ok.regions a in omega (arith, low, is)) ∙ e

  world_on : WorldOk (with_open w i) objects count
  world_on = record {
    zero = role_kept w objects count ok i here w.next fresh.1 0 0 0 ok.zero;
    named = λ j l t u. named_on w objects count ok i here w.next fresh.1 j l t u;
    roles = λ x j l e. roles_on w objects count ok i here w.next fresh.1 x j l e;
    root = λ j t. ap (with_open w i).stands (old_context w objects count ok i here w.next fresh.1 j 0 (omega arith)) ∙ opened_on (w.context j 0) j (ok.root j t);
    own = λ j t. ok.own j t ∙ sym (old_context w objects count ok i here w.next fresh.1 j 0 (omega arith));
    contexts = all_contexts;
    unused = λ x more.
        let differ = λ (is : w.next ≡ x). later more is in
        let u = ok.unused x (omega (arith, more)) in
        (stand_other w.stands w.next (Opened i) x differ ∙ u.0, role_other w.role w.next (Some (i, suc (w.top i))) x differ ∙ u.1);
    regions = λ a. let l = ok.regions a in omega (arith, l);
    parents = λ x u at e. let l = ok.parents x u at (before x (Child u at) e (λ f. cc)) in omega (arith, l);
    holders = λ x a k e. ok.holders x a k (before x (Held (InField a k)) e (λ f. cc));
    absent = λ a e. absent_on a (ok.absent a e);
    present = λ a o e u. used_on (w.region a) (ok.present a o e) u;
    homes = homes_on;
  }
    where
      later : {x n : ℕ} → suc n ≤ x → n ≡ x → ⊥
      later more is = omega (arith, more, is)

  alias_on : (j c k : ℕ) → k ≤ w.top j → (f : Form) (v : Value) → Alias w j c k f v → Alias (with_open w i) j c k f v
  alias_on j c k t f v a =
      renewed.alias_same w (with_open w i) (λ a. refl) (λ y e. kept y Froze e (λ f. cc)) (λ y a k e. kept y (Held (InField a k)) e (λ f. cc)) children j k
      (λ l x u o. over_on j l x o) (λ x l o e. role_stays x (over_used w j x l o) e) (λ x at e r. role_stays x (not_unused x at e) r)
      (λ x u at e. (at, before x (Child u at) e (λ f. cc))) (old_context w objects count ok i here w.next fresh.1 j k t) c f v a
    where
      not_unused : (x : ℕ) (at : Option Place) → w.stands x ≡ Child (w.context j k) at → w.stands x ≡ Unused → ⊥
      not_unused x at e u = cc

  module _ (gone : Place → Bool) (high : (p : Place) → higher i (w.top i) p ≡ true → gone p ≡ true) where
    homes : (p : Place) → gone p ≡ false → home (with_open w i) p ≡ home w p
    homes (InSlot j h s l) g = place_home w objects count ok i here w.next fresh.1 (gone (InSlot j h s l)) j l (λ e. high (InSlot j h s l) e) g
    homes (OnStack j h d l) g = place_home w objects count ok i here w.next fresh.1 (gone (OnStack j h d l)) j l (λ e. high (OnStack j h d l) e) g
    homes (InField a k) g = refl
    homes (InMail j t k) g = refl

    open_shifts : (b : ℕ) → b ≤ w.top i → Shifts w (with_open w i) objects count i b gone
    open_shifts b floor = record {
      world = world_on;
      fits = λ p f v g e.
          renewed.fits_same w (with_open w i) (λ a. refl) (λ y e. kept y Froze e (λ f. cc)) (λ y a k e. kept y (Held (InField a k)) e (λ f. cc)) children
          gone homes (λ x p g e. kept x (Held p) e (λ f. cc)) (λ x u p g e. kept x (Child u (Some p)) e (λ f. cc)) p f v g e;
      sent = λ j. refl;
      top = λ j n. number_other w.top i (suc (w.top i)) j n;
      context = λ l n. old_context w objects count ok i here w.next fresh.1 i l (omega (arith, n, floor));
      contexts = λ j l t n u. old_context w objects count ok i here w.next fresh.1 j l u;
      opened = λ j l n e. ap (with_open w i).stands (near j l n) ∙ opened_on (w.context j l) j e;
      alias = λ j c f v t n a. alias_on j c (w.top j) (omega arith) f v a;
      over = λ j m l t n o. subst (λ (x : ℕ). Over (with_open w i) j x l) (sym (near j m (inl n))) (over_on j l (w.context j m) o);
      low = λ m l n k o. subst (λ (x : ℕ). Over (with_open w i) i x l) (sym (near i m (inr n))) (over_on i l (w.context i m) o);
    }
      where
        near : (j l : ℕ) → (i ≢ j) ⊎ (l ≤ b) → (with_open w i).context j l ≡ w.context j l
        near j l (inl n) = context_other w.context i (suc (w.top i)) w.next j l (λ is at. n is)
        near j l (inr n) = context_other w.context i (suc (w.top i)) w.next j l (λ is at. omega (arith, at, n, floor))

pub opens : OpenLaw
opens w objects count ok i here b floor gone high = record {
  shifts = open_shifts w objects count ok i here gone high b floor;
  over = λ j {q = x} {l = l} o. over_on w objects count ok i here j l x o;
  alias = λ j c k f v there t a. alias_on w objects count ok i here j c k t f v a;
}

-- ---- a region is lent

module _ (w : World) (i q : ℕ) (plain : w.role q ≡ None) where
  lent_none : (x : ℕ) → (q ≡ x → ⊥) → w.role x ≡ None → (lent w i q).role x ≡ None
  lent_none x n e = role_other w.role q (Some (i, suc (w.top i))) x n ∙ e

  lent_role : (x j l : ℕ) → w.role x ≡ Some (j, l) → (lent w i q).role x ≡ Some (j, l)
  lent_role x j l e = role_other w.role q (Some (i, suc (w.top i))) x (λ is. none-some (j, l) (sym plain ∙ ap w.role is ∙ e)) ∙ e

  -- A level is over a region still, or over q.
  over_or : (j l : ℕ) {x : ℕ} → Over w j x l → Over (lent w i q) j x l ⊎ Over (lent w i q) j q l
  over_or j l (over_loose e) = inl (over_loose e)
  over_or j l (over_slot h s e) = inl (over_slot h s e)
  over_or j l (over_own a k e r) = inl (over_own a k e (lent_role (w.region a) j l r))
  over_or j l (over_field a k e r o) =
      elim (over_or j l o) [
        | inl o' ↦ elim (cases_eq q (w.region a)) [
          | inl is ↦ inr (subst (λ (y : ℕ). Over (lent w i q) j y l) (sym is) o')
          | inr n ↦ inl (over_field a k e (lent_none (w.region a) n r) o')
        ]
        | inr o' ↦ inr o'
      ]
  over_or j l (over_part u at e s r) = inl (over_part u at e s (lent_role u j l r))
  over_or j l (over_child u at e s r o) =
      elim (over_or j l o) [
        | inl o' ↦ elim (cases_eq q u) [
          | inl is ↦ inr (subst (λ (y : ℕ). Over (lent w i q) j y l) (sym is) o')
          | inr n ↦ inl (over_child u at e s (lent_none u n r) o')
        ]
        | inr o' ↦ inr o'
      ]

  pub over_lent : (j l : ℕ) → Over w j q l → Over (lent w i q) j q l
  over_lent j l o =
      elim (over_or j l o) [
        | inl o' ↦ o'
        | inr o' ↦ o'
      ]

module _
    (w : World) (objects : ObjectMap) (count : ℕ) (ok : WorldOk w objects count) (i : ℕ) (here : i < count) (b : ℕ) (floor : b ≤ w.top i)
    (above : (j : ℕ) → b < j → j ≤ w.top i → w.stands (w.context i j) ≡ Opened i) (q n : ℕ) (plain : w.role q ≡ None) (least : b ≤ n) (most : n ≤ w.top i) (held : Over w i q n)
  where
    same_children : (x u : ℕ) (at : Option Place) → w.stands x ≡ Child u at → (to : Option Place) × (w.stands x ≡ Child u to) × (steady at ≡ true → steady to ≡ true)
    same_children x u at e = (at, e, λ s. s)

    over_by : (j l : ℕ) → ((x : ℕ) → Over w j x l → q ≡ x → ⊥) → (x : ℕ) → Over w j x l → Over (lent w i q) j x l
    over_by j l far x o =
        renewed.over_same w (lent w i q) (λ a. refl) (λ y e. e) (λ y a k e. e) same_children j l
        (λ y e. e) (λ y h s e. e) (λ y e. lent_role w i q plain y j l e) (λ y k e. lent_none w i q plain y (far y k) e) o

    -- Lower levels are not over q, and neither are those of other actors.
    not_low : (l : ℕ) → l < b → (x : ℕ) → Over w i x l → q ≡ x → ⊥
    not_low l low x o is = let e = one_level w i l held (subst (λ (y : ℕ). Over w i y l) (sym is) o) in omega (arith, e, low, least)

    not_theirs : (j : ℕ) → i ≢ j → (x : ℕ) → Belongs w j x → q ≡ x → ⊥
    not_theirs j differ x k is = differ (one_actor w j (over_is_of w objects count ok i here held) (subst (Belongs w j) (sym is) k))

    over_low : (l x : ℕ) → l < b → Over w i x l → Over (lent w i q) i x l
    over_low l x low o = over_by i l (λ y k is. not_low l low y k is) x o

    over_theirs : (j l x : ℕ) → j < count → i ≢ j → Over w j x l → Over (lent w i q) j x l
    over_theirs j l x there differ o = over_by j l (λ y k is. not_theirs j differ y (over_is_of w objects count ok j there k) is) x o

    old_on : (j l : ℕ) → j < count → l ≤ w.top j → ((w.stands (w.context j l) ≡ Opened j) ⊎ ((m : ℕ) × (m < l) × Over w j (w.context j l) m))
        → (w.stands (w.context j l) ≡ Opened j) ⊎ ((m : ℕ) × (m < l) × Over (lent w i q) j (w.context j l) m)
    old_on j l there t (inl e) = inl e
    old_on j l there t (inr o) =
        elim (cases_eq i j) [
          | inl is ↦ elim (cases_lt b l) [
            | inl up ↦ inl (subst (λ (k : ℕ). w.stands (w.context k l) ≡ Opened k) is (above l up (subst (λ (k : ℕ). l ≤ w.top k) (sym is) t)))
            | inr low ↦ let m : ℕ = o.0 in
                let under_it = o.1 in
                inr (m, o.1, subst (λ (k : ℕ). Over (lent w i q) k (w.context j l) m) is (over_low m (w.context j l) (omega (arith, under_it, low)) (subst (λ (k : ℕ). Over w k (w.context j l) m) (sym is) o.2)))
          ]
          | inr differ ↦ inr (o.0, o.1, over_theirs j o.0 (w.context j l) there differ o.2)
        ]

    all_on : (j l : ℕ) → j < count → l ≤ with_number w.top i (suc (w.top i)) j
        → (w.stands ((lent w i q).context j l) ≡ Opened j) ⊎ ((m : ℕ) × (m < l) × Over (lent w i q) j ((lent w i q).context j l) m)
    all_on j l there t =
        elim (levels w objects count ok i here q plain j l t) [
          | inl k ↦ let at : suc (w.top i) ≡ l = k.1 in
              let now : Over (lent w i q) i ((lent w i q).context j l) n = subst (λ (y : ℕ). Over (lent w i q) i y n) (sym (context_here w.context i (suc (w.top i)) q j l k.0 k.1)) (over_lent w i q plain i n held) in
              inr (n, omega (arith, most, at), subst (λ (y : ℕ). Over (lent w i q) y ((lent w i q).context j l) n) k.0 now)
          | inr low ↦ subst (λ (c : ℕ). (w.stands c ≡ Opened j) ⊎ ((m : ℕ) × (m < l) × Over (lent w i q) j c m)) (sym (old_context w objects count ok i here q plain j l low)) (old_on j l there low (ok.contexts j l there low))
        ]

    lent_used : (j l : ℕ) → j < count → w.stands ((lent w i q).context j l) ≡ Unused → ⊥
    lent_used j l in_count e =
        elim (cases_eq i j) [
          | inl is ↦ elim (cases_eq (suc (w.top i)) l) [
            | inl at ↦ over_used w i q n held (ap w.stands (sym (context_here w.context i (suc (w.top i)) q j l is at)) ∙ e)
            | inr differ ↦ ok.homes j l in_count (ap w.stands (sym (context_other w.context i (suc (w.top i)) q j l (λ same at. differ at))) ∙ e)
          ]
          | inr differ ↦ ok.homes j l in_count (ap w.stands (sym (context_other w.context i (suc (w.top i)) q j l (λ same at. differ same))) ∙ e)
        ]

    lent_ok : WorldOk (lent w i q) objects count
    lent_ok = record {
      zero = role_kept w objects count ok i here q plain 0 0 0 ok.zero;
      named = λ j l t u. named_on w objects count ok i here q plain j l t u;
      roles = λ x j l e. roles_on w objects count ok i here q plain x j l e;
      root = λ j t. ap w.stands (old_context w objects count ok i here q plain j 0 (omega arith)) ∙ ok.root j t;
      own = λ j t. ok.own j t ∙ sym (old_context w objects count ok i here q plain j 0 (omega arith));
      contexts = all_on;
      unused = λ x more. let u = ok.unused x more in (u.0, lent_none w i q plain x (λ is. over_used w i q n held (ap w.stands is ∙ u.0)) u.1);
      regions = ok.regions;
      parents = ok.parents;
      holders = ok.holders;
      absent = ok.absent;
      present = ok.present;
      homes = lent_used;
    }

    lent_alias : (j c : ℕ) → j < count → i ≢ j → (f : Form) (v : Value) → Alias w j c (w.top j) f v → Alias (lent w i q) j c (w.top j) f v
    lent_alias j c there differ f v a =
        renewed.alias_same w (lent w i q) (λ a. refl) (λ y e. e) (λ y a k e. e) same_children j (w.top j)
        (λ l x u o. over_theirs j l x there differ o) (λ x l o e. lent_none w i q plain x (not_theirs j differ x (over_is_of w objects count ok j there o)) e)
        (λ x at e r. lent_none w i q plain x (not_theirs j differ x (child (w.context j (w.top j)) at e (context_belongs w objects count ok j there (w.top j) (omega arith)))) r)
        (λ x u at e. (at, e)) (old_context w objects count ok i here q plain j (w.top j) (omega arith)) c f v a

    module _ (gone : Place → Bool) (high : (p : Place) → higher i (w.top i) p ≡ true → gone p ≡ true) where
      lent_homes : (p : Place) → gone p ≡ false → home (lent w i q) p ≡ home w p
      lent_homes (InSlot j h s l) g = place_home w objects count ok i here q plain (gone (InSlot j h s l)) j l (λ e. high (InSlot j h s l) e) g
      lent_homes (OnStack j h d l) g = place_home w objects count ok i here q plain (gone (OnStack j h d l)) j l (λ e. high (OnStack j h d l) e) g
      lent_homes (InField a k) g = refl
      lent_homes (InMail j t k) g = refl

      lent_shifts : Shifts w (lent w i q) objects count i b gone
      lent_shifts = record {
        world = lent_ok;
        fits = λ p f v g e. renewed.fits_same w (lent w i q) (λ a. refl) (λ y e. e) (λ y a k e. e) same_children gone lent_homes (λ x p g e. e) (λ x u p g e. e) p f v g e;
        sent = λ j. refl;
        top = λ j n. number_other w.top i (suc (w.top i)) j n;
        context = λ l n. old_context w objects count ok i here q plain i l (omega (arith, n, floor));
        contexts = λ j l t n u. old_context w objects count ok i here q plain j l u;
        opened = λ j l n e. ap w.stands (near j l n) ∙ e;
        alias = λ j c f v t n a. lent_alias j c t n f v a;
        over = λ j m l t n o. subst (λ (x : ℕ). Over (lent w i q) j x l) (sym (near j m (inl n))) (over_theirs j l (w.context j m) t n o);
        low = λ m l n k o. subst (λ (x : ℕ). Over (lent w i q) i x l) (sym (near i m (inr n))) (over_low l (w.context i m) k o);
      }
        where
          near : (j l : ℕ) → (i ≢ j) ⊎ (l ≤ b) → (lent w i q).context j l ≡ w.context j l
          near j l (inl n) = context_other w.context i (suc (w.top i)) q j l (λ is at. n is)
          near j l (inr n) = context_other w.context i (suc (w.top i)) q j l (λ is at. omega (arith, at, n, floor))

pub lends : LentLaw
lends w objects count ok i here b floor above q l plain least most held gone high =
    (lent_shifts w objects count ok i here b floor above q l plain least most held gone high, over_lent w i q plain i l held)
