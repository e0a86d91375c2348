-- The regions that a waiting argument holds: chains of holders that end at its place in a message. Such a region belongs to no
-- actor, is not frozen, and is of one argument.
use Rattle.std.specs.Prelude.{◌≡◌, ◌⊎◌, ℕ, Option}
use Rattle.std.proofs.Common.{inl, inr, sym, subst}
use Rattle.pc_heap.specs.declared.value.Address.{Address}
use Rattle.pc_regions.proofs.{World.{Place, InField, InMail, Held, Child, World, Frozen, ice, in_ice, under_ice, Belongs, opened, loose, slot, stack, field, child, Seen, same, under, frozen}, OneHolder.{mail_is_none's, mail_is_warm}}

-- Held by the message that was sent to actor j as number t, for its argument k; or held by a field of an object of what is, or
-- a child of what is.
pub data Mailed (w : World) (j t k : ℕ) : ℕ → Type 0 where
  sent : {q : ℕ} → w.stands q ≡ Held (InMail j t k) → Mailed w j t k q
  in_it : {q : ℕ} → (a : Address) (n : ℕ) → w.stands q ≡ Held (InField a n) → Mailed w j t k (w.region a) → Mailed w j t k q
  part : {q : ℕ} → (u : ℕ) (at : Option Place) → w.stands q ≡ Child u at → Mailed w j t k u → Mailed w j t k q

module _ (w : World) where
  pub mailed_is_none's : (i : ℕ) {j t k q : ℕ} → Mailed w j t k q → Belongs w i q → ⊥
  mailed_is_none's i {j} {t} {k} {q} (sent e) b = mail_is_none's w q i j t k e b
  mailed_is_none's i (in_it a n e m) (opened f) = cc
  mailed_is_none's i (in_it a n e m) (loose l f) = cc
  mailed_is_none's i (in_it a n e m) (slot h s l f) = cc
  mailed_is_none's i (in_it a n e m) (stack h d l f) = cc
  mailed_is_none's i (in_it a n e m) (field c l f b) = let is : a ≡ c = cc in mailed_is_none's i m (subst (λ (x : Address). Belongs w i (w.region x)) (sym is) b)
  mailed_is_none's i (in_it a n e m) (child u at f b) = cc
  mailed_is_none's i (part u at e m) (opened f) = cc
  mailed_is_none's i (part u at e m) (loose l f) = cc
  mailed_is_none's i (part u at e m) (slot h s l f) = cc
  mailed_is_none's i (part u at e m) (stack h d l f) = cc
  mailed_is_none's i (part u at e m) (field c l f b) = cc
  mailed_is_none's i (part u at e m) (child v to f b) = let is : u ≡ v = cc in mailed_is_none's i m (subst (Belongs w i) (sym is) b)

  pub mailed_is_warm : {j t k q : ℕ} → Mailed w j t k q → Frozen w q → ⊥
  mailed_is_warm {j} {t} {k} {q} (sent e) f = mail_is_warm w q j t k e f
  mailed_is_warm (in_it a n e m) (ice f) = cc
  mailed_is_warm (in_it a n e m) (in_ice c l f r) = let is : a ≡ c = cc in mailed_is_warm m (subst (λ (x : Address). Frozen w (w.region x)) (sym is) r)
  mailed_is_warm (in_it a n e m) (under_ice u at f r) = cc
  mailed_is_warm (part u at e m) (ice f) = cc
  mailed_is_warm (part u at e m) (in_ice c l f r) = cc
  mailed_is_warm (part u at e m) (under_ice v to f r) = let is : u ≡ v = cc in mailed_is_warm m (subst (Frozen w) (sym is) r)

  -- Chains end at one place.
  pub mailed_once : {j t k q : ℕ} (i s n : ℕ) → Mailed w j t k q → Mailed w i s n q → (j ≡ i) × (t ≡ s) × (k ≡ n)
  mailed_once {j} {t} {k} i s n (sent e) (sent f) =
      let a : j ≡ i = cc in
      let b : t ≡ s = cc in
      let c : k ≡ n = cc in
      (a, b, c)
  mailed_once i s n (sent e) (in_it a l f m) = absurd (cc)
  mailed_once i s n (sent e) (part u at f m) = absurd (cc)
  mailed_once i s n (in_it a l e m) (sent f) = absurd (cc)
  mailed_once i s n (in_it a l e m) (in_it c o f r) = let is : a ≡ c = cc in mailed_once i s n m (subst (λ (x : Address). Mailed w i s n (w.region x)) (sym is) r)
  mailed_once i s n (in_it a l e m) (part u at f r) = absurd (cc)
  mailed_once i s n (part u at e m) (sent f) = absurd (cc)
  mailed_once i s n (part u at e m) (in_it c o f r) = absurd (cc)
  mailed_once i s n (part u at e m) (part v to f r) = let is : u ≡ v = cc in mailed_once i s n m (subst (Mailed w i s n) (sym is) r)

  -- ---- what is seen from such a region

  -- Held by the argument, or frozen.
  abbrev pub Shown : (j t k : ℕ) → ℕ → Type 0
  Shown j t k q = Mailed w j t k q ⊎ Frozen w q

  pub seen_cold : {p q : ℕ} → Frozen w p → Seen w p q → Frozen w q
  seen_cold f (same e) = subst (Frozen w) (sym e) f
  seen_cold f (under u at e s) = under_ice u at e (seen_cold f s)
  seen_cold f (frozen g) = g

  pub seen_shown : {j t k p q : ℕ} → Mailed w j t k p → Seen w p q → Shown j t k q
  seen_shown {j} {t} {k} m (same e) = inl (subst (Mailed w j t k) (sym e) m)
  seen_shown m (under u at e s) =
      elim (seen_shown m s) [
        | inl o ↦ inl (part u at e o)
        | inr o ↦ inr (under_ice u at e o)
      ]
  seen_shown m (frozen g) = inr g

  -- ---- what such a region is seen from

  pub holder_mailed : {j t k q : ℕ} (a : Address) (n : ℕ) → w.stands q ≡ Held (InField a n) → Mailed w j t k q → Mailed w j t k (w.region a)
  holder_mailed a n e (sent f) = absurd (cc)
  holder_mailed {j} {t} {k} a n e (in_it c l f m) = let is : c ≡ a = cc in subst (λ (x : Address). Mailed w j t k (w.region x)) is m
  holder_mailed a n e (part u at f m) = absurd (cc)

  pub parent_mailed : {j t k q : ℕ} (u : ℕ) (at : Option Place) → w.stands q ≡ Child u at → Mailed w j t k q → Mailed w j t k u
  parent_mailed u at e (sent f) = absurd (cc)
  parent_mailed u at e (in_it c l f m) = absurd (cc)
  parent_mailed {j} {t} {k} u at e (part v to f m) = let is : v ≡ u = cc in subst (Mailed w j t k) is m

  pub seer_mailed : {j t k p q : ℕ} → Seen w p q → Mailed w j t k q → Mailed w j t k p
  seer_mailed {j} {t} {k} (same e) m = subst (Mailed w j t k) e m
  seer_mailed (under u at e s) m = seer_mailed s (parent_mailed u at e m)
  seer_mailed (frozen f) m = absurd (mailed_is_warm m f)
