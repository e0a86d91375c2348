-- Arguments settle, one after another, where they are wanted: each at the parameter of the method that was found, after
-- that of the method by which the call was read if the place lives with another region.
use Rattle.std.specs.Prelude.{◌≡◌, ◌≢◌, ◌⊎◌, ℕ, suc, ◌+◌, ◌<◌, ◌≤◌, Bool, true, false, ◌&&◌, List, [], ◌∷◌, length, Option, Some, nat_eq, nat_lt, slice_get, refl}
use Rattle.std.proofs.{Common.{inl, inr, sym, subst, ◌∙◌, arith, None}, lemmas.Bool.{eq-eqb, ne_eqb, cases_lt, lt-ltb, le-ltb}}
use Rattle.pc_heap.specs.{Objects.ObjectMap, declared.value.Value.Value}
use Rattle.pc_caps.specs.{Computed.is_below, Closure.below_iff, Tables.{unalias, sendable, sendable_form}, declared.capability.Cap.Cap, declared.capability.Form.Form}
use Rattle.pc_caps.specs.declared.capability.Cap.TheVariants as cap
use Rattle.pc_caps.specs.declared.capability.Form.TheVariants as form
use Rattle.pc_core.specs.{declared.declarations.ParamInfo.ParamInfo, CoreData.CoreData}
use Rattle.pc_base.specs.Lists.{Each}
use Rattle.pc_ann.specs.declared.annotation.Ann.{Ann}
use Rattle.pc_rules.specs.Parts.{type_of}
use Rattle.pc_rules.proofs.ByNumber.{arguments_go, arguments_sendable}
use Rattle.pc_base.proofs.Bools.{false_true}
use Rattle.pc_regions.proofs.{World.{Place, InSlot, OnStack, InField, InMail, World, home, Fits, FitsSome, WorldOk}, Settled.{Lands, NearFrom, Near, SettleLaw}, Arguments.{ArgumentsStand, GoesIn, first_goes, first_sendable}, FirstFrame.ArgumentsAt, Calm.{Calm, calm_wider, calm_both, calm_same}}
use Rattle.pc_types.proofs.Declarations.{below_trans}

-- ---- forms

pub lower_still : (a b c : Form) → is_below a b ≡ true → is_below b c ≡ true → is_below a c ≡ true
lower_still a b c e g = (below_iff a c).1 (below_trans a b c ((below_iff a b).0 e) ((below_iff b c).0 g))

pub sent_form : (k : Cap) → sendable k ≡ true → sendable_form (unalias k) ≡ true
sent_form cap.Iso e = refl
sent_form cap.Val e = refl
sent_form cap.Tag e = refl
sent_form k e = absurd (false_true e)

untied : (w : World) (p : Place) (f : Form) (to : Place) → sendable_form f ≡ true → NearFrom w p f to
untied w p form.IsoE to e = tt
untied w p form.Iso to e = tt
untied w p form.Val to e = tt
untied w p form.Tag to e = tt
untied w p f to e = absurd (false_true e)

near_from : (w : World) (p : Place) (f g : Form) (to : Place) → NearFrom w p f to → Near w p f g to
near_from w p f form.IsoE to n = tt
near_from w p f form.Iso to n = tt
near_from w p f form.Val to n = tt
near_from w p f form.Tag to n = tt
near_from w p f form.TrnE to n = n
near_from w p f form.Trn to n = n
near_from w p f form.Ref to n = n
near_from w p f form.Box to n = n

pub near_home : (w : World) (p : Place) (f g : Form) (to : Place) → home w to ≡ home w p → Near w p f g to
near_home w p form.IsoE g to e = near_from w p form.IsoE g to tt
near_home w p form.TrnE g to e = near_from w p form.TrnE g to (inl e)
near_home w p form.Iso g to e = near_from w p form.Iso g to tt
near_home w p form.Trn g to e = near_from w p form.Trn g to e
near_home w p form.Ref g to e = near_from w p form.Ref g to e
near_home w p form.Val g to e = near_from w p form.Val g to tt
near_home w p form.Box g to e = near_from w p form.Box g to e
near_home w p form.Tag g to e = near_from w p form.Tag g to tt

pub near_sent : (w : World) (p : Place) (f g : Form) (to : Place) → sendable_form g ≡ true → Near w p f g to
near_sent w p f form.IsoE to e = tt
near_sent w p f form.Iso to e = tt
near_sent w p f form.Val to e = tt
near_sent w p f form.Tag to e = tt
near_sent w p f g to e = absurd (false_true e)

-- ---- places of the stack

-- The place of depth n of the stack of the frame of height h of actor i; and those from that depth on.
abbrev pub the_place : ℕ → ℕ → ℕ → Place → Bool
the_place i h n (OnStack j g d l) = nat_eq i j && (nat_eq h g && nat_eq n d)
the_place i h n p = false

abbrev pub from_place : ℕ → ℕ → ℕ → Place → Bool
from_place i h n (OnStack j g d l) = nat_eq i j && (nat_eq h g && nat_lt n (suc d))
from_place i h n p = false

pub the_place_is : (i h n l : ℕ) → the_place i h n (OnStack i h n l) ≡ true
the_place_is i h n l = rw (eq-eqb i i refl, eq-eqb h h refl) (eq-eqb n n refl)

pub other_place : (i h n d l : ℕ) → n ≢ d → the_place i h n (OnStack i h d l) ≡ false
other_place i h n d l ne = rw (eq-eqb i i refl, eq-eqb h h refl) (ne_eqb n d ne)

both_false : (a b c d : Bool) → (c ≡ false → d ≡ false) → (a && (b && c)) ≡ false → (a && (b && d)) ≡ false
both_false false b c d k e = refl
both_false true false c d k e = refl
both_false true true c d k e = k e

not_below : (n d : ℕ) → nat_lt n (suc d) ≡ false → n < suc d → ⊥
not_below n d e l = false_true (sym e ∙ lt-ltb n (suc d) l)

one_above : (n d : ℕ) → nat_lt n (suc d) ≡ false → nat_eq n d ≡ false
one_above n d e = ne_eqb n d (λ is. not_below n d e (omega (arith, is)))

more_above : (n d : ℕ) → nat_lt n (suc d) ≡ false → nat_lt (suc n) (suc d) ≡ false
more_above n d e = elim (cases_lt (suc n) (suc d)) [ inl l ↦ absurd (not_below n d e (omega (arith, l))) | inr up ↦ le-ltb (suc n) (suc d) up ]

pub one_from : (i h n : ℕ) (p : Place) → from_place i h n p ≡ false → the_place i h n p ≡ false
one_from i h n (OnStack j g d l) e = both_false (nat_eq i j) (nat_eq h g) (nat_lt n (suc d)) (nat_eq n d) (one_above n d) e
one_from i h n (InSlot j g s l) e = refl
one_from i h n (InField a k) e = refl
one_from i h n (InMail j t k) e = refl

-- Places from a depth on have those from a greater one.
pub one_later : (i h n m : ℕ) → n ≤ m → (p : Place) → from_place i h n p ≡ false → the_place i h m p ≡ false
one_later i h n m up (OnStack j g d l) e = both_false (nat_eq i j) (nat_eq h g) (nat_lt n (suc d)) (nat_eq m d) (λ k. ne_eqb m d (λ is. not_below n d k (omega (arith, is, up)))) e
one_later i h n m up (InSlot j g s l) e = refl
one_later i h n m up (InField a k) e = refl
one_later i h n m up (InMail j t k) e = refl

pub more_from : (i h n : ℕ) (p : Place) → from_place i h n p ≡ false → from_place i h (suc n) p ≡ false
more_from i h n (OnStack j g d l) e = both_false (nat_eq i j) (nat_eq h g) (nat_lt n (suc d)) (nat_lt (suc n) (suc d)) (more_above n d) e
more_from i h n (InSlot j g s l) e = refl
more_from i h n (InField a k) e = refl
more_from i h n (InMail j t k) e = refl

-- ---- one argument after the other

-- How an argument may come to its place: the place lives with the same region, or what the method found takes may be sent, or the
-- argument has a form that may be sent or goes to a parameter of what was read that takes such.
abbrev pub Comes : ℕ → ℕ → ℕ → (ℕ → Place) → Ann → List ℕ → List ParamInfo → List ParamInfo → Type 0
Comes i h l at ann cs ps qs =
    ((w : World) (n k : ℕ) → home w (at k) ≡ home w (OnStack i h n l)) ⊎ ((Each (λ k q. sendable q.cap ≡ true) qs) ⊎ (arguments_sendable ann cs ps ≡ true))

first_comes : (i h l : ℕ) (at : ℕ → Place) (ann : Ann) (c : ℕ) (cs : List ℕ) (p q : ParamInfo) (ps qs : List ParamInfo) (g : GoesIn ann c p) → Comes i h l at ann (c ∷ cs) (p ∷ ps) (q ∷ qs) → (w : World) (n : ℕ)
    → (home w (at 0) ≡ home w (OnStack i h n l)) ⊎ ((sendable q.cap ≡ true) ⊎ ((sendable_form g.ty.1 ≡ true) ⊎ (sendable p.cap ≡ true)))
first_comes i h l at ann c cs p q ps qs g (inl same) w n = inl (same w n 0)
first_comes i h l at ann c cs p q ps qs g (inr (inl sent)) w n = inr (inl (sent 0 q refl))
first_comes i h l at ann c cs p q ps qs g (inr (inr lent)) w n = inr (inr (first_sendable ann c cs p ps g lent).0)

later_comes : (i h l : ℕ) (at : ℕ → Place) (ann : Ann) (c : ℕ) (cs : List ℕ) (p q : ParamInfo) (ps qs : List ParamInfo) (g : GoesIn ann c p) → Comes i h l at ann (c ∷ cs) (p ∷ ps) (q ∷ qs) → Comes i h l (λ k. at (suc k)) ann cs ps qs
later_comes i h l at ann c cs p q ps qs g (inl same) = inl (λ w n k. same w n (suc k))
later_comes i h l at ann c cs p q ps qs g (inr (inl sent)) = inr (inl (λ k y e. sent (suc k) y e))
later_comes i h l at ann c cs p q ps qs g (inr (inr lent)) = inr (inr (first_sendable ann c cs p ps g lent).1)

module _ (core : CoreData) (ann : Ann) (settle : SettleLaw) (objects : ObjectMap) (count i h l top : ℕ) (here : i < count) (low : l ≤ top) where
  -- What became of a world after an argument, or more of them, settled.
  pub record Passed (w : World) (n : ℕ) (at : ℕ → Place) (qs : List ParamInfo) (vs : List Value) : Type 0 where
    pub world : World
    pub calm : Calm w world objects count i (from_place i h n)
    pub fit : ArgumentsAt world at qs vs

  pub record PassedOne (w : World) (n : ℕ) (to : Place) (g : Form) (v : Value) : Type 0 where
    pub world : World
    pub calm : Calm w world objects count i (the_place i h n)
    pub fits : Fits world to g v

  module _ (w : World) (ok : WorldOk w objects count) (is_top : w.top i ≡ top) (n : ℕ) where
    low_here : l ≤ w.top i
    low_here = subst (λ (t : ℕ). l ≤ t) (sym is_top) low

    -- In one step.
    pub pass_near : (to : Place) (f g : Form) (v : Value) → is_below f g ≡ true → Fits w (OnStack i h n l) f v → Near w (OnStack i h n l) f g to → Lands w objects i (OnStack i h n l) g to → PassedOne w n to g v
    pass_near to f g v less fits near lands =
        let s = settle w objects count ok i here h n l low_here (the_place i h n) (the_place_is i h n l) to f g v less fits near lands in
        record { world = s.0; calm = s.1.calm; fits = s.1.fits }

  -- In two steps: first where it is, at a form that may be sent.
  pub pass_twice : (w : World) → WorldOk w objects count → w.top i ≡ top → (n : ℕ) (to : Place) (f e g : Form) (v : Value) → is_below f e ≡ true → is_below e g ≡ true → sendable_form e ≡ true → Fits w (OnStack i h n l) f v
      → ((u : World) → u.top i ≡ top → Lands u objects i (OnStack i h n l) g to) → PassedOne w n to g v
  pass_twice w ok is_top n to f e g v less more sent fits lands =
      let p : Place = OnStack i h n l in
      let a = pass_near w ok is_top n p f e v less fits (near_sent w p f e p sent) (refl, low_here w ok is_top n) in
      let b = pass_near a.world a.calm.shifts.world (a.calm.top i ∙ is_top) n to e g v more a.fits (near_from a.world p e g to (untied a.world p e to sent)) (lands a.world (a.calm.top i ∙ is_top)) in
      record { world = b.world; calm = calm_both w a.world b.world objects count i (the_place i h n) a.calm b.calm; fits = b.fits }

  -- One argument.
  pub pass_one : (w : World) → WorldOk w objects count → w.top i ≡ top → (n : ℕ) (to : Place) (c : ℕ) (p q : ParamInfo) (g : GoesIn ann c p) (v : Value) → is_below (unalias p.cap) (unalias q.cap) ≡ true → Fits w (OnStack i h n l) g.ty.1 v
      → ((u : World) → u.top i ≡ top → Lands u objects i (OnStack i h n l) (unalias q.cap) to)
      → (home w to ≡ home w (OnStack i h n l)) ⊎ ((sendable q.cap ≡ true) ⊎ ((sendable_form g.ty.1 ≡ true) ⊎ (sendable p.cap ≡ true))) → PassedOne w n to (unalias q.cap) v
  pass_one w ok is_top n to c p q g v less fits lands way =
      let from : Place = OnStack i h n l in
      let f : Form = g.ty.1 in
      let all = lower_still f (unalias p.cap) (unalias q.cap) g.below less in
      elim way [
        | inl same ↦ pass_near w ok is_top n to f (unalias q.cap) v all fits (near_home w from f (unalias q.cap) to same) (lands w is_top)
        | inr far ↦ elim far [
          | inl sent ↦ pass_near w ok is_top n to f (unalias q.cap) v all fits (near_sent w from f (unalias q.cap) to (sent_form q.cap sent)) (lands w is_top)
          | inr lent ↦ elim lent [
            | inl sent ↦ pass_near w ok is_top n to f (unalias q.cap) v all fits (near_from w from f (unalias q.cap) to (untied w from f to sent)) (lands w is_top)
            | inr sent ↦ pass_twice w ok is_top n to f (unalias p.cap) (unalias q.cap) v g.below less (sent_form p.cap sent) fits lands
          ]
        ]
      ]

  some_is : (w : World) (n c : ℕ) (p : ParamInfo) (g : GoesIn ann c p) (v : Value) → FitsSome w (OnStack i h n l) (type_of ann c) v → Fits w (OnStack i h n l) g.ty.1 v
  some_is w n c p g v k = subst (λ (o : Option (ℕ × Form)). FitsSome w (OnStack i h n l) o v) g.is_ty k

  -- Those at other depths are where they were.
  stand_off : (w w' : World) (n : ℕ) → Calm w w' objects count i (the_place i h n) → (m : ℕ) (cs : List ℕ) (vs : List Value) → ((k : ℕ) → m ≤ k → k < m + length vs → n ≢ k) → ArgumentsStand ann w i h l m cs vs → ArgumentsStand ann w' i h l m cs vs
  stand_off w w' n calm m [] [] off k = k
  stand_off w w' n calm m [] (v ∷ vs) off k = k
  stand_off w w' n calm m (c ∷ cs) [] off k = k
  stand_off w w' n calm m (c ∷ cs) (v ∷ vs) off k =
      (some_on (type_of ann c) k.0, stand_off w w' n calm (suc m) cs vs (λ j low high. off j (omega (arith, low)) (omega (arith, high))) k.1)
    where
      some_on : (o : Option (ℕ × Form)) → FitsSome w (OnStack i h m l) o v → FitsSome w' (OnStack i h m l) o v
      some_on None e = tt
      some_on (Some t) e = calm.shifts.fits (OnStack i h m l) t.1 v (other_place i h n m l (off m (omega arith) (omega arith))) e

  pub stand_on : (w w' : World) (n : ℕ) → Calm w w' objects count i (the_place i h n) → (m : ℕ) (cs : List ℕ) (vs : List Value) → n < m → ArgumentsStand ann w i h l m cs vs → ArgumentsStand ann w' i h l m cs vs
  stand_on w w' n calm m cs vs up k = stand_off w w' n calm m cs vs (λ j low high is. absurd (omega (arith, low, is, up))) k

  pub stand_under : (w w' : World) (n : ℕ) → Calm w w' objects count i (the_place i h n) → (m : ℕ) (cs : List ℕ) (vs : List Value) → m + length vs ≤ n → ArgumentsStand ann w i h l m cs vs → ArgumentsStand ann w' i h l m cs vs
  stand_under w w' n calm m cs vs up k = stand_off w w' n calm m cs vs (λ j low high is. absurd (omega (arith, high, is, up))) k

  pub pass_all : (w : World) → WorldOk w objects count → w.top i ≡ top → (n : ℕ) (at : ℕ → Place) (cs : List ℕ) (ps qs : List ParamInfo) (vs : List Value) → arguments_go core ann cs ps ≡ true → length qs ≡ length ps
      → Each (λ k p. (q : ParamInfo) → slice_get qs k ≡ Some q → is_below (unalias p.cap) (unalias q.cap) ≡ true) ps → ArgumentsStand ann w i h l n cs vs
      → ((u : World) → u.top i ≡ top → (k : ℕ) (q : ParamInfo) → slice_get qs k ≡ Some q → (m : ℕ) → Lands u objects i (OnStack i h m l) (unalias q.cap) (at k))
      → ((k m : ℕ) → from_place i h m (at k) ≡ false) → Comes i h l at ann cs ps qs → Passed w n at qs vs
  pass_all w ok is_top n at [] [] [] [] goes same less stand lands off way = record { world = w; calm = calm_same w objects count i (from_place i h n) ok; fit = tt }
  pass_all w ok is_top n at [] [] [] (v ∷ vs) goes same less stand lands off way = absurd stand
  pass_all w ok is_top n at [] [] (q ∷ qs) vs goes same less stand lands off way = absurd (omega (arith, same))
  pass_all w ok is_top n at [] (p ∷ ps) qs vs goes same less stand lands off way = absurd (false_true goes)
  pass_all w ok is_top n at (c ∷ cs) [] qs vs goes same less stand lands off way = absurd (false_true goes)
  pass_all w ok is_top n at (c ∷ cs) (p ∷ ps) [] vs goes same less stand lands off way = absurd (omega (arith, same))
  pass_all w ok is_top n at (c ∷ cs) (p ∷ ps) (q ∷ qs) [] goes same less stand lands off way = absurd stand
  pass_all w ok is_top n at (c ∷ cs) (p ∷ ps) (q ∷ qs) (v ∷ vs) goes same less stand lands off way =
      let g = first_goes core ann c cs p ps goes in
      let one = pass_one w ok is_top n (at 0) c p q g.0 v (less 0 p refl q refl) (some_is w n c p g.0 v stand.0) (λ u t. lands u t 0 q refl n) (first_comes i h l at ann c cs p q ps qs g.0 way w n) in
      let few : length qs ≡ length ps = omega (arith, same) in
      let rest = pass_all one.world one.calm.shifts.world (one.calm.top i ∙ is_top) (suc n) (λ k. at (suc k)) cs ps qs vs g.1 few (λ k x e y f. less (suc k) x e y f)
      (stand_on w one.world n one.calm (suc n) cs vs (omega arith) stand.1) (λ u t k y e m. lands u t (suc k) y e m) (λ k m. off (suc k) m) (later_comes i h l at ann c cs p q ps qs g.0 way)
      in
      record {
        world = rest.world;
        calm = calm_both w one.world rest.world objects count i (from_place i h n)
            (calm_wider w one.world objects count i (the_place i h n) (from_place i h n) (λ x e. one_from i h n x e) one.calm)
            (calm_wider one.world rest.world objects count i (from_place i h (suc n)) (from_place i h n) (λ x e. more_from i h n x e) rest.calm);
        fit = (rest.calm.shifts.fits (at 0) (unalias q.cap) v (off 0 (suc n)) one.fits, rest.fit);
      }
