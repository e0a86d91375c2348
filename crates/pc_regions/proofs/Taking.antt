-- What an `iso` or `trn` place holds is taken to a stack.
use Rattle.std.specs.{Prelude.{◌≡◌, ℕ, ◌<◌, ◌≤◌, Bool, true, Option, Some, refl}, FinMap.get}
use Rattle.std.proofs.{Common.{inl, inr, ap, sym, subst, ◌∙◌}, lemmas.Bool.cases_lt, lemmas.Option.none-some}
use Rattle.pc_heap.specs.{Objects.{ObjectMap, Object}, declared.value.Address.Address, declared.value.Value.Value, declared.value.Value.TheVariants.{Num, Truth, Text, Prim, At}}
use Rattle.pc_caps.specs.declared.capability.Form.{Form}
use Rattle.pc_caps.specs.declared.capability.Form.TheVariants as form
use Rattle.pc_regions.proofs.{World.{Place, OnStack, InField, Standing, Unused, Opened, Held, Child, World, home, Seen, under, FitsIn, Fits, WorldOk}, Changes.standing, OneHolder.not_frozen, StandsOtherwise.{stand_here, stand_other}, Shifts.shifts_none, Settling.{OwnedBy, no_place, held_no_child}, Taken.{Taken, FreeIn, Free, Takes, TakeLaw}}
use Rattle.pc_regions.proofs.StandsOtherwise as stands

module _
    (w : World) (objects : ObjectMap) (count : ℕ) (ok : WorldOk w objects count) (i : ℕ) (here : i < count) (b : ℕ)
    (above : (j : ℕ) → b < j → j ≤ w.top i → w.stands (w.context i j) ≡ Opened i) (p : Place) (gone : Place → Bool) (left : gone p ≡ true)
    (h d l : ℕ) (level : l ≤ w.top i)
  where
    module _ (a : Address) (own : OwnedBy w p (w.region a)) (free : FreeIn w i b (w.region a)) where
      shut_of : OwnedBy w p (w.region a) → (j : ℕ) → w.stands (w.region a) ≡ Opened j → ⊥
      shut_of (inl e) j f = cc
      shut_of (inr e) j f = cc

      held_of : OwnedBy w p (w.region a) → (t : Place) → w.stands (w.region a) ≡ Held t → gone t ≡ true
      held_of (inl e) t f = let is : p ≡ t = cc in ap gone (sym is) ∙ left
      held_of (inr e) t f = absurd (cc)

      part_of : OwnedBy w p (w.region a) → (u : ℕ) (t : Place) → w.stands (w.region a) ≡ Child u (Some t) → gone t ≡ true
      part_of (inl e) u t f = absurd (cc)
      part_of (inr e) u t f = let is : p ≡ t = cc in ap gone (sym is) ∙ left

      module _
          (f : Form) (s : Standing) (seen : (c u : ℕ) (at : Option Place) → w.stands (w.region a) ≡ Child u at → Seen (standing w (w.region a) s) c u → Seen (standing w (w.region a) s) c (w.region a))
          (parent : (u : ℕ) (at : Option Place) → s ≡ Child u at → u < w.next) (holder : (c : Address) (k : ℕ) → s ≡ Held (InField c k) → (o : Object) × (get objects c ≡ Some o)) (alive : s ≡ Unused → ⊥)
        where
          taken : Fits (standing w (w.region a) s) (OnStack i h d l) f (At a) → Taken w (standing w (w.region a) s) objects count i b gone f (OnStack i h d l) (At a)
          taken fits = record {
            shifts = stands.standing_shifts w objects count ok i here b gone (w.region a) s free.0 (λ x. not_frozen w free.0 x) (shut_of own) (held_of own) (part_of own) free.1 above seen parent holder alive;
            region = refl;
            role = λ q. refl;
            context = λ j m there t. refl;
            top = λ j. refl;
            opened = λ q j e. stand_other w.stands (w.region a) s q (λ is. shut_of own j (ap w.stands is ∙ e)) ∙ e;
            others = λ q apart. stand_other w.stands (w.region a) s q apart;
            fits = fits;
          }

    to_stack : (c : Address) (k : ℕ) → Held (OnStack i h d l) ≡ Held (InField c k) → ⊥
    to_stack c k e = cc

    not_part : (s : Standing) (u : ℕ) (at : Option Place) → s ≡ Held p → s ≡ Child u at → ⊥
    not_part s u at e f = cc

    part_is : (s : Standing) (v u : ℕ) (at : Option Place) → s ≡ Child v (Some p) → s ≡ Child u at → v ≡ u
    part_is s v u at e f = cc

    child_of : (u v : ℕ) (at to : Option Place) → Child u at ≡ Child v to → u ≡ v
    child_of u v at to e = cc

    context_low : w.context i l < w.next
    context_low =
        elim (cases_lt (w.context i l) w.next) [
          | inl low ↦ low
          | inr high ↦ absurd (none-some (i, l) (sym (ok.unused (w.context i l) high).1 ∙ ok.named i l here level))
        ]

    take_at : (f : Form) (a : Address) → FitsIn w p f (w.region a) → FreeIn w i b (w.region a) → Takes w p f (OnStack i h d l) → (w' : World) × Taken w w' objects count i b gone f (OnStack i h d l) (At a)
    take_at form.IsoE a e free t = (
      standing w (w.region a) (Held (OnStack i h d l)),
      taken a (inl e) free form.IsoE (Held (OnStack i h d l)) (λ c u at f k. absurd (not_part (w.stands (w.region a)) u at e f)) (λ u at f. absurd (held_no_child (OnStack i h d l) u at f)) (λ c k f. absurd (to_stack c k f)) (λ e. cc)
          (stand_here w.stands (w.region a) (Held (OnStack i h d l))),
    )
    take_at form.TrnE a e free t =
        let s = Child (w.context i l) (Some (OnStack i h d l)) in (
          standing w (w.region a) s,
          taken a (inr e) free form.TrnE s
              (λ c u at f k. under (w.context i l) (Some (OnStack i h d l)) (stand_here w.stands (w.region a) s) (subst (Seen (standing w (w.region a) s) c) (sym (part_is (w.stands (w.region a)) (home w p) u at e f) ∙ sym t) k))
              (λ u at f. subst (λ (x : ℕ). x < w.next) (child_of (w.context i l) u (Some (OnStack i h d l)) at f) context_low) (λ c k f. absurd (no_place (w.context i l) k (Some (OnStack i h d l)) c f)) (λ e. cc)
              (stand_here w.stands (w.region a) s),
        )
    take_at form.Iso a e free t = absurd t
    take_at form.Trn a e free t = absurd t
    take_at form.Ref a e free t = absurd t
    take_at form.Val a e free t = absurd t
    take_at form.Box a e free t = absurd t
    take_at form.Tag a e free t = absurd t

    nothing_taken : (f : Form) (v : Value) → Fits w (OnStack i h d l) f v → Taken w w objects count i b gone f (OnStack i h d l) v
    nothing_taken f v fits = record {
      shifts = shifts_none w objects count i b gone ok;
      region = refl;
      role = λ q. refl;
      context = λ j m there t. refl;
      top = λ j. refl;
      opened = λ q j e. e;
      others = λ q apart. refl;
      fits = fits;
    }

    take_value : (f : Form) (v : Value) → Fits w p f v → Free w i b v → Takes w p f (OnStack i h d l) → (w' : World) × Taken w w' objects count i b gone f (OnStack i h d l) v
    take_value f (At a) fits free t = take_at f a fits free t
    take_value f (Num n) fits free t = (w, nothing_taken f (Num n) tt)
    take_value f (Truth n) fits free t = (w, nothing_taken f (Truth n) tt)
    take_value f (Text n) fits free t = (w, nothing_taken f (Text n) tt)
    take_value f (Prim n) fits free t = (w, nothing_taken f (Prim n) tt)

pub take : TakeLaw
take w objects count ok i here b above p gone left h d l level f v fits free t = take_value w objects count ok i here b above p gone left h d l level f v fits free t
