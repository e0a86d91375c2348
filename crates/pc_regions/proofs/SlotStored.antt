-- The frame whose slot got a value goes on, by regions, if the value fits the slot and the old one the stack.
use Rattle.std.specs.Prelude.{◌≡◌, ◌≢◌, ℕ, suc, ◌+◌, ◌<◌, ◌≤◌, Bool, true, false, ◌&&◌, List, [], ◌∷◌, length, Option, Some, None, nat_eq, nat_lt, slice_get, slice_set, refl}
use Rattle.std.proofs.{Common.{inl, inr, ap, sym, subst, ◌∙◌, arith}, lemmas.Bool.{ne_eqb, and_right}, lemmas.Bool.Decides.eqb_tells, lemmas.Option.same_Some}
use Rattle.pc_heap.specs.declared.value.Value.{Value}
use Rattle.pc_base.proofs.Gets.{get_set_same, get_set_other}
use Rattle.pc_caps.specs.{Tables.unalias, Computed.fits, declared.capability.Cap.Cap}
use Rattle.pc_core.specs.{declared.nodes.Slot.Slot, CoreData.CoreData}
use Rattle.pc_masks.specs.{declared.mask.Mask.Mask, Masks.{IsInMask, with_number}, MaskLaws.with_number_bits}
use Rattle.pc_ann.specs.declared.annotation.Ann.{Ann}
use Rattle.pc_semantics.specs.{declared.frames.Frame.Frame, Configurations.{Around, with_stack}, Parts.{value_or_none, held}, Calls.store}
use Rattle.pc_semantics.specs.declared.frames.Task.TheVariants as task
use Rattle.pc_valid.specs.Words.{Ty}
use Rattle.pc_rules.proofs.ByNumber.{slot_of}
use Rattle.pc_types.proofs.{Types.OfSome, Tasks.stores, Moves.Runs, Needs.Needs, EvalValue.not_zero}
use Rattle.pc_regions.proofs.{World.{Place, InSlot, OnStack, InField, InMail, World, Fits, FitsSome, AliasSome}, StackForms.{Entry, FinishRises, TasksRise}, Fitting.{StackFits, OpenedTo, ThisFits, SlotsFit}, MoveFits.{elsewhere, Situated, RegionMoveOk}, Changes.Shifts, Climbed.ClimbLaw, Shifts.{others_kept, fields_kept, below_kept}, Rising.{Pushes, rise, others_both, not_here}, CallerKept.{from_under, follows_at}}

-- The slot, and the places of the stack from a depth on.
abbrev pub stored_gone : (i h s n : ℕ) → Place → Bool
stored_gone i h s n (InSlot j g t l) = nat_eq i j && (nat_eq h g && nat_eq s t)
stored_gone i h s n (OnStack j g d l) = nat_eq i j && (nat_eq h g && nat_lt n (suc d))
stored_gone i h s n (InField a k) = false
stored_gone i h s n (InMail j t k) = false

gone_far : (i h s n : ℕ) (p : Place) → elsewhere i p ≡ true → stored_gone i h s n p ≡ false
gone_far i h s n (InSlot j g t l) e = not_here (nat_eq i j) (nat_eq h g && nat_eq s t) e
gone_far i h s n (OnStack j g d l) e = not_here (nat_eq i j) (nat_eq h g && nat_lt n (suc d)) e
gone_far i h s n (InField a k) e = refl
gone_far i h s n (InMail j t k) e = refl

lower_gone : (i h g : ℕ) (b : Bool) → g < h → (nat_eq i i && (nat_eq h g && b)) ≡ false
lower_gone i h g b low = and_right (nat_eq i i) (nat_eq h g && b) (ap (λ (c : Bool). c && b) (ne_eqb h g (λ e. absurd (omega (arith, e, low)))))

slot_stays : (i h s n t l : ℕ) → s ≢ t → stored_gone i h s n (InSlot i h t l) ≡ false
slot_stays i h s n t l k = and_right (nat_eq i i) (nat_eq h h && nat_eq s t) (and_right (nat_eq h h) (nat_eq s t) (ne_eqb s t k))

-- A frame whose slot s has got a value, in a world in which it fits there and the old value fits the stack, goes on.
module _ (core : CoreData) (climb : ClimbLaw core) (ann : Ann) (needs : Needs core ann) (around : Around) (f : Frame) (fs : List Frame) (r : Runs core ann around f fs) (n : ℕ)
    (w : World) (s : Situated core ann w around f (task.Store n ∷ f.tasks) fs)
    (g : FinishRises core ann f.method s.active.depth s.active.holds.live s.active.holds.entries stores n (λ d l st. TasksRise core ann f.method f.tasks d l st))
    (z : ℕ) (low : 0 < z) (has_room : z < length f.slots) (y : Slot × (ℕ × Cap)) (is_slot : slot_of core ann f.method z ≡ Some y) (left : g.note.live_after ≡ with_number g.behind.0 z) (v : Value) (rest : List Value) (fits_rest : StackFits w around.actor (length fs) s.active.holds.base g.below rest) where
  module _ (u : World) (x : Shifts w u around.objects around.actors around.actor s.active.holds.base (stored_gone around.actor (length fs) z (length rest))) (last : u.top around.actor ≡ s.active.holds.base + s.active.depth)
      (ajar : OpenedTo u around.actor s.active.holds.base s.active.depth) (in_slot : Fits u (InSlot around.actor (length fs) z (s.active.holds.base + y.0.depth)) (unalias y.1.1) v) where
    this_stored : ThisFits core u around.actor (length fs) f.method s.active.holds.base (slice_set f.slots z (Some v))
    this_stored m c a b =
        x.fits (InSlot around.actor (length fs) 0 s.active.holds.base) (unalias m.receiver) c (slot_stays around.actor (length fs) z (length rest) 0 s.active.holds.base (λ e. absurd (omega (arith, e, low))))
        (s.active.holds.this_fits m c a (sym (get_set_other f.slots z (Some v) 0 (not_zero z low)) ∙ b))

    slots_stored : SlotsFit core ann u around.actor (length fs) f.method s.active.holds.base g.note.live_after (slice_set f.slots z (Some v))
    slots_stored k up is c at j slot = elim (eqb_tells k z) [
      | inl p ↦ let value : v ≡ c = same_Some v c (same_Some (Some v) (Some c) (sym (get_set_same f.slots z (Some v) has_room) ∙ ap (slice_get (slice_set f.slots z (Some v))) (sym p.1) ∙ at)) in
          let same : y ≡ j = same_Some y j (sym is_slot ∙ ap (slot_of core ann f.method) (sym p.1) ∙ slot) in
          subst (λ (t : ℕ). Fits u (InSlot around.actor (length fs) t (s.active.holds.base + j.0.depth)) (unalias j.1.1) c) (sym p.1)
          (subst (λ (t : Slot × (ℕ × Cap)). Fits u (InSlot around.actor (length fs) z (s.active.holds.base + t.0.depth)) (unalias t.1.1) c) same
          (subst (λ (t : Value). Fits u (InSlot around.actor (length fs) z (s.active.holds.base + y.0.depth)) (unalias y.1.1) t) value in_slot))
      | inr p ↦ let was : IsInMask g.behind.0 k = elim ((with_number_bits g.behind.0 z k).0 (subst (λ (m : Mask). IsInMask m k) left is)) [ inl new ↦ absurd (p.1 new.0) | inr old ↦ old ] in
          x.fits (InSlot around.actor (length fs) k (s.active.holds.base + j.0.depth)) (unalias j.1.1) c (slot_stays around.actor (length fs) z (length rest) k (s.active.holds.base + j.0.depth) (λ e. p.1 (sym e)))
          (s.active.holds.slots_fit k up (g.live k was) c (sym (get_set_other f.slots z (Some v) k p.1) ∙ at) j slot)
    ]

    some_stored : (d l : ℕ) (t : Option Ty) (c : Value) → d < length rest → FitsSome w (OnStack around.actor (length fs) d l) t c → FitsSome u (OnStack around.actor (length fs) d l) t c
    some_stored d l None c under k = tt
    some_stored d l (Some t) c under k = x.fits (OnStack around.actor (length fs) d l) t.1 c (from_under around.actor (length fs) (length rest) d l under) k

    stack_stored : (es : List Entry) (vs : List Value) → length vs ≤ length rest → StackFits w around.actor (length fs) s.active.holds.base es vs → StackFits u around.actor (length fs) s.active.holds.base es vs
    stack_stored [] [] few k = k
    stack_stored [] (c ∷ vs) few k = k
    stack_stored (e ∷ es) [] few k = k
    stack_stored (e ∷ es) (c ∷ vs) few k = (some_stored (length vs) (s.active.holds.base + e.depth) e.ty c (omega (arith, few)) k.0, stack_stored es vs (omega (arith, few)) k.1)

    pushes_stored : Pushes core ann u around.objects around.actors around.actor f.method s.active.holds.base s.active.depth g.note.live_after g.below (slice_set f.slots z (Some v)) rest fs
    pushes_stored = record {
      world = x.world;
      fields = fields_kept w u around.objects around.actors around.actor s.active.holds.base (stored_gone around.actor (length fs) z (length rest)) x core (λ a k. refl) s.fields;
      here = s.here;
      top = last;
      opened = ajar;
      this_fits = this_stored;
      slots_fit = slots_stored;
      stack_fit = stack_stored g.below rest (omega arith) fits_rest;
      wait = below_kept w u around.objects around.actors around.actor s.active.holds.base (stored_gone around.actor (length fs) z (length rest)) x core ann (length fs)
          (λ h t l under. lower_gone around.actor (length fs) h (nat_eq z t) under) (λ h d l under. lower_gone around.actor (length fs) h (nat_lt (length rest) (suc d)) under) s.active.holds.base f.method fs refl (omega arith) s.wait;
    }

    -- The old value is pushed.
    pub stored_goes : OfSome core around.objects g.note.ty (value_or_none (held (slice_get f.slots z))) → FitsSome u (OnStack around.actor (length fs) (length rest) (s.active.holds.base + s.active.depth)) g.note.ty (value_or_none (held (slice_get f.slots z)))
        → AliasSome u around.actor s.active.holds.base (s.active.holds.base + s.active.depth) g.note.ty (value_or_none (held (slice_get f.slots z))) → RegionMoveOk core ann w around fs (store z v (with_stack f rest))
    stored_goes typed fits alias =
        let up = rise core ann climb around.objects around.actors around.actor f.method s.active.holds.base s.active.depth g.note.live_after g.below (slice_set f.slots z (Some v)) rest fs u pushes_stored g.note.live_after g.note.ty (value_or_none (held (slice_get f.slots z))) f.tasks
        (λ k b. b) typed fits alias (follows_at core ann around f fs (task.Store n ∷ f.tasks) w s stores n (λ d l st. TasksRise core ann f.method f.tasks d l st) g)
        in (
          up.0,
          record {
            world = up.1.world;
            fields = up.1.fields;
            others = others_both w u up.0 around.actor around.actors (others_kept w u around.objects around.actors around.actor s.active.holds.base (stored_gone around.actor (length fs) z (length rest)) x (λ p e. gone_far around.actor (length fs) z (length rest) p e)) up.1.others;
            frames = up.1.frames;
          },
        )
