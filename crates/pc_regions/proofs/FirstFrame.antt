-- The frame of a method that begins fits by regions if `this` and the arguments do; and a message fits if its arguments
-- do.
use Rattle.std.specs.Prelude.{◌≡◌, ◌≢◌, ℕ, zero, suc, ◌+◌, ◌-◌, ◌<◌, List, [], ◌∷◌, ◌++◌, map, length, replicate, Option, Some, None, slice_get, refl}
use Rattle.std.proofs.{Common.{ap, sym, subst, ◌∙◌, arith}, lemmas.Option.{same_Some, none-some}}
use Rattle.pc_heap.specs.declared.value.Value.{Value}
use Rattle.pc_caps.specs.{Tables.unalias, declared.capability.Cap.Cap}
use Rattle.pc_base.proofs.{Gets.get_within, Options.bind_some}
use Rattle.pc_core.specs.{declared.declarations.Method.Method, declared.declarations.ParamInfo.ParamInfo, declared.nodes.Slot.Slot, CoreData.CoreData, Entities.{this_slot, param_slot}}
use Rattle.pc_ann.specs.declared.annotation.Ann.{Ann}
use Rattle.pc_masks.specs.{Masks.first, MaskLaws.first_bits}
use Rattle.pc_semantics.specs.Parts.{first_slots}
use Rattle.pc_rules.proofs.ByNumber.{slot_of}
use Rattle.pc_regions.proofs.{World.{World, Place, InSlot, InMail, Fits}, StackForms.{BodyRises, SlotsShallow}, Fitting.{ThisFits, SlotsFit, Holds, Active, OpenedTo, MessageFits}}
use Rattle.pc_types.proofs.{Needs.Needs, Needed.{first_own, param_own}, Notes.slot_at, Begin.begin_ok}

-- The arguments, each at its place, fit the parameters.
abbrev pub ArgumentsAt : World → (ℕ → Place) → List ParamInfo → List Value → Type 0
ArgumentsAt w at [] [] = Unit {0}
ArgumentsAt w at (p ∷ ps) (v ∷ vs) = Fits w (at 0) (unalias p.cap) v × ArgumentsAt w (λ n. at (suc n)) ps vs
ArgumentsAt w at ps vs = ⊥

pub argument_fits : (w : World) (at : ℕ → Place) (ps : List ParamInfo) (vs : List Value) (rest : List (Option Value)) (n : ℕ) (p : ParamInfo) (v : Value) → ArgumentsAt w at ps vs → slice_get ps n ≡ Some p → slice_get (map Some vs ++ rest) n ≡ Some (Some v) → Fits w (at n) (unalias p.cap) v
argument_fits w at [] vs rest n p v k e g = absurd (none-some p e)
argument_fits w at (q ∷ ps) [] rest n p v k e g = absurd k
argument_fits w at (q ∷ ps) (u ∷ vs) rest zero p v k e g =
    let same : u ≡ v = same_Some u v (same_Some (Some u) (Some v) g) in
    subst (λ (x : Value). Fits w (at 0) (unalias p.cap) x) same (subst (λ (x : ParamInfo). Fits w (at 0) (unalias x.cap) u) (same_Some q p e) k.0)
argument_fits w at (q ∷ ps) (u ∷ vs) rest (suc n) p v k e g = argument_fits w (λ j. at (suc j)) ps vs rest n p v k.1 e g

-- ---- messages

get_some : (vs : List Value) (n : ℕ) (v : Value) → slice_get vs n ≡ Some v → slice_get (map Some vs ++ []) n ≡ Some (Some v)
get_some [] n v e = absurd (none-some v e)
get_some (u ∷ vs) zero v e = ap Some e
get_some (u ∷ vs) (suc n) v e = get_some vs n v e

pub message_fits : (core : CoreData) (w : World) (j t m : ℕ) (x : Method) (arguments : List Value) → slice_get core.methods m ≡ Some x → ArgumentsAt w (λ n. InMail j t n) x.params arguments → MessageFits core w j t (record { method = m; arguments = arguments })
message_fits core w j t m x arguments at k y n p v is e g =
    let same : y ≡ x = same_Some y x (sym is ∙ at) in
    argument_fits w (λ n. InMail j t n) x.params arguments [] n p v k (subst (λ (z : Method). slice_get z.params n ≡ Some p) same e) (get_some arguments n v g)

-- ---- the slots of what begins

module _ (core : CoreData) (ann : Ann) (needs : Needs core ann) (m : ℕ) (f : Method) (at : slice_get core.methods m ≡ Some f) (other : m ≢ 0) where
  flat : (s : ℕ) (y : Slot) → s < 1 + length f.params → slice_get core.slots (f.first_slot + s) ≡ Some y → y.depth ≡ 0
  flat zero y l e = sym (ap (λ (z : Slot). z.depth) (same_Some (this_slot m f) y (sym (first_own core needs.formed m f at other) ∙ e)))
  flat (suc s) y l e =
      let within : s < length f.params = omega (arith, l) in
      let p = get_within f.params s within in
      sym (ap (λ (z : Slot). z.depth) (same_Some (param_slot m p.0) y (sym (param_own core needs.formed m s f p.0 at other p.1) ∙ e)))

  pub begins_shallow : (d : ℕ) → SlotsShallow core m (first (1 + length f.params)) d
  begins_shallow d s x y bit is e =
      let same : x ≡ f = same_Some x f (sym is ∙ at) in
      let zero : y.depth ≡ 0 = flat s y ((first_bits (1 + length f.params) s).0 bit).0 (subst (λ (z : Method). slice_get core.slots (z.first_slot + s) ≡ Some y) same e) in
      omega (arith, zero)

  slot_flat : (s : ℕ) (y : Slot × (ℕ × Cap)) → s < 1 + length f.params → slot_of core ann m s ≡ Some y → y.0.depth ≡ 0
  slot_flat s y l e =
      let a = bind_some (slice_get core.methods m) _ y e in
      let b = bind_some (slice_get core.slots (a.0.first_slot + s)) _ y a.2 in
      let c = bind_some (slice_get ann.slots (a.0.first_slot + s)) _ y b.2 in
      let is : a.0 ≡ f = same_Some a.0 f (sym a.1 ∙ at) in
      let slot : b.0 ≡ y.0 = ap (λ (j : Slot × (ℕ × Cap)). j.0) (same_Some (b.0, c.0) y c.2) in
      flat s y.0 l (subst (λ (z : Method). slice_get core.slots (z.first_slot + s) ≡ Some y.0) is (b.1 ∙ ap Some slot))

  pub flat_level : (base d : ℕ) → d ≡ 0 → base ≡ base + d
  flat_level base d e = omega (arith, e)

  -- ---- the frame

  module _ (w : World) (i h base : ℕ) (this : Value) (arguments : List Value) (this_fits : Fits w (InSlot i h 0 base) (unalias f.receiver) this) (fit : ArgumentsAt w (λ n. InSlot i h (suc n) base) f.params arguments) where
    pub slots_fit : SlotsFit core ann w i h m base (first (1 + length f.params)) (first_slots f this arguments)
    slots_fit zero more bit v e y is = absurd (omega (arith, more))
    slots_fit (suc s) more bit v e y is =
        let l = ((first_bits (1 + length f.params) (suc s)).0 bit).0 in
        let within : s < length f.params = omega (arith, l) in
        let p = get_within f.params s within in
        let fits : Fits w (InSlot i h (suc s) base) (unalias p.0.cap) v = argument_fits w (λ n. InSlot i h (suc n) base) f.params arguments (replicate (f.slots - suc (length arguments)) None) s p.0 v fit p.1 e in
        let cap : p.0.cap ≡ y.1.1 = ap (λ (z : ℕ × Cap). z.1) (same_Some (p.0.entity, p.0.cap) y.1 (sym (needs.param_slots m f at other s p.0 p.1) ∙ slot_at core ann m (suc s) f y at is)) in
        subst (λ (l : ℕ). Fits w (InSlot i h (suc s) l) (unalias y.1.1) v) (flat_level base y.0.depth (slot_flat (suc s) y l is))
        (subst (λ (k : Cap). Fits w (InSlot i h (suc s) base) (unalias k) v) cap fits)

    pub begins_this : ThisFits core w i h m base (first_slots f this arguments)
    begins_this x v is e =
        let same : f ≡ x = same_Some f x (sym at ∙ is) in
        let value : this ≡ v = same_Some this v (same_Some (Some this) (Some v) e) in
        subst (λ (u : Value). Fits w (InSlot i h 0 base) (unalias x.receiver) u) value (subst (λ (z : Method). Fits w (InSlot i h 0 base) (unalias z.receiver) this) same this_fits)

    abbrev pub begins_holds : Holds core ann w i h m (first_slots f this arguments) []
    begins_holds = record {
      base = base;
      live = first (1 + length f.params);
      entries = [];
      this_fits = begins_this;
      slots_fit = slots_fit;
      stack_fit = tt;
    }

    pub none_open : OpenedTo w i base 0
    none_open j above to = absurd (omega (arith, above, to))

    abbrev pub begins_active : w.top i ≡ base → Active core ann w i h m (first_slots f this arguments) []
    begins_active top = record {
      holds = begins_holds;
      depth = 0;
      last = sym (top ∙ flat_level base 0 refl);
      opened = none_open;
      not_deeper = begins_shallow 0;
      shallow = tt;
    }

  pub begins_body : (b : ℕ) → f.body ≡ Some b → BodyRises core ann m 0 (first (1 + length f.params)) [] b
  begins_body b has =
      let k = begin_ok core ann needs m b f at has in
      record { node = k.node; is_node = k.is_node; note = k.note; is_note = k.is_note; own = k.own; is_body = k.is_body; outer = refl; empty = refl; live = k.live }
