-- The slots of a method: each has a written type, or is that of a local, which is defined once.
use Rattle.std.specs.Prelude.{◌≡◌, ◌⊎◌, ℕ, zero, suc, ◌+◌, ◌-◌, ◌<◌, ◌∷◌, ◌++◌, map, length, Some, slice_get}
use Rattle.std.proofs.{Common.{inl, inr, ap, sym, subst, ◌∙◌, arith}, lemmas.List.length-map, lemmas.Option.{same_Some, none-some}}
use Rattle.pc_caps.specs.declared.capability.Cap.{Cap}
use Rattle.pc_core.specs.{declared.declarations.Method.Method, declared.nodes.Slot.Slot, CoreData.{CoreData, own_slots}, Methods.{LocalFits, SlotsFit}, Entities.{this_slot, param_slot}, Formed.Formed}
use Rattle.pc_base.proofs.Gets.{map_get, get_range, range_get, append_get}

abbrev pub SlotKnown : CoreData → ℕ → ℕ → Slot → Type 0
SlotKnown core m s y = ((ty : ℕ × Cap) × (y.written ≡ Some ty)) ⊎ LocalFits core m s y

slot_among : (core : CoreData) (m : ℕ) (x : Method) (f : SlotsFit core m x) (s : ℕ) (y : Slot) → slice_get (this_slot m x ∷ map (param_slot m) x.params ++ f.0) s ≡ Some y → SlotKnown core m s y
slot_among core m x f zero y e = inl ((x.entity, x.receiver), ap (λ (z : Slot). z.written) (sym (same_Some (this_slot m x) y e)))
slot_among core m x f (suc j) y e =
    let count : length (map (param_slot m) x.params) ≡ length x.params = length-map x.params (param_slot m) in
    elim (append_get (map (param_slot m) x.params) f.0 j y e) [
      | inl p ↦ let q = map_get (param_slot m) x.params j y p in inl ((q.0.entity, q.0.cap), ap (λ (z : Slot). z.written) (sym q.2))
      | inr l ↦ let low = l.0 in
          let at : 1 + length x.params + (j - length (map (param_slot m) x.params)) ≡ suc j = omega (arith, low, count) in
          inr (subst (λ k. LocalFits core m k y) at (f.2 (j - length (map (param_slot m) x.params)) y l.1))
    ]

no_slots : (core : CoreData) (x : Method) → Formed core → slice_get core.methods 0 ≡ Some x → x.slots ≡ 0
no_slots core x f e = ap (λ (z : Method). z.slots) (same_Some x _ (sym e ∙ f.built_in.method))

pub slot_known : (core : CoreData) (m : ℕ) (x : Method) (s : ℕ) (y : Slot) → Formed core → slice_get core.methods m ≡ Some x → s < x.slots → slice_get core.slots (x.first_slot + s) ≡ Some y → SlotKnown core m s y
slot_known core m x s y f g l e =
    elim (f.methods m x g).slots [
      | inl z ↦ let none = no_slots core x f (subst (λ k. slice_get core.methods k ≡ Some x) z g) in absurd (omega (arith, l, none))
      | inr fit ↦ let at : x.first_slot + s - x.first_slot ≡ s = omega arith in
          let there = range_get core.slots x.first_slot (x.first_slot + x.slots) (x.first_slot + s) y (omega arith) (omega (arith, l)) e in
          slot_among core m x fit s y (ap (λ zs. slice_get zs s) (sym fit.1) ∙ ap (slice_get (own_slots core x)) (sym at) ∙ there)
    ]

-- The first slot of a method with a body is that of `this`.
pub this_known : (core : CoreData) (m : ℕ) (x : Method) (b : ℕ) → Formed core → slice_get core.methods m ≡ Some x → x.body ≡ Some b → slice_get core.slots (x.first_slot + 0) ≡ Some (this_slot m x)
this_known core m x b f g e =
    elim (f.methods m x g).slots [
      | inl z ↦ let is = same_Some x _ (sym (ap (slice_get core.methods) (sym z) ∙ g) ∙ f.built_in.method) in
          absurd (none-some b (sym (ap (λ (k : Method). k.body) is) ∙ e))
      | inr fit ↦ (get_range core.slots x.first_slot (x.first_slot + x.slots) 0 (this_slot m x) (ap (λ zs. slice_get zs 0) fit.1)).1
    ]
