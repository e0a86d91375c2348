-- A method has few parameters: each has a slot.
use Rattle.std.specs.Prelude.{◌≡◌, ℕ, ◌+◌, ◌<◌, ◌^◌, List, ◌∷◌, ◌++◌, map, length, Some, get_or, slice_get, refl}
use Rattle.std.proofs.{Common.{inl, inr, ap, sym, subst, ◌∙◌, arith}, lemmas.List.{length-map, length-append}, lemmas.Option.{same_Some, slice_get_read}}
use Rattle.pc_base.proofs.Gets.{get_within, get_range}
use Rattle.pc_core.specs.{declared.declarations.Method.Method, declared.nodes.Slot.Slot, CoreData.{CoreData, own_slots}, Methods.SlotsFit, Entities.{this_slot, param_slot}, Formed.Formed}

-- The last parameter has a slot.
in_slots : (core : CoreData) (m : ℕ) (x : Method) → SlotsFit core m x → length x.params < x.slots
in_slots core m x f =
    let ps = map (param_slot m) x.params in
    let slots : List Slot = this_slot m x ∷ ps ++ f.0 in
    let count : length ps ≡ length x.params = length-map x.params (param_slot m) in
    let total : length (ps ++ f.0) ≡ length ps + length f.0 = length-append ps f.0 in
    let room : length x.params < length slots = omega (arith, count, total) in
    let there = get_within slots (length x.params) room in
    let own : slice_get (own_slots core x) (length x.params) ≡ Some there.0 = ap (λ zs. slice_get zs (length x.params)) f.1 ∙ there.1 in
    let k = (get_range core.slots x.first_slot (x.first_slot + x.slots) (length x.params) there.0 own).0 in
    omega (arith, k)

params_within : (core : CoreData) (m : ℕ) (x : Method) → Formed core → slice_get core.methods m ≡ Some x → length x.params < 2 ^ 32
params_within core m x f g =
    elim (f.methods m x g).slots [
      | inl z ↦ let print = f.built_in.method in
          let one : length x.params ≡ 1 = ap (λ (y : Method). length y.params) (same_Some x _ (sym (subst (λ n. slice_get core.methods n ≡ Some x) z g) ∙ print)) in
          omega (arith, one)
      | inr fit ↦ let k = in_slots core m x fit in let few = (f.methods m x g).few_slots in omega (arith, k, few)
    ]

pub few_params : (core : CoreData) (ys : List Method) (m : ℕ) (x : Method) → Formed core → ys ≡ core.methods → m < length ys → x ≡ get_or ys m x → length x.params < 2 ^ 32
few_params core ys m x f same l e = params_within core m x f (subst (λ zs. slice_get zs m ≡ Some x) same (slice_get_read ys (length ys) m x refl l e))
