-- The slot of a definition or an assignment has the node's depth, or what it holds may be sent.
use Rattle.std.specs.Prelude.{◌≡◌, ◌≢◌, ◌⊎◌, ℕ, zero, suc, ◌+◌, ◌-◌, ◌<◌, true, ◌&&◌, ◌∷◌, ◌++◌, map, length, Some, nat_eq, slice_get, refl}
use Rattle.std.proofs.{Common.{inl, inr, ap, sym, subst, ◌∙◌, arith}, lemmas.Bool.{and_parts, eqb-true, or_cases}, lemmas.List.length-map, lemmas.Option.same_Some}
use Rattle.pc_caps.specs.{Tables.sendable, declared.capability.Cap.Cap}
use Rattle.pc_core.specs.{declared.declarations.Method.Method, declared.nodes.Node.Node, declared.nodes.Slot.Slot, CoreData.{CoreData, own_slots}, Formed.Formed, Methods.{LocalFits, SlotsFit, is_local}, Entities.{this_slot, param_slot}, Nodes.{NamesFit, NamesLocal}}
use Rattle.pc_core.specs.declared.nodes.NodeKind.TheVariants as nodes
use Rattle.pc_base.proofs.{Gets.{append_get, map_get, range_get}, Options.{bind_some, kept}, Bools.false_true}
use Rattle.pc_ann.specs.{declared.annotation.Note.Note, declared.annotation.Ann.Ann}
use Rattle.pc_rules.specs.{Parts.{goes_to, reachable, type_of, one_child}, Rules.said_by, Values.{is_var, assigns}}
use Rattle.pc_valid.specs.Words.{before}
use Rattle.pc_rules.proofs.ByNumber.{slot_of, assigned, assign_says}

local_among : (core : CoreData) (m : ℕ) (x : Method) (f : SlotsFit core m x) (s : ℕ) (y : Slot) → slice_get (this_slot m x ∷ map (param_slot m) x.params ++ f.0) s ≡ Some y → is_local y.kind ≡ true → LocalFits core m s y
local_among core m x f zero y e local = absurd (false_true (ap (λ (z : Slot). is_local z.kind) (same_Some (this_slot m x) y e) ∙ local))
local_among core m x f (suc j) y e local =
    let count : length (map (param_slot m) x.params) ≡ length x.params = length-map x.params (param_slot m) in
    elim (append_get (map (param_slot m) x.params) f.0 j y e) [
      | inl p ↦ let q = map_get (param_slot m) x.params j y p in absurd (false_true (ap (λ (z : Slot). is_local z.kind) q.2 ∙ local))
      | inr l ↦ let low = l.0 in
          let at : 1 + length x.params + (j - length (map (param_slot m) x.params)) ≡ suc j = omega (arith, low, count) in
          subst (λ k. LocalFits core m k y) at (f.2 (j - length (map (param_slot m) x.params)) y l.1)
    ]

local_fits : (core : CoreData) (m : ℕ) (x : Method) (s : ℕ) (y : Slot) → SlotsFit core m x → s < x.slots → slice_get core.slots (x.first_slot + s) ≡ Some y → is_local y.kind ≡ true → LocalFits core m s y
local_fits core m x s y fit l e local =
    let at : x.first_slot + s - x.first_slot ≡ s = omega arith in
    let there = range_get core.slots x.first_slot (x.first_slot + x.slots) (x.first_slot + s) y (omega arith) (omega (arith, l)) e in
    local_among core m x fit s y (ap (λ zs. slice_get zs s) (sym fit.1) ∙ ap (slice_get (own_slots core x)) (sym at) ∙ there) local

-- A definition is of the depth of its slot.
pub define_depth : (core : CoreData) (ann : Ann) → Formed core → (n s : ℕ) (x : Node) → slice_get core.nodes n ≡ Some x → x.kind ≡ nodes.Define s → x.method ≢ 0 → (y : Slot × (ℕ × Cap)) → slot_of core ann x.method s ≡ Some y → y.0.depth ≡ x.depth
define_depth core ann formed n s x at is some y slot =
    let named : NamesLocal core x.method s = subst (NamesFit core x.method) is (formed.nodes n x at).names in
    let fit : SlotsFit core x.method named.0 = elim (formed.methods x.method named.0 named.2).slots [ inl none ↦ absurd (some none) | inr fit ↦ fit ] in
    let local = local_fits core x.method named.0 s named.1 fit named.3 named.4 named.5 in
    let same : n ≡ local.define = local.only n x at refl is in
    let node : x ≡ local.definition = same_Some x local.definition (sym at ∙ ap (slice_get core.nodes) same ∙ local.is_definition) in
    let a = bind_some (slice_get core.methods x.method) _ y slot in
    let b = bind_some (slice_get core.slots (a.0.first_slot + s)) _ y a.2 in
    let c = bind_some (slice_get ann.slots (a.0.first_slot + s)) _ y b.2 in
    let own : a.0 ≡ named.0 = same_Some a.0 named.0 (sym a.1 ∙ named.2) in
    let is_y : b.0 ≡ y.0 = ap (λ (j : Slot × (ℕ × Cap)). j.0) (same_Some (b.0, c.0) y c.2) in
    let it : y.0 ≡ named.1 = same_Some y.0 named.1 (sym (b.1 ∙ ap Some is_y) ∙ ap (λ (z : Method). slice_get core.slots (z.first_slot + s)) own ∙ named.4) in
    ap (λ (z : Slot). z.depth) it ∙ sym local.depth ∙ ap (λ (z : Node). z.depth) (sym node)

-- An assigned slot is reachable.
pub assign_near : (core : CoreData) (ann : Ann) (x : Node) (t : Note) (s : ℕ) → assign_says core ann x s (before t) ≡ Some (said_by t) → (y : Slot × (ℕ × Cap)) → slot_of core ann x.method s ≡ Some y → (y.0.depth ≡ x.depth) ⊎ (sendable y.1.1 ≡ true)
assign_near core ann x t s e y slot =
    let c = bind_some (one_child x.children) _ (said_by t) e in
    let v = bind_some (type_of ann c.0) _ (said_by t) c.2 in
    let i = bind_some (slot_of core ann x.method s) _ (said_by t) v.2 in
    let k = kept (assigns core x i.0 v.0) (assigned ann x s i.0.1 (before t)) (said_by t) i.2 in
    let p = and_parts (is_var i.0.0.kind) (reachable x i.0 && goes_to core v.0 i.0.1) k.0 in
    let g = and_parts (reachable x i.0) (goes_to core v.0 i.0.1) p.1 in
    near y (subst (λ (z : Slot × (ℕ × Cap)). reachable x z ≡ true) (same_Some i.0 y (sym i.1 ∙ slot)) g.0)
  where
    near : (y : Slot × (ℕ × Cap)) → reachable x y ≡ true → (y.0.depth ≡ x.depth) ⊎ (sendable y.1.1 ≡ true)
    near y is = elim (or_cases (nat_eq y.0.depth x.depth) (sendable y.1.1) is) [ inl q ↦ inl (eqb-true y.0.depth x.depth q) | inr q ↦ inr q ]
