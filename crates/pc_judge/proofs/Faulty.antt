-- The faults of the small program's faulty derivations.
use Rattle.std.specs.Prelude.{◌≡◌, ℕ, zero, suc, ◌<◌, Bool, true, false, List, [], ◌∷◌, length, Option, Some, None, slice_get, refl}
use Rattle.std.proofs.{Common.{inl, ap, sym, subst, ◌∙◌, arith}, lemmas.Option.{same_Some, none-some}}
use Rattle.pc_caps.specs.{declared.capability.Cap.Cap, Tables.sendable, declared.capability.Form.Form}
use Rattle.pc_caps.specs.declared.capability.Cap.TheVariants as cap
use Rattle.pc_caps.specs.declared.capability.Form.TheVariants as form
use Rattle.pc_tree.specs.Kinds.{none_entity}
use Rattle.pc_core.specs.{declared.declarations.EntityDef.EntityDef, declared.declarations.Method.Method, declared.declarations.ParamInfo.ParamInfo, declared.nodes.Node.Node, declared.nodes.Slot.Slot, Entities.{print_method, Conforms}}
use Rattle.pc_core.specs.declared.nodes.NodeKind.TheVariants as node
use Rattle.pc_core.specs.declared.nodes.SlotKind.TheVariants as slot
use Rattle.pc_base.specs.Lists.{Each}
use Rattle.pc_ann.specs.declared.annotation.Note.{Note}
use Rattle.pc_ann.specs.declared.annotation.Rule.TheVariants as rule
use Rattle.pc_sub.specs.Declarations.{TakesSendable, DeclOk}
use Rattle.pc_masks.specs.{declared.mask.Mask.Mask, Masks.has}
use Rattle.pc_valid.specs.{Words.{before, masks_after, AllSet}, Valid.{Meets, MeetsRule, KeepsWritten}}
use Rattle.pc_rules.specs.{Parts.constructs, Example.{four_slots, create_c, create_main, at, node_of, noted}}
use Rattle.pc_rules.proofs.RecordWords.{constructs_iff, starts_to, ends_to}
use Rattle.pc_judge.specs.Faults as spec
use Rattle.pc_judge.specs.Example as example
use Rattle.pc_base.proofs.{Elements.each_none, Bools.true_false}

-- ---- lists, element by element

-- The first element has the property, and so on.
abbrev All : {T : Type 0} → (ℕ → T → Type 0) → List T → Type 0
All P [] = zero ≡ zero
All P (x ∷ xs) = P 0 x × All (λ i. P (suc i)) xs

each : {T : Type 0} → (P : ℕ → T → Type 0) (xs : List T) → All P xs → Each P xs
each P [] h i x e = absurd (none-some x e)
each P (y ∷ ys) h zero x e = subst (P 0) (same_Some y x e) h.0
each P (y ∷ ys) h (suc i) x e = each (λ j. P (suc j)) ys h.1 i x e

-- ---- what is right

abbrev Sent : ℕ → ParamInfo → Type 0
Sent i p = sendable p.cap ≡ true

declared : DeclOk four_slots
declared = record {
  sendable =
      each (λ m x. TakesSendable x) four_slots.methods
      (λ h. each Sent (print_method 1).params (refl, refl), (λ h. each Sent create_c.params refl, (λ h. each Sent create_main.params (refl, refl), refl)));
  conform =
      each (λ e x. Each (λ i b. Conforms four_slots e b) x.provides) four_slots.entities
      (each_none _, (each_none _, (each_none _, (each_none _, (each_none _, (each_none _, (each_none _, (each_none _, refl))))))));
}

written : KeepsWritten four_slots example.noted_as_ref
written = each (λ k y. spec.KeepsType example.noted_as_ref k y) four_slots.slots (λ ty e. e, (λ ty e. e, (λ ty e. e, (λ ty e. e, refl))))

-- Class `C` has no fields.
no_fields : (set : Mask) → AllSet four_slots 6 set
no_fields set owner e i l =
    let none : 0 ≡ length owner.fields = ap (λ (y : EntityDef). length y.fields) (same_Some _ owner e) in
    absurd (omega (arith, none, l))

-- Of the nodes before node 3, the last is a body, after which no field is left, since there is none.
set_behind : (n : ℕ) → n < 3 → spec.SetsAfter four_slots example.noted_as_ref n
set_behind n l zero x e body c b t there h =
    absurd (let bad : false ≡ true = subst (λ (y : Method). constructs y.kind ≡ true) (sym (same_Some _ x e)) ((constructs_iff x.kind).1 c) in cc)
set_behind n l (suc zero) x e body c b t there h = subst (λ (y : Method). AllSet four_slots y.entity t.set_after) (same_Some _ x e) (no_fields t.set_after)
set_behind n l (suc (suc zero)) x e body c b t there h = let at : 6 ≡ n = same_Some 6 n (ap (λ (y : Method). y.body) (same_Some _ x e) ∙ body) in absurd (omega (arith, at, l))
set_behind n l (suc (suc (suc m))) x e body c b t there h = absurd (none-some x e)

-- The notes of the first two nodes of either core.
abbrev prim_note : Note
prim_note = noted rule.Prim (Some (none_entity, form.Val)) 1 1

abbrev seq_note : Note
seq_note = noted rule.Seq (Some (none_entity, form.Val)) 1 1

rules_met : (n : ℕ) → n < 3 → MeetsRule four_slots example.noted_as_ref n
rules_met zero l = (_, _, refl, refl, ([], tt, record { type = refl; masks = refl }))
rules_met (suc zero) l = (
  _,
  _,
  refl,
  refl,
  (
    prim_note ∷ [],
    (refl, tt),
    record {
      front = [];
      last = prim_note;
      children = refl;
      type = refl;
      after_children = masks_after prim_note;
      in_order = (refl, refl);
      live = ends_to four_slots (0 ∷ []) (masks_after prim_note).0 (masks_after prim_note).0 refl;
      set = refl;
    },
  ),
)
rules_met (suc (suc zero)) l = (
  _,
  _,
  refl,
  refl,
  (
    seq_note ∷ [],
    (refl, tt),
    record {
      home = create_c;
      is_home = refl;
      child = seq_note;
      children = refl;
      live = refl;
      set = starts_to four_slots create_c (before seq_note).1 refl;
      result = λ fun. absurd (cc fun);
      type = refl;
      masks = (refl, refl);
    },
  ),
)
rules_met (suc (suc (suc n))) l = absurd (omega (arith, l))

-- ---- what is faulty

-- A type is one of form `ref`.
abbrev says_ref : Option (ℕ × Form) → Bool
says_ref (Some (e, form.Ref)) = true
says_ref ty = false

wrong_note : Meets four_slots example.noted_as_ref.slots example.noted_as_ref.notes (node_of 2 (node.New 1) [] (at 64 65)) (noted rule.New (Some (6, form.Ref)) 3 3) → ⊥
wrong_note m =
    let made : create_c ≡ m.2.called = same_Some create_c m.2.called m.2.is_called in
    let said : Some (6, form.Ref) ≡ Some create_c.result = m.2.type ∙ sym (ap (λ (y : Method). Some y.result) made) in
    true_false (ap says_ref said)

wrong_node : MeetsRule four_slots example.noted_as_ref 3 → ⊥
wrong_node h =
    let x : node_of 2 (node.New 1) [] (at 64 65) ≡ h.0 = same_Some _ h.0 h.2 in
    let t : noted rule.New (Some (6, form.Ref)) 3 3 ≡ h.1 = same_Some _ h.1 h.3 in
    wrong_note (subst (λ (u : Note). Meets four_slots example.noted_as_ref.slots example.noted_as_ref.notes (node_of 2 (node.New 1) [] (at 64 65)) u) (sym t)
    (subst (λ (y : Node). Meets four_slots example.noted_as_ref.slots example.noted_as_ref.notes y h.1) (sym x) h.4))

node_named : spec.FailsRule four_slots example.noted_as_ref 3
node_named = (
  omega arith,
  record { declarations = declared; shape = (refl, refl); written = written; rules = rules_met; sets = set_behind },
  wrong_node,
)

abbrev is_val : Option (ℕ × Cap) → Bool
is_val (Some (e, cap.Val)) = true
is_val o = false

abbrev local : Slot
local = record { method = 2; kind = slot.Let; depth = 0; written = Some (6, cap.Iso) }

wrong_slot : spec.KeepsType example.held_as_val 3 local → ⊥
wrong_slot h = let e : Some (6, cap.Val) ≡ Some (6, cap.Iso) = h (6, cap.Iso) refl in true_false (ap is_val e)

slots_before : (j : ℕ) (y : Slot) → j < 3 → slice_get four_slots.slots j ≡ Some y → spec.KeepsType example.held_as_val j y
slots_before zero y l e ty g = subst (λ (z : Slot). z.written ≡ Some ty) (sym (same_Some _ y e)) g
slots_before (suc zero) y l e ty g = subst (λ (z : Slot). z.written ≡ Some ty) (sym (same_Some _ y e)) g
slots_before (suc (suc zero)) y l e ty g = subst (λ (z : Slot). z.written ≡ Some ty) (sym (same_Some _ y e)) g
slots_before (suc (suc (suc j))) y l e ty g = absurd (omega (arith, l))

slot_named : spec.FirstWrong four_slots example.held_as_val 3
slot_named = (local, (refl, wrong_slot, slots_before))

no_shape : spec.HasShape four_slots example.without_notes → ⊥
no_shape h = let k : 0 ≡ 7 = h.1 in omega (arith, k)

-- ---- a field that is not set

one_declared : DeclOk example.one_field
one_declared = record {
  sendable = each (λ m x. TakesSendable x) example.one_field.methods ((λ h. each Sent example.sets_nothing.params refl), refl);
  conform = each (λ e x. Each (λ i b. Conforms example.one_field e b) x.provides) example.one_field.entities (each_none _, refl);
}

one_written : KeepsWritten example.one_field example.nothing_set
one_written = each (λ k y. spec.KeepsType example.nothing_set k y) example.one_field.slots ((λ ty e. e), refl)

one_rules : (n : ℕ) → n < 2 → MeetsRule example.one_field example.nothing_set n
one_rules zero l = (_, _, refl, refl, ([], tt, record { type = refl; masks = refl }))
one_rules (suc zero) l = (
  _,
  _,
  refl,
  refl,
  (
    prim_note ∷ [],
    (refl, tt),
    record {
      front = [];
      last = prim_note;
      children = refl;
      type = refl;
      after_children = masks_after prim_note;
      in_order = (refl, refl);
      live = ends_to example.one_field (0 ∷ []) (masks_after prim_note).0 (masks_after prim_note).0 refl;
      set = refl;
    },
  ),
)
one_rules (suc (suc n)) l = absurd (omega (arith, l))

no_body : (n : ℕ) → n < 2 → spec.SetsAfter example.one_field example.nothing_set n
no_body n l zero x e body = let at : 2 ≡ n = same_Some 2 n (ap (λ (y : Method). y.body) (same_Some _ x e) ∙ body) in absurd (omega (arith, at, l))
no_body n l (suc m) x e body = absurd (none-some x e)

body_met : MeetsRule example.one_field example.nothing_set 2
body_met = (
  _,
  _,
  refl,
  refl,
  (
    seq_note ∷ [],
    (refl, tt),
    record {
      home = example.sets_nothing;
      is_home = refl;
      child = seq_note;
      children = refl;
      live = refl;
      set = starts_to example.one_field example.sets_nothing (before seq_note).1 refl;
      result = λ fun. absurd (cc fun);
      type = refl;
      masks = (refl, refl);
    },
  ),
)

unset_named : spec.LeavesUnset example.one_field example.nothing_set 0
unset_named = (
  example.sets_nothing,
  2,
  refl,
  refl,
  record { declarations = one_declared; shape = (refl, refl); written = one_written; rules = one_rules; sets = no_body },
  body_met,
  λ s. let here : has (record { 0 = 0 }) 0 ≡ true = s (inl refl) 2 (noted rule.Body None 1 1) refl refl _ refl 0 (omega arith) in absurd (cc here),
)

pub faults_named : example.FaultsNamed
faults_named = (node_named, (declared, (refl, refl), slot_named), (declared, no_shape), unset_named)
