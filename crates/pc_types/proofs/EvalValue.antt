-- Eval at literals, `this` and slots.
use Rattle.std.specs.Prelude.{◌≡◌, ◌≢◌, ℕ, ◌<◌, Bool, true, false, ◌&&◌, cond, List, ◌∷◌, Option, Some, None, slice_get, slice_set, refl}
use Rattle.std.proofs.{Common.{inl, ap, sym, subst, ◌∙◌, arith, length-set}, lemmas.Option.same_Some, lemmas.Bool.and_parts}
use Rattle.pc_heap.specs.{declared.value.Value.Value, declared.value.Value.TheVariants.{Num, Truth, Text, Prim}}
use Rattle.pc_base.proofs.{Gets.get_set_other, Bools.false_true}
use Rattle.pc_caps.specs.{Tables.{plain, unalias}, declared.capability.Cap.Cap, declared.capability.Form.Form}
use Rattle.pc_caps.specs.declared.capability.Form.TheVariants as form
use Rattle.pc_core.specs.{declared.declarations.Method.Method, declared.nodes.NodeKind.NodeKind, declared.nodes.Slot.Slot, CoreData.CoreData}
use Rattle.pc_core.specs.declared.nodes.NodeKind.TheVariants as nodes
use Rattle.pc_masks.specs.{declared.mask.Mask.Mask, Masks.without_number, MaskLaws.{within_bits, without_number_bits}}
use Rattle.pc_ann.specs.declared.annotation.Ann.{Ann}
use Rattle.pc_semantics.specs.{declared.frames.Frame.Frame, Configurations.{Around, Goes, pushed}, Parts.{push_slot, take_slot}}
use Rattle.pc_rules.specs.{Parts.{all_fields, full, constructs, reachable}, Fields.is_this, Values.this_form}
use Rattle.pc_valid.specs.Words.{Ty, before}
use Rattle.pc_types.proofs.{Types.{sees, Finished, OfType, OfSome, held_in}, Tasks.{Within, EvalOk, TasksOk}, Frames.SlotsOk, Moves.{MoveOk, Runs}, Needs.Needs, Basic.{within_trans, of_lower, some_lower}, Notes.{slot_at, names_fit}, AllFields.all_set, Places.taken_lower, Running.{go_ok, push_ok}, Inverse.{Says, Used, ThisRule, LocalRule, ConsumeRule}}

-- ---- forms

form_cases : (b : Bool) (f : Form) → sees (cond b f form.Tag) ≡ true → (b ≡ true) × (sees f ≡ true)
form_cases true f h = (refl, h)
form_cases false f h = absurd (false_true h)

pub not_zero : (s : ℕ) → 0 < s → 0 ≢ s
not_zero s l e = absurd (omega (arith, l, e))

module _ (core : CoreData) (ann : Ann) (needs : Needs core ann) (around : Around) (f : Frame) (fs : List Frame) (r : Runs core ann around f fs) (n : ℕ) (e : EvalOk core ann f.method r.held.live r.held.set r.held.wants n (λ l s g. TasksOk core ann f.method f.tasks l s g)) where
  -- A value of the note's type, by a node that leaves slots and fields as they are.
  leaf_ok : (ty : Ty) (v : Value) → Says e.note (Some ty) (before e.note) → OfType core around.objects ty v → (is_this e.node.kind ≡ true → v ≡ r.held.this) → MoveOk core ann around fs (Goes (pushed f v))
  leaf_ok ty v s t own =
      push_ok core ann needs around f fs r e.node e.note r.held.wants f.stack v e.follows
      (subst (λ (m : Mask). Within m r.held.live) (sym s.live) e.live) (subst (λ (m : Mask). Within m r.held.set) (sym s.set) e.set) r.held.stack_ok
      (subst (λ (o : Option Ty). OfSome core around.objects o v) (sym s.ty) t) own

  no_this : (k : NodeKind) (v : Value) → e.node.kind ≡ k → (is_this k ≡ true → ⊥) → is_this e.node.kind ≡ true → v ≡ r.held.this
  no_this k v is bad h = absurd (bad (ap is_this (sym is) ∙ h))

  pub number_ok : (k : ℕ) → e.node.kind ≡ nodes.Number k → Says e.note (Some (1, form.Val)) (before e.note) → MoveOk core ann around fs (Goes (pushed f (Num k)))
  number_ok k is s = leaf_ok (1, form.Val) (Num k) s (record { entity = 1; is_entity = refl; below = inl refl; kind = tt; finished = λ h. tt }) (no_this (nodes.Number k) (Num k) is false_true)

  pub truth_ok : (b : Bool) → e.node.kind ≡ nodes.Truth b → Says e.note (Some (2, form.Val)) (before e.note) → MoveOk core ann around fs (Goes (pushed f (Truth b)))
  truth_ok b is s = leaf_ok (2, form.Val) (Truth b) s (record { entity = 2; is_entity = refl; below = inl refl; kind = tt; finished = λ h. tt }) (no_this (nodes.Truth b) (Truth b) is false_true)

  pub text_ok : (x : List ℕ) → e.node.kind ≡ nodes.Text x → Says e.note (Some (3, form.Val)) (before e.note) → MoveOk core ann around fs (Goes (pushed f (Text x)))
  text_ok x is s = leaf_ok (3, form.Val) (Text x) s (record { entity = 3; is_entity = refl; below = inl refl; kind = tt; finished = λ h. tt }) (no_this (nodes.Text x) (Text x) is false_true)

  pub prim_ok : (p : ℕ) → e.node.kind ≡ nodes.Prim p → Says e.note (Some (p, form.Val)) (before e.note) → MoveOk core ann around fs (Goes (pushed f (Prim p)))
  prim_ok p is s = leaf_ok (p, form.Val) (Prim p) s (record { entity = p; is_entity = refl; below = inl refl; kind = names_fit core ann needs n e.node e.is_node (nodes.Prim p) is; finished = λ h. tt }) (no_this (nodes.Prim p) (Prim p) is false_true)

  -- ---- `this`

  -- The method of the node is that of the frame.
  pub own_at : slice_get core.methods e.node.method ≡ Some r.held.own
  own_at = ap (slice_get core.methods) e.own ∙ r.held.is_own

  finished_this : (b : Bool) → constructs r.held.own.kind ≡ b → full core r.held.own.entity e.note.set_before ≡ true → sees (plain r.held.own.receiver) ≡ true → Finished around.objects r.held.this
  finished_this false is all h = r.held.this_ok.finished is h
  finished_this true is all h =
      all_set core ann needs around.objects around.actors r.held.set r.held.own.entity r.held.this r.objects (r.held.this_ok.fields is) r.held.this_ok.is_entity
      (within_trans (all_fields core r.held.own.entity) e.note.set_before r.held.set ((within_bits (all_fields core r.held.own.entity) e.note.set_before).0 all) e.set)

  pub seen_this : (slot : Slot × (ℕ × Cap)) → slot.1 ≡ (r.held.own.entity, r.held.own.receiver) → sees (this_form core e.node r.held.own.entity slot e.note.set_before) ≡ true → Finished around.objects r.held.this
  seen_this slot is h =
      let c = form_cases (full core r.held.own.entity e.note.set_before && reachable e.node slot) (plain slot.1.1) h in
      let p = and_parts (full core r.held.own.entity e.note.set_before) (reachable e.node slot) c.0 in
      finished_this (constructs r.held.own.kind) refl p.0 (subst (λ (q : ℕ × Cap). sees (plain q.1) ≡ true) is c.1)

  pub this_ok : ThisRule core ann e.node e.note → MoveOk core ann around fs (push_slot f (slice_get f.slots 0))
  this_ok q =
      let own : q.own ≡ r.held.own = same_Some q.own r.held.own (sym q.is_own ∙ own_at) in
      let slot : q.slot.1 ≡ (r.held.own.entity, r.held.own.receiver) = needs.this_slot n e.node r.held.own q.slot e.is_node own_at q.is_slot in
      let ty : Ty = (r.held.own.entity, this_form core e.node r.held.own.entity q.slot e.note.set_before) in
      let said : Says e.note (Some ty) (before e.note) = subst (λ (x : Method). Says e.note (Some (x.entity, this_form core e.node x.entity q.slot e.note.set_before)) (before e.note)) own q.says in
      let typed : OfType core around.objects ty r.held.this = record { entity = r.held.own.entity; is_entity = r.held.this_ok.is_entity; below = inl refl; kind = r.held.this_ok.kind; finished = seen_this q.slot slot } in
      subst (λ (o : Option (Option Value)). MoveOk core ann around fs (push_slot f o)) (sym r.held.is_this) (leaf_ok ty r.held.this said typed (λ h. refl))

  -- ---- slots

  -- What a live slot holds.
  pub record InSlot (s : ℕ) (i : ℕ × Cap) : Type 0 where
    pub value : Value
    pub is_value : slice_get f.slots s ≡ Some (Some value)
    pub typed : OfType core around.objects (held_in i) value

  pub slot_ok : (s : ℕ) (i : ℕ × Cap) → 0 < s → Used core ann e.node s e.note.live_before i → InSlot s i
  slot_ok s i l u =
      let y = r.held.slots_ok s l (e.live s u.live) in
      let at = slot_at core ann e.node.method s r.held.own u.slot own_at u.is_slot in
      let is : y.1 ≡ i = same_Some y.1 u.slot.1 (sym y.3 ∙ at) ∙ u.ty in
      record { value = y.0; is_value = y.2; typed = subst (λ (p : ℕ × Cap). OfType core around.objects (held_in p) y.0) is y.4 }

  pub local_ok : (s : ℕ) → e.node.kind ≡ nodes.Local s → LocalRule core ann e.node e.note s → MoveOk core ann around fs (push_slot f (slice_get f.slots s))
  local_ok s is q =
      let y = slot_ok s q.place (names_fit core ann needs n e.node e.is_node (nodes.Local s) is).0 q.used in
      subst (λ (o : Option (Option Value)). MoveOk core ann around fs (push_slot f o)) (sym y.is_value)
      (leaf_ok (held_in q.place) y.value q.says y.typed (no_this (nodes.Local s) y.value is false_true))

  -- The other slots hold what they did.
  emptied_ok : (s : ℕ) (live : Mask) → Within live (without_number e.note.live_before s) → SlotsOk core ann around.objects r.held.own live (slice_set f.slots s None)
  emptied_ok s live w i l b =
      let here = (without_number_bits e.note.live_before s i).0 (w i b) in
      let y = r.held.slots_ok i l (e.live i here.1) in
      (y.0, y.1, get_set_other f.slots s None i here.0 ∙ y.2, y.3, y.4)

  pub consume_ok : (s : ℕ) → e.node.kind ≡ nodes.Consume s → ConsumeRule core ann e.node e.note s → MoveOk core ann around fs (take_slot f s (slice_get f.slots s))
  consume_ok s is q =
      let low = (names_fit core ann needs n e.node e.is_node (nodes.Consume s) is).0 in
      let y = slot_ok s q.place low q.used in
      let o = e.follows in
      let typed : OfType core around.objects (q.place.0, unalias q.place.1) y.value = of_lower core ann needs around.objects (held_in q.place) (q.place.0, unalias q.place.1) y.value (taken_lower core q.place) y.typed in
      let some : OfSome core around.objects e.note.ty y.value = subst (λ (x : Option Ty). OfSome core around.objects x y.value) (sym q.says.ty) typed in
      subst (λ (x : Option (Option Value)). MoveOk core ann around fs (take_slot f s x)) (sym y.is_value)
      (go_ok core ann needs around f fs r o.live o.set (o.goal ∷ r.held.wants) (slice_set f.slots s None) (y.value ∷ f.stack) f.tasks (length-set f.slots s None) (get_set_other f.slots s None 0 (not_zero s low))
      (within_trans o.set e.note.set_after r.held.set o.set_left (subst (λ (m : Mask). Within m r.held.set) (sym q.says.set) e.set))
      (emptied_ok s o.live (subst (λ (m : Mask). Within o.live m) q.says.live o.live_left))
      ((some_lower core ann needs around.objects e.note.ty o.goal.ty y.value o.fits some, λ h. no_this (nodes.Consume s) y.value is false_true (o.this h)), r.held.stack_ok) o.next)
