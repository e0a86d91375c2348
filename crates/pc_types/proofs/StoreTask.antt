-- The task Store: a definition or an assignment of a slot.
use Rattle.std.specs.Prelude.{◌≡◌, ◌⊎◌, ℕ, ◌+◌, ◌<◌, Bool, true, false, ◌&&◌, cond, List, [], ◌∷◌, length, Option, Some, None, slice_get, slice_set, refl}
use Rattle.std.proofs.{Common.{inl, inr, ap, sym, subst, ◌∙◌, length-set}, lemmas.Option.{same_Some, none-some}, lemmas.Bool.and_parts, lemmas.Bool.Decides.eqb_tells}
use Rattle.pc_heap.specs.declared.value.Value.{Value}
use Rattle.pc_base.proofs.{Gets.{get_set_same, get_set_other}, Options.{bind_some, kept}, Bools.false_true}
use Rattle.pc_caps.specs.{Tables.unalias, declared.capability.Cap.Cap}
use Rattle.pc_core.specs.{declared.declarations.Method.Method, declared.nodes.Node.Node, declared.nodes.NodeKind.NodeKind, declared.nodes.Slot.Slot, CoreData.CoreData, Nodes.NamesSlot}
use Rattle.pc_core.specs.declared.nodes.NodeKind.TheVariants as nodes
use Rattle.pc_masks.specs.{declared.mask.Mask.Mask, Masks.{IsInMask, has, with_number}, MaskLaws.with_number_bits}
use Rattle.pc_ann.specs.{declared.annotation.Note.Note, declared.annotation.Ann.Ann, declared.annotation.Rule.Rule}
use Rattle.pc_ann.specs.declared.annotation.Rule.TheVariants as rule
use Rattle.pc_semantics.specs.{declared.frames.Frame.Frame, Configurations.{Around, with_stack}, Parts.{value_or_none, held}, Calls.{store, store_task}}
use Rattle.pc_semantics.specs.declared.frames.Task.TheVariants as task
use Rattle.pc_rules.specs.{Parts.{goes_to, reachable, through, type_of, one_child}, Fields.is_this, Values.{same_place, defined_type, defines, is_var, old_value, assigns}, Rules.said_by}
use Rattle.pc_valid.specs.Words.{Ty, Masks, before}
use Rattle.pc_rules.proofs.{ByNumber.{slot_of, defined, assigned, define_says, assign_says, says}, OneRule.define_rule}
use Rattle.pc_types.proofs.{Types.{OfType, OfSome, held_in, StackOk}, Tasks.{Within, stores, FinishOk, TasksOk}, Frames.SlotsOk, Moves.{MoveOk, Runs}, Needs.Needs, Basic.{within_trans, of_lower, some_lower}, Notes.{slot_at, names_fit}, Begin.only_one, Steps.Keeps, Running.go_ok, Inverse.{Says, says_is}, EvalValue.not_zero, Places.{goes_lower, taken_lower}, Finish.{one_top, own_is, rule_is, at_this, typed_at, at_top}}

-- ---- what the rules state

-- The slot gets a value of its type, and the old value, if there is one, is of that type too.
pub record StoreRule (core : CoreData) (ann : Ann) (x : Node) (t : Note) (behind : Masks) (s : ℕ) : Type 0 where
  pub child : ℕ
  pub children : x.children ≡ child ∷ []
  pub value : Ty
  pub is_value : type_of ann child ≡ Some value
  pub slot : Slot × (ℕ × Cap)
  pub is_slot : slot_of core ann x.method s ≡ Some slot
  pub goes : goes_to core value slot.1 ≡ true
  pub old : Option Ty
  pub is_old : (old ≡ None) ⊎ ((has behind.0 s ≡ true) × (old ≡ Some (slot.1.0, unalias slot.1.1)))
  pub says : Says t old (with_number behind.0 s, behind.1)

some_or_none : (b : Bool) (v : Ty) → (cond b (Some v) None ≡ None) ⊎ ((b ≡ true) × (cond b (Some v) None ≡ Some v))
some_or_none true v = inr (refl, refl)
some_or_none false v = inl refl

module _ (core : CoreData) (ann : Ann) (x : Node) (t : Note) (behind : Masks) (is_behind : through ann x.children (before t) ≡ Some behind) (s : ℕ) where
  pub define_is : define_says core ann x s (before t) ≡ Some (said_by t) → StoreRule core ann x t behind s
  define_is e =
      let c = bind_some (one_child x.children) _ (said_by t) e in
      let v = bind_some (type_of ann c.0) _ (said_by t) c.2 in
      let i = bind_some (slot_of core ann x.method s) _ (said_by t) v.2 in
      let k = kept (defines core i.0 v.0) (defined ann x s (before t)) (said_by t) i.2 in
      let p = and_parts (same_place i.0.1 (defined_type i.0.0.written v.0)) (goes_to core v.0 i.0.1) k.0 in
      let n = bind_some (through ann x.children (before t)) _ (said_by t) k.1 in
      let is : n.0 ≡ behind = same_Some n.0 behind (sym n.1 ∙ is_behind) in
      record {
        child = c.0;
        children = only_one x.children c.0 c.1;
        value = v.0;
        is_value = v.1;
        slot = i.0;
        is_slot = i.1;
        goes = p.1;
        old = None;
        is_old = inl refl;
        says = subst (λ (m : Masks). Says t None (with_number m.0 s, m.1)) is (says_is t None (with_number n.0.0 s, n.0.1) n.2);
      }

  pub assign_is : assign_says core ann x s (before t) ≡ Some (said_by t) → StoreRule core ann x t behind s
  assign_is e =
      let c = bind_some (one_child x.children) _ (said_by t) e in
      let v = bind_some (type_of ann c.0) _ (said_by t) c.2 in
      let i = bind_some (slot_of core ann x.method s) _ (said_by t) v.2 in
      let k = kept (assigns core x i.0 v.0) (assigned ann x s i.0.1 (before t)) (said_by t) i.2 in
      let p = and_parts (is_var i.0.0.kind) (reachable x i.0 && goes_to core v.0 i.0.1) k.0 in
      let g = and_parts (reachable x i.0) (goes_to core v.0 i.0.1) p.1 in
      let n = bind_some (through ann x.children (before t)) _ (said_by t) k.1 in
      let is : n.0 ≡ behind = same_Some n.0 behind (sym n.1 ∙ is_behind) in
      record {
        child = c.0;
        children = only_one x.children c.0 c.1;
        value = v.0;
        is_value = v.1;
        slot = i.0;
        is_slot = i.1;
        goes = g.1;
        old = old_value s i.0.1 behind.0;
        is_old = some_or_none (has behind.0 s) (i.0.1.0, unalias i.0.1.1);
        says = subst (λ (m : Masks). Says t (old_value s i.0.1 m.0) (with_number m.0 s, m.1)) is (says_is t (old_value s i.0.1 n.0.0) (with_number n.0.0 s, n.0.1) n.2);
      }

  pub assign_rule : (r : Rule) → says core ann x (before t) r (nodes.Assign s) ≡ Some (said_by t) → StoreRule core ann x t behind s
  assign_rule rule.Assign e = assign_is e
  assign_rule r e = absurd (none-some (said_by t) e)

-- ---- the task

module _ (core : CoreData) (ann : Ann) (needs : Needs core ann) (around : Around) (f : Frame) (fs : List Frame) (r : Runs core ann around f fs) (n : ℕ) (e : FinishOk core ann f.method r.held.live r.held.set r.held.wants stores n (λ l s g. TasksOk core ann f.method f.tasks l s g)) where
  module _ (s : ℕ) (names : NamesSlot core e.node.method s) (q : StoreRule core ann e.node e.note e.behind s) where
    slot_type : slice_get ann.slots (r.held.own.first_slot + s) ≡ Some q.slot.1
    slot_type = slot_at core ann e.node.method s r.held.own q.slot (own_is core ann needs around f fs r stores n e) q.is_slot

    pub room : s < length f.slots
    room =
        let is : names.1.0 ≡ r.held.own = same_Some names.1.0 r.held.own (sym names.1.1 ∙ own_is core ann needs around f fs r stores n e) in
        subst (λ (k : ℕ). s < k) (sym r.held.room) (subst (λ (x : Method). s < x.slots) is names.1.2)

    -- The old value is of the type that the note states.
    pub old_ok : OfSome core around.objects q.old (value_or_none (held (slice_get f.slots s)))
    old_ok = elim q.is_old [
      | inl none ↦ subst (λ (o : Option Ty). OfSome core around.objects o (value_or_none (held (slice_get f.slots s)))) (sym none) tt
      | inr there ↦ let y = r.held.slots_ok s names.0 (e.live s there.0) in
          let is : y.1 ≡ q.slot.1 = same_Some y.1 q.slot.1 (sym y.3 ∙ slot_type) in
          let typed : OfType core around.objects (q.slot.1.0, unalias q.slot.1.1) y.0 = of_lower core ann needs around.objects (held_in q.slot.1) (q.slot.1.0, unalias q.slot.1.1) y.0 (taken_lower core q.slot.1) (subst (λ (p : ℕ × Cap). OfType core around.objects (held_in p) y.0) is y.4) in
          subst (λ (o : Option Ty). OfSome core around.objects o (value_or_none (held (slice_get f.slots s)))) (sym there.1)
          (subst (λ (o : Option (Option Value)). OfType core around.objects (q.slot.1.0, unalias q.slot.1.1) (value_or_none (held o))) (sym y.2) typed)
    ]

    -- The slot holds the value, and the other slots are unchanged.
    stored_ok : (v : Value) → OfType core around.objects (held_in q.slot.1) v → (live : Mask) → Within live (with_number e.behind.0 s) → SlotsOk core ann around.objects r.held.own live (slice_set f.slots s (Some v))
    stored_ok v typed live w i l b = elim (eqb_tells i s) [
      | inl p ↦ (v, q.slot.1, ap (slice_get (slice_set f.slots s (Some v))) p.1 ∙ get_set_same f.slots s (Some v) room, ap (λ (k : ℕ). slice_get ann.slots (r.held.own.first_slot + k)) p.1 ∙ slot_type, typed)
      | inr p ↦ let was : IsInMask e.behind.0 i = elim ((with_number_bits e.behind.0 s i).0 (w i b)) [ inl new ↦ absurd (p.1 new.0) | inr old ↦ old ] in
          let y = r.held.slots_ok i l (e.live i was) in
          (y.0, y.1, get_set_other f.slots s (Some v) i p.1 ∙ y.2, y.3, y.4)
    ]

    slot_ok : (k : NodeKind) → e.node.kind ≡ k → (is_this k ≡ true → ⊥) → (v : Value) (rest : List Value) → OfSome core around.objects (type_of ann q.child) v → StackOk core around.objects r.held.this e.below rest → MoveOk core ann around fs (store s v (with_stack f rest))
    slot_ok k is other v rest has ok =
        let o = e.follows in
        let typed : OfType core around.objects (held_in q.slot.1) v = of_lower core ann needs around.objects q.value (held_in q.slot.1) v (goes_lower core ann needs q.value q.slot.1 q.goes) (typed_at core ann around q.child q.value v q.is_value has) in
        let old : OfSome core around.objects e.note.ty (value_or_none (held (slice_get f.slots s))) = subst (λ (x : Option Ty). OfSome core around.objects x (value_or_none (held (slice_get f.slots s)))) (sym q.says.ty) old_ok in
        go_ok core ann needs around f fs r o.live o.set (o.goal ∷ e.below) (slice_set f.slots s (Some v)) (value_or_none (held (slice_get f.slots s)) ∷ rest) f.tasks (length-set f.slots s (Some v)) (get_set_other f.slots s (Some v) 0 (not_zero s names.0))
        (within_trans o.set e.note.set_after r.held.set o.set_left (subst (λ (m : Mask). Within m r.held.set) (sym q.says.set) e.set))
        (stored_ok v typed o.live (subst (λ (m : Mask). Within o.live m) q.says.live o.live_left))
        ((some_lower core ann needs around.objects e.note.ty o.goal.ty (value_or_none (held (slice_get f.slots s))) o.fits old, λ h. absurd (other (ap is_this (sym is) ∙ o.this h))), ok) o.next

  store_kind : (k : NodeKind) → e.node.kind ≡ k → stores k ≡ true → says core ann e.node (before e.note) e.note.rule k ≡ Some (said_by e.note) → MoveOk core ann around fs (store_task f k)
  store_kind (nodes.Define s) is h rule =
      let q = define_is core ann e.node e.note e.behind e.is_behind s (define_rule core ann e.node (before e.note) e.note.rule s (said_by e.note) rule) in
      let t = one_top core ann needs around f fs r stores n e q.child q.children in
      at_top (MoveOk core ann around fs) f t.top t.below (store s) t.is
      (slot_ok s (needs.defined_slot n s e.node e.is_node is) q (nodes.Define s) is false_true t.top t.below t.answers.0 t.ok)
  store_kind (nodes.Assign s) is h rule =
      let q = assign_rule core ann e.node e.note e.behind e.is_behind s e.note.rule rule in
      let t = one_top core ann needs around f fs r stores n e q.child q.children in
      at_top (MoveOk core ann around fs) f t.top t.below (store s) t.is
      (slot_ok s (names_fit core ann needs n e.node e.is_node (nodes.Assign s) is) q (nodes.Assign s) is false_true t.top t.below t.answers.0 t.ok)
  store_kind k is h rule = absurd (false_true h)

pub keeps_store : (n : ℕ) → Keeps (task.Store n)
keeps_store n core ann needs around f fs r e =
    at_this core ann needs around f fs r stores n e (λ x. store_task f x.kind)
    (store_kind core ann needs around f fs r n e e.node.kind refl e.kind (rule_is core ann needs around f fs r stores n e))
