-- A call by the receiver's own entity: a function begins, a behaviour's message is sent, and `string` gives a text.
use Rattle.std.specs.Prelude.{◌≡◌, ◌≢◌, ℕ, ◌+◌, ◌-◌, ◌<◌, true, List, ◌∷◌, Option, Some, None, length, slice_get, decimal, refl}
use Rattle.std.proofs.{Common.{inl, inr, ap, sym, subst, ◌∙◌, arith}, lemmas.Option.same_Some, lemmas.Bool.{eq-eqb, lt-ltb}}
use Rattle.pc_heap.specs.{Objects.{ObjectMap, class_at}, declared.value.Address.Address, declared.value.Value.Value, declared.value.Value.TheVariants.Text}
use Rattle.pc_caps.specs.declared.capability.Form.TheVariants as form
use Rattle.pc_tree.specs.declared.kinds.EntityKind.TheVariants as kind
use Rattle.pc_core.specs.{declared.declarations.EntityDef.EntityDef, declared.declarations.Method.Method, declared.nodes.NodeKind.NodeKind, CoreData.{CoreData, own_methods, method_named}, Parts.method_name}
use Rattle.pc_core.specs.declared.declarations.MethodKind.TheVariants as method
use Rattle.pc_core.specs.declared.nodes.NodeKind.TheVariants as nodes
use Rattle.pc_tree.specs.Kinds.{may_have_fields}
use Rattle.pc_base.specs.Lists.{place_of}
use Rattle.pc_base.proofs.{Options.bind_some, Lookup.place_found, Gets.get_range, Bools.false_true}
use Rattle.pc_ann.specs.declared.annotation.Ann.{Ann}
use Rattle.pc_semantics.specs.{declared.frames.Frame.Frame, Configurations.{own_address, Around, none, value_entity}, Calls.invoke_task, Parts.truth_text}
use Rattle.pc_semantics.specs.declared.frames.Task.TheVariants as task
use Rattle.pc_rules.specs.{Parts.{through, constructs}, Control.start_set, Fields.is_this}
use Rattle.pc_valid.specs.Words.{Ty, before}
use Rattle.pc_rules.proofs.ByNumber.{arguments}
use Rattle.pc_types.proofs.{Types.{OfKind, OfType, OfSome, ArgumentsOk, LowerType, Want, StackOk}, Tasks.{want_of, stacked, FinishOk, invokes, TasksOk}, Frames.{ThisOk, leaves}, Typed.ObjectsOk, Moves.{MoveOk, Runs}, Needs.{Declared, Needs}, Basic.trans_lower, Notes.meets, Tables.{unalias_sees, order_sees}, Values.{top_is, is_number, is_truth, is_address, own_no_trait}, Begin.first_ok, Growth.object_of, Running.push_ok, InverseCalls.{CalledRule, FunctionRule, SendRule, TextRule, call_of}, Popped.{Popped, popped_is, take_arguments, arguments_lower, receiver_last, arguments_count, stacked_last}, Callers.{left_within, counts, actor_of_be, not_print, waits_ok}, Steps.Keeps}

pub invokes_is : (k : NodeKind) → invokes k ≡ true → (name : ℕ) × (k ≡ nodes.Call name)
invokes_is (nodes.Call name) e = (name, refl)
invokes_is k e = absurd (false_true e)

pub no_behaviour : method.Fun ≢ method.Be
no_behaviour e = cc

-- An entity without methods has none of this name.
pub no_method : (core : CoreData) (d name : ℕ) (x : EntityDef) → slice_get core.entities d ≡ Some x → x.methods ≡ 0 → (o : Option ℕ) → method_named core d name ≡ o → o ≡ None
no_method core d name x at empty None e = refl
no_method core d name x at empty (Some k) e =
    let a = bind_some (slice_get core.entities d) (λ (z : EntityDef). place_of method_name name (own_methods core z) z.first_method) k e in
    let p = place_found method_name name (own_methods core a.0) a.0.first_method k a.2 in
    let l = (get_range core.methods a.0.first_method (a.0.first_method + a.0.methods) p.0 p.1 p.3).0 in
    let few : a.0.methods ≡ 0 = ap (λ (z : EntityDef). z.methods) (same_Some a.0 x (sym a.1 ∙ at)) ∙ empty in
    absurd (omega (arith, l, few))

-- An actor's object is the first of its maker, which is one of the actors.
pub actor_place : (core : CoreData) (objects : ObjectMap) (count : ℕ) (a : Address) (d : ℕ) (x : EntityDef) → ObjectsOk core objects count → class_at objects a ≡ Some d → slice_get core.entities d ≡ Some x → x.kind ≡ kind.Actor → (a.maker < count) × (a.serial ≡ 0)
actor_place core objects count a d x ok class at actor =
    let o = object_of objects a d class in
    let place = (ok.each a o.0 o.1).1 in
    (place.maker, place.first x (ap (slice_get core.entities) o.2 ∙ at) actor)

-- The receiver and the arguments of a call, and the method that the receiver's own entity has of the name.
pub record Received (core : CoreData) (objects : ObjectMap) (own : Value) (below : List Want) (vs : List Value) (count name : ℕ) (ty : Ty) (by : Method) : Type 0 where
  pub this : Value
  pub under : List Value
  pub is : vs ≡ this ∷ under
  pub typed : OfType core objects ty this
  pub popped : Popped core objects own below under count by.params
  pub found : Declared core typed.entity name by
  pub fit : ArgumentsOk core objects popped.values found.own.params

module _ (core : CoreData) (ann : Ann) (needs : Needs core ann) (around : Around) (f : Frame) (fs : List Frame) (r : Runs core ann around f fs) (n : ℕ) (e : FinishOk core ann f.method r.held.live r.held.set r.held.wants invokes n (λ l s g. TasksOk core ann f.method f.tasks l s g)) (name : ℕ) (is_call : e.node.kind ≡ nodes.Call name) where
  not_this : is_this e.node.kind ≡ true → ⊥
  not_this t = false_true (sym (ap is_this is_call) ∙ t)

  pub received : (by : CalledRule core ann e.node name e.note) → Received core around.objects r.held.this e.below f.stack (length e.node.children - 1) name by.receiver by.own
  received by =
      let h : ObjectMap = around.objects in
      let cs : List ℕ = arguments e.node.children in
      let wants : r.held.wants ≡ want_of core ann by.last ∷ stacked core ann cs e.below =
      e.stack ∙ ap (λ (ds : List ℕ). stacked core ann ds e.below) (receiver_last e.node.children by.last by.is_last) ∙ stacked_last core ann cs by.last e.below
      in
      let top = top_is core h r.held.this (want_of core ann by.last) (stacked core ann cs e.below) f.stack (subst (λ (g : List Want). StackOk core h r.held.this g f.stack) wants r.held.stack_ok) in
      let typed : OfType core h by.receiver top.top = subst (λ (t : Option Ty). OfSome core h t top.top) by.is_receiver top.answers.0 in
      let popped = subst (λ (k : ℕ). Popped core h r.held.this e.below top.below k by.own.params) (arguments_count e.node.children by.last by.is_last)
      (take_arguments core ann needs h r.held.this cs by.own.params e.below top.below by.goes top.ok)
      in
      let found = needs.declared typed.entity by.receiver.0 name by.number by.own typed.below by.is_number by.is_own in
      record {
        this = top.top;
        under = top.below;
        is = top.is;
        typed = typed;
        popped = popped;
        found = found;
        fit = arguments_lower core ann needs h popped.values by.own.params found.own.params found.stands.count found.stands.params popped.fit;
      }

  -- ---- a function

  function_ok : FunctionRule core ann e.node name e.note → MoveOk core ann around fs (invoke_task core around f e.node.children (nodes.Call name))
  function_ok rule =
      let h : ObjectMap = around.objects in
      let by = rule.by in
      let c = received by in
      let own = c.found.own in
      let fun : own.kind ≡ method.Fun = c.found.kind ∙ rule.kind in
      let other = not_print core ann needs c.found.number own method.Fun c.found.is_own fun no_behaviour in
      let owner = needs.formed.methods c.found.number own c.found.is_own in
      let kind : OfKind core own.entity c.this = subst (λ (d : ℕ). OfKind core d c.this) (sym c.found.entity) c.typed.kind in
      let is_entity = c.typed.is_entity ∙ ap Some (sym c.found.entity) in
      let body = needs.has_body c.found.number own owner.owner c.found.is_own other owner.is_owner (own_no_trait core ann needs h own.entity owner.owner c.this kind is_entity owner.is_owner) in
      let masks = left_within (through ann e.node.children (before e.note)) e.behind by.behind e.note.live_after e.note.set_after r.held.live r.held.set e.is_behind by.is_behind by.live by.set e.live e.set in
      let low : LowerType core own.result by.own.result = (needs.under own.result.0 by.own.result.0 (inl c.found.stands.entity), order_sees own.result.1 by.own.result.1 c.found.stands.form) in
      let this_ok : ThisOk core h own (start_set core own) c.this = record {
        is_entity = is_entity;
        kind = kind;
        finished = λ k s. c.typed.finished (rule.receiver (sym (unalias_sees by.own.receiver) ∙ order_sees _ _ c.found.stands.receiver (unalias_sees own.receiver ∙ s)));
        fields = λ k. absurd (false_true (sym (ap constructs fun) ∙ k));
      } in
      rw (c.is, popped_is core h r.held.this e.below c.under (length e.node.children - 1) by.own.params c.popped, c.typed.is_entity, c.found.found, c.found.is_own, fun, counts core h c.popped.values own.params c.fit, body.1) (
        first_ok core ann needs h c.found.number body.0 own c.this c.popped.values c.found.is_own body.1 other this_ok c.fit,
        waits_ok core ann needs around f fs r e.node e.note e.below e.follows c.popped.rest not_this masks.0 masks.1 c.popped.ok c.found.number own c.this c.found.is_own (ap leaves fun)
            (trans_lower core ann needs (Some own.result) (Some by.own.result) e.note.ty low rule.result),
      )

  -- ---- a behaviour

  pub none_typed : OfType core around.objects (0, form.Val) none
  none_typed = record { entity = 0; is_entity = refl; below = inl refl; kind = inl refl; finished = λ s. tt }

  send_ok : SendRule core ann e.node name e.note → MoveOk core ann around fs (invoke_task core around f e.node.children (nodes.Call name))
  send_ok rule =
      let h : ObjectMap = around.objects in
      let by = rule.by in
      let c = received by in
      let own = c.found.own in
      let be : own.kind ≡ method.Be = c.found.kind ∙ rule.kind in
      let owner = needs.formed.methods c.found.number own c.found.is_own in
      let kind : OfKind core own.entity c.this = subst (λ (d : ℕ). OfKind core d c.this) (sym c.found.entity) c.typed.kind in
      let is_entity = c.typed.is_entity ∙ ap Some (sym c.found.entity) in
      let actor = actor_of_be own.kind owner.owner.kind be owner.placed (own_no_trait core ann needs h own.entity owner.owner c.this kind is_entity owner.is_owner) in
      let at = is_address core ann needs h own.entity owner.owner c.this kind is_entity owner.is_owner (ap may_have_fields actor) in
      let a : Address = at.0 in
      let class : class_at h a ≡ Some own.entity = subst (λ (v : Value). value_entity h v ≡ Some own.entity) at.1 is_entity in
      let place = actor_place core h around.actors a own.entity owner.owner r.objects class owner.is_owner actor in
      let there : a.maker < around.actors = place.0 in
      let serial : a.serial ≡ 0 = place.1 in
      let home : class_at h (own_address a.maker) ≡ Some own.entity = ap (λ (k : ℕ). class_at h (record { maker = a.maker; serial = k })) (sym serial) ∙ class in
      let masks = left_within (through ann e.node.children (before e.note)) e.behind by.behind e.note.live_after e.note.set_after r.held.live r.held.set e.is_behind by.is_behind by.live by.set e.live e.set in
      rw (c.is, popped_is core h r.held.this e.below c.under (length e.node.children - 1) by.own.params c.popped, c.typed.is_entity, c.found.found, c.found.is_own, be, at.1, eq-eqb a.serial 0 serial, lt-ltb a.maker around.actors there, counts core h c.popped.values own.params c.fit) (
        there,
        record { own = own; is_own = c.found.is_own; kind = be; home = home; arguments = c.fit },
        push_ok core ann needs around f fs r e.node e.note e.below c.popped.rest none e.follows masks.0 masks.1 c.popped.ok
            (subst (λ (t : Option Ty). OfSome core h t none) (sym rule.ty) none_typed) (λ t. absurd (not_this t)),
      )

  -- ---- a text

  pub text_typed : (s : List ℕ) → OfType core around.objects (3, form.Val) (Text s)
  text_typed s = record { entity = 3; is_entity = refl; below = inl refl; kind = tt; finished = λ s. tt }

  text_ok : TextRule core ann e.node name e.note → MoveOk core ann around fs (invoke_task core around f e.node.children (nodes.Call name))
  text_ok rule =
      let h : ObjectMap = around.objects in
      let wants : r.held.wants ≡ want_of core ann rule.child ∷ e.below = e.stack ∙ ap (λ (ds : List ℕ). stacked core ann ds e.below) rule.children in
      let top = top_is core h r.held.this (want_of core ann rule.child) e.below f.stack (subst (λ (g : List Want). StackOk core h r.held.this g f.stack) wants r.held.stack_ok) in
      let typed : OfType core h rule.value top.top = subst (λ (t : Option Ty). OfSome core h t top.top) rule.is_value top.answers.0 in
      let masks = left_within (through ann e.node.children (before e.note)) e.behind rule.behind e.note.live_after e.note.set_after r.held.live r.held.set e.is_behind rule.is_behind rule.live rule.set e.live e.set in
      let pushes = λ (s : List ℕ). push_ok core ann needs around f fs r e.node e.note e.below top.below (Text s) e.follows masks.0 masks.1 top.ok
      (subst (λ (t : Option Ty). OfSome core h t (Text s)) (sym rule.ty) (text_typed s)) (λ t. absurd (not_this t))
      in
      elim rule.shown [
        | inl one ↦ let v = is_number core ann needs h rule.value.1 top.top (subst (λ (d : ℕ). OfType core h (d, rule.value.1) top.top) one typed) in
            rw (rule.children, top.is, v.1, no_method core 1 name _ needs.formed.built_in.numbers refl (method_named core 1 name) refl, rule.named) (pushes (decimal v.0))
        | inr two ↦ let v = is_truth core ann needs h rule.value.1 top.top (subst (λ (d : ℕ). OfType core h (d, rule.value.1) top.top) two typed) in
            rw (rule.children, top.is, v.1, no_method core 2 name _ needs.formed.built_in.truths refl (method_named core 2 name) refl, rule.named) (pushes (truth_text v.0))
      ]

  invoke_ok : MoveOk core ann around fs (invoke_task core around f e.node.children (nodes.Call name))
  invoke_ok =
      elim (call_of core ann e.node e.note (meets core ann needs n e.node e.note e.is_node e.is_note) name is_call) [
        | inl rule ↦ function_ok rule
        | inr more ↦ elim more [ inl rule ↦ send_ok rule | inr rule ↦ text_ok rule ]
      ]

pub keeps_invoke : (n : ℕ) → Keeps (task.Invoke n)
keeps_invoke n core ann needs around f fs r e =
    let k = invokes_is e.node.kind e.kind in
    rw (e.is_node, k.1) (invoke_ok core ann needs around f fs r n e k.0 k.1)
