-- A class's object is made, and its constructor begins.
use Rattle.std.specs.{Prelude.{◌≡◌, ◌≢◌, ℕ, true, List, ◌∷◌, Some, length, slice_get, refl}, FinMap.insert}
use Rattle.std.proofs.{Common.{ap, sym, subst, ◌∙◌}, lemmas.Option.same_Some}
use Rattle.pc_core.specs.{declared.declarations.EntityDef.EntityDef, declared.declarations.Method.Method, declared.declarations.MethodKind.MethodKind, declared.nodes.Node.Node, declared.nodes.NodeKind.NodeKind, CoreData.CoreData, Methods.ResultFits, Nodes.NamesFit, Further.NamesMethod}
use Rattle.pc_heap.specs.{Objects.{ObjectMap, next_address, Object}, declared.value.Address.Address, declared.value.Value.Value, declared.value.Value.TheVariants.At}
use Rattle.pc_tree.specs.declared.kinds.EntityKind.TheVariants as kind
use Rattle.pc_caps.specs.declared.capability.Cap.TheVariants as cap
use Rattle.pc_core.specs.declared.declarations.MethodKind.TheVariants as method
use Rattle.pc_core.specs.declared.nodes.NodeKind.TheVariants as nodes
use Rattle.pc_tree.specs.Kinds.{may_have_fields}
use Rattle.pc_ann.specs.{declared.annotation.Note.Note, declared.annotation.Ann.Ann}
use Rattle.pc_semantics.specs.{declared.frames.Frame.Frame, Configurations.{blank_object, Around, Move, Makes, first_frame, with_stack}, Calls.make_task}
use Rattle.pc_semantics.specs.declared.frames.Task.TheVariants as task
use Rattle.pc_rules.specs.{Parts.{constructs, through}, Fields.is_this}
use Rattle.pc_valid.specs.Words.{before}
use Rattle.pc_base.proofs.Bools.{false_true}
use Rattle.pc_types.proofs.{Types.{Lower, Want, StackOk}, Tasks.{FinishOk, makes, TasksOk}, Frames.leaves, Moves.{MoveOk, Runs}, Needs.Needs, Basic.same_lower, Notes.meets, Begin.first_ok, Growth.{Extends, arguments_kept, wait_kept}, Heaps.fresh_extends, Made.next_free, InverseCalls.{MakesRule, result_of, new_of}, Popped.{Popped, popped_is, take_arguments}, Callers.{left_within, counts, class_of_new, class_no_trait, not_print, born_this, waits_ok}, Steps.Keeps}

pub makes_is : (k : NodeKind) → makes k ≡ true → (m : ℕ) × (k ≡ nodes.New m)
makes_is (nodes.New m) e = (m, refl)
makes_is k e = absurd (false_true e)

no_behaviour : method.New ≢ method.Be
no_behaviour e = cc

-- What a node that makes an object has: the class's constructor, with a body, and its arguments on the stack.
pub record Making (core : CoreData) (ann : Ann) (objects : ObjectMap) (this : Value) (below : List Want) (stack : List Value) (x : Node) (t : Note) (k : ℕ) : Type 0 where
  pub rule : MakesRule core ann x k t result_of
  pub new : rule.own.kind ≡ method.New
  pub receives : rule.own.receiver ≡ cap.Ref
  pub owner : EntityDef
  pub is_owner : slice_get core.entities rule.own.entity ≡ Some owner
  pub class : owner.kind ≡ kind.Class
  pub other : k ≢ 0
  pub body : ℕ
  pub has_body : rule.own.body ≡ Some body
  pub popped : Popped core objects this below stack (length x.children) rule.own.params

module _ (core : CoreData) (ann : Ann) (needs : Needs core ann) (around : Around) (f : Frame) (fs : List Frame) (r : Runs core ann around f fs) (n : ℕ) (e : FinishOk core ann f.method r.held.live r.held.set r.held.wants makes n (λ l s g. TasksOk core ann f.method f.tasks l s g)) (k : ℕ) (is : e.node.kind ≡ nodes.New k) where
  pub making : Making core ann around.objects r.held.this e.below f.stack e.node e.note k
  making =
      let rule = new_of core ann e.node e.note (meets core ann needs n e.node e.note e.is_node e.is_note) k is in
      let own = rule.own in
      let named : NamesMethod core method.New k = subst (NamesFit core e.node.method) is (needs.formed.nodes n e.node e.is_node).names in
      let new : own.kind ≡ method.New = ap (λ (g : Method). g.kind) (same_Some own named.0 (sym rule.is_own ∙ named.1)) ∙ named.2 in
      let fit = needs.formed.methods k own rule.is_own in
      let class = class_of_new own.kind fit.owner.kind new fit.placed in
      let other = not_print core ann needs k own method.New rule.is_own new no_behaviour in
      let body = needs.has_body k own fit.owner rule.is_own other fit.is_owner (class_no_trait fit.owner.kind class) in
      record {
        rule = rule;
        new = new;
        receives = (subst (λ (j : MethodKind). ResultFits j own) new fit.result_fits).0;
        owner = fit.owner;
        is_owner = fit.is_owner;
        class = class;
        other = other;
        body = body.0;
        has_body = body.1;
        popped = take_arguments core ann needs around.objects r.held.this e.node.children own.params e.below f.stack rule.goes (subst (λ (g : List Want). StackOk core around.objects r.held.this g f.stack) e.stack r.held.stack_ok);
      }

  -- The task's move, over any property of moves.
  pub make_move : (Holds : Move → Type 0) (q : Making core ann around.objects r.held.this e.below f.stack e.node e.note k)
      → Holds (Makes (next_address around.objects around.actor) (blank_object core q.rule.own.entity) (first_frame k q.rule.own (At (next_address around.objects around.actor)) q.popped.values q.body) (with_stack f q.popped.rest))
      → Holds (make_task core around f e.node.children (nodes.New k))
  make_move Holds q at =
      rw (popped_is core around.objects r.held.this e.below f.stack (length e.node.children) q.rule.own.params q.popped, q.rule.is_own, counts core around.objects q.popped.values q.rule.own.params q.popped.fit, q.has_body) at

  new_ok : MoveOk core ann around fs (make_task core around f e.node.children (nodes.New k))
  new_ok =
      let h : ObjectMap = around.objects in
      let q = making in
      let rule = q.rule in
      let own = rule.own in
      let masks = left_within (through ann e.node.children (before e.note)) e.behind rule.behind e.note.live_after e.note.set_after r.held.live r.held.set e.is_behind rule.is_behind rule.live rule.set e.live e.set in
      let a : Address = next_address h around.actor in
      let o : Object = blank_object core own.entity in
      let x : Extends h (insert h a o) = fresh_extends h a o (next_free core h around.actors around.actor r.objects) in
      let wait = waits_ok core ann needs around f fs r e.node e.note e.below e.follows q.popped.rest (λ t. false_true (sym (ap is_this is) ∙ t)) masks.0 masks.1 q.popped.ok k own (At a) rule.is_own (ap leaves q.new)
      (subst (Lower core (Some own.result)) (sym rule.ty_is) (same_lower core (Some own.result)))
      in
      make_move (MoveOk core ann around fs) q
      (record {
        address = refl;
        number = own.entity;
        blank = refl;
        entity = q.owner;
        is_entity = q.is_owner;
        class = q.class;
        frames = (
          first_ok core ann needs (insert h a o) k q.body own (At a) q.popped.values rule.is_own q.has_body q.other
              (born_this core h a own q.owner q.is_owner (ap may_have_fields q.class) (ap constructs q.new))
              (arguments_kept h (insert h a o) x core q.popped.values own.params q.popped.fit),
          wait_kept h (insert h a o) x core ann around.actor k (At a) (with_stack f q.popped.rest ∷ fs) wait,
        );
      })

pub keeps_make : (n : ℕ) → Keeps (task.Make n)
keeps_make n core ann needs around f fs r e =
    let k = makes_is e.node.kind e.kind in
    rw (e.is_node, k.1) (new_ok core ann needs around f fs r n e k.0 k.1)
