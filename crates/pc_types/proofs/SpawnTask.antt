-- An actor is made, and its constructor's message waits.
use Rattle.std.specs.{Prelude.{◌≡◌, ◌≢◌, ℕ, ◌+◌, ◌<◌, true, List, Option, Some, length, slice_get, refl}, FinMap.insert}
use Rattle.std.proofs.{Common.{inl, ap, sym, subst, ◌∙◌, arith}, lemmas.Option.same_Some}
use Rattle.pc_heap.specs.{Objects.{ObjectMap, Object}, declared.value.Address.Address, declared.value.Value.Value, declared.value.Value.TheVariants.At}
use Rattle.pc_tree.specs.declared.kinds.EntityKind.TheVariants as kind
use Rattle.pc_caps.specs.declared.capability.Form.TheVariants as form
use Rattle.pc_core.specs.{declared.declarations.EntityDef.EntityDef, declared.declarations.Method.Method, declared.nodes.Node.Node, declared.nodes.NodeKind.NodeKind, CoreData.CoreData, Nodes.NamesFit, Further.NamesMethod}
use Rattle.pc_core.specs.declared.declarations.MethodKind.TheVariants as method
use Rattle.pc_core.specs.declared.nodes.NodeKind.TheVariants as nodes
use Rattle.pc_tree.specs.Kinds.{may_have_fields}
use Rattle.pc_ann.specs.{declared.annotation.Note.Note, declared.annotation.Ann.Ann}
use Rattle.pc_semantics.specs.{declared.frames.Frame.Frame, Configurations.{own_address, blank_object, Around, Move, Spawns, with_stack, pushed}, Calls.spawn_task}
use Rattle.pc_semantics.specs.declared.frames.Task.TheVariants as task
use Rattle.pc_rules.specs.{Parts.through, Fields.is_this}
use Rattle.pc_valid.specs.Words.{Ty, before}
use Rattle.pc_base.proofs.Bools.{false_true}
use Rattle.pc_types.proofs.{Types.{OfType, OfSome, Want, StackOk}, Tasks.{FinishOk, spawns, TasksOk}, Moves.{MoveOk, Runs}, Needs.Needs, Notes.meets, Growth.{Extends, class_is, stack_kept, arguments_kept, held_kept, wait_kept}, Heaps.{get_here, fresh_extends}, Made.{own_free, spawn_objects}, Running.push_ok, InverseCalls.{MakesRule, actor_of, spawn_of}, Popped.{Popped, popped_is, take_arguments}, Callers.{left_within, counts, actor_of_spawn, not_print}, Steps.Keeps}

pub spawns_is : (k : NodeKind) → spawns k ≡ true → (m : ℕ) × (k ≡ nodes.Spawn m)
spawns_is (nodes.Spawn m) e = (m, refl)
spawns_is k e = absurd (false_true e)

no_behaviour : method.Spawn ≢ method.Be
no_behaviour e = cc

pub one_more : (i n : ℕ) → i < n → i < n + 1
one_more i n l = omega (arith, l)

-- What a node that makes an actor has: the actor's constructor, and its arguments on the stack.
pub record Spawning (core : CoreData) (ann : Ann) (objects : ObjectMap) (this : Value) (below : List Want) (stack : List Value) (x : Node) (t : Note) (k : ℕ) : Type 0 where
  pub rule : MakesRule core ann x k t actor_of
  pub spawn : rule.own.kind ≡ method.Spawn
  pub owner : EntityDef
  pub is_owner : slice_get core.entities rule.own.entity ≡ Some owner
  pub actor : owner.kind ≡ kind.Actor
  pub other : rule.own.entity ≢ 5
  pub popped : Popped core objects this below stack (length x.children) rule.own.params

module _ (core : CoreData) (ann : Ann) (needs : Needs core ann) (around : Around) (f : Frame) (fs : List Frame) (r : Runs core ann around f fs) (n : ℕ) (e : FinishOk core ann f.method r.held.live r.held.set r.held.wants spawns n (λ l s g. TasksOk core ann f.method f.tasks l s g)) (k : ℕ) (is : e.node.kind ≡ nodes.Spawn k) where
  pub spawning : Spawning core ann around.objects r.held.this e.below f.stack e.node e.note k
  spawning =
      let rule = spawn_of core ann e.node e.note (meets core ann needs n e.node e.note e.is_node e.is_note) k is in
      let own = rule.own in
      let named : NamesMethod core method.Spawn k = subst (NamesFit core e.node.method) is (needs.formed.nodes n e.node e.is_node).names in
      let spawn : own.kind ≡ method.Spawn = ap (λ (g : Method). g.kind) (same_Some own named.0 (sym rule.is_own ∙ named.1)) ∙ named.2 in
      let fit = needs.formed.methods k own rule.is_own in
      record {
        rule = rule;
        spawn = spawn;
        owner = fit.owner;
        is_owner = fit.is_owner;
        actor = actor_of_spawn own.kind fit.owner.kind spawn fit.placed;
        other = λ five. not_print core ann needs k own method.Spawn rule.is_own spawn no_behaviour (needs.stream k own rule.is_own five);
        popped = take_arguments core ann needs around.objects r.held.this e.node.children own.params e.below f.stack rule.goes (subst (λ (g : List Want). StackOk core around.objects r.held.this g f.stack) e.stack r.held.stack_ok);
      }

  -- The task's move, over any property of moves.
  pub spawn_move : (Holds : Move → Type 0) (q : Spawning core ann around.objects r.held.this e.below f.stack e.node e.note k)
      → Holds (Spawns (blank_object core q.rule.own.entity) (record { method = k; arguments = q.popped.values }) (pushed (with_stack f q.popped.rest) (At (own_address around.actors))))
      → Holds (spawn_task core around f e.node.children (nodes.Spawn k))
  spawn_move Holds q at =
      rw (popped_is core around.objects r.held.this e.below f.stack (length e.node.children) q.rule.own.params q.popped, q.rule.is_own, counts core around.objects q.popped.values q.rule.own.params q.popped.fit) at

  -- The new actor's object is one of its entity.
  pub born_typed : (q : Spawning core ann around.objects r.held.this e.below f.stack e.node e.note k) → OfType core (insert around.objects (own_address around.actors) (blank_object core q.rule.own.entity)) (q.rule.own.entity, form.Tag) (At (own_address around.actors))
  born_typed q =
      let a : Address = own_address around.actors in
      let o : Object = blank_object core q.rule.own.entity in
      record {
        entity = q.rule.own.entity;
        is_entity = class_is (insert around.objects a o) a o (get_here around.objects a o);
        below = inl refl;
        kind = (q.owner, q.is_owner, ap may_have_fields q.actor);
        finished = λ t. absurd (false_true t);
      }

  spawn_ok : MoveOk core ann around fs (spawn_task core around f e.node.children (nodes.Spawn k))
  spawn_ok =
      let h : ObjectMap = around.objects in
      let q = spawning in
      let rule = q.rule in
      let own = rule.own in
      let masks = left_within (through ann e.node.children (before e.note)) e.behind rule.behind e.note.live_after e.note.set_after r.held.live r.held.set e.is_behind rule.is_behind rule.live rule.set e.live e.set in
      let a : Address = own_address around.actors in
      let o : Object = blank_object core own.entity in
      let new : ObjectMap = insert h a o in
      let x : Extends h new = fresh_extends h a o (own_free core h around.actors r.objects) in
      let later : Around = record { objects = new; actor = around.actor; actors = around.actors + 1 } in
      let there : Runs core ann later f fs = record {
        objects = spawn_objects core h around.actors own.entity q.owner r.objects q.is_owner q.actor q.other;
        here = one_more around.actor around.actors r.here;
        held = held_kept h new x core ann f.method f.slots f.stack r.held;
        wait = wait_kept h new x core ann around.actor f.method r.held.this fs r.wait;
      } in
      spawn_move (MoveOk core ann around fs) q
      (record {
        number = own.entity;
        blank = refl;
        entity = q.owner;
        is_entity = q.is_owner;
        actor = q.actor;
        other = q.other;
        message = record { own = own; is_own = rule.is_own; kind = q.spawn; home = class_is new a o (get_here h a o); arguments = arguments_kept h new x core q.popped.values own.params q.popped.fit };
        frames = push_ok core ann needs later f fs there e.node e.note e.below q.popped.rest (At a) e.follows masks.0 masks.1 (stack_kept h new x core r.held.this e.below q.popped.rest q.popped.ok)
            (subst (λ (t : Option Ty). OfSome core new t (At a)) (sym rule.ty_is) (born_typed q))
            (λ t. absurd (false_true (sym (ap is_this is) ∙ t)));
      })

pub keeps_spawn : (n : ℕ) → Keeps (task.Spawn n)
keeps_spawn n core ann needs around f fs r e =
    let k = spawns_is e.node.kind e.kind in
    rw (e.is_node, k.1) (spawn_ok core ann needs around f fs r n e k.0 k.1)
