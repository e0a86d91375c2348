-- At a call the receiver's value is of the type that is noted at the receiver's node.
use Rattle.std.specs.Prelude.{◌≡◌, ℕ, List, [], ◌∷◌, Option, Some, slice_get}
use Rattle.std.proofs.{Common.{inl, inr, ap, sym, subst, ◌∙◌}, lemmas.Option.{same_Some, none-some}}
use Rattle.pc_heap.specs.{Objects.ObjectMap, declared.value.Value.Value, declared.value.Value.TheVariants.{Num, Truth, Text, Prim, At}}
use Rattle.pc_core.specs.{declared.declarations.EntityDef.EntityDef, declared.nodes.Node.Node, declared.nodes.NodeKind.NodeKind, CoreData.CoreData, Nodes.NamesPrimitive}
use Rattle.pc_core.specs.declared.nodes.NodeKind.TheVariants as nodes
use Rattle.pc_base.proofs.{Options.{bind_some, bind_is}, Gets.get_map}
use Rattle.pc_masks.specs.declared.mask.Mask.{Mask}
use Rattle.pc_ann.specs.{declared.annotation.Note.Note, declared.annotation.Ann.Ann}
use Rattle.pc_semantics.specs.{declared.actors.Actor.Actor, declared.frames.Frame.Frame, declared.frames.Task.Task, Configurations.{Configuration, start, value_entity}, Step.after}
use Rattle.pc_semantics.specs.declared.frames.Task.TheVariants as task
use Rattle.pc_rules.specs.Parts.{type_of, last_child}
use Rattle.pc_valid.specs.Words.{Ty}
use Rattle.pc_rules.proofs.{ByNumber.arguments, Derivations.to_valid}
use Rattle.pc_types.proofs.{Types.{OfKind, OfType, OfSome, Want, StackOk}, Tasks.{want_of, stacked, FinishOk, invokes, TasksOk}, Frames.{FrameOk, FramesOk}, Typed.{ActorOk, WellTyped}, Needs.Needs, Needed.needed, Notes.meets, Values.{top_is, own_no_trait}, InverseCalls.{CalledRule, TextRule, call_of}, Popped.{receiver_last, stacked_last}, InvokeTask.invokes_is, Steps.run_ok, AllTasks.keeps, Takes.takes, Starts.start_typed}
use Rattle.pc_sends.specs.{Held.{invoked, receiver_child, call_held as next_call, IsNoted, HeldAt}, Tables.noted_at}
use Rattle.pc_noted_receivers.specs.{Noted.noted_entities, Parts.{noted_in, noted_entity}, Laws.AcceptedHeld}

-- ---- entities

module _ (core : CoreData) (ann : Ann) (needs : Needs core ann) where
  -- The entity of a value is there.
  named : (e : ℕ) → NamesPrimitive core e → (x : EntityDef) × (slice_get core.entities e ≡ Some x)
  named e (inl zero) = (_, ap (slice_get core.entities) zero ∙ needs.formed.built_in.none)
  named e (inr other) = (other.1.0, other.1.1)

  own_there : (objects : ObjectMap) (d : ℕ) (v : Value) → OfKind core d v → value_entity objects v ≡ Some d → (x : EntityDef) × (slice_get core.entities d ≡ Some x)
  own_there objects d (Num n) k e = (_, ap (slice_get core.entities) (sym (same_Some 1 d e)) ∙ needs.formed.built_in.numbers)
  own_there objects d (Truth b) k e = (_, ap (slice_get core.entities) (sym (same_Some 2 d e)) ∙ needs.formed.built_in.truths)
  own_there objects d (Text s) k e = (_, ap (slice_get core.entities) (sym (same_Some 3 d e)) ∙ needs.formed.built_in.texts)
  own_there objects d (Prim p) k e = let x = named p k in (x.0, ap (slice_get core.entities) (sym (same_Some p d e)) ∙ x.1)
  own_there objects d (At a) k e = (k.0, k.1)

  -- ---- a value of the noted type

  note_entity : (r : ℕ) (ty : Ty) → type_of ann r ≡ Some ty → noted_at (noted_entities ann) r ≡ Some ty.0
  note_entity r ty e =
      let n = bind_some (slice_get ann.notes r) (λ (t : Note). t.ty) ty e in
      bind_is (slice_get (noted_entities ann) r) (λ (e : Option ℕ). e) (noted_in n.0) (get_map noted_in ann.notes r n.0 n.1) ∙ ap noted_entity n.2

  value_noted : (objects : ObjectMap) (r : ℕ) (ty : Ty) (v : Value) → type_of ann r ≡ Some ty → OfType core objects ty v → IsNoted core (noted_entities ann) objects r v
  value_noted objects r ty v e t =
      let x = own_there objects t.entity v t.kind t.is_entity in
      record {
        noted = ty.0;
        is_noted = note_entity r ty e;
        own = t.entity;
        is_own = t.is_entity;
        may_be = record { own = x.0; is_own = x.1; concrete = own_no_trait core ann needs objects t.entity x.0 v t.kind t.is_entity x.1; is_one = t.below };
      }

  -- ---- a call that is next

  -- The receiver of a call has a type.
  receiver_typed : (n : ℕ) (x : Node) (t : Note) (name r : ℕ) → slice_get core.nodes n ≡ Some x → slice_get ann.notes n ≡ Some t → x.kind ≡ nodes.Call name → last_child x.children ≡ Some r → (ty : Ty) × (type_of ann r ≡ Some ty)
  receiver_typed n x t name r at note is last =
      elim (call_of core ann x t (meets core ann needs n x t at note) name is) [
        | inl rule ↦ by_called rule.by
        | inr other ↦ elim other [ inl rule ↦ by_called rule.by | inr rule ↦ by_text rule ]
      ]
    where
      by_called : CalledRule core ann x name t → (ty : Ty) × (type_of ann r ≡ Some ty)
      by_called by = (by.receiver, subst (λ (c : ℕ). type_of ann c ≡ Some by.receiver) (same_Some by.last r (sym by.is_last ∙ last)) by.is_receiver)

      by_text : TextRule core ann x name t → (ty : Ty) × (type_of ann r ≡ Some ty)
      by_text rule = (rule.value, subst (λ (c : ℕ). type_of ann c ≡ Some rule.value) (same_Some rule.child r (sym (ap last_child rule.children) ∙ last)) rule.is_value)

  -- The stack's top is a value of the receiver's type.
  top_typed : (objects : ObjectMap) (this : Value) (cs : List ℕ) (r : ℕ) (ty : Ty) (below : List Want) (stack : List Value) (v : Value) → last_child cs ≡ Some r → type_of ann r ≡ Some ty → StackOk core objects this (stacked core ann cs below) stack → slice_get stack 0 ≡ Some v → OfType core objects ty v
  top_typed objects this cs r ty below stack v last typed ok at =
      let wants : stacked core ann cs below ≡ want_of core ann r ∷ stacked core ann (arguments cs) below =
      ap (λ (ds : List ℕ). stacked core ann ds below) (receiver_last cs r last) ∙ stacked_last core ann (arguments cs) r below
      in
      let top = top_is core objects this (want_of core ann r) (stacked core ann (arguments cs) below) stack (subst (λ (g : List Want). StackOk core objects this g stack) wants ok) in
      let same : top.top ≡ v = same_Some top.top v (sym (ap (λ (vs : List Value). slice_get vs 0) top.is) ∙ at) in
      subst (OfType core objects ty) same (subst (λ (o : Option Ty). OfSome core objects o top.top) typed top.answers.0)

  receiver_kind : (k : NodeKind) (name : ℕ) (cs : List ℕ) (r : ℕ) → k ≡ nodes.Call name → receiver_child k cs ≡ Some r
      → last_child cs ≡ Some r
  receiver_kind k name cs r is e = sym (ap (λ (q : NodeKind). receiver_child q cs) is) ∙ e

  finish_noted : (objects : ObjectMap) (m : ℕ) (l s : Mask) (g : List Want) (n : ℕ) (go : Mask → Mask → List Want → Type 0) (this : Value) (stack : List Value) (x : Node) (r : ℕ) (v : Value)
      → FinishOk core ann m l s g invokes n go → StackOk core objects this g stack
      → slice_get core.nodes n ≡ Some x → receiver_child x.kind x.children ≡ Some r → slice_get stack 0 ≡ Some v → IsNoted core (noted_entities ann) objects r v
  finish_noted objects m l s g n go this stack x r v e ok at receiver top =
      let same : x ≡ e.node = same_Some x e.node (sym at ∙ e.is_node) in
      let call = invokes_is e.node.kind e.kind in
      let last = receiver_kind e.node.kind call.0 e.node.children r call.1 (subst (λ (y : Node). receiver_child y.kind y.children ≡ Some r) same receiver) in
      let ty = receiver_typed n e.node e.note call.0 r e.is_node e.is_note call.1 last in
      value_noted objects r ty.0 v ty.1 (top_typed objects this e.node.children r ty.0 e.below stack v last ty.1 (subst (λ (ws : List Want). StackOk core objects this ws stack) e.stack ok) top)

  -- The first task is a call.
  tasks_noted : (objects : ObjectMap) (m : ℕ) (l s : Mask) (g : List Want) (this : Value) (stack : List Value) (ts : List Task) (n : ℕ) (x : Node) (r : ℕ) (v : Value) (t : Task)
      → TasksOk core ann m ts l s g → StackOk core objects this g stack → slice_get ts 0 ≡ Some t → invoked t ≡ Some n
      → slice_get core.nodes n ≡ Some x → receiver_child x.kind x.children ≡ Some r → slice_get stack 0 ≡ Some v → IsNoted core (noted_entities ann) objects r v
  tasks_noted objects m l s g this stack [] n x r v t k ok first is at receiver top = absurd k
  tasks_noted objects m l s g this stack (task.Invoke i ∷ ts) n x r v t k ok first is at receiver top =
      let same : i ≡ n = same_Some i n (ap invoked (same_Some (task.Invoke i) t first) ∙ is) in
      finish_noted objects m l s g i _ this stack x r v k ok (ap (slice_get core.nodes) same ∙ at) receiver top
  tasks_noted objects m l s g this stack (u ∷ ts) n x r v t k ok first is at receiver top = absurd (none-some n (ap invoked (same_Some u t first) ∙ is))

  frame_noted : (objects : ObjectMap) (f : Frame) (r : ℕ) (v : Value) → FrameOk core ann objects [] f → next_call core f ≡ Some (r, v) → IsNoted core (noted_entities ann) objects r v
  frame_noted objects f r v k e =
      let a = bind_some (slice_get f.tasks 0) _ (r, v) e in
      let b = bind_some (invoked a.0) _ (r, v) a.2 in
      let c = bind_some (slice_get core.nodes b.0) _ (r, v) b.2 in
      let d = bind_some (receiver_child c.0.kind c.0.children) _ (r, v) c.2 in
      let w = bind_some (slice_get f.stack 0) (λ (u : Value). Some (d.0, u)) (r, v) d.2 in
      let pair : (d.0, w.0) ≡ (r, v) = same_Some (d.0, w.0) (r, v) w.2 in
      subst (λ (p : ℕ × Value). IsNoted core (noted_entities ann) objects p.0 p.1) pair
      (tasks_noted objects f.method k.0.live k.0.set k.0.wants k.0.this f.stack f.tasks b.0 c.0 d.0 w.0 a.0 k.1 k.0.stack_ok a.1 b.1 c.1 d.1 w.1)

  frames_noted : (objects : ObjectMap) (i : ℕ) (fs : List Frame) (f : Frame) (r : ℕ) (v : Value) → FramesOk core ann objects i fs → slice_get fs 0 ≡ Some f → next_call core f ≡ Some (r, v) → IsNoted core (noted_entities ann) objects r v
  frames_noted objects i [] f r v k at e = absurd (none-some f at)
  frames_noted objects i (g ∷ fs) f r v k at e = subst (λ (h : Frame). next_call core h ≡ Some (r, v) → IsNoted core (noted_entities ann) objects r v) (same_Some g f at) (frame_noted objects g r v k.0) e

  actor_noted : (objects : ObjectMap) (i : ℕ) (a : Actor) (f : Frame) (r : ℕ) (v : Value) → ActorOk core ann objects i a → slice_get a.frames 0 ≡ Some f → next_call core f ≡ Some (r, v) → IsNoted core (noted_entities ann) objects r v
  actor_noted objects i a f r v (inl idle) at e = absurd (none-some f (sym (ap (λ (fs : List Frame). slice_get fs 0) idle.0) ∙ at))
  actor_noted objects i a f r v (inr runs) at e = frames_noted objects i a.frames f r v runs.0 at e

  held_at : (c : Configuration) → WellTyped core ann c → HeldAt core (noted_entities ann) c
  held_at c w i f r v runs e =
      let a = bind_some (slice_get c.actors i) (λ (b : Actor). slice_get b.frames 0) f runs in
      actor_noted c.objects i a.0 f r v (w.actors i a.0 a.1) a.2 e

-- ---- over every list

pub accepted_held : AcceptedHeld
accepted_held core ann formed valid list =
    let checks = to_valid core formed ann valid in
    let needs : Needs core ann = needed core formed ann checks in
    held_at core ann needs (after core list) (run_ok keeps takes core ann needs list (start core) (start_typed core ann formed checks))
