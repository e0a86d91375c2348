-- A method ends, and leaves what the frame below waits for, or an object that has all its fields.
use Rattle.std.specs.Prelude.{◌≡◌, ℕ, true, false, List, [], ◌∷◌, Some, slice_get, refl}
use Rattle.std.proofs.{Common.{inl, ap, sym, subst, ◌∙◌}, lemmas.Option.same_Some}
use Rattle.pc_heap.specs.{Objects.ObjectMap, declared.value.Value.Value, declared.value.Value.TheVariants.At}
use Rattle.pc_core.specs.{declared.declarations.Method.Method, declared.declarations.MethodKind.MethodKind, CoreData.CoreData, Methods.ResultFits}
use Rattle.pc_core.specs.declared.declarations.MethodKind.TheVariants as method
use Rattle.pc_ann.specs.declared.annotation.Ann.{Ann}
use Rattle.pc_semantics.specs.{declared.frames.Frame.Frame, Configurations.{own_address, Around, value_entity}, Step.left, Calls.leave}
use Rattle.pc_semantics.specs.declared.frames.Task.TheVariants as task
use Rattle.pc_rules.specs.Parts.{constructs}
use Rattle.pc_base.proofs.Bools.{false_true}
use Rattle.pc_types.proofs.{Types.{Finished, OfKind, OfType, Lower, wanted, StackOk}, Tasks.ReturnOk, Frames.{leaves, LastOk, WaitOk, FramesOk}, Moves.{MoveOk, Runs}, Needs.Needs, Basic.some_lower, Values.top_is, Steps.Keeps, AllFields.all_set}

-- ---- the frames below

no_last : (objects : ObjectMap) (i : ℕ) (k : MethodKind) (this : Value) → leaves k ≡ true → LastOk objects i k this → ⊥
no_last objects i method.Fun this e l = l
no_last objects i method.New this e l = l
no_last objects i k this e l = false_true e

module _ (core : CoreData) (ann : Ann) (needs : Needs core ann) (around : Around) (f : Frame) (own : Method) (at : slice_get core.methods f.method ≡ Some own) (this : Value) where
  -- The frame below goes on with the value.
  value_left : (v : Value) (fs : List Frame) → WaitOk core ann around.objects around.actor f.method this fs → leaves own.kind ≡ true → OfType core around.objects own.result v → FramesOk core ann around.objects around.actor (left (Some v) fs)
  value_left v [] w gives typed = let is : own ≡ w.0 = same_Some own w.0 (sym at ∙ w.1) in absurd (no_last around.objects around.actor w.0.kind this (ap (λ (x : Method). leaves x.kind) (sym is) ∙ gives) w.2)
  value_left v (g ∷ gs) w gives typed =
      let is : w.0 ≡ own = same_Some w.0 own (sym w.1 ∙ at) in
      let low : Lower core (Some own.result) w.3 = subst (λ (x : Method). Lower core (Some x.result) w.3) is w.4 in
      let k = w.5.0 in (
        (
          record {
            own = k.own;
            is_own = k.is_own;
            room = k.room;
            this = k.this;
            is_this = k.is_this;
            live = k.live;
            set = k.set;
            this_ok = k.this_ok;
            slots_ok = k.slots_ok;
            wants = wanted w.3 ∷ k.wants;
            stack_ok = ((some_lower core ann needs around.objects (Some own.result) w.3 v low typed, λ h. absurd (false_true h)), k.stack_ok);
          },
          w.5.1,
        ),
        w.6,
      )

  -- There is no frame below, and the actor's object is finished.
  nothing_left : (fs : List Frame) → WaitOk core ann around.objects around.actor f.method this fs → leaves own.kind ≡ false → (LastOk around.objects around.actor own.kind this → Finished around.objects (At (own_address around.actor))) → FramesOk core ann around.objects around.actor fs
  nothing_left [] w none last = last (subst (λ (x : Method). LastOk around.objects around.actor x.kind this) (same_Some w.0 own (sym w.1 ∙ at)) w.2)
  nothing_left (g ∷ gs) w none last = absurd (false_true (sym none ∙ ap (λ (x : Method). leaves x.kind) (same_Some own w.0 (sym at ∙ w.1)) ∙ w.2))

-- ---- each kind of method

module _ (core : CoreData) (ann : Ann) (needs : Needs core ann) (around : Around) (f : Frame) (fs : List Frame) (r : Runs core ann around f fs) (e : ReturnOk core f.method r.held.set r.held.wants) where
  -- A constructor's object is finished.
  pub built : constructs e.own.kind ≡ true → Finished around.objects r.held.this
  built c =
      let is : e.own ≡ r.held.own = same_Some e.own r.held.own (sym e.is_own ∙ r.held.is_own) in
      all_set core ann needs around.objects around.actors r.held.set e.own.entity r.held.this r.objects
      (r.held.this_ok.fields (ap (λ (x : Method). constructs x.kind) (sym is) ∙ c))
      (subst (λ (x : Method). value_entity around.objects r.held.this ≡ Some x.entity) (sym is) r.held.this_ok.is_entity) (e.fields c)

  pub built_typed : e.own.kind ≡ method.New → OfType core around.objects e.own.result r.held.this
  built_typed is =
      let own : e.own ≡ r.held.own = same_Some e.own r.held.own (sym e.is_own ∙ r.held.is_own) in
      let fits : ResultFits method.New e.own = subst (λ (k : MethodKind). ResultFits k e.own) is (needs.formed.methods f.method e.own e.is_own).result_fits in
      let kept = subst (λ (x : Method). (value_entity around.objects r.held.this ≡ Some x.entity) × OfKind core x.entity r.held.this) (sym own) (r.held.this_ok.is_entity, r.held.this_ok.kind) in
      record { entity = e.own.entity; is_entity = kept.0; below = inl (sym fits.1); kind = kept.1; finished = λ s. built (ap constructs is) }

  leave_ok : (k : MethodKind) → e.own.kind ≡ k → MoveOk core ann around fs (leave f k)
  leave_ok method.Fun is =
      let v = e.result is in
      let top = top_is core around.objects r.held.this v.0 v.1 f.stack (subst (λ g. StackOk core around.objects r.held.this g f.stack) v.2 r.held.stack_ok) in
      rw top.is (value_left core ann needs around f e.own e.is_own r.held.this top.top fs r.wait (ap leaves is) (some_lower core ann needs around.objects v.0.ty (Some e.own.result) top.top v.3 top.answers.0))
  leave_ok method.New is = rw r.held.is_this (value_left core ann needs around f e.own e.is_own r.held.this r.held.this fs r.wait (ap leaves is) (built_typed is))
  leave_ok method.Be is = nothing_left core ann needs around f e.own e.is_own r.held.this fs r.wait (ap leaves is) (λ l. subst (λ (k : MethodKind). LastOk around.objects around.actor k r.held.this) is l)
  leave_ok method.Spawn is =
      nothing_left core ann needs around f e.own e.is_own r.held.this fs r.wait (ap leaves is)
      (λ l. subst (Finished around.objects) (subst (λ (k : MethodKind). LastOk around.objects around.actor k r.held.this) is l) (built (ap constructs is)))

pub keeps_return : Keeps task.Return
keeps_return core ann needs around f fs r e = rw e.is_own (leave_ok core ann needs around f fs r e e.own.kind refl)
