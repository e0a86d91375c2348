-- The task Invoke, by regions: a function begins, a message is sent, or a text is pushed.
use Rattle.std.specs.Prelude.{◌≡◌, ℕ, ◌+◌, ◌-◌, ◌<◌, ◌≤◌, true, List, ◌∷◌, length, Option, Some, None, decimal, refl}
use Rattle.std.proofs.{Common.{inl, inr, ap, sym, subst, ◌∙◌, arith}, lemmas.Bool.{eq-eqb, lt-ltb}}
use Rattle.pc_heap.specs.{Objects.{ObjectMap, class_at}, declared.value.Address.Address, declared.value.Value.Value, declared.value.Value.TheVariants.Text}
use Rattle.pc_caps.specs.Tables.{unalias, sendable}
use Rattle.pc_caps.specs.declared.capability.Form.TheVariants as form
use Rattle.pc_core.specs.{declared.declarations.MethodKind.MethodKind, CoreData.{CoreData, method_named}}
use Rattle.pc_core.specs.declared.declarations.MethodKind.TheVariants as method
use Rattle.pc_core.specs.declared.nodes.NodeKind.TheVariants as nodes
use Rattle.pc_tree.specs.Kinds.{may_have_fields}
use Rattle.pc_base.specs.Lists.{Each}
use Rattle.pc_masks.specs.declared.mask.Mask.{Mask}
use Rattle.pc_ann.specs.declared.annotation.Ann.{Ann}
use Rattle.pc_semantics.specs.{declared.frames.Frame.Frame, Configurations.{Around, none, value_entity}, Calls.invoke_task, Parts.truth_text}
use Rattle.pc_semantics.specs.declared.frames.Task.TheVariants as task
use Rattle.pc_sub.specs.Declarations.{takes_sendable}
use Rattle.pc_rules.specs.Parts.{through, type_of}
use Rattle.pc_valid.specs.Words.{Ty, Masks, before}
use Rattle.pc_rules.proofs.ByNumber.{arguments}
use Rattle.pc_types.proofs.{Types.{OfKind, OfType, OfSome, Want, StackOk}, Tasks.{want_of, stacked, FinishOk, invokes, TasksOk}, Moves.Runs, Needs.Needs, Notes.meets, Values.{top_is, is_number, is_truth, is_address, own_no_trait}, InverseCalls.{SendRule, TextRule}, Popped.popped_is, Callers.{counts, actor_of_be}, InvokeTask.{invokes_is, actor_place, no_method, none_typed, text_typed}}
use Rattle.pc_regions.proofs.{World.{InMail, OnStack, World, Fits, FitsSome, Alias, AliasSome}, StackForms.{Entry, FinishRises, TasksRise, piled}, Fitting.StackFits, MoveFits.{Turned, Situated, RegionMoveOk}, Settled.SettleLaw, Climbed.ClimbLaw, ContextLaws.LentLaw, Schedules.KeepsRegions, CallForms.call_forms, Arguments.stands_below, FirstFrame.message_fits, Calm.calm_same, ArgumentsSettle.{sent_form, from_place, pass_all}, CallerKept.{live_left, follows_at, others_on, pushes_on}, Rising.{Pushes, rise, others_sent}, MessageSent.{mailed, fits_on, others_mailed, pushes_mailed}, FunctionCall.{here, Calls, calls, stands, call_ok, lend_ok}}

module _ (settle : SettleLaw) (core : CoreData) (climb : ClimbLaw core) (ann : Ann) (needs : Needs core ann) (around : Around) (f : Frame) (fs : List Frame) (r : Runs core ann around f fs) (n : ℕ)
    (e : FinishOk core ann f.method r.held.live r.held.set r.held.wants invokes n (λ l s g. TasksOk core ann f.method f.tasks l s g)) (w : World) (s : Situated core ann w around f (task.Invoke n ∷ f.tasks) fs)
    (g : FinishRises core ann f.method s.active.depth s.active.holds.live s.active.holds.entries invokes n (λ d l st. TasksRise core ann f.method f.tasks d l st)) (name : ℕ) (is_call : g.node.kind ≡ nodes.Call name) where
  -- A value that is not an address is pushed in this world.
  pushes_plain : (u : World) (rest : List Value) (v : Value) (t : Ty) → Pushes core ann u around.objects around.actors around.actor f.method s.active.holds.base s.active.depth s.active.holds.live g.below f.slots rest fs → (behind : Masks) → through ann g.node.children (before g.note) ≡ Some behind → g.note.live_after ≡ behind.0
      → g.note.ty ≡ Some t → OfType core around.objects t v → Fits u (OnStack around.actor (length fs) (length rest) (s.active.holds.base + s.active.depth)) t.1 v → Alias u around.actor s.active.holds.base (s.active.holds.base + s.active.depth) t.1 v
      → (w' : World) × Turned core ann u w' around.actor around.actors None around.objects around.actors (record { method = f.method; slots = f.slots; stack = v ∷ rest; tasks = f.tasks } ∷ fs)
  pushes_plain u rest v t p behind is left ty typed fits alias =
      let go = λ (d : ℕ) (l : Mask) (st : List Entry). TasksRise core ann f.method f.tasks d l st in
      rise core ann climb around.objects around.actors around.actor f.method s.active.holds.base s.active.depth s.active.holds.live g.below f.slots rest fs u p g.note.live_after g.note.ty v f.tasks
      (live_left core ann around f fs (task.Invoke n ∷ f.tasks) w s invokes n go g behind is left)
      (subst (λ (o : Option Ty). OfSome core around.objects o v) (sym ty) typed)
      (subst (λ (o : Option Ty). FitsSome u (OnStack around.actor (length fs) (length rest) (s.active.holds.base + s.active.depth)) o v) (sym ty) fits)
      (subst (λ (o : Option Ty). AliasSome u around.actor s.active.holds.base (s.active.holds.base + s.active.depth) o v) (sym ty) alias)
      (follows_at core ann around f fs (task.Invoke n ∷ f.tasks) w s invokes n go g)

  -- ---- a message

  send_ok : SendRule core ann g.node name g.note → RegionMoveOk core ann w around fs (invoke_task core around f g.node.children (nodes.Call name))
  send_ok rule =
      let h : ObjectMap = around.objects in
      let i : ℕ = around.actor in
      let by = rule.by in
      let c : Calls settle core ann needs around f fs r n e w s g name is_call by = calls settle core ann needs around f fs r n e w s g name is_call by in
      let own = c.found.own in
      let be : own.kind ≡ method.Be = c.found.kind ∙ rule.kind in
      let owner = needs.formed.methods c.found.number own c.found.is_own in
      let kind : OfKind core own.entity c.this = subst (λ (d : ℕ). OfKind core d c.this) (sym c.found.entity) c.typed.kind in
      let is_entity = c.typed.is_entity ∙ ap Some (sym c.found.entity) in
      let actor = actor_of_be own.kind owner.owner.kind be owner.placed (own_no_trait core ann needs h own.entity owner.owner c.this kind is_entity owner.is_owner) in
      let at = is_address core ann needs h own.entity owner.owner c.this kind is_entity owner.is_owner (ap may_have_fields actor) in
      let a : Address = at.0 in
      let class : class_at h a ≡ Some own.entity = subst (λ (v : Value). value_entity h v ≡ Some own.entity) at.1 is_entity in
      let place = actor_place core h around.actors a own.entity owner.owner r.objects class owner.is_owner actor in
      let there : a.maker < around.actors = place.0 in
      let serial : a.serial ≡ 0 = place.1 in
      let m : ℕ = length c.popped.rest in
      let st = stands settle core ann needs around f fs r n e w s g name is_call by c in
      let sent : Each (λ k p. sendable p.cap ≡ true) own.params = needs.valid.declarations.sendable c.found.number own c.found.is_own (ap (λ (k : MethodKind). takes_sendable k own.result.1) be) in
      let lv : ℕ = s.active.holds.base + s.active.depth in
      let low : lv ≤ lv = omega arith in
      let all = pass_all core ann settle h around.actors i (length fs) lv lv s.here low w s.world (sym s.active.last) m (λ k. InMail a.maker (w.sent a.maker) k)
      (arguments g.node.children) by.own.params own.params c.popped.values by.goes c.found.stands.count (λ k p b q z. stands_below core p q (c.found.stands.params k p b q z)) st.stand
      (λ u t k q z d. sent_form q.cap (sent k q z)) (λ k d. refl) (inr (inl sent))
      in
      let go = λ (d : ℕ) (l : Mask) (es : List Entry). TasksRise core ann f.method f.tasks d l es in
      let p = pushes_on core ann around f fs (task.Invoke n ∷ f.tasks) w s invokes n go g all.world m all.calm.shifts (all.calm.top i) c.popped.rest (omega arith) st.fits in
      let u : World = mailed all.world a.maker in
      let up = pushes_plain u c.popped.rest none (0, form.Val)
      (pushes_mailed all.world a.maker core ann h around.actors i f.method s.active.holds.base s.active.depth s.active.holds.live g.below f.slots c.popped.rest fs p)
      by.behind by.is_behind by.live rule.ty (none_typed core ann needs around f fs r n (here settle core ann needs around f fs r n e w s g name is_call) name is_call) tt tt
      in
      let arrived = message_fits core all.world a.maker (w.sent a.maker) c.found.number own c.popped.values c.found.is_own all.fit in
      rw (c.is, popped_is core h r.held.this e.below c.under (length g.node.children - 1) by.own.params c.popped, c.typed.is_entity, c.found.found, c.found.is_own, be, at.1, eq-eqb a.serial 0 serial, lt-ltb a.maker around.actors there, counts core h c.popped.values own.params c.fit) (
        there,
        up.0,
        record {
          world = up.1.world;
          fields = up.1.fields;
          others = others_sent w all.world u up.0 i around.actors a.maker
              (others_on core ann around f fs (task.Invoke n ∷ f.tasks) w s invokes n go g all.world m all.calm.shifts)
              (others_mailed all.world a.maker i around.actors) up.1.others;
          frames = up.1.frames;
        },
        λ x k q v b d z. up.1.others.fits (InMail a.maker (w.sent a.maker) k) (unalias q.cap) v refl refl (fits_on all.world a.maker (InMail a.maker (w.sent a.maker) k) (unalias q.cap) v (arrived x k q v b d z)),
      )

  -- ---- a text

  text_ok : TextRule core ann g.node name g.note → RegionMoveOk core ann w around fs (invoke_task core around f g.node.children (nodes.Call name))
  text_ok rule =
      let h : ObjectMap = around.objects in
      let me = here settle core ann needs around f fs r n e w s g name is_call in
      let wants : r.held.wants ≡ want_of core ann rule.child ∷ e.below = me.stack ∙ ap (λ (ds : List ℕ). stacked core ann ds e.below) rule.children in
      let top = top_is core h r.held.this (want_of core ann rule.child) e.below f.stack (subst (λ (x : List Want). StackOk core h r.held.this x f.stack) wants r.held.stack_ok) in
      let typed : OfType core h rule.value top.top = subst (λ (t : Option Ty). OfSome core h t top.top) rule.is_value top.answers.0 in
      let pile : s.active.holds.entries ≡ record { ty = type_of ann rule.child; depth = s.active.depth } ∷ g.below = g.stack ∙ ap (λ (ds : List ℕ). piled ann s.active.depth ds g.below) rule.children in
      let fits : FitsSome w (OnStack around.actor (length fs) (length top.below) (s.active.holds.base + s.active.depth)) (type_of ann rule.child) top.top × StackFits w around.actor (length fs) s.active.holds.base g.below top.below =
      subst (λ (vs : List Value). StackFits w around.actor (length fs) s.active.holds.base (record { ty = type_of ann rule.child; depth = s.active.depth } ∷ g.below) vs) top.is
      (subst (λ (es : List Entry). StackFits w around.actor (length fs) s.active.holds.base es f.stack) pile s.active.holds.stack_fit)
      in
      let m : ℕ = length top.below in
      let go = λ (d : ℕ) (l : Mask) (es : List Entry). TasksRise core ann f.method f.tasks d l es in
      let p = pushes_on core ann around f fs (task.Invoke n ∷ f.tasks) w s invokes n go g w m (calm_same w h around.actors around.actor (from_place around.actor (length fs) m) s.world).shifts refl top.below (omega arith) fits.1 in
      let pushes = λ (t : List ℕ). pushes_plain w top.below (Text t) (3, form.Val) p rule.behind rule.is_behind rule.live rule.ty (text_typed core ann needs around f fs r n me name is_call t) tt tt in
      elim rule.shown [
        | inl one ↦ let v = is_number core ann needs h rule.value.1 top.top (subst (λ (d : ℕ). OfType core h (d, rule.value.1) top.top) one typed) in
            rw (rule.children, top.is, v.1, no_method core 1 name _ needs.formed.built_in.numbers refl (method_named core 1 name) refl, rule.named) (pushes (decimal v.0))
        | inr two ↦ let v = is_truth core ann needs h rule.value.1 top.top (subst (λ (d : ℕ). OfType core h (d, rule.value.1) top.top) two typed) in
            rw (rule.children, top.is, v.1, no_method core 2 name _ needs.formed.built_in.truths refl (method_named core 2 name) refl, rule.named) (pushes (truth_text v.0))
      ]

  invoke_ok : LentLaw → RegionMoveOk core ann w around fs (invoke_task core around f g.node.children (nodes.Call name))
  invoke_ok lends =
      elim (call_forms core ann g.node name g.note (meets core ann needs n g.node g.note g.is_node g.is_note) is_call) [
        | inl rule ↦ call_ok settle core ann needs around f fs r n e w s g name is_call rule
        | inr more ↦ elim more [
          | inl rule ↦ lend_ok settle core ann needs around f fs r n e w s g name is_call lends rule
          | inr last ↦ elim last [ inl rule ↦ send_ok rule | inr rule ↦ text_ok rule ]
        ]
      ]

pub regions_invoke : SettleLaw → LentLaw → ((core : CoreData) (ann : Ann) → Needs core ann → ClimbLaw core) → (n : ℕ) → KeepsRegions (task.Invoke n)
regions_invoke settle lends climb n core ann needs around f fs r e w s =
    let g = s.tasks in
    let k = invokes_is g.node.kind g.kind in
    rw (g.is_node, k.1) (invoke_ok settle core (climb core ann needs) ann needs around f fs r n e w s g k.0 k.1 lends)
