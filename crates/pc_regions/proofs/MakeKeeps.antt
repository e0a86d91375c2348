-- The task Make, by regions: the arguments settle in the slots of the constructor's frame, and then the object is put
-- into the region in which that frame begins. If the object comes out alone, that is a new context.
use Rattle.std.specs.{Prelude.{◌≡◌, ℕ, suc, ◌+◌, ◌≤◌, Bool, true, false, ◌||◌, List, ◌∷◌, length, None, refl}, FinMap.get}
use Rattle.std.proofs.Common.{inl, inr, ap, sym, subst, ◌∙◌, arith}
use Rattle.pc_heap.specs.{Objects.next_address, declared.value.Address.Address, declared.value.Value.Value, declared.value.Value.TheVariants.At}
use Rattle.pc_caps.specs.{Tables.{unalias, sendable}, declared.capability.Cap.Cap}
use Rattle.pc_core.specs.{declared.declarations.Method.Method, declared.declarations.MethodKind.MethodKind, CoreData.CoreData}
use Rattle.pc_core.specs.declared.declarations.MethodKind.TheVariants as method
use Rattle.pc_core.specs.declared.nodes.NodeKind.TheVariants as nodes
use Rattle.pc_base.specs.Lists.{Each}
use Rattle.pc_masks.specs.declared.mask.Mask.{Mask}
use Rattle.pc_ann.specs.declared.annotation.Ann.{Ann}
use Rattle.pc_semantics.specs.{declared.frames.Frame.Frame, Configurations.{blank_object, Around}, Calls.make_task}
use Rattle.pc_semantics.specs.declared.frames.Task.TheVariants as task
use Rattle.pc_sub.specs.Declarations.{isolates, takes_sendable}
use Rattle.pc_types.proofs.{Tasks.{FinishOk, makes, TasksOk}, Moves.Runs, Needs.Needs, Made.next_free, Popped.popped_is, MakeTask.{makes_is, Making, making, make_move}}
use Rattle.pc_regions.proofs.{World.{Unused, Opened, Place, InSlot, OnStack, World, Fits, WorldOk}, StackForms.{Entry, Shallow, FinishRises, TasksRise}, Fitting.{Entered, OpenedTo, GoesTo, FieldsFit}, MoveFits.{Others, Situated, RegionMoveOk}, Changes.{with_open, Shifts}, Settled.SettleLaw, ContextLaws.{higher, OpenLaw}, Schedules.KeepsRegions, Shifts.{shifts_both, lower_shift}, ControlKeeps.below_same, FirstFrame.ArgumentsAt, SameRegions.{context_here, number_here}, StandsOtherwise.stand_here, ArgumentsSettle.{from_place, pass_all}, CallerKept.{children_on, Rests, live_left, follows_at, fields_on, others_on, rests_on, fields_low, others_low, rests_low}, CallBegins.{finish_at, enters_frames}, FunctionCall.{piled_shallow, not_higher, stand_kept, left_lent}, Rising.others_both, NewAddress.region_here, GrownFits.{others_grown, fields_grown, rests_grown, arguments_grown}, NewObject.{placed, place_grows, place_world}, Arguments.{ChildrenStand, same_params}}

module _ (settle : SettleLaw) (core : CoreData) (ann : Ann) (needs : Needs core ann) (around : Around) (f : Frame) (fs : List Frame) (r : Runs core ann around f fs) (n : ℕ)
    (e : FinishOk core ann f.method r.held.live r.held.set r.held.wants makes n (λ l s g. TasksOk core ann f.method f.tasks l s g)) (w : World) (s : Situated core ann w around f (task.Make n ∷ f.tasks) fs)
    (g : FinishRises core ann f.method s.active.depth s.active.holds.live s.active.holds.entries makes n (λ d l st. TasksRise core ann f.method f.tasks d l st)) (k : ℕ) (is_new : g.node.kind ≡ nodes.New k) where
  abbrev i : ℕ
  i = around.actor

  abbrev h : ℕ
  h = length fs

  abbrev base : ℕ
  base = s.active.holds.base

  abbrev level : ℕ
  level = s.active.holds.base + s.active.depth

  abbrev go : ℕ → Mask → List Entry → Type 0
  go d l es = TasksRise core ann f.method f.tasks d l es

  abbrev here : FinishOk core ann f.method r.held.live r.held.set r.held.wants makes n (λ l s g. TasksOk core ann f.method f.tasks l s g)
  here = finish_at core ann f.method r.held.live r.held.set r.held.wants makes n (λ l s g. TasksOk core ann f.method f.tasks l s g) e g.node g.note g.is_node g.is_note

  abbrev has : Making core ann around.objects r.held.this e.below f.stack g.node g.note k
  has = making core ann needs around f fs r n here k is_new

  abbrev own : Method
  own = has.rule.own

  abbrev values : List Value
  values = has.popped.values

  abbrev rest : List Value
  rest = has.popped.rest

  abbrev Goal : Type 0
  Goal = RegionMoveOk core ann w around fs (make_task core around f g.node.children (nodes.New k))

  is_top : w.top i ≡ level
  is_top = sym s.active.last

  level_low : level ≤ w.top i
  level_low = let last = s.active.last in omega (arith, last)

  base_low : base ≤ w.top i
  base_low = let last = s.active.last in omega (arith, last)

  same_level : level ≤ level
  same_level = omega arith

  next_level : level ≤ suc level
  next_level = omega arith

  last_level : suc level ≤ suc level
  last_level = omega arith

  stand : ChildrenStand ann w i h base s.active.depth g.node.children g.below values rest
  stand =
      children_on core ann around f fs (task.Make n ∷ f.tasks) w s makes n go g values rest
      (popped_is core around.objects r.held.this e.below f.stack (length g.node.children) own.params has.popped)

  -- The frame begins at level b of this world, where the object is put into the region of that level.
  begins_at : (u : World) (b : ℕ) → WorldOk u around.objects around.actors → FieldsFit core u around.objects → Others w u i around.actors None
      → Rests core ann u i f.method base s.active.depth s.active.holds.live g.below f.slots rest fs → u.top i ≡ b
      → ArgumentsAt u (λ j. InSlot i (suc h) (suc j) b) own.params values → Entered u i own g.note.ty base level b method.New → Goal
  begins_at u b ok fields others rests top fit entered =
      let a : Address = next_address around.objects i in
      let none : get around.objects a ≡ None = next_free core around.objects around.actors i r.objects in
      let q : ℕ = u.context i b in
      let used = λ (z : u.stands q ≡ Unused). ok.homes i b s.here z in
      let v : World = placed u a q in
      let x = place_grows u around.objects around.actors ok a none q used in
      let this_fits : Fits v (InSlot i (suc h) 0 b) (unalias own.receiver) (At a) =
      subst (λ (c : Cap). Fits v (InSlot i (suc h) 0 b) (unalias c) (At a)) (sym has.receives) (region_here u.region a q)
      in
      make_move core ann needs around f fs r n here k is_new (RegionMoveOk core ann w around fs) has (
        v,
        record {
          world = place_world u around.objects around.actors ok a none q used (blank_object core own.entity);
          fields = fields_grown u v around.objects around.actors x core a own.entity fields;
          others = others_both w u v i around.actors others (others_grown u v around.objects around.actors x i);
          frames = enters_frames core ann needs v i f.method base s.active.depth b s.active.holds.live g.below f.slots rest fs f.tasks
              (rests_grown u v around.objects around.actors x core ann i f.method base s.active.depth s.active.holds.live g.below f.slots rest fs s.here rests) g.note.live_after g.note.ty
              (live_left core ann around f fs (task.Make n ∷ f.tasks) w s makes n go g has.rule.behind has.rule.is_behind has.rule.live)
              (follows_at core ann around f fs (task.Make n ∷ f.tasks) w s makes n go g)
              k own has.rule.is_own has.other has.body has.has_body (At a) values top this_fits
              (arguments_grown u v around.objects around.actors x (λ j. InSlot i (suc h) (suc j) b) own.params values (λ j. s.here) fit)
              (subst (λ (j : MethodKind). Entered v i own g.note.ty base level b j) (sym has.new) entered)
              (subst (GoesTo core own.result) (sym has.rule.ty_is) (below_same core own.result));
        },
      )

  -- ---- the object is of the level of the node

  shared_ok : isolates own.result.1 ≡ false → Goal
  shared_ok shares =
      let m : ℕ = length rest in
      let all = pass_all core ann settle around.objects around.actors i h level level s.here same_level w s.world is_top m (λ j. InSlot i (suc h) (suc j) level)
      g.node.children own.params own.params values has.rule.goes refl (same_params core own.params) stand.stand
      (λ u t j z y c. (refl, subst (λ (x : ℕ). level ≤ x) (sym t) same_level)) (λ j c. refl) (inl (λ u c j. refl))
      in
      begins_at all.world level all.calm.shifts.world (fields_on core ann around f fs (task.Make n ∷ f.tasks) w s makes n go g all.world m all.calm.shifts)
      (others_on core ann around f fs (task.Make n ∷ f.tasks) w s makes n go g all.world m all.calm.shifts)
      (rests_on core ann around f fs (task.Make n ∷ f.tasks) w s makes n go g all.world m all.calm.shifts rest (omega arith) stand.fits)
      (all.calm.top i ∙ is_top) all.fit (inl (shares, refl))

  -- ---- the object is in a new context

  up_one : (j : ℕ) → w.top i ≡ level → j ≡ suc level → w.top i ≤ j
  up_one j e z = omega (arith, e, z)

  depth_low : (j : ℕ) → j ≤ level → j ≤ w.top i
  depth_low j to = let last = s.active.last in omega (arith, last, to)

  below_shallow : Shallow g.below s.active.depth
  below_shallow = piled_shallow ann s.active.depth g.node.children g.below (subst (λ (es : List Entry). Shallow es s.active.depth) g.stack s.active.shallow)

  alone_ok : OpenLaw → isolates own.result.1 ≡ true → Goal
  alone_ok opens alone =
      let m : ℕ = length rest in
      let v : World = with_open w i in
      let begun = opens w around.objects around.actors s.world i s.here (w.top i) (omega arith) (higher i (w.top i)) (λ p z. z) in
      let top : v.top i ≡ suc level = number_here w.top i (suc (w.top i)) ∙ ap suc is_top in
      let sent : Each (λ j p. sendable p.cap ≡ true) own.params = needs.valid.declarations.sendable k own has.rule.is_own (ap (λ (j : MethodKind). takes_sendable j own.result.1) has.new ∙ alone) in
      let all = pass_all core ann settle around.objects around.actors i h level (suc level) s.here next_level v begun.shifts.world top m (λ j. InSlot i (suc h) (suc j) (suc level))
      g.node.children own.params own.params values has.rule.goes refl (same_params core own.params)
      (stand_kept ann w v i h level (λ d j z fit. begun.shifts.fits (OnStack i h d level) j z (not_higher i (w.top i) level level_low) fit) m g.node.children values stand.stand)
      (λ u t j z y c. (refl, subst (λ (x : ℕ). suc level ≤ x) (sym t) last_level)) (λ j c. refl) (inr (inl sent))
      in
      let u : World = all.world in
      let gone = λ (p : Place). higher i (w.top i) p || from_place i h m p in
      let x : Shifts w u around.objects around.actors i (w.top i) gone =
      shifts_both w v u around.objects around.actors i (w.top i) (higher i (w.top i)) (from_place i h m) begun.shifts
      (lower_shift v u around.objects around.actors i (v.top i) (w.top i) (from_place i h m) (up_one (v.top i) is_top top) all.calm.shifts)
      in
      let low : Shifts w u around.objects around.actors i base gone = lower_shift w u around.objects around.actors i (w.top i) base gone base_low x in
      let context : u.context i (suc level) ≡ w.next =
      all.calm.context i (suc level) s.here (subst (λ (j : ℕ). suc level ≤ j) (sym top) last_level) ∙ context_here w.context i (suc (w.top i)) w.next i (suc level) refl (ap suc is_top)
      in
      let ajar : u.stands (u.context i (suc level)) ≡ Opened i = ap u.stands context ∙ all.calm.opened w.next i (stand_here w.stands w.next (Opened i)) in
      let open_still : OpenedTo u i base s.active.depth = λ j up to. x.opened i j (inr (depth_low j to)) (s.active.opened j up to) in
      let left = left_lent core ann around f fs (task.Make n ∷ f.tasks) w s makes n go g m in
      begins_at u (suc level) x.world (fields_low core ann around f fs (task.Make n ∷ f.tasks) w s makes n go g u m gone left low)
      (others_low core ann around f fs (task.Make n ∷ f.tasks) w s makes n go g u m gone left low)
      (rests_low core ann around f fs (task.Make n ∷ f.tasks) w s makes n go g u m gone left low open_still rest (omega arith) below_shallow stand.fits)
      (all.calm.top i ∙ top) all.fit (inr (alone, refl, ajar))

  by_result : OpenLaw → (b : Bool) → isolates own.result.1 ≡ b → Goal
  by_result opens false is = shared_ok is
  by_result opens true is = alone_ok opens is

  pub new_in : OpenLaw → Goal
  new_in opens = by_result opens (isolates own.result.1) refl

pub regions_make : SettleLaw → OpenLaw → (n : ℕ) → KeepsRegions (task.Make n)
regions_make settle opens n core ann needs around f fs r e w s =
    let g = s.tasks in
    let k = makes_is g.node.kind g.kind in
    rw (g.is_node, k.1) (new_in settle core ann needs around f fs r n e w s g k.0 k.1 opens)
