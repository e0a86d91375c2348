-- The task Get, by regions: the origin is let go, and what its field holds is pushed.
use Rattle.std.specs.Prelude.{◌≡◌, ℕ, suc, ◌+◌, true, List, [], ◌∷◌, length, Option, Some, slice_get, refl}
use Rattle.std.proofs.{Common.{ap, sym, subst, ◌∙◌, arith}, lemmas.Bool.{eq-eqb, lt-ltb}, lemmas.Option.same_Some}
use Rattle.pc_heap.specs.{declared.value.Value.Value, declared.value.Value.TheVariants.At}
use Rattle.pc_caps.specs.{Tables.unalias, declared.capability.Cap.Cap}
use Rattle.pc_caps.specs.declared.capability.Form.TheVariants as form
use Rattle.pc_core.specs.{declared.declarations.FieldInfo.FieldInfo, declared.nodes.Node.Node, declared.nodes.NodeKind.NodeKind, Nodes.HasArity, CoreData.CoreData}
use Rattle.pc_core.specs.declared.nodes.NodeKind.TheVariants as nodes
use Rattle.pc_masks.specs.declared.mask.Mask.{Mask}
use Rattle.pc_ann.specs.{declared.annotation.Note.Note, declared.annotation.Ann.Ann}
use Rattle.pc_semantics.specs.{declared.frames.Frame.Frame, Configurations.{Around, Goes, with_stack, pushed}, Parts.at_node, Calls.get_task}
use Rattle.pc_semantics.specs.declared.frames.Task.TheVariants as task
use Rattle.pc_rules.specs.Parts.{through, type_of}
use Rattle.pc_valid.specs.Words.{Ty, Masks, before}
use Rattle.pc_types.proofs.{Types.{OfType, OfSome}, Tasks.{reads, FinishOk, TasksOk}, Moves.Runs, Needs.Needs, Inverse.Says, Finish.rule_is, Origins.Origin, GetTask.{GetRule, OwnGetRule, only_last, get_kind}}
use Rattle.pc_regions.proofs.{World.{World, InSlot, OnStack, InField, Fits, FitsSome, Alias, AliasSome}, StackForms.{Entry, piled, FinishRises, TasksRise}, Fitting.StackFits, MoveFits.{RegionMoveOk, Situated}, Changes.Shifts, Climbed.ClimbLaw, Settled.SettleLaw, Accesses.{top_fits, constructor_ref}, FieldSeen.{let_go, let_go_sees, let_go_iso, let_go_trn, value_seen, origin_leaves}, Calm.calm_same, ArgumentsSettle.from_place, CallerKept.{live_left, follows_at, others_on, fields_on, pushes_on}, Rising.{Pushes, rise, others_both}, Schedules.KeepsRegions}

no_iso : form.Ref ≡ form.IsoE → ⊥
no_iso e = cc

no_trn : form.Ref ≡ form.TrnE → ⊥
no_trn e = cc

-- The place is one of those from it on.
from_self : (i h n l : ℕ) → from_place i h n (OnStack i h n l) ≡ true
from_self i h n l = rw (eq-eqb i i refl, eq-eqb h h refl) (lt-ltb n (suc n) (omega arith))

module _ (settle : SettleLaw) (core : CoreData) (ann : Ann) (needs : Needs core ann) (climb : ClimbLaw core) (around : Around) (f : Frame) (fs : List Frame) (r : Runs core ann around f fs) (w : World) (n : ℕ) (s : Situated core ann w around f (task.Get n ∷ f.tasks) fs)
    (e : FinishOk core ann f.method r.held.live r.held.set r.held.wants reads n (λ l z g. TasksOk core ann f.method f.tasks l z g)) (x : FinishRises core ann f.method s.active.depth s.active.holds.live s.active.holds.entries reads n (λ d l g. TasksRise core ann f.method f.tasks d l g)) where
  abbrev base : ℕ
  base = s.active.holds.base

  abbrev d : ℕ
  d = s.active.depth

  abbrev i : ℕ
  i = around.actor

  abbrev h : ℕ
  h = length fs

  abbrev go : ℕ → Mask → List Entry → Type 0
  go c l g = TasksRise core ann f.method f.tasks c l g

  node_is : x.node ≡ e.node
  node_is = same_Some x.node e.node (sym x.is_node ∙ e.is_node)

  note_is : x.note ≡ e.note
  note_is = same_Some x.note e.note (sym x.is_note ∙ e.is_note)

  behind_is : x.behind ≡ e.behind
  behind_is = same_Some x.behind e.behind (sym x.is_behind ∙ ap (λ (y : Node). through ann y.children (before x.note)) node_is ∙ ap (λ (t : Note). through ann e.node.children (before t)) note_is ∙ e.is_behind)

  entries_are : (c : ℕ) → e.node.children ≡ c ∷ [] → s.active.holds.entries ≡ record { ty = type_of ann c; depth = d } ∷ x.below
  entries_are c is = x.stack ∙ ap (λ (cs : List ℕ). piled ann d cs x.below) (ap (λ (y : Node). y.children) node_is ∙ is)

  rest_fits : (c : ℕ) (v : Value) (rest : List Value) → e.node.children ≡ c ∷ [] → f.stack ≡ v ∷ rest → StackFits w i h base x.below rest
  rest_fits c v rest is at =
      let both : StackFits w i h base (record { ty = type_of ann c; depth = d } ∷ x.below) (v ∷ rest) =
      subst (λ (vs : List Value). StackFits w i h base (record { ty = type_of ann c; depth = d } ∷ x.below) vs) at (subst (λ (es : List Entry). StackFits w i h base es f.stack) (entries_are c is) s.active.holds.stack_fit) in
      both.1

  -- The value is pushed in a world that is left by the origin at most.
  module _ (u : World) (rest : List Value) (sh : Shifts w u around.objects around.actors i (w.top i) (from_place i h (length rest))) (top : u.top i ≡ w.top i) (fit : StackFits w i h base x.below rest) where
    pushes : Pushes core ann u around.objects around.actors i f.method base d s.active.holds.live x.below f.slots rest fs
    pushes = pushes_on core ann around f fs (task.Get n ∷ f.tasks) w s reads n go x u (length rest) sh top rest (omega arith) fit

    gives : (ty : Ty) (z : Value) → Says e.note (Some ty) e.behind → OfType core around.objects ty z → Fits u (OnStack i h (length rest) (base + d)) ty.1 z → Alias u i base (base + d) ty.1 z
        → RegionMoveOk core ann w around fs (Goes (pushed (with_stack f rest) z))
    gives ty z q typed fits alias =
        let type_is : x.note.ty ≡ Some ty = ap (λ (t : Note). t.ty) note_is ∙ q.ty in
        let live : x.note.live_after ≡ x.behind.0 = ap (λ (t : Note). t.live_after) note_is ∙ q.live ∙ ap (λ (m : Masks). m.0) (sym behind_is) in
        let up = rise core ann climb around.objects around.actors i f.method base d s.active.holds.live x.below f.slots rest fs u pushes x.note.live_after x.note.ty z f.tasks
        (live_left core ann around f fs (task.Get n ∷ f.tasks) w s reads n go x x.behind x.is_behind live)
        (subst (λ (o : Option Ty). OfSome core around.objects o z) (sym type_is) typed)
        (subst (λ (o : Option Ty). FitsSome u (OnStack i h (length rest) (base + d)) o z) (sym type_is) fits)
        (subst (λ (o : Option Ty). AliasSome u i base (base + d) o z) (sym type_is) alias)
        (follows_at core ann around f fs (task.Get n ∷ f.tasks) w s reads n go x)
        in (
          up.0,
          record {
            world = up.1.world;
            fields = up.1.fields;
            others = others_both w u up.0 i around.actors (others_on core ann around f fs (task.Get n ∷ f.tasks) w s reads n go x u (length rest) sh) up.1.others;
            frames = up.1.frames;
          },
        )

  -- What the field of the origin holds, in such a world.
  field_fits : (u : World) (rest : List Value) (sh : Shifts w u around.objects around.actors i (w.top i) (from_place i h (length rest))) (entity name k : ℕ) (v z : Value) (g : FieldInfo) (o : Origin core around.objects entity name k g v)
      → slice_get o.object.fields k ≡ Some (Some z) → Fits u (InField o.address k) (unalias g.cap) z
  field_fits u rest sh entity name k v z g o is =
      fields_on core ann around f fs (task.Get n ∷ f.tasks) w s reads n go x u (length rest) sh o.address o.object o.fits.entity k g z o.stands o.fits.is_entity o.is_field is

  plain_get : (name : ℕ) (q : GetRule core ann e.node e.note e.behind name) (v z : Value) (rest : List Value) (o : Origin core around.objects q.origin.0 name q.index q.field v) → f.stack ≡ v ∷ rest → slice_get o.object.fields q.index ≡ Some (Some z) → OfType core around.objects (q.field.entity, q.seen) z
      → RegionMoveOk core ann w around fs (Goes (pushed (with_stack f rest) z))
  plain_get name q v z rest o at is typed =
      let m : ℕ = length rest in
      let last : w.top i ≡ base + d = sym s.active.last in
      let k = top_fits core ann needs around f (task.Get n ∷ f.tasks) fs r w s refl q.child x.below (entries_are q.child q.children) v rest at q.origin q.is_origin in
      let fit : Fits w (OnStack i h m (base + d)) q.origin.1 v = subst (λ (l : ℕ). Fits w (OnStack i h m l) q.origin.1 v) last k.0 in
      let alias : Alias w i base (base + d) q.origin.1 v = subst (λ (l : ℕ). Alias w i base l q.origin.1 v) last k.1 in
      let got = origin_leaves settle w around.objects around.actors s.world i s.here h m base d last (from_place i h m) (from_self i h m (base + d)) q.origin.1 v fit alias in
      let u : World = got.0 in
      let below = rest_fits q.child v rest q.children at in
      let p = pushes u rest got.1.calm.shifts (got.1.calm.top i) below in
      let seen = value_seen u around.objects around.actors i base d p.world s.here p.top p.opened h m o.address q.index (let_go q.origin.1) q.seen q.field.cap z (let_go_sees q.origin.1 q.field.cap ∙ q.is_seen)
      (subst (λ (y : Value). Fits u (OnStack i h m (base + d)) (let_go q.origin.1) y) o.is got.1.fits) (subst (λ (y : Value). Alias u i base (base + d) (let_go q.origin.1) y) o.is got.2) (let_go_iso q.origin.1) (let_go_trn q.origin.1)
      (field_fits u rest got.1.calm.shifts q.origin.0 name q.index v z q.field o is)
      in
      gives u rest got.1.calm.shifts (got.1.calm.top i) below (q.field.entity, q.seen) z q.says typed seen.0 seen.1

  own_get : (name : ℕ) → HasArity (nodes.Field name) (length e.node.children) → (q : OwnGetRule core ann e.node e.note e.behind name) (v z : Value) (rest : List Value) (o : Origin core around.objects r.held.own.entity name q.index q.field v) → v ≡ r.held.this → f.stack ≡ v ∷ rest → slice_get o.object.fields q.index ≡ Some (Some z) → OfType core around.objects (q.field.entity, q.seen) z
      → RegionMoveOk core ann w around fs (Goes (pushed (with_stack f rest) z))
  own_get name one q v z rest o this at is typed =
      let m : ℕ = length rest in
      let cs : e.node.children ≡ q.origin.last ∷ [] = only_last e.node.children q.origin.last one q.origin.is_last in
      let own : slice_get core.methods f.method ≡ Some q.own = ap (slice_get core.methods) (sym e.own) ∙ q.is_own in
      let ref = constructor_ref core ann needs around f (task.Get n ∷ f.tasks) fs r w s refl q.own q.own.kind (needs.formed.methods f.method q.own own).result_fits q.origin.constructs in
      let fit : Fits w (InSlot i h 0 base) form.Ref (At o.address) =
      subst (λ (c : Cap). Fits w (InSlot i h 0 base) (unalias c) (At o.address)) ref (s.active.holds.this_fits q.own (At o.address) own (r.held.is_this ∙ ap (λ (y : Value). Some (Some y)) (sym this ∙ o.is))) in
      let flat : d ≡ 0 = sym x.depth ∙ ap (λ (y : Node). y.depth) node_is ∙ q.origin.depth in
      let same : base ≡ base + d = omega (arith, flat) in
      let stands : Fits w (OnStack i h m (base + d)) form.Ref (At o.address) = fit ∙ ap (w.context i) same in
      let calm = calm_same w around.objects around.actors i (from_place i h m) s.world in
      let below = rest_fits q.origin.last v rest cs at in
      let p = pushes w rest calm.shifts refl below in
      let seen = value_seen w around.objects around.actors i base d s.world s.here p.top p.opened h m o.address q.index form.Ref q.seen q.field.cap z q.is_seen stands tt no_iso no_trn
      (field_fits w rest calm.shifts r.held.own.entity name q.index v z q.field o is)
      in
      gives w rest calm.shifts refl below (q.field.entity, q.seen) z q.says typed seen.0 seen.1

  pub get_goes : RegionMoveOk core ann w around fs (at_node (slice_get core.nodes n) (λ y. get_task core around f y.kind))
  get_goes =
      subst (λ (o : Option Node). RegionMoveOk core ann w around fs (at_node o (λ y. get_task core around f y.kind))) (sym e.is_node)
      (get_kind core ann needs around f fs r n e (RegionMoveOk core ann w around fs) (λ name kind q v z rest o at ok is typed. plain_get name q v z rest o at is typed)
      (λ name kind q v z rest o this at ok is typed. own_get name (subst (λ (k : NodeKind). HasArity k (length e.node.children)) kind (needs.formed.nodes n e.node e.is_node).arity) q v z rest o this at is typed)
      e.node.kind refl e.kind (rule_is core ann needs around f fs r reads n e))

-- A field is read, in regions.
pub keeps_get_regions : SettleLaw → ((core : CoreData) (ann : Ann) → Needs core ann → ClimbLaw core) → (n : ℕ) → KeepsRegions (task.Get n)
keeps_get_regions settle climb n core ann needs around f fs r t w s = get_goes settle core ann needs (climb core ann needs) around f fs r w n s t s.tasks
