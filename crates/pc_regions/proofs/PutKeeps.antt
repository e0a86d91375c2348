-- The task Put, by regions: the origin is let go, the value goes to the field, and what the field held is pushed.
use Rattle.std.specs.Prelude.{◌≡◌, ℕ, suc, ◌+◌, ◌<◌, ◌≤◌, Bool, true, ◌&&◌, List, [], ◌∷◌, length, Option, Some, None, slice_get, refl}
use Rattle.std.proofs.{Common.{inl, inr, ap, sym, subst, ◌∙◌, arith}, lemmas.Bool.and_parts, lemmas.Option.same_Some}
use Rattle.pc_heap.specs.{Objects.{ObjectMap, with_value}, declared.value.Value.Value, declared.value.Value.TheVariants.At}
use Rattle.pc_caps.specs.{Computed.{is_below, fits, may_write}, Tables.unalias, declared.capability.Cap.Cap, declared.capability.Form.Form}
use Rattle.pc_caps.specs.declared.capability.Form.TheVariants as form
use Rattle.pc_core.specs.{declared.declarations.EntityDef.EntityDef, declared.declarations.FieldInfo.FieldInfo, CoreData.CoreData}
use Rattle.pc_masks.specs.declared.mask.Mask.{Mask}
use Rattle.pc_ann.specs.declared.annotation.Ann.{Ann}
use Rattle.pc_semantics.specs.{declared.frames.Frame.Frame, Configurations.{Around, Writes, with_stack, pushed}, Parts.value_or_none, Calls.put_task}
use Rattle.pc_semantics.specs.declared.frames.Task.TheVariants as task
use Rattle.pc_sub.specs.Computed.{is_sub}
use Rattle.pc_rules.specs.Parts.{goes_to, type_of}
use Rattle.pc_valid.specs.Words.{Ty, place}
use Rattle.pc_types.proofs.{Types.{OfType, OfSome}, Tasks.{writes, FinishOk, TasksOk}, Frames.HasFields, Moves.Runs, Needs.Needs, Growth.{Extends, some_kept}, Heaps.write_extends, Finish.rule_is, Origins.Origin, PutTask.{PutRule, OwnPutRule, own_old_there, own_old_ok, put_kind}}
use Rattle.pc_regions.proofs.{World.{Place, InSlot, OnStack, InField, World, Fits, FitsSome, Alias, AliasSome}, StackForms.{Entry, FinishRises, TasksRise, piled}, Fitting.{StackFits, OpenedTo}, MoveFits.{Situated, RegionMoveOk}, Changes.Shifts, Settled.SettleLaw, Climbed.ClimbLaw, Accesses.{top_fits, constructor_ref}, CallerKept.{from_lower, from_under, live_left, follows_at}, FieldDrawn.{let_go_takes, let_go_writes, other_field, Through}, CallBegins.finish_at, FieldSeen.let_go, ArgumentsSettle.other_place, FieldPut.{put_gone, put_far, place_shift, other_depth, origin_through, Written, put_new, put_old}, Rising.{Pushes, rise, others_both}, Shifts.{others_kept, below_kept, shifts_none, shifts_then}, Schedules.KeepsRegions, FieldWritten.{world_written, fields_written}, Taken.TakeLaw}

-- The field of an origin is the one that its object has.
field_same : (core : CoreData) (objects : ObjectMap) (d name k : ℕ) (p : FieldInfo) (v : Value) (o : Origin core objects d name k p v) (e : EntityDef) (q : FieldInfo) → slice_get core.entities o.object.entity ≡ Some e → slice_get e.fields k ≡ Some q → q ≡ p
field_same core objects d name k p v o e q is at =
    let same : e ≡ o.fits.entity = same_Some e o.fits.entity (sym is ∙ o.fits.is_entity) in
    same_Some q p (sym at ∙ ap (λ (x : EntityDef). slice_get x.fields k) same ∙ o.is_field)

module _ (settle : SettleLaw) (take : TakeLaw) (core : CoreData) (climb : ClimbLaw core) (ann : Ann) (needs : Needs core ann) (around : Around) (f : Frame) (fs : List Frame) (r : Runs core ann around f fs) (n : ℕ)
    (e : FinishOk core ann f.method r.held.live r.held.set r.held.wants writes n (λ l s g. TasksOk core ann f.method f.tasks l s g)) (w : World) (s : Situated core ann w around f (task.Put n ∷ f.tasks) fs)
    (g : FinishRises core ann f.method s.active.depth s.active.holds.live s.active.holds.entries writes n (λ d l st. TasksRise core ann f.method f.tasks d l st)) where
  abbrev me : FinishOk core ann f.method r.held.live r.held.set r.held.wants writes n (λ l s g. TasksOk core ann f.method f.tasks l s g)
  me = finish_at core ann f.method r.held.live r.held.set r.held.wants writes n (λ l s g. TasksOk core ann f.method f.tasks l s g) e g.node g.note g.is_node g.is_note

  abbrev base : ℕ
  base = s.active.holds.base

  abbrev d : ℕ
  d = s.active.depth

  abbrev i : ℕ
  i = around.actor

  abbrev h : ℕ
  h = length fs

  abbrev go : ℕ → Mask → List Entry → Type 0
  go c l st = TasksRise core ann f.method f.tasks c l st

  last : w.top i ≡ base + d
  last = sym s.active.last

  -- ---- what follows the write

  module _ (entity name k : ℕ) (p : FieldInfo) (v : Value) (o : Origin core around.objects entity name k p v) (y : Value) (rest : List Value) (below : StackFits w i h base g.below rest) (live : g.note.live_after ≡ e.behind.0) where
    abbrev new : ObjectMap
    new = with_value around.objects o.address k y

    abbrev gone : Place → Bool
    gone = put_gone i h (length rest) o.address k

    module _ (u : World) (x : Shifts w u around.objects around.actors i base gone) (top : u.top i ≡ base + d) (opened : OpenedTo u i base d) (entered : Fits u (InField o.address k) (unalias p.cap) y) where
      some_put : (c l : ℕ) (t : Option Ty) (z : Value) → c < length rest → FitsSome w (OnStack i h c l) t z → FitsSome u (OnStack i h c l) t z
      some_put c l None z under fit = tt
      some_put c l (Some t) z under fit = x.fits (OnStack i h c l) t.1 z (from_under i h (length rest) c l under) fit

      stack_put : (es : List Entry) (vs : List Value) → length vs ≤ length rest → StackFits w i h base es vs → StackFits u i h base es vs
      stack_put [] [] few fit = fit
      stack_put [] (z ∷ vs) few fit = fit
      stack_put (t ∷ es) [] few fit = fit
      stack_put (t ∷ es) (z ∷ vs) few fit = (some_put (length vs) (base + t.depth) t.ty z (omega (arith, few)) fit.0, stack_put es vs (omega (arith, few)) fit.1)

      pushes : Pushes core ann u new around.actors i f.method base d s.active.holds.live g.below f.slots rest fs
      pushes = record {
        world = world_written u around.objects o.address o.object o.stands k y around.actors x.world;
        fields = fields_written u around.objects o.address o.object o.stands k y core
            (λ b c t j q z apart there is field value. x.fits (InField b j) (unalias q.cap) z (other_field o.address k b j apart) (s.fields b c t j q z there is field value))
            (λ t q is field. subst (λ (z : FieldInfo). Fits u (InField o.address k) (unalias z.cap) y) (sym (field_same core around.objects entity name k p v o t q is field)) entered);
        here = s.here;
        top = top;
        opened = opened;
        this_fits = λ m z is at. x.fits (InSlot i h 0 base) (unalias m.receiver) z refl (s.active.holds.this_fits m z is at);
        slots_fit = λ t up on z at q is. x.fits (InSlot i h t (base + q.0.depth)) (unalias q.1.1) z refl (s.active.holds.slots_fit t up on z at q is);
        stack_fit = stack_put g.below rest (omega arith) below;
        wait = below_kept w u around.objects around.actors i base gone x core ann h (λ c t l under. refl) (λ c j l under. from_lower i h (length rest) c j l under) base f.method fs refl (omega arith) s.wait;
      }

      -- The old value is pushed.
      pub put_goes : (z : Value) → OfSome core around.objects g.note.ty z → FitsSome u (OnStack i h (length rest) (base + d)) g.note.ty z → AliasSome u i base (base + d) g.note.ty z
          → RegionMoveOk core ann w around fs (Writes o.address k y (pushed (with_stack f rest) z))
      put_goes z typed fits alias =
          let extends : Extends around.objects new = write_extends around.objects o.address k y o.object o.stands in
          let up = rise core ann climb new around.actors i f.method base d s.active.holds.live g.below f.slots rest fs u pushes g.note.live_after g.note.ty z f.tasks
          (live_left core ann around f fs (task.Put n ∷ f.tasks) w s writes n go g e.behind me.is_behind live) (some_kept around.objects new extends core g.note.ty z typed) fits alias
          (follows_at core ann around f fs (task.Put n ∷ f.tasks) w s writes n go g)
          in (
            up.0,
            record {
              world = up.1.world;
              fields = up.1.fields;
              others = others_both w u up.0 i around.actors (others_kept w u around.objects around.actors i base gone x (λ q far. put_far i h (length rest) o.address k q far)) up.1.others;
              frames = up.1.frames;
            },
          )

    -- The same, from a world in which the origin is let go.
    pub put_ends : (u : World) → Shifts w u around.objects around.actors i base gone → (ty : Option Ty) (z : Value) → Written settle take core ann around.objects around.actors i base d s.here h (length rest) o.address o.object o.stands k p.cap u y ty z
        → g.note.ty ≡ ty → OfSome core around.objects ty z → RegionMoveOk core ann w around fs (Writes o.address k y (pushed (with_stack f rest) z))
    put_ends u x ty z done is typed =
        put_goes done.world (shifts_then w u done.world around.objects around.actors i base gone x done.shifts) done.top done.opened done.fits z (subst (λ (t : Option Ty). OfSome core around.objects t z) (sym is) typed)
        (subst (λ (t : Option Ty). FitsSome done.world (OnStack i h (length rest) (base + d)) t z) (sym is) done.old) (subst (λ (t : Option Ty). AliasSome done.world i base (base + d) t z) (sym is) done.alias)

  -- ---- by the rule

  -- What two children left.
  entries_are : (a b : ℕ) → g.node.children ≡ a ∷ b ∷ [] → s.active.holds.entries ≡ record { ty = type_of ann b; depth = d } ∷ record { ty = type_of ann a; depth = d } ∷ g.below
  entries_are a b is = g.stack ∙ ap (λ (cs : List ℕ). piled ann d cs g.below) is

  stack_is : (a b : ℕ) → g.node.children ≡ a ∷ b ∷ [] → (v y : Value) (rest : List Value) → f.stack ≡ v ∷ y ∷ rest → StackFits w i h base (record { ty = type_of ann b; depth = d } ∷ record { ty = type_of ann a; depth = d } ∷ g.below) (v ∷ y ∷ rest)
  stack_is a b is v y rest at =
      subst (λ (vs : List Value). StackFits w i h base (record { ty = type_of ann b; depth = d } ∷ record { ty = type_of ann a; depth = d } ∷ g.below) vs) at
      (subst (λ (es : List Entry). StackFits w i h base es f.stack) (entries_are a b is) s.active.holds.stack_fit)

  goes_below : (t : Ty) (p : FieldInfo) → goes_to core t (place p) ≡ true → is_below t.1 (unalias p.cap) ≡ true
  goes_below t p goes = (and_parts (is_sub core t.0 p.entity) (fits t.1 p.cap) goes).1

  plain_put : (name : ℕ) (q : PutRule core ann g.node g.note e.behind name) (v y z : Value) (rest : List Value) (o : Origin core around.objects q.origin_ty.0 name q.index q.field v) → f.stack ≡ v ∷ y ∷ rest → slice_get o.object.fields q.index ≡ Some (Some z)
      → OfType core around.objects (q.field.entity, q.old) z → RegionMoveOk core ann w around fs (Writes o.address q.index y (pushed (with_stack f rest) z))
  plain_put name q v y z rest o at is typed =
      let m : ℕ = length rest in
      let from : Form = q.origin_ty.1 in
      let stack = stack_is q.value q.origin q.children v y rest at in
      let top = top_fits core ann needs around f (task.Put n ∷ f.tasks) fs r w s refl q.origin (record { ty = type_of ann q.value; depth = d } ∷ g.below) (entries_are q.value q.origin q.children) v (y ∷ rest) at q.origin_ty q.is_origin in
      let fit : Fits w (OnStack i h (suc m) (base + d)) from (At o.address) = subst (λ (u : Value). Fits w (OnStack i h (suc m) (base + d)) from u) o.is (subst (λ (l : ℕ). Fits w (OnStack i h (suc m) l) from v) last top.0) in
      let alias : Alias w i base (base + d) from (At o.address) = subst (λ (u : Value). Alias w i base (base + d) from u) o.is (subst (λ (l : ℕ). Alias w i base l from v) last top.1) in
      let value : Fits w (OnStack i h m (base + d)) q.value_ty.1 y = subst (λ (t : Option Ty). FitsSome w (OnStack i h m (base + d)) t y) q.is_value stack.1.0 in
      let got = origin_through settle take core ann around.objects around.actors i base d s.here h m o.address o.object o.stands q.index q.field.cap w s.world last s.active.opened from q.old q.is_old fit alias in
      let u : World = got.0 in
      let was : Fits u (InField o.address q.index) (unalias q.field.cap) z = got.1.shifts.fits (InField o.address q.index) (unalias q.field.cap) z refl (s.fields o.address o.object o.fits.entity q.index q.field z o.stands o.fits.is_entity o.is_field is) in
      let done = put_old settle take core ann around.objects around.actors i base d s.here h m o.address o.object o.stands q.index q.field.cap u (let_go from) got.2 q.value_ty.1 y (goes_below q.value_ty q.field q.goes) (let_go_writes from q.value_ty.1 q.field.cap ∙ q.may)
      (got.1.shifts.fits (OnStack i h m (base + d)) q.value_ty.1 y (other_place i h (suc m) m (base + d) (other_depth m)) value) q.field.entity q.old z (let_go_takes from q.field.cap ∙ q.is_old) was
      in
      put_ends q.origin_ty.0 name q.index q.field v o y rest stack.1.1 q.says.live u (place_shift around.objects around.actors i base d h m o.address q.index w u (suc m) (omega arith) last got.1) (Some (q.field.entity, q.old)) z done q.says.ty typed

  own_put : (name : ℕ) (q : OwnPutRule core ann g.node g.note e.behind name) (v y : Value) (old : Option Value) (rest : List Value) (o : Origin core around.objects r.held.own.entity name q.index q.field v) → v ≡ r.held.this → f.stack ≡ v ∷ y ∷ rest → slice_get o.object.fields q.index ≡ Some old
      → HasFields around.objects r.held.set v
      → RegionMoveOk core ann w around fs (Writes o.address q.index y (pushed (with_stack f rest) (value_or_none old)))
  own_put name q v y old rest o this at is has_them =
      let m : ℕ = length rest in
      let own : slice_get core.methods f.method ≡ Some q.own = ap (slice_get core.methods) (sym me.own) ∙ q.is_own in
      let ref = constructor_ref core ann needs around f (task.Put n ∷ f.tasks) fs r w s refl q.own q.own.kind (needs.formed.methods f.method q.own own).result_fits q.origin.constructs in
      let fit : Fits w (InSlot i h 0 base) form.Ref (At o.address) =
      subst (λ (c : Cap). Fits w (InSlot i h 0 base) (unalias c) (At o.address)) ref (s.active.holds.this_fits q.own (At o.address) own (r.held.is_this ∙ ap (λ (u : Value). Some (Some u)) (sym this ∙ o.is))) in
      let flat : d ≡ 0 = sym g.depth ∙ q.origin.depth in
      let same : base ≡ base + d = omega (arith, flat) in
      let stack = stack_is q.value q.last q.children v y rest at in
      let value : Fits w (OnStack i h m (base + d)) q.value_ty.1 y = subst (λ (t : Option Ty). FitsSome w (OnStack i h m (base + d)) t y) q.is_value stack.1.0 in
      let less = goes_below q.value_ty q.field q.goes in
      let may : may_write form.Ref q.value_ty.1 q.field.cap ≡ true = ap (λ (b : Bool). b && true) less in
      let through : Through around.objects around.actors i base d s.here h (suc m) o.address q.index w form.Ref = record { world = s.world; top = last; opened = s.active.opened; writes = inr (inr refl); fits = fit ∙ ap (w.context i) same; alias = tt } in
      let calm : Shifts w w around.objects around.actors i base (put_gone i h m o.address q.index) = shifts_none w around.objects around.actors i base (put_gone i h m o.address q.index) s.world in
      let typed : OfSome core around.objects q.old (value_or_none old) = own_old_ok core ann needs around f fs r n me r.held.own.entity name q.index q.field v old q.old o is has_them q.is_old in
      elim q.is_old [
        | inl none ↦ put_ends r.held.own.entity name q.index q.field v o y rest stack.1.1 q.says.live w calm None (value_or_none old)
            (put_new settle take core ann around.objects around.actors i base d s.here h m o.address o.object o.stands q.index q.field.cap w form.Ref through q.value_ty.1 y less may value (value_or_none old)) (q.says.ty ∙ none) tt
        | inr set ↦ let was = own_old_there core around.objects r.held.own.entity name q.index q.field v r.held.set old o is has_them (e.set q.index set.0) in
            let fits_field : Fits w (InField o.address q.index) (unalias q.field.cap) was.0 = s.fields o.address o.object o.fits.entity q.index q.field was.0 o.stands o.fits.is_entity o.is_field was.2 in
            let ty : Ty = (q.field.entity, set.1) in
            let at_it : OfSome core around.objects (Some ty) was.0 = subst (λ (t : Option Ty). OfSome core around.objects t was.0) set.3 (subst (λ (z : Option Value). OfSome core around.objects q.old (value_or_none z)) was.1 typed) in
            subst (λ (z : Option Value). RegionMoveOk core ann w around fs (Writes o.address q.index y (pushed (with_stack f rest) (value_or_none z))))
            (sym was.1)
            (put_ends r.held.own.entity name q.index q.field v o y rest stack.1.1 q.says.live w calm (Some ty) was.0
            (put_old settle take core ann around.objects around.actors i base d s.here h m o.address o.object o.stands q.index q.field.cap w form.Ref through q.value_ty.1 y less may value q.field.entity set.1 was.0 set.2 fits_field) (q.says.ty ∙ set.3) at_it)
      ]

  pub put_regions : RegionMoveOk core ann w around fs (put_task core around f g.node.kind)
  put_regions =
      put_kind core ann needs around f fs r n me (RegionMoveOk core ann w around fs) (λ name kind q v y z rest o at ok is fit typed. plain_put name q v y z rest o at is typed)
      (λ name kind q v y old rest o this at ok is has_them fit. own_put name q v y old rest o this at is has_them) g.node.kind refl g.kind (rule_is core ann needs around f fs r writes n me)

-- A field is written, in regions.
pub keeps_put_regions : SettleLaw → TakeLaw → ((core : CoreData) (ann : Ann) → Needs core ann → ClimbLaw core) → (n : ℕ) → KeepsRegions (task.Put n)
keeps_put_regions settle take climb n core ann needs around f fs r e w s = let g = s.tasks in rw (g.is_node) (put_regions settle take core (climb core ann needs) ann needs around f fs r n e w s g)
