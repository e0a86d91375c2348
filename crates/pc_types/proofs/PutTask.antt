-- The task Put: a field is written.
use Rattle.std.specs.{Prelude.{◌≡◌, ◌⊎◌, ℕ, Bool, true, false, ◌&&◌, ◌||◌, not, cond, List, [], ◌∷◌, Option, Some, None, slice_get, slice_set, refl}, FinMap.get}
use Rattle.std.proofs.{Common.{inl, inr, ap, sym, subst, ◌∙◌}, lemmas.Option.{same_Some, none-some}, lemmas.Bool.and_parts, lemmas.Bool.Decides.eqb_tells}
use Rattle.pc_heap.specs.{Objects.{ObjectMap, with_field, with_value, Object}, declared.value.Value.Value, declared.value.Value.TheVariants.At}
use Rattle.pc_base.proofs.{Gets.{get_within, get_set_same, get_set_other}, Options.{bind_some, kept, kept_otherwise}, Bools.false_true}
use Rattle.pc_caps.specs.{Tables.taken, Computed.may_write, declared.capability.Form.Form}
use Rattle.pc_caps.specs.declared.capability.Form.TheVariants as form
use Rattle.pc_core.specs.{declared.declarations.FieldInfo.FieldInfo, declared.declarations.Method.Method, declared.nodes.Node.Node, declared.nodes.NodeKind.NodeKind, CoreData.CoreData}
use Rattle.pc_core.specs.declared.nodes.NodeKind.TheVariants as nodes
use Rattle.pc_base.specs.Lists.{◌>>=◌}
use Rattle.pc_masks.specs.{declared.mask.Mask.Mask, Masks.{IsInMask, has, with_number}, MaskLaws.with_number_bits}
use Rattle.pc_ann.specs.{declared.annotation.Note.Note, declared.annotation.Ann.Ann, declared.annotation.Rule.Rule}
use Rattle.pc_ann.specs.declared.annotation.Rule.TheVariants as rule
use Rattle.pc_semantics.specs.{declared.frames.Frame.Frame, Configurations.{Around, Move, Writes, with_stack, pushed}, Parts.{value_or_none, put_value, put_field, put_of, put_into}, Calls.put_task}
use Rattle.pc_semantics.specs.declared.frames.Task.TheVariants as task
use Rattle.pc_rules.specs.{Parts.{says_of, goes_to, through, type_of, last_child, constructs}, Fields.{is_this, field_of, own_field, writes, written_field, old_type, own_old, own_writes}, Rules.said_by}
use Rattle.pc_valid.specs.Words.{Ty, Masks, before, place}
use Rattle.pc_rules.proofs.ByNumber.{two_children, two_types, incomplete, write_says, value_type, own_write_says, says}
use Rattle.pc_types.proofs.{Types.{OfType, OfSome, Answers, StackOk}, Tasks.{Within, want_of, FinishOk, TasksOk}, Frames.{HasFields, ThisOk}, Moves.{MoveOk, Runs}, Needs.Needs, Basic.{within_trans, of_lower, some_lower}, Growth.{Extends, this_kept, slots_kept, stack_kept, wait_kept}, Heaps.{get_here, written, write_extends}, Tables.{taken_sees, taken_plain}, Steps.Keeps, Running.{fewer_slots, fewer_set, go_in}, Inverse.{pair_is, types_are, Says, said_as, said_type}, Origins.{FieldAt, field_at, Origin, origin_of, origin_at, value_there, set_value, OwnOrigin, own_origin}, Finish.{two_tops, own_is, rule_is, at_this, typed_at, at_tops}, Places.goes_lower}
use Rattle.pc_types.proofs.Tasks as tasks
use Rattle.pc_types.proofs.Typed as typed

-- ---- what the rules state

-- A field of the origin's entity, to which the value goes.
pub record PutRule (core : CoreData) (ann : Ann) (x : Node) (t : Note) (behind : Masks) (name : ℕ) : Type 0 where
  pub value : ℕ
  pub origin : ℕ
  pub children : x.children ≡ value ∷ origin ∷ []
  pub value_ty : Ty
  pub is_value : type_of ann value ≡ Some value_ty
  pub origin_ty : Ty
  pub is_origin : type_of ann origin ≡ Some origin_ty
  pub index : ℕ
  pub field : FieldInfo
  pub is_field : field_of core origin_ty.0 name ≡ Some (index, field)
  pub goes : goes_to core value_ty (place field) ≡ true
  pub may : may_write origin_ty.1 value_ty.1 field.cap ≡ true
  pub old : Form
  pub is_old : taken origin_ty.1 field.cap ≡ Some old
  pub says : Says t (Some (field.entity, old)) behind

-- The old value of an own field, if it is set.
abbrev pub OldOwn : ℕ → FieldInfo → Mask → Option Ty → Type 0
OldOwn i g s old = (old ≡ None) ⊎ ((has s i ≡ true) × (f : Form) × (taken form.Ref g.cap ≡ Some f) × (old ≡ Some (g.entity, f)))

-- A field of the method's entity, to which the value goes, and which is set then.
pub record OwnPutRule (core : CoreData) (ann : Ann) (x : Node) (t : Note) (behind : Masks) (name : ℕ) : Type 0 where
  pub own : Method
  pub is_own : slice_get core.methods x.method ≡ Some own
  pub origin : OwnOrigin core x own
  pub value : ℕ
  pub last : ℕ
  pub children : x.children ≡ value ∷ last ∷ []
  pub value_ty : Ty
  pub is_value : type_of ann value ≡ Some value_ty
  pub index : ℕ
  pub field : FieldInfo
  pub is_field : field_of core own.entity name ≡ Some (index, field)
  pub goes : goes_to core value_ty (place field) ≡ true
  pub old : Option Ty
  pub is_old : OldOwn index field behind.1 old
  pub says : Says t old (behind.0, with_number behind.1 index)

abbrev given_up : ℕ → FieldInfo → Mask → Form → Option Ty
given_up i g s f = cond (has s i) (Some (g.entity, f)) None

old_own : (i : ℕ) (g : FieldInfo) (s : Mask) (p : Option Form) (b : Bool) → taken form.Ref g.cap ≡ p → has s i ≡ b → OldOwn i g s (own_old (i, g) s)
old_own i g s None b e h = inl (ap (λ (o : Option Form). o >>= given_up i g s) e)
old_own i g s (Some f) false e h = inl (ap (λ (o : Option Form). o >>= given_up i g s) e ∙ ap (λ (c : Bool). cond c (Some (g.entity, f)) None) h)
old_own i g s (Some f) true e h = inr (h, f, e, ap (λ (o : Option Form). o >>= given_up i g s) e ∙ ap (λ (c : Bool). cond c (Some (g.entity, f)) None) h)

abbrev both : Mask → Mask → Masks
both a b = (a, b)

-- A field that may be written, and to which the value goes.
written_is : (core : CoreData) (v o : Ty) (name : ℕ) (f : FieldInfo) → written_field core v o name ≡ Some f → (i : ℕ) × (field_of core o.0 name ≡ Some (i, f)) × (goes_to core v (place f) ≡ true) × (may_write o.1 v.1 f.cap ≡ true)
written_is core v o name f e =
    let g = bind_some (field_of core o.0 name) _ f e in
    let k = kept (writes core v o.1 g.0.1) (Some g.0.1) f g.2 in
    let p = and_parts (not g.0.1.fixed) (goes_to core v (place g.0.1) && may_write o.1 v.1 g.0.1.cap) k.0 in
    let q = and_parts (goes_to core v (place g.0.1)) (may_write o.1 v.1 g.0.1.cap) p.1 in
    let is : g.0.1 ≡ f = same_Some g.0.1 f k.1 in (
      g.0.0,
      subst (λ (z : FieldInfo). field_of core o.0 name ≡ Some (g.0.0, z)) is g.1,
      subst (λ (z : FieldInfo). goes_to core v (place z) ≡ true) is q.0,
      subst (λ (z : FieldInfo). may_write o.1 v.1 z.cap ≡ true) is q.1,
    )

module _ (core : CoreData) (ann : Ann) (x : Node) (t : Note) (behind : Masks) (is_behind : through ann x.children (before t) ≡ Some behind) (name : ℕ) where
  pub write_is : write_says core ann x name (before t) ≡ Some (said_by t) → PutRule core ann x t behind name
  write_is e =
      let v = bind_some (two_types ann x.children) _ (said_by t) e in
      let y = bind_some (old_type core v.0.0 v.0.1 name) _ (said_by t) v.2 in
      let n = bind_some (through ann x.children (before t)) _ (said_by t) y.2 in
      let w = bind_some (written_field core v.0.0 v.0.1 name) _ y.0 y.1 in
      let o = bind_some (taken v.0.1.1 w.0.cap) _ y.0 w.2 in
      let g = written_is core v.0.0 v.0.1 name w.0 w.1 in
      let is : behind ≡ n.0 = same_Some behind n.0 (sym is_behind ∙ n.1) in
      let ty : ◌≡◌ {A = Ty} (w.0.entity, o.0) y.0 = same_Some (w.0.entity, o.0) y.0 o.2 in
      let ts = types_are ann x.children v.0 v.1 in
      record {
        value = ts.left;
        origin = ts.right;
        children = ts.children;
        value_ty = v.0.0;
        is_value = ts.left_type;
        origin_ty = v.0.1;
        is_origin = ts.right_type;
        index = g.0;
        field = w.0;
        is_field = g.1;
        goes = g.2;
        may = g.3;
        old = o.0;
        is_old = o.1;
        says = said_type t (w.0.entity, o.0) y.0 behind n.0 ty is n.2;
      }

  pub own_write_is : incomplete core ann x ≡ true → own_write_says core ann x name (before t) ≡ Some (said_by t) → OwnPutRule core ann x t behind name
  own_write_is lacks e =
      let g = bind_some (own_field core x name) _ (said_by t) e in
      let m = bind_some (slice_get core.methods x.method) _ g.0 g.1 in
      let v = bind_some (value_type ann x.children) _ (said_by t) g.2 in
      let c = bind_some (two_children x.children) _ v.0 v.1 in
      let n = bind_some (through ann x.children (before t)) _ (said_by t) v.2 in
      let k = kept (own_writes core v.0 g.0 n.0.1) (Some (says_of (own_old g.0 n.0.1) (n.0.0, with_number n.0.1 g.0.0))) (said_by t) n.2 in
      let p = and_parts (not g.0.1.fixed || not (has n.0.1 g.0.0)) (goes_to core v.0 (place g.0.1)) k.0 in
      let is : behind ≡ n.0 = same_Some behind n.0 (sym is_behind ∙ n.1) in
      record {
        own = m.0;
        is_own = m.1;
        origin = own_origin core ann x m.0 m.1 lacks;
        value = c.0.0;
        last = c.0.1;
        children = pair_is x.children c.0 c.1;
        value_ty = v.0;
        is_value = c.2;
        index = g.0.0;
        field = g.0.1;
        is_field = m.2;
        goes = p.1;
        old = own_old g.0 behind.1;
        is_old = old_own g.0.0 g.0.1 behind.1 (taken form.Ref g.0.1.cap) (has behind.1 g.0.0) refl refl;
        says = said_as t (own_old g.0 behind.1) (own_old g.0 n.0.1) (behind.0, with_number behind.1 g.0.0) (n.0.0, with_number n.0.1 g.0.0) (ap (λ (q : Masks). own_old g.0 q.1) is) (ap (λ (q : Masks). both q.0 (with_number q.1 g.0.0)) is) k.1;
      }

-- ---- the task

module _ (core : CoreData) (ann : Ann) (needs : Needs core ann) (around : Around) (f : Frame) (fs : List Frame) (r : Runs core ann around f fs) (n : ℕ) (e : FinishOk core ann f.method r.held.live r.held.set r.held.wants tasks.writes n (λ l s g. TasksOk core ann f.method f.tasks l s g))
    -- over any property of moves that holds of these ends
    (Holds : Move → Type 0)
    (plain : (name : ℕ) → e.node.kind ≡ nodes.SetField name → (q : PutRule core ann e.node e.note e.behind name) (v w z : Value) (rest : List Value) (o : Origin core around.objects q.origin_ty.0 name q.index q.field v) → f.stack ≡ v ∷ w ∷ rest → StackOk core around.objects r.held.this e.below rest
    → slice_get o.object.fields q.index ≡ Some (Some z) → OfType core around.objects (typed.field_type q.field) w → OfType core around.objects (q.field.entity, q.old) z → Holds (Writes o.address q.index w (pushed (with_stack f rest) z)))
    (own : (name : ℕ) → e.node.kind ≡ nodes.SetField name → (q : OwnPutRule core ann e.node e.note e.behind name) (v w : Value) (old : Option Value) (rest : List Value) (o : Origin core around.objects r.held.own.entity name q.index q.field v) → v ≡ r.held.this → f.stack ≡ v ∷ w ∷ rest → StackOk core around.objects r.held.this e.below rest
    → slice_get o.object.fields q.index ≡ Some old → HasFields around.objects r.held.set v → OfType core around.objects (typed.field_type q.field) w → Holds (Writes o.address q.index w (pushed (with_stack f rest) (value_or_none old))))
  where
    -- What is done if the object has the field.
    writes_ok : (g : Frame) (d name i : ℕ) (x : FieldInfo) (v w : Value) (old : Option Value) (o : Origin core around.objects d name i x v) → slice_get o.object.fields i ≡ Some old → Holds (Writes o.address i w (pushed g (value_or_none old))) → Holds (put_into core around name v w g)
    writes_ok g d name i x v w old o is k =
        subst (λ (u : Value). Holds (put_into core around name u w g)) (sym o.is)
        (subst (λ (p : Option Object). Holds (put_of core g name o.address w p)) (sym o.stands)
        (subst (λ (p : Option ℕ). Holds (put_field g o.address o.object w p)) (sym o.named)
        (subst (λ (p : Option (Option Value)). Holds (put_value g o.address i w p)) (sym is) k)))

    -- The value is of the type of the field to which it goes.
    goes_ok : (c : ℕ) (ty : Ty) (w : Value) (x : FieldInfo) → type_of ann c ≡ Some ty → goes_to core ty (place x) ≡ true → Answers core around.objects r.held.this (want_of core ann c) w → OfType core around.objects (typed.field_type x) w
    goes_ok c ty w x is goes has = of_lower core ann needs around.objects ty (typed.field_type x) w (goes_lower core ann needs ty (place x) goes) (typed_at core ann around c ty w is has.0)

    put_ok : (name : ℕ) → e.node.kind ≡ nodes.SetField name → (q : PutRule core ann e.node e.note e.behind name) (v w : Value) (rest : List Value) → f.stack ≡ v ∷ w ∷ rest → Answers core around.objects r.held.this (want_of core ann q.origin) v → Answers core around.objects r.held.this (want_of core ann q.value) w
        → StackOk core around.objects r.held.this e.below rest → Holds (put_into core around name v w (with_stack f rest))
    put_ok name is q v w rest at_stack has gets ok =
        let t : OfType core around.objects q.origin_ty v = typed_at core ann around q.origin q.origin_ty v q.is_origin has.0 in
        let o = origin_at core ann needs around.objects around.actors r.objects q.origin_ty name q.index q.field v (field_at core q.origin_ty.0 name q.index q.field q.is_field) t in
        let was = value_there core ann needs around.objects around.actors r.objects q.origin_ty.0 name q.index q.field v o (t.finished (taken_sees q.origin_ty.1 q.field.cap q.old q.is_old)) in
        let old : OfType core around.objects (q.field.entity, q.old) was.0 = of_lower core ann needs around.objects (typed.field_type q.field) (q.field.entity, q.old) was.0 (inl refl, taken_plain q.origin_ty.1 q.field.cap q.old q.is_old) (o.fits.fields q.index q.field was.0 o.is_field was.1) in
        writes_ok (with_stack f rest) q.origin_ty.0 name q.index q.field v w (Some was.0) o was.1
        (plain name is q v w was.0 rest o at_stack ok was.1 (goes_ok q.value q.value_ty w q.field q.is_value q.goes gets) old)

    own_put_ok : (name : ℕ) → e.node.kind ≡ nodes.SetField name → (q : OwnPutRule core ann e.node e.note e.behind name) (v w : Value) (rest : List Value) → f.stack ≡ v ∷ w ∷ rest → v ≡ r.held.this → Answers core around.objects r.held.this (want_of core ann q.value) w
        → StackOk core around.objects r.held.this e.below rest → Holds (put_into core around name v w (with_stack f rest))
    own_put_ok name is q v w rest at_stack this gets ok =
        let same : q.own ≡ r.held.own = same_Some q.own r.held.own (sym q.is_own ∙ own_is core ann needs around f fs r tasks.writes n e) in
        let at : FieldAt core r.held.own.entity name q.index q.field = field_at core r.held.own.entity name q.index q.field (ap (λ (m : Method). field_of core m.entity name) (sym same) ∙ q.is_field) in
        let o : Origin core around.objects r.held.own.entity name q.index q.field v = subst (λ (u : Value). Origin core around.objects r.held.own.entity name q.index q.field u) (sym this) (origin_of core ann needs around.objects around.actors r.objects r.held.own.entity name q.index q.field r.held.this at r.held.this_ok.kind r.held.this_ok.is_entity) in
        let born : constructs r.held.own.kind ≡ true = ap (λ (m : Method). constructs m.kind) (sym same) ∙ q.origin.constructs in
        let has_them : HasFields around.objects r.held.set v = subst (λ (u : Value). HasFields around.objects r.held.set u) (sym this) (r.held.this_ok.fields born) in
        let old = get_within o.object.fields q.index o.room in
        writes_ok (with_stack f rest) r.held.own.entity name q.index q.field v w old.0 o old.1
        (own name is q v w old.0 rest o this at_stack ok old.1 has_them (goes_ok q.value q.value_ty w q.field q.is_value q.goes gets))

    -- ---- by the rule

    put_rule : (name : ℕ) → e.node.kind ≡ nodes.SetField name → PutRule core ann e.node e.note e.behind name → Holds (put_task core around f (nodes.SetField name))
    put_rule name is q =
        let t = two_tops core ann needs around f fs r tasks.writes n e q.value q.origin q.children in
        at_tops Holds f t.second t.first t.rest (put_into core around name) t.is (put_ok name is q t.second t.first t.rest t.is t.second_answers t.first_answers t.ok)

    -- The last of two children is the second.
    own_put_rule : (name : ℕ) → e.node.kind ≡ nodes.SetField name → OwnPutRule core ann e.node e.note e.behind name → Holds (put_task core around f (nodes.SetField name))
    own_put_rule name is q =
        let t = two_tops core ann needs around f fs r tasks.writes n e q.value q.last q.children in
        let last : q.origin.last ≡ q.last = same_Some q.origin.last q.last (sym q.origin.is_last ∙ ap last_child q.children) in
        let this : tasks.gives_this (slice_get core.nodes q.last) ≡ true = subst (λ (c : ℕ). tasks.gives_this (slice_get core.nodes c) ≡ true) last q.origin.this in
        at_tops Holds f t.second t.first t.rest (put_into core around name) t.is (own_put_ok name is q t.second t.first t.rest t.is (t.second_answers.1 this) t.first_answers t.ok)

    field_rule : (u : Rule) (name : ℕ) → e.node.kind ≡ nodes.SetField name → says core ann e.node (before e.note) u (nodes.SetField name) ≡ Some (said_by e.note) → Holds (put_task core around f (nodes.SetField name))
    field_rule rule.Put name is q =
        put_rule name is (write_is core ann e.node e.note e.behind e.is_behind name (kept_otherwise (incomplete core ann e.node) (write_says core ann e.node name (before e.note)) (said_by e.note) q).1)
    field_rule rule.PutOwn name is q =
        let k = kept (incomplete core ann e.node) (own_write_says core ann e.node name (before e.note)) (said_by e.note) q in
        own_put_rule name is (own_write_is core ann e.node e.note e.behind e.is_behind name k.0 k.1)
    field_rule u name is q = absurd (none-some (said_by e.note) q)

    pub put_kind : (k : NodeKind) → e.node.kind ≡ k → tasks.writes k ≡ true → says core ann e.node (before e.note) e.note.rule k ≡ Some (said_by e.note) → Holds (put_task core around f k)
    put_kind (nodes.SetField name) is h q = field_rule e.note.rule name is q
    put_kind k is h q = absurd (false_true h)

-- The old value of an own field that is set.
pub own_old_there : (core : CoreData) (objects : ObjectMap) (d name i : ℕ) (x : FieldInfo) (v : Value) (set : Mask) (old : Option Value) (o : Origin core objects d name i x v) → slice_get o.object.fields i ≡ Some old → HasFields objects set v → IsInMask set i → (z : Value) × (old ≡ Some z) × (slice_get o.object.fields i ≡ Some (Some z))
own_old_there core objects d name i x v set old o is has_them bit =
    let was = set_value core objects d name i x v set o has_them bit in
    (was.0, same_Some old (Some was.0) (sym is ∙ was.1), was.1)

-- ---- by types

module _ (core : CoreData) (ann : Ann) (needs : Needs core ann) (around : Around) (f : Frame) (fs : List Frame) (r : Runs core ann around f fs) (n : ℕ) (e : FinishOk core ann f.method r.held.live r.held.set r.held.wants tasks.writes n (λ l s g. TasksOk core ann f.method f.tasks l s g)) where
  -- The write, and what follows the node among the new objects.
  module _ (d name i : ℕ) (x : FieldInfo) (v w : Value) (o : Origin core around.objects d name i x v) (fits : OfType core around.objects (typed.field_type x) w) where
    abbrev new : ObjectMap
    new = with_value around.objects o.address i w

    extends : Extends around.objects new
    extends = write_extends around.objects o.address i w o.object o.stands

    write_ok : (old : Option Value) (rest : List Value) → Within e.note.live_after r.held.live → ThisOk core new r.held.own e.follows.set r.held.this → StackOk core around.objects r.held.this e.below rest → OfSome core around.objects e.note.ty (value_or_none old) → (is_this e.node.kind ≡ true → ⊥)
        → MoveOk core ann around fs (Writes o.address i w (pushed (with_stack f rest) (value_or_none old)))
    write_ok old rest live this_ok ok has_type other = record {
      object = o.object;
      stands = o.stands;
      entity = o.fits.entity;
      is_entity = o.fits.is_entity;
      field = x;
      is_field = o.is_field;
      fits = fits;
      frames = go_in core ann needs around f fs r new e.follows.live e.follows.set (e.follows.goal ∷ e.below) f.slots (value_or_none old ∷ rest) f.tasks refl refl this_ok
          (slots_kept around.objects new extends core ann r.held.own e.follows.live f.slots (fewer_slots core ann around.objects r.held.own r.held.live e.follows.live f.slots (within_trans e.follows.live e.note.live_after r.held.live e.follows.live_left live) r.held.slots_ok))
          (stack_kept around.objects new extends core r.held.this (e.follows.goal ∷ e.below) (value_or_none old ∷ rest) ((some_lower core ann needs around.objects e.note.ty e.follows.goal.ty (value_or_none old) e.follows.fits has_type, λ h. absurd (other (e.follows.this h))), ok))
          e.follows.next (wait_kept around.objects new extends core ann around.actor f.method r.held.this fs r.wait);
    }

    -- The fields that were set are, and the one that is written.
    own_set_ok : (set : Mask) → Within set (with_number r.held.set i) → HasFields around.objects r.held.set v → HasFields new set v
    own_set_ok set less has_them =
        let k : HasFields around.objects r.held.set (At o.address) = subst (HasFields around.objects r.held.set) o.is has_them in
        let same : k.0 ≡ o.object = same_Some k.0 o.object (sym k.1 ∙ o.stands) in
        let there : get new o.address ≡ Some (with_field o.object i w) = ap (λ (h : ObjectMap). get h o.address) (written around.objects o.address i w o.object o.stands) ∙ get_here around.objects o.address (with_field o.object i w) in
        let at : HasFields new set (At o.address) = (
          with_field o.object i w,
          there,
          λ j b.
              elim (eqb_tells j i) [
                | inl p ↦ (w, ap (slice_get (slice_set o.object.fields i (Some w))) p.1 ∙ get_set_same o.object.fields i (Some w) o.room)
                | inr p ↦ let was : IsInMask r.held.set j = elim ((with_number_bits r.held.set i j).0 (less j b)) [ inl here ↦ absurd (p.1 here.0) | inr was ↦ was ] in
                    let y = k.2 j was in
                    (y.0, get_set_other o.object.fields i (Some w) j p.1 ∙ ap (λ (z : Object). slice_get z.fields j) (sym same) ∙ y.1)
              ],
        ) in
        subst (HasFields new set) (sym o.is) at

  -- One number more in both masks.
  more_set : (i j : ℕ) → IsInMask (with_number e.behind.1 i) j → IsInMask (with_number r.held.set i) j
  more_set i j b = (with_number_bits r.held.set i j).1 (elim ((with_number_bits e.behind.1 i j).0 b) [ inl new ↦ inl new | inr old ↦ inr (e.set j old) ])

  plain_ok : (name : ℕ) → e.node.kind ≡ nodes.SetField name → (q : PutRule core ann e.node e.note e.behind name) (v w z : Value) (rest : List Value) (o : Origin core around.objects q.origin_ty.0 name q.index q.field v) → StackOk core around.objects r.held.this e.below rest
      → OfType core around.objects (typed.field_type q.field) w → OfType core around.objects (q.field.entity, q.old) z → MoveOk core ann around fs (Writes o.address q.index w (pushed (with_stack f rest) z))
  plain_ok name is q v w z rest o ok fits old =
      let less : Within e.follows.set r.held.set = within_trans e.follows.set e.note.set_after r.held.set e.follows.set_left (subst (λ (m : Mask). Within m r.held.set) (sym q.says.set) e.set) in
      write_ok q.origin_ty.0 name q.index q.field v w o fits (Some z) rest (subst (λ (m : Mask). Within m r.held.live) (sym q.says.live) e.live)
      (this_kept around.objects (new q.origin_ty.0 name q.index q.field v w o fits) (extends q.origin_ty.0 name q.index q.field v w o fits) core r.held.own e.follows.set r.held.this (fewer_set core around.objects r.held.own r.held.set e.follows.set r.held.this less r.held.this_ok))
      ok (subst (λ (y : Option Ty). OfSome core around.objects y z) (sym q.says.ty) old) (λ h. false_true (ap is_this (sym is) ∙ h))

  -- The old value of an own field, if it is set.
  pub own_old_ok : (d name i : ℕ) (x : FieldInfo) (v : Value) (old : Option Value) (ty : Option Ty) (o : Origin core around.objects d name i x v) → slice_get o.object.fields i ≡ Some old → HasFields around.objects r.held.set v → OldOwn i x e.behind.1 ty → OfSome core around.objects ty (value_or_none old)
  own_old_ok d name i x v old ty o is has_them (inl none) = subst (λ (y : Option Ty). OfSome core around.objects y (value_or_none old)) (sym none) tt
  own_old_ok d name i x v old ty o is has_them (inr set) =
      let was = own_old_there core around.objects d name i x v r.held.set old o is has_them (e.set i set.0) in
      let typed : OfType core around.objects (x.entity, set.1) was.0 = of_lower core ann needs around.objects (typed.field_type x) (x.entity, set.1) was.0 (inl refl, taken_plain form.Ref x.cap set.1 set.2) (o.fits.fields i x was.0 o.is_field was.2) in
      subst (λ (y : Option Ty). OfSome core around.objects y (value_or_none old)) (sym set.3) (subst (λ (y : Option Value). OfType core around.objects (x.entity, set.1) (value_or_none y)) (sym was.1) typed)

  own_ok : (name : ℕ) → e.node.kind ≡ nodes.SetField name → (q : OwnPutRule core ann e.node e.note e.behind name) (v w : Value) (old : Option Value) (rest : List Value) (o : Origin core around.objects r.held.own.entity name q.index q.field v) → v ≡ r.held.this → StackOk core around.objects r.held.this e.below rest
      → slice_get o.object.fields q.index ≡ Some old → HasFields around.objects r.held.set v → OfType core around.objects (typed.field_type q.field) w → MoveOk core ann around fs (Writes o.address q.index w (pushed (with_stack f rest) (value_or_none old)))
  own_ok name is q v w old rest o this ok there has_them fits =
      let more : Within e.follows.set (with_number r.held.set q.index) = λ j b. more_set q.index j (subst (λ (m : Mask). IsInMask m j) q.says.set (e.follows.set_left j b)) in
      let kept_this : ThisOk core (new r.held.own.entity name q.index q.field v w o fits) r.held.own r.held.set r.held.this = this_kept around.objects (new r.held.own.entity name q.index q.field v w o fits) (extends r.held.own.entity name q.index q.field v w o fits) core r.held.own r.held.set r.held.this r.held.this_ok in
      let set_this : ThisOk core (new r.held.own.entity name q.index q.field v w o fits) r.held.own e.follows.set r.held.this = record {
        is_entity = kept_this.is_entity;
        kind = kept_this.kind;
        finished = kept_this.finished;
        fields = λ h. subst (λ (u : Value). HasFields (new r.held.own.entity name q.index q.field v w o fits) e.follows.set u) this (own_set_ok r.held.own.entity name q.index q.field v w o fits e.follows.set more has_them);
      } in
      write_ok r.held.own.entity name q.index q.field v w o fits old rest (subst (λ (m : Mask). Within m r.held.live) (sym q.says.live) e.live) set_this ok
      (subst (λ (y : Option Ty). OfSome core around.objects y (value_or_none old)) (sym q.says.ty) (own_old_ok r.held.own.entity name q.index q.field v old q.old o there has_them q.is_old)) (λ h. false_true (ap is_this (sym is) ∙ h))

  puts : MoveOk core ann around fs (put_task core around f e.node.kind)
  puts =
      put_kind core ann needs around f fs r n e (MoveOk core ann around fs) (λ name is q v w z rest o at ok there fits old. plain_ok name is q v w z rest o ok fits old)
      (λ name is q v w old rest o this at ok there has_them fits. own_ok name is q v w old rest o this ok there has_them fits) e.node.kind refl e.kind (rule_is core ann needs around f fs r tasks.writes n e)

pub keeps_put : (n : ℕ) → Keeps (task.Put n)
keeps_put n core ann needs around f fs r e = at_this core ann needs around f fs r tasks.writes n e (λ x. put_task core around f x.kind) (puts core ann needs around f fs r n e)
