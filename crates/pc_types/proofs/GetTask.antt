-- The task Get: a field is read.
use Rattle.std.specs.Prelude.{◌≡◌, ℕ, true, List, [], ◌∷◌, length, Option, Some, slice_get, refl}
use Rattle.std.proofs.{Common.{inl, ap, sym, subst, ◌∙◌, arith}, lemmas.Option.{same_Some, none-some}}
use Rattle.pc_heap.specs.{Objects.Object, declared.value.Value.Value}
use Rattle.pc_caps.specs.{Tables.view, declared.capability.Form.Form}
use Rattle.pc_caps.specs.declared.capability.Form.TheVariants as form
use Rattle.pc_core.specs.{declared.declarations.FieldInfo.FieldInfo, declared.declarations.Method.Method, declared.nodes.Node.Node, declared.nodes.NodeKind.NodeKind, CoreData.CoreData, Nodes.HasArity}
use Rattle.pc_core.specs.declared.nodes.NodeKind.TheVariants as nodes
use Rattle.pc_base.specs.Lists.{◌>>=◌}
use Rattle.pc_base.proofs.{Options.{bind_some, kept, kept_otherwise}, Bools.false_true}
use Rattle.pc_ann.specs.{declared.annotation.Note.Note, declared.annotation.Ann.Ann, declared.annotation.Rule.Rule}
use Rattle.pc_ann.specs.declared.annotation.Rule.TheVariants as rule
use Rattle.pc_masks.specs.Masks.{has}
use Rattle.pc_semantics.specs.{declared.frames.Frame.Frame, Configurations.{Around, Move, Goes, with_stack, pushed}, Parts.{get_value, get_field, get_of, get_from}, Calls.get_task}
use Rattle.pc_semantics.specs.declared.frames.Task.TheVariants as task
use Rattle.pc_rules.specs.{Parts.{says_of, through, type_of, one_child, last_child, constructs}, Fields.{is_this, field_of, own_field, field_type}, Rules.said_by}
use Rattle.pc_valid.specs.Words.{Ty, Masks, before}
use Rattle.pc_rules.proofs.ByNumber.{incomplete, read_says, own_read_says, own_seen, says}
use Rattle.pc_types.proofs.{Types.{OfType, Answers, StackOk}, Tasks.{want_of, reads, FinishOk, TasksOk}, Frames.HasFields, Moves.{MoveOk, Runs}, Needs.Needs, Basic.of_lower, Tables.{view_sees, view_plain}, Begin.only_one, Steps.Keeps, Inverse.{Says, said_type}, Origins.{FieldAt, field_at, Origin, origin_of, origin_at, value_there, set_value, OwnOrigin, own_origin}, Finish.{one_top, done_ok, own_is, rule_is, at_this, typed_at, at_top}}
use Rattle.pc_types.proofs.Typed as typed

-- ---- what the rules state

-- A field of the origin's entity.
pub record GetRule (core : CoreData) (ann : Ann) (x : Node) (t : Note) (behind : Masks) (name : ℕ) : Type 0 where
  pub child : ℕ
  pub children : x.children ≡ child ∷ []
  pub origin : Ty
  pub is_origin : type_of ann child ≡ Some origin
  pub index : ℕ
  pub field : FieldInfo
  pub is_field : field_of core origin.0 name ≡ Some (index, field)
  pub seen : Form
  pub is_seen : view origin.1 field.cap ≡ Some seen
  pub says : Says t (Some (field.entity, seen)) behind

-- A field of the method's entity that is set.
pub record OwnGetRule (core : CoreData) (ann : Ann) (x : Node) (t : Note) (behind : Masks) (name : ℕ) : Type 0 where
  pub own : Method
  pub is_own : slice_get core.methods x.method ≡ Some own
  pub origin : OwnOrigin core x own
  pub index : ℕ
  pub field : FieldInfo
  pub is_field : field_of core own.entity name ≡ Some (index, field)
  pub seen : Form
  pub is_seen : view form.Ref field.cap ≡ Some seen
  pub set : has behind.1 index ≡ true
  pub says : Says t (Some (field.entity, seen)) behind

module _ (core : CoreData) (ann : Ann) (x : Node) (t : Note) (behind : Masks) (is_behind : through ann x.children (before t) ≡ Some behind) (name : ℕ) where
  pub read_is : read_says core ann x name (before t) ≡ Some (said_by t) → GetRule core ann x t behind name
  read_is e =
      let c = bind_some (one_child x.children) _ (said_by t) e in
      let o = bind_some (type_of ann c.0) _ (said_by t) c.2 in
      let y = bind_some (field_type core o.0 name) _ (said_by t) o.2 in
      let n = bind_some (through ann x.children (before t)) _ (said_by t) y.2 in
      let g = bind_some (field_of core o.0.0 name) _ y.0 y.1 in
      let v = bind_some (view o.0.1 g.0.1.cap) _ y.0 g.2 in
      let is : behind ≡ n.0 = same_Some behind n.0 (sym is_behind ∙ n.1) in
      let ty : ◌≡◌ {A = Ty} (g.0.1.entity, v.0) y.0 = same_Some (g.0.1.entity, v.0) y.0 v.2 in
      record {
        child = c.0;
        children = only_one x.children c.0 c.1;
        origin = o.0;
        is_origin = o.1;
        index = g.0.0;
        field = g.0.1;
        is_field = g.1;
        seen = v.0;
        is_seen = v.1;
        says = said_type t (g.0.1.entity, v.0) y.0 behind n.0 ty is n.2;
      }

  pub own_read_is : incomplete core ann x ≡ true → own_read_says core ann x name (before t) ≡ Some (said_by t) → OwnGetRule core ann x t behind name
  own_read_is lacks e =
      let g = bind_some (own_field core x name) _ (said_by t) e in
      let m = bind_some (slice_get core.methods x.method) _ g.0 g.1 in
      let v = bind_some (view form.Ref g.0.1.cap) (λ s. through ann x.children (before t) >>= own_seen g.0 s) (said_by t) g.2 in
      let n = bind_some (through ann x.children (before t)) (own_seen g.0 v.0) (said_by t) v.2 in
      let is : behind ≡ n.0 = same_Some behind n.0 (sym is_behind ∙ n.1) in
      let k = kept (has n.0.1 g.0.0) (Some (says_of (Some (g.0.1.entity, v.0)) n.0)) (said_by t) n.2 in
      record {
        own = m.0;
        is_own = m.1;
        origin = own_origin core ann x m.0 m.1 lacks;
        index = g.0.0;
        field = g.0.1;
        is_field = m.2;
        seen = v.0;
        is_seen = v.1;
        set = subst (λ (q : Masks). has q.1 g.0.0 ≡ true) (sym is) k.0;
        says = said_type t (g.0.1.entity, v.0) (g.0.1.entity, v.0) behind n.0 refl is k.1;
      }

-- The last of one child is that child.
pub only_last : (cs : List ℕ) (c : ℕ) → length cs ≡ 1 → last_child cs ≡ Some c → cs ≡ c ∷ []
only_last [] c one e = absurd (omega (arith, one))
only_last (a ∷ []) c one e = ap (λ (k : ℕ). k ∷ []) (same_Some a c e)
only_last (a ∷ b ∷ cs) c one e = absurd (omega (arith, one))

-- ---- the task

module _ (core : CoreData) (ann : Ann) (needs : Needs core ann) (around : Around) (f : Frame) (fs : List Frame) (r : Runs core ann around f fs) (n : ℕ) (e : FinishOk core ann f.method r.held.live r.held.set r.held.wants reads n (λ l s g. TasksOk core ann f.method f.tasks l s g))
    -- over any property of moves that holds of these ends
    (Holds : Move → Type 0)
    (plain : (name : ℕ) → e.node.kind ≡ nodes.Field name → (q : GetRule core ann e.node e.note e.behind name) (v z : Value) (rest : List Value) (o : Origin core around.objects q.origin.0 name q.index q.field v) → f.stack ≡ v ∷ rest → StackOk core around.objects r.held.this e.below rest
    → slice_get o.object.fields q.index ≡ Some (Some z) → OfType core around.objects (q.field.entity, q.seen) z → Holds (Goes (pushed (with_stack f rest) z)))
    (own : (name : ℕ) → e.node.kind ≡ nodes.Field name → (q : OwnGetRule core ann e.node e.note e.behind name) (v z : Value) (rest : List Value) (o : Origin core around.objects r.held.own.entity name q.index q.field v) → v ≡ r.held.this → f.stack ≡ v ∷ rest → StackOk core around.objects r.held.this e.below rest
    → slice_get o.object.fields q.index ≡ Some (Some z) → OfType core around.objects (q.field.entity, q.seen) z → Holds (Goes (pushed (with_stack f rest) z)))
  where
    -- What is done if the field has a value.
    reads_ok : (g : Frame) (d name i : ℕ) (x : FieldInfo) (v w : Value) (o : Origin core around.objects d name i x v) → slice_get o.object.fields i ≡ Some (Some w) → Holds (Goes (pushed g w)) → Holds (get_from core around name v g)
    reads_ok g d name i x v w o is k =
        subst (λ (u : Value). Holds (get_from core around name u g)) (sym o.is)
        (subst (λ (p : Option Object). Holds (get_of core g name p)) (sym o.stands)
        (subst (λ (p : Option ℕ). Holds (get_field g o.object p)) (sym o.named)
        (subst (λ (p : Option (Option Value)). Holds (get_value g p)) (sym is) k)))

    -- The value is of the type that is seen.
    seen_ok : (d name i : ℕ) (x : FieldInfo) (v w : Value) (o : Origin core around.objects d name i x v) → slice_get o.object.fields i ≡ Some (Some w) → (from seen : Form) → view from x.cap ≡ Some seen → OfType core around.objects (x.entity, seen) w
    seen_ok d name i x v w o is from seen sees_it = of_lower core ann needs around.objects (typed.field_type x) (x.entity, seen) w (inl refl, view_plain from x.cap seen sees_it) (o.fits.fields i x w o.is_field is)

    get_ok : (name : ℕ) → e.node.kind ≡ nodes.Field name → (q : GetRule core ann e.node e.note e.behind name) (v : Value) (rest : List Value) → f.stack ≡ v ∷ rest → Answers core around.objects r.held.this (want_of core ann q.child) v → StackOk core around.objects r.held.this e.below rest → Holds (get_from core around name v (with_stack f rest))
    get_ok name is q v rest at_stack has ok =
        let t : OfType core around.objects q.origin v = typed_at core ann around q.child q.origin v q.is_origin has.0 in
        let o = origin_at core ann needs around.objects around.actors r.objects q.origin name q.index q.field v (field_at core q.origin.0 name q.index q.field q.is_field) t in
        let w = value_there core ann needs around.objects around.actors r.objects q.origin.0 name q.index q.field v o (t.finished (view_sees q.origin.1 q.field.cap q.seen q.is_seen)) in
        reads_ok (with_stack f rest) q.origin.0 name q.index q.field v w.0 o w.1
        (plain name is q v w.0 rest o at_stack ok w.1 (seen_ok q.origin.0 name q.index q.field v w.0 o w.1 q.origin.1 q.seen q.is_seen))

    own_get_ok : (name : ℕ) → e.node.kind ≡ nodes.Field name → (q : OwnGetRule core ann e.node e.note e.behind name) (v : Value) (rest : List Value) → f.stack ≡ v ∷ rest → v ≡ r.held.this → StackOk core around.objects r.held.this e.below rest → Holds (get_from core around name v (with_stack f rest))
    own_get_ok name is q v rest at_stack this ok =
        let same : q.own ≡ r.held.own = same_Some q.own r.held.own (sym q.is_own ∙ own_is core ann needs around f fs r reads n e) in
        let at : FieldAt core r.held.own.entity name q.index q.field = field_at core r.held.own.entity name q.index q.field (ap (λ (m : Method). field_of core m.entity name) (sym same) ∙ q.is_field) in
        let o : Origin core around.objects r.held.own.entity name q.index q.field v = subst (λ (u : Value). Origin core around.objects r.held.own.entity name q.index q.field u) (sym this) (origin_of core ann needs around.objects around.actors r.objects r.held.own.entity name q.index q.field r.held.this at r.held.this_ok.kind r.held.this_ok.is_entity) in
        let new : constructs r.held.own.kind ≡ true = ap (λ (m : Method). constructs m.kind) (sym same) ∙ q.origin.constructs in
        let w = set_value core around.objects r.held.own.entity name q.index q.field v r.held.set o (subst (λ (u : Value). HasFields around.objects r.held.set u) (sym this) (r.held.this_ok.fields new)) (e.set q.index q.set) in
        reads_ok (with_stack f rest) r.held.own.entity name q.index q.field v w.0 o w.1
        (own name is q v w.0 rest o this at_stack ok w.1 (seen_ok r.held.own.entity name q.index q.field v w.0 o w.1 form.Ref q.seen q.is_seen))

    -- ---- by the rule

    get_rule : (name : ℕ) → e.node.kind ≡ nodes.Field name → GetRule core ann e.node e.note e.behind name → Holds (get_task core around f (nodes.Field name))
    get_rule name is q =
        let t = one_top core ann needs around f fs r reads n e q.child q.children in
        at_top Holds f t.top t.below (get_from core around name) t.is (get_ok name is q t.top t.below t.is t.answers t.ok)

    own_get_rule : (name : ℕ) → e.node.kind ≡ nodes.Field name → OwnGetRule core ann e.node e.note e.behind name → Holds (get_task core around f (nodes.Field name))
    own_get_rule name is q =
        let one : length e.node.children ≡ 1 = subst (λ (k : NodeKind). HasArity k (length e.node.children)) is (needs.formed.nodes n e.node e.is_node).arity in
        let t = one_top core ann needs around f fs r reads n e q.origin.last (only_last e.node.children q.origin.last one q.origin.is_last) in
        at_top Holds f t.top t.below (get_from core around name) t.is (own_get_ok name is q t.top t.below t.is (t.answers.1 q.origin.this) t.ok)

    field_rule : (u : Rule) (name : ℕ) → e.node.kind ≡ nodes.Field name → says core ann e.node (before e.note) u (nodes.Field name) ≡ Some (said_by e.note) → Holds (get_task core around f (nodes.Field name))
    field_rule rule.Get name is q =
        get_rule name is (read_is core ann e.node e.note e.behind e.is_behind name (kept_otherwise (incomplete core ann e.node) (read_says core ann e.node name (before e.note)) (said_by e.note) q).1)
    field_rule rule.GetOwn name is q =
        let k = kept (incomplete core ann e.node) (own_read_says core ann e.node name (before e.note)) (said_by e.note) q in
        own_get_rule name is (own_read_is core ann e.node e.note e.behind e.is_behind name k.0 k.1)
    field_rule u name is q = absurd (none-some (said_by e.note) q)

    pub get_kind : (k : NodeKind) → e.node.kind ≡ k → reads k ≡ true → says core ann e.node (before e.note) e.note.rule k ≡ Some (said_by e.note) → Holds (get_task core around f k)
    get_kind (nodes.Field name) is h q = field_rule e.note.rule name is q
    get_kind k is h q = absurd (false_true h)

pub keeps_get : (n : ℕ) → Keeps (task.Get n)
keeps_get n core ann needs around f fs r e =
    at_this core ann needs around f fs r reads n e (λ x. get_task core around f x.kind)
    (get_kind core ann needs around f fs r n e (MoveOk core ann around fs)
    (λ name is q v z rest o at ok there typed. done_ok core ann needs around f fs r reads n e (Some (q.field.entity, q.seen)) z rest q.says ok typed (λ h. false_true (ap is_this (sym is) ∙ h)))
    (λ name is q v z rest o this at ok there typed. done_ok core ann needs around f fs r reads n e (Some (q.field.entity, q.seen)) z rest q.says ok typed (λ h. false_true (ap is_this (sym is) ∙ h)))
    e.node.kind refl e.kind (rule_is core ann needs around f fs r reads n e))
