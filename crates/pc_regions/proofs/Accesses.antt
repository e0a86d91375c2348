-- In a configuration that is well typed and has regions, each access is to an object of the actor, or reads a frozen
-- one.
use Rattle.std.specs.Prelude.{◌≡◌, ◌⊎◌, ℕ, ◌+◌, ◌<◌, true, List, [], ◌∷◌, length, Option, Some, slice_get, refl}
use Rattle.std.proofs.{Common.{inl, inr, ap, sym, subst, ◌∙◌, arith}, lemmas.Option.{same_Some, none-some}}
use Rattle.pc_heap.specs.{Objects.ObjectMap, declared.value.Address.Address, declared.value.Value.Value, declared.value.Value.TheVariants.At}
use Rattle.pc_caps.specs.{Tables.{view, taken, unalias}, declared.capability.Cap.Cap, declared.capability.Form.Form}
use Rattle.pc_caps.specs.declared.capability.Cap.TheVariants as cap
use Rattle.pc_caps.specs.declared.capability.Form.TheVariants as form
use Rattle.pc_core.specs.{declared.declarations.Method.Method, declared.declarations.MethodKind.MethodKind, declared.nodes.Node.Node, declared.nodes.NodeKind.NodeKind, CoreData.CoreData, Methods.ResultFits, Nodes.HasArity}
use Rattle.pc_core.specs.declared.declarations.MethodKind.TheVariants as method
use Rattle.pc_core.specs.declared.nodes.NodeKind.TheVariants as nodes
use Rattle.pc_ann.specs.{declared.annotation.Ann.Ann, declared.annotation.Rule.Rule}
use Rattle.pc_ann.specs.declared.annotation.Rule.TheVariants as rule
use Rattle.pc_semantics.specs.{declared.frames.Frame.Frame, declared.frames.Task.Task, Configurations.Around}
use Rattle.pc_semantics.specs.declared.frames.Task.TheVariants as task
use Rattle.pc_rules.specs.{Parts.{type_of, last_child, constructs}, Rules.said_by}
use Rattle.pc_valid.specs.Words.{Ty, before}
use Rattle.pc_rules.proofs.ByNumber.{incomplete, read_says, own_read_says, write_says, own_write_says, says}
use Rattle.pc_base.proofs.{Bools.false_true, Options.{kept, kept_otherwise}}
use Rattle.pc_types.proofs.{Types.{Want, StackOk}, Tasks.{want_of, stacked, reads, writes, TasksOk}, Moves.Runs, Needs.Needs, Notes.meets, GetTask.{GetRule, OwnGetRule, read_is, own_read_is, only_last}, PutTask.{PutRule, OwnPutRule, write_is, own_write_is}}
use Rattle.pc_regions.proofs.{World.{InSlot, OnStack, World, Frozen, Belongs, stack, child, FitsIn, Fits, FitsSome, AliasIn, Alias, AliasSome, WorldOk}, StackForms.{Entry, piled, uses_top}, Fitting.{StackFits, TopAlias}, MoveFits.Situated, OneHolder.{context_belongs, over_is_of, seen_belongs}}

-- ---- origins

module _ (w : World) (objects : ObjectMap) (count : ℕ) (ok : WorldOk w objects count) (i : ℕ) (here : i < count) (h d b : ℕ) (q : ℕ) where
  own_context : Belongs w i (w.context i (w.top i))
  own_context = context_belongs w objects count ok i here (w.top i) (omega arith)

  -- What is read from at a form that sees a field is of the actor, or frozen.
  pub read_belongs : (o : Form) (k : Cap) (seen : Form) → view o k ≡ Some seen → FitsIn w (OnStack i h d (w.top i)) o q → AliasIn w i b (w.top i) o q → Belongs w i q ⊎ Frozen w q
  read_belongs form.IsoE k seen e f a = inl (stack h d (w.top i) f)
  read_belongs form.TrnE k seen e f a = inl (child (w.context i (w.top i)) (Some (OnStack i h d (w.top i))) f own_context)
  read_belongs form.Iso k seen e f a = inl (over_is_of w objects count ok i here a.5)
  read_belongs form.Trn k seen e f a = inl (child (w.context i (w.top i)) a.1 a.2 own_context)
  read_belongs form.Ref k seen e f a = inl (subst (Belongs w i) (sym f) own_context)
  read_belongs form.Val k seen e f a = inr f
  read_belongs form.Box k seen e f a = seen_belongs w objects count ok i here own_context f
  read_belongs form.Tag k seen e f a = absurd (none-some seen e)

  -- What is written to, at a form that gives up a field's value, is of the actor.
  pub write_belongs : (o : Form) (k : Cap) (old : Form) → taken o k ≡ Some old → FitsIn w (OnStack i h d (w.top i)) o q → AliasIn w i b (w.top i) o q → Belongs w i q
  write_belongs form.IsoE k old e f a = stack h d (w.top i) f
  write_belongs form.TrnE k old e f a = child (w.context i (w.top i)) (Some (OnStack i h d (w.top i))) f own_context
  write_belongs form.Iso k old e f a = over_is_of w objects count ok i here a.5
  write_belongs form.Trn k old e f a = child (w.context i (w.top i)) a.1 a.2 own_context
  write_belongs form.Ref k old e f a = subst (Belongs w i) (sym f) own_context
  write_belongs form.Val k old e f a = absurd (none-some old e)
  write_belongs form.Box k old e f a = absurd (none-some old e)
  write_belongs form.Tag k old e f a = absurd (none-some old e)

-- ---- a frame that is about to read or write a field

module _ (core : CoreData) (ann : Ann) (needs : Needs core ann) (around : Around) (f : Frame) (ts : List Task) (fs : List Frame) (r : Runs core ann around f fs) (w : World) (s : Situated core ann w around f ts fs) (used : uses_top ts ≡ true) where
  place_at : (d l : ℕ) → l ≡ w.top around.actor → (t : Option Ty) (v : Value) → FitsSome w (OnStack around.actor (length fs) d l) t v → FitsSome w (OnStack around.actor (length fs) d (w.top around.actor)) t v
  place_at d l is t v k = subst (λ (n : ℕ). FitsSome w (OnStack around.actor (length fs) d n) t v) is k

  -- The value on top fits, and is an alias that may be used.
  pub top_fits : (c : ℕ) (below : List Entry) → s.active.holds.entries ≡ record { ty = type_of ann c; depth = s.active.depth } ∷ below → (v : Value) (rest : List Value) → f.stack ≡ v ∷ rest → (t : Ty) → type_of ann c ≡ Some t
      → Fits w (OnStack around.actor (length fs) (length rest) (w.top around.actor)) t.1 v × Alias w around.actor s.active.holds.base (w.top around.actor) t.1 v
  top_fits c below is v rest at t typed =
      let e : Entry = record { ty = type_of ann c; depth = s.active.depth } in
      let both : StackFits w around.actor (length fs) s.active.holds.base (e ∷ below) (v ∷ rest) =
      subst (StackFits w around.actor (length fs) s.active.holds.base (e ∷ below)) at (subst (λ (es : List Entry). StackFits w around.actor (length fs) s.active.holds.base es f.stack) is s.active.holds.stack_fit) in
      let alias : AliasSome w around.actor s.active.holds.base (w.top around.actor) (type_of ann c) v =
      subst (TopAlias w around.actor s.active.holds.base (e ∷ below)) at (subst (λ (es : List Entry). TopAlias w around.actor s.active.holds.base es f.stack) is (s.fresh used)) in (
        subst (λ (u : Option Ty). FitsSome w (OnStack around.actor (length fs) (length rest) (w.top around.actor)) u v) typed (place_at (length rest) (s.active.holds.base + s.active.depth) s.active.last (type_of ann c) v both.0),
        subst (λ (u : Option Ty). AliasSome w around.actor s.active.holds.base (w.top around.actor) u v) typed alias,
      )

  -- The frame's own object, in a method whose receiver is `ref`, is of the actor.
  this_belongs : (x : Method) (a : Address) → slice_get core.methods f.method ≡ Some x → x.receiver ≡ cap.Ref → slice_get f.slots 0 ≡ Some (Some (At a)) → Belongs w around.actor (w.region a)
  this_belongs x a is ref at =
      let fit : Fits w (InSlot around.actor (length fs) 0 s.active.holds.base) form.Ref (At a) = subst (λ (k : Cap). Fits w (InSlot around.actor (length fs) 0 s.active.holds.base) (unalias k) (At a)) ref (s.active.holds.this_fits x (At a) is at) in
      let last = s.active.last in
      subst (Belongs w around.actor) (sym fit) (context_belongs w around.objects around.actors s.world around.actor s.here s.active.holds.base (omega (arith, last)))

  -- A constructor's receiver is `ref`.
  pub constructor_ref : (x : Method) (k : MethodKind) → ResultFits k x → constructs k ≡ true → x.receiver ≡ cap.Ref
  constructor_ref x method.New p c = p.0
  constructor_ref x method.Spawn p c = p.0
  constructor_ref x method.Fun p c = absurd (false_true c)
  constructor_ref x method.Be p c = absurd (false_true c)

  own_belongs : (x : Method) (a : Address) → slice_get core.methods f.method ≡ Some x → constructs x.kind ≡ true → At a ≡ r.held.this → Belongs w around.actor (w.region a)
  own_belongs x a is c this = this_belongs x a is (constructor_ref x x.kind (needs.formed.methods f.method x is).result_fits c) (r.held.is_this ∙ ap (λ (v : Value). Some (Some v)) (sym this))

-- What is on top of a stack that meets the wants is the frame's own object, if that is wanted.
own_top : (core : CoreData) (objects : ObjectMap) (this : Value) (g below : List Want) (x : Want) (v : Value) (rest : List Value) (vs : List Value) → StackOk core objects this g vs → g ≡ x ∷ below → vs ≡ v ∷ rest → x.own ≡ true → v ≡ this
own_top core objects this g below x v rest vs ok is at own =
    let k : StackOk core objects this (x ∷ below) (v ∷ rest) = subst (StackOk core objects this (x ∷ below)) at (subst (λ (ws : List Want). StackOk core objects this ws vs) is ok) in
    k.0.1 own

module _ (core : CoreData) (ann : Ann) (needs : Needs core ann) (around : Around) (f : Frame) (fs : List Frame) (r : Runs core ann around f fs) (w : World) (n : ℕ) (a : Address) (rest : List Value) (at : f.stack ≡ At a ∷ rest) where
  module _ (ts : List Task) (e : TasksOk core ann f.method (task.Get n ∷ ts) r.held.live r.held.set r.held.wants) (s : Situated core ann w around f (task.Get n ∷ ts) fs) where
    get_node : s.tasks.node ≡ e.node
    get_node = same_Some s.tasks.node e.node (sym s.tasks.is_node ∙ e.is_node)

    -- A field of a finished object is read.
    get_belongs : (name : ℕ) → GetRule core ann e.node e.note e.behind name → Belongs w around.actor (w.region a) ⊎ Frozen w (w.region a)
    get_belongs name q =
        let is : s.active.holds.entries ≡ record { ty = type_of ann q.child; depth = s.active.depth } ∷ s.tasks.below = s.tasks.stack ∙ ap (λ (cs : List ℕ). piled ann s.active.depth cs s.tasks.below) (ap (λ (y : Node). y.children) get_node ∙ q.children) in
        let k = top_fits core ann needs around f (task.Get n ∷ ts) fs r w s refl q.child s.tasks.below is (At a) rest at q.origin q.is_origin in
        read_belongs w around.objects around.actors s.world around.actor s.here (length fs) (length rest) s.active.holds.base (w.region a) q.origin.1 q.field.cap q.seen q.is_seen k.0 k.1

    -- A field of the own object is read.
    own_get_belongs : (name : ℕ) → OwnGetRule core ann e.node e.note e.behind name → HasArity (nodes.Field name) (length e.node.children) → Belongs w around.actor (w.region a)
    own_get_belongs name q one =
        let cs : e.node.children ≡ q.origin.last ∷ [] = only_last e.node.children q.origin.last one q.origin.is_last in
        let this : At a ≡ r.held.this = own_top core around.objects r.held.this r.held.wants e.below (want_of core ann q.origin.last) (At a) rest f.stack r.held.stack_ok (e.stack ∙ ap (λ (ds : List ℕ). stacked core ann ds e.below) cs) at q.origin.this in
        own_belongs core ann needs around f (task.Get n ∷ ts) fs r w s refl q.own a (ap (slice_get core.methods) (sym e.own) ∙ q.is_own) q.origin.constructs this

    get_by : (u : Rule) (name : ℕ) → HasArity (nodes.Field name) (length e.node.children) → says core ann e.node (before e.note) u (nodes.Field name) ≡ Some (said_by e.note) → Belongs w around.actor (w.region a) ⊎ Frozen w (w.region a)
    get_by rule.Get name one q = get_belongs name (read_is core ann e.node e.note e.behind e.is_behind name (kept_otherwise (incomplete core ann e.node) (read_says core ann e.node name (before e.note)) (said_by e.note) q).1)
    get_by rule.GetOwn name one q =
        let k = kept (incomplete core ann e.node) (own_read_says core ann e.node name (before e.note)) (said_by e.note) q in
        inl (own_get_belongs name (own_read_is core ann e.node e.note e.behind e.is_behind name k.0 k.1) one)
    get_by u name one q = absurd (none-some (said_by e.note) q)

    get_kind : (k : NodeKind) → reads k ≡ true → HasArity k (length e.node.children) → says core ann e.node (before e.note) e.note.rule k ≡ Some (said_by e.note) → Belongs w around.actor (w.region a) ⊎ Frozen w (w.region a)
    get_kind (nodes.Field name) h one q = get_by e.note.rule name one q
    get_kind k h one q = absurd (false_true h)

    pub get_access : Belongs w around.actor (w.region a) ⊎ Frozen w (w.region a)
    get_access = get_kind e.node.kind e.kind (needs.formed.nodes n e.node e.is_node).arity (meets core ann needs n e.node e.note e.is_node e.is_note)

  module _ (ts : List Task) (e : TasksOk core ann f.method (task.Put n ∷ ts) r.held.live r.held.set r.held.wants) (s : Situated core ann w around f (task.Put n ∷ ts) fs) where
    put_node : s.tasks.node ≡ e.node
    put_node = same_Some s.tasks.node e.node (sym s.tasks.is_node ∙ e.is_node)

    put_belongs : (name : ℕ) → PutRule core ann e.node e.note e.behind name → Belongs w around.actor (w.region a)
    put_belongs name q =
        let below : List Entry = record { ty = type_of ann q.value; depth = s.active.depth } ∷ s.tasks.below in
        let is : s.active.holds.entries ≡ record { ty = type_of ann q.origin; depth = s.active.depth } ∷ below = s.tasks.stack ∙ ap (λ (cs : List ℕ). piled ann s.active.depth cs s.tasks.below) (ap (λ (y : Node). y.children) put_node ∙ q.children) in
        let k = top_fits core ann needs around f (task.Put n ∷ ts) fs r w s refl q.origin below is (At a) rest at q.origin_ty q.is_origin in
        write_belongs w around.objects around.actors s.world around.actor s.here (length fs) (length rest) s.active.holds.base (w.region a) q.origin_ty.1 q.field.cap q.old q.is_old k.0 k.1

    own_put_belongs : (name : ℕ) → OwnPutRule core ann e.node e.note e.behind name → Belongs w around.actor (w.region a)
    own_put_belongs name q =
        let last : q.last ≡ q.origin.last = same_Some q.last q.origin.last (sym (ap last_child q.children) ∙ q.origin.is_last) in
        let own : (want_of core ann q.last).own ≡ true = ap (λ (k : ℕ). (want_of core ann k).own) last ∙ q.origin.this in
        let this : At a ≡ r.held.this = own_top core around.objects r.held.this r.held.wants (want_of core ann q.value ∷ e.below) (want_of core ann q.last) (At a) rest f.stack r.held.stack_ok (e.stack ∙ ap (λ (ds : List ℕ). stacked core ann ds e.below) q.children) at own in
        own_belongs core ann needs around f (task.Put n ∷ ts) fs r w s refl q.own a (ap (slice_get core.methods) (sym e.own) ∙ q.is_own) q.origin.constructs this

    put_by : (u : Rule) (name : ℕ) → says core ann e.node (before e.note) u (nodes.SetField name) ≡ Some (said_by e.note) → Belongs w around.actor (w.region a)
    put_by rule.Put name q = put_belongs name (write_is core ann e.node e.note e.behind e.is_behind name (kept_otherwise (incomplete core ann e.node) (write_says core ann e.node name (before e.note)) (said_by e.note) q).1)
    put_by rule.PutOwn name q =
        let k = kept (incomplete core ann e.node) (own_write_says core ann e.node name (before e.note)) (said_by e.note) q in
        own_put_belongs name (own_write_is core ann e.node e.note e.behind e.is_behind name k.0 k.1)
    put_by u name q = absurd (none-some (said_by e.note) q)

    put_kind : (k : NodeKind) → writes k ≡ true → says core ann e.node (before e.note) e.note.rule k ≡ Some (said_by e.note) → Belongs w around.actor (w.region a)
    put_kind (nodes.SetField name) h q = put_by e.note.rule name q
    put_kind k h q = absurd (false_true h)

    pub put_access : Belongs w around.actor (w.region a)
    put_access = put_kind e.node.kind e.kind (meets core ann needs n e.node e.note e.is_node e.is_note)
