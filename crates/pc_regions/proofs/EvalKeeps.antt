-- The task Eval, at each kind of node, in regions.
use Rattle.std.specs.Prelude.{◌≡◌, ◌⊎◌, ℕ, suc, ◌+◌, ◌-◌, ◌<◌, ◌≤◌, Bool, true, false, ◌&&◌, cond, List, [], ◌∷◌, length, Option, Some, None, nat_eq, nat_lt, slice_get, refl}
use Rattle.std.proofs.{Common.{inl, inr, ap, sym, subst, ◌∙◌, arith}, lemmas.Bool.{eq-eqb, le-ltb, cases_lt, and_right}, lemmas.Option.same_Some}
use Rattle.pc_heap.specs.declared.value.Value.{Value}
use Rattle.pc_caps.specs.{declared.capability.Cap.Cap, declared.capability.Form.Form}
use Rattle.pc_core.specs.{declared.nodes.Node.Node, declared.nodes.NodeKind.NodeKind, CoreData.CoreData, Nodes.inner_depth}
use Rattle.pc_core.specs.declared.nodes.NodeKind.TheVariants as nodes
use Rattle.pc_base.specs.Lists.{◌>>=◌}
use Rattle.pc_masks.specs.declared.mask.Mask.{Mask}
use Rattle.pc_ann.specs.declared.annotation.Ann.{Ann}
use Rattle.pc_semantics.specs.{declared.frames.Frame.Frame, declared.frames.Task.Task, Configurations.Around, Evaluation.{AllThen, first_then, by_way, evaluate}, Parts.evaluate_node}
use Rattle.pc_semantics.specs.declared.frames.Task.TheVariants as task
use Rattle.pc_rules.specs.{Parts.through, Rules.said_by}
use Rattle.pc_valid.specs.Words.{Ty, before}
use Rattle.pc_rules.proofs.{ByNumber.says, OneRule.body_rule, Threads.is_branch}
use Rattle.pc_base.proofs.Bools.{false_true}
use Rattle.pc_types.proofs.{Tasks.{EvalOk, BodyOk, TasksOk, reads, writes, stores, makes, spawns, invokes, applies, is_lazy}, Moves.Runs, Needs.Needs, Notes.{meets, children_threaded, names_fit, arity_fits}, Begin.body_inverse, EvalChildren.{within_is, first_of_them, type_is}, Inverse.{RecoverRule, number_rule, truth_rule, text_rule, prim_rule, this_rule, local_rule, consume_rule, and_rule, or_rule, if_rule, while_rule, seq_rule, recover_rule}}
use Rattle.pc_regions.proofs.{World.{Place, InSlot, OnStack, World, Opened, FitsSome}, StackForms.{Entry, Shallow, Recovers, recovered_type, EvalRises, BodyRises, FinishRises, TasksRise, uses_top, LiveShallow}, Fitting.{ThisFits, SlotsFit, StackFits, OpenedTo}, MoveFits.{RegionMoveOk, Situated}, Changes.{with_open, Shifts}, Climbed.ClimbLaw, ContextLaws.{higher, OpenLaw}, Shifts.{others_kept, fields_kept, below_under}, Rising.higher_elsewhere, StandsOtherwise.stand_here, ChildForms.{IsAt, at_depth}, ControlKeeps.{children_of, child_of, strict_goes, finish_rises, entry_at, tail_rises, lazy_goes, if_goes, while_goes, seq_goes, body_goes}, ValueKeeps.{number_goes, truth_goes, text_goes, prim_goes, this_goes, slot_goes, consume_goes}, Schedules.KeepsRegions, Waiting.slot_depth, Taken.TakeLaw}

-- ---- levels above

low_kept : (i k j l : ℕ) → l ≤ k → (nat_eq i j && nat_lt k l) ≡ false
low_kept i k j l low = and_right (nat_eq i j) (nat_lt k l) (le-ltb k l low)

deeper : (d : ℕ) (es : List Entry) → Shallow es d → Shallow es (d + 1)
deeper d [] k = k
deeper d (e ∷ es) k = let low = k.0 in (omega (arith, low), deeper d es k.1)

-- ---- a recover begins

module _ (core : CoreData) (ann : Ann) (needs : Needs core ann) (flat : LiveShallow core ann) (opens : OpenLaw) (around : Around) (f : Frame) (fs : List Frame) (w : World) (n : ℕ) (s : Situated core ann w around f (task.Eval n ∷ f.tasks) fs) where
  abbrev i : ℕ
  i = around.actor

  abbrev base : ℕ
  base = s.active.holds.base

  abbrev d : ℕ
  d = s.active.depth

  abbrev g : List Entry
  g = s.active.holds.entries

  abbrev v : World
  v = with_open w i

  abbrev gone : Place → Bool
  gone = higher i (w.top i)

  top_is : w.top i ≡ base + d
  top_is = sym s.active.last

  x : Shifts w v around.objects around.actors i (w.top i) gone
  x = (opens w around.objects around.actors s.world i s.here (w.top i) (omega arith) gone (λ p e. e)).shifts

  v_top : v.top i ≡ suc (w.top i)
  v_top = ap (λ (b : Bool). cond b (suc (w.top i)) (w.top i)) (eq-eqb i i refl)

  v_this : ThisFits core v i (length fs) f.method base f.slots
  v_this y z a b = x.fits (InSlot i (length fs) 0 base) _ z (low_kept i (w.top i) i base (omega (arith, top_is))) (s.active.holds.this_fits y z a b)

  v_slots : SlotsFit core ann v i (length fs) f.method base s.active.holds.live f.slots
  v_slots k low is z at y e =
      let deep = slot_depth core ann f.method k d s.active.holds.live y s.active.not_deeper is e in
      x.fits (InSlot i (length fs) k (base + y.0.depth)) _ z (low_kept i (w.top i) i (base + y.0.depth) (omega (arith, top_is, deep))) (s.active.holds.slots_fit k low is z at y e)

  v_some : (l c : ℕ) (t : Option Ty) (z : Value) → c ≤ w.top i → FitsSome w (OnStack i (length fs) l c) t z → FitsSome v (OnStack i (length fs) l c) t z
  v_some l c None z low k = tt
  v_some l c (Some t) z low k = x.fits (OnStack i (length fs) l c) t.1 z (low_kept i (w.top i) i c low) k

  v_stack : (es : List Entry) (vs : List Value) → Shallow es d → StackFits w i (length fs) base es vs → StackFits v i (length fs) base es vs
  v_stack [] [] low k = k
  v_stack [] (z ∷ vs) low k = k
  v_stack (e ∷ es) [] low k = k
  v_stack (e ∷ es) (z ∷ vs) low k = let deep = low.0 in (v_some (length vs) (base + e.depth) e.ty z (omega (arith, top_is, deep)) k.0, v_stack es vs low.1 k.1)

  v_last : v.stands (v.context i (suc (w.top i))) ≡ Opened i
  v_last =
      ap v.stands (ap (λ (b : Bool). cond (b && nat_eq (suc (w.top i)) (suc (w.top i))) w.next (w.context i (suc (w.top i)))) (eq-eqb i i refl) ∙ ap (λ (b : Bool). cond b w.next (w.context i (suc (w.top i)))) (eq-eqb (suc (w.top i)) (suc (w.top i)) refl))
      ∙ stand_here w.stands w.next (Opened i)

  v_opened : OpenedTo v i base (d + 1)
  v_opened j a b =
      elim (cases_lt (w.top i) j) [
        | inl up ↦
            let is : j ≡ suc (w.top i) = omega (arith, up, b, top_is) in
            subst (λ (k : ℕ). v.stands (v.context i k) ≡ Opened i) (sym is) v_last
        | inr low ↦ x.opened i j (inr low) (s.active.opened j a (omega (arith, top_is, low)))
      ]

  module _ (e : EvalRises core ann f.method d s.active.holds.live g n (λ d l g. TasksRise core ann f.method f.tasks d l g)) where
    begins : (c : ℕ) → EvalRises core ann f.method (d + 1) s.active.holds.live g c (λ d l g. TasksRise core ann f.method f.tasks d l g) → RegionMoveOk core ann w around fs (first_then f (c ∷ []) [])
    begins c child = (
      v,
      record {
        world = x.world;
        fields = fields_kept w v around.objects around.actors i (w.top i) gone x core (λ a k. refl) s.fields;
        others = others_kept w v around.objects around.actors i (w.top i) gone x (λ p h. higher_elsewhere i (w.top i) p h);
        frames = (
          record {
            holds = record { base = base; live = s.active.holds.live; entries = g; this_fits = v_this; slots_fit = v_slots; stack_fit = v_stack g f.stack s.active.shallow s.active.holds.stack_fit };
            depth = d + 1;
            last = omega (arith, v_top, top_is);
            opened = v_opened;
            not_deeper = λ k m y a b c. let low = s.active.not_deeper k m y a b c in omega (arith, low);
            shallow = deeper d g s.active.shallow;
          },
          inl child,
          λ u. absurd (false_true u),
          below_under w v around.objects around.actors i (w.top i) gone x core ann (length fs) (λ h k l low under. low_kept i (w.top i) i l under) (λ h c l low under. low_kept i (w.top i) i l under) base f.method fs (omega arith) (omega (arith, top_is)) s.wait,
        );
      },
    )

    pub recover_goes : (k : Option Cap) → e.node.kind ≡ nodes.Recover k → RecoverRule core ann e.node e.note k → RegionMoveOk core ann w around fs (first_then f e.node.children [])
    recover_goes k is q =
        let u = first_of_them ann q.child [] (before e.note) q.behind (ap (λ (cs : List ℕ). through ann cs (before e.note)) (sym q.children) ∙ q.is_behind) in
        let child : IsAt core f.method (d + 1) q.child = child_of core ann needs flat around f fs w n s f.method (d + 1) e.node.children (q.child ∷ []) 0 q.child q.children refl (children_of core ann needs flat around f fs w n s e.node (nodes.Recover k) e.is_node e.own e.depth is) in
        let value : u.note.ty ≡ Some q.value = sym (type_is ann q.child u.note u.is_note) ∙ q.is_value in
        let ty : recovered_type k u.note.ty ≡ Some (q.value.0, q.form) = ap (recovered_type k) value ∙ ap (λ (o : Option Form). o >>= λ f. Some (q.value.0, f)) q.is_form in
        let one : (d + 1) - 1 ≡ d = omega arith in
        let at = ap (λ (m : ℕ). at_depth m (recovered_type k u.note.ty)) one ∙ ap (at_depth d) ty ∙ entry_at core ann needs flat around f fs w n s e (Some (q.value.0, q.form)) q.says.ty in
        subst (λ (cs : List ℕ). RegionMoveOk core ann w around fs (first_then f cs [])) (sym q.children)
        (begins q.child
        (tail_rises core ann needs flat around f fs w n s e q.child (before e.note) q.behind s.active.holds.live (d + 1) (Recovers k) child u e.live
        (λ j h. within_is e.note.live_after q.behind.0 q.says.live j (e.follows.left j h))
        (q.value, q.form, value, q.is_form, omega arith) at))

-- ---- each kind

module _ (core : CoreData) (ann : Ann) (needs : Needs core ann) (flat : LiveShallow core ann) (climb : ClimbLaw core) (take : TakeLaw) (opens : OpenLaw) (around : Around) (f : Frame) (fs : List Frame) (r : Runs core ann around f fs) (w : World) (n : ℕ) (s : Situated core ann w around f (task.Eval n ∷ f.tasks) fs) where
  module _ (e : EvalRises core ann f.method s.active.depth s.active.holds.live s.active.holds.entries n (λ d l g. TasksRise core ann f.method f.tasks d l g)) (t : EvalOk core ann f.method r.held.live r.held.set r.held.wants n (λ l z g. TasksOk core ann f.method f.tasks l z g)) where
    some : (c k : ℕ) → c ≡ suc k → 0 < c
    some c k is = omega (arith, is)

    -- All children of a node of this kind, and then the task that finishes it.
    all_goes : (does : NodeKind → Bool) (t : Task)
        → ((m : Mask) (g : List Entry) → FinishRises core ann f.method s.active.depth m g does n (λ d l g. TasksRise core ann f.method f.tasks d l g) → TasksRise core ann f.method (t ∷ f.tasks) s.active.depth m g)
        → (k : NodeKind) → e.node.kind ≡ k → does k ≡ true → is_branch k ≡ false → inner_depth k s.active.depth ≡ s.active.depth → (0 < length e.node.children) ⊎ (uses_top (t ∷ f.tasks) ≡ false)
        → says core ann e.node (before e.note) e.note.rule k ≡ Some (said_by e.note) → RegionMoveOk core ann w around fs (by_way f e.node.children (AllThen t))
    all_goes does t finish k is h other level many q =
        let c = children_threaded core ann needs n e.node e.note e.is_node k is other q in
        strict_goes core ann needs flat around f fs w n s e k is level t c.0 c.1 many (λ m v. finish m _ (finish_rises core ann needs flat around f fs w n s e does k is h c.0 c.1 m v))

    kind_goes : (k : NodeKind) → e.node.kind ≡ k → says core ann e.node (before e.note) e.note.rule k ≡ Some (said_by e.note) → RegionMoveOk core ann w around fs (evaluate f n e.node.children k)
    kind_goes (nodes.Number z) is q = number_goes core ann needs climb take around f fs r w n s e t z (number_rule core ann e.node e.note e.note.rule z q)
    kind_goes (nodes.Truth z) is q = truth_goes core ann needs climb take around f fs r w n s e t z (truth_rule core ann e.node e.note e.note.rule z q)
    kind_goes (nodes.Text z) is q = text_goes core ann needs climb take around f fs r w n s e t z (text_rule core ann e.node e.note e.note.rule z q)
    kind_goes (nodes.Prim z) is q = prim_goes core ann needs climb take around f fs r w n s e t z is (prim_rule core ann e.node e.note e.note.rule z q)
    kind_goes nodes.This is q = this_goes core ann needs climb take around f fs r w n s e t (this_rule core ann e.node e.note e.note.rule q)
    kind_goes (nodes.Local z) is q =
        let u = local_rule core ann e.node e.note e.note.rule z q in
        slot_goes core ann needs climb take around f fs r w n s e t z (names_fit core ann needs n e.node e.is_node (nodes.Local z) is).0 u.place u.used u.says
    kind_goes (nodes.Consume z) is q =
        let u = consume_rule core ann e.node e.note e.note.rule z q in
        consume_goes core ann needs climb take around f fs r w n s e t z (names_fit core ann needs n e.node e.is_node (nodes.Consume z) is).0 u.place u.used u.says
    kind_goes (nodes.Field z) is q = all_goes reads (task.Get n) (λ m d h. h) (nodes.Field z) is refl refl refl (inl (some (length e.node.children) 0 (arity_fits core ann needs n e.node e.is_node (nodes.Field z) is))) q
    kind_goes (nodes.SetField z) is q = all_goes writes (task.Put n) (λ m d h. h) (nodes.SetField z) is refl refl refl (inl (some (length e.node.children) 1 (arity_fits core ann needs n e.node e.is_node (nodes.SetField z) is))) q
    kind_goes (nodes.Define z) is q = all_goes stores (task.Store n) (λ m d h. h) (nodes.Define z) is refl refl refl (inr refl) q
    kind_goes (nodes.Assign z) is q = all_goes stores (task.Store n) (λ m d h. h) (nodes.Assign z) is refl refl refl (inr refl) q
    kind_goes (nodes.New z) is q = all_goes makes (task.Make n) (λ m d h. h) (nodes.New z) is refl refl refl (inr refl) q
    kind_goes (nodes.Spawn z) is q = all_goes spawns (task.Spawn n) (λ m d h. h) (nodes.Spawn z) is refl refl refl (inr refl) q
    kind_goes (nodes.Call z) is q = all_goes invokes (task.Invoke n) (λ m d h. h) (nodes.Call z) is refl refl refl (inl (arity_fits core ann needs n e.node e.is_node (nodes.Call z) is)) q
    kind_goes nodes.And is q = lazy_goes core ann needs flat around f fs w n s e nodes.And is refl (and_rule core ann e.node e.note e.note.rule q) (ap is_lazy is)
    kind_goes nodes.Or is q = lazy_goes core ann needs flat around f fs w n s e nodes.Or is refl (or_rule core ann e.node e.note e.note.rule q) (ap is_lazy is)
    kind_goes nodes.If is q = if_goes core ann needs flat around f fs w n s e is (if_rule core ann e.node e.note e.note.rule q)
    kind_goes nodes.While is q = while_goes core ann needs flat around f fs w n s e is (while_rule core ann e.node e.note e.note.rule q)
    kind_goes nodes.Seq is q = seq_goes core ann needs flat around f fs w n s e is (seq_rule core ann e.node e.note e.note.rule q)
    kind_goes (nodes.Recover c) is q = recover_goes core ann needs flat opens around f fs w n s e c is (recover_rule core ann e.node e.note e.note.rule c q)
    kind_goes nodes.Body is q = absurd (e.inner is)
    kind_goes k is q = all_goes applies (task.Apply n) (λ m d h. h) k is refl refl refl (inr refl) q

    node_goes : RegionMoveOk core ann w around fs (evaluate_node f n (slice_get core.nodes n))
    node_goes =
        subst (λ (o : Option Node). RegionMoveOk core ann w around fs (evaluate_node f n o)) (sym e.is_node)
        (kind_goes e.node.kind refl (meets core ann needs n e.node e.note e.is_node e.is_note))

  end_goes : BodyRises core ann f.method s.active.depth s.active.holds.live s.active.holds.entries n → RegionMoveOk core ann w around fs (evaluate_node f n (slice_get core.nodes n))
  end_goes b =
      let rule = body_rule core ann b.node (before b.note) b.note.rule (said_by b.note) (subst (λ (k : NodeKind). says core ann b.node (before b.note) b.note.rule k ≡ Some (said_by b.note)) b.is_body (meets core ann needs n b.node b.note b.is_node b.is_note)) in
      subst (λ (o : Option Node). RegionMoveOk core ann w around fs (evaluate_node f n o)) (sym b.is_node)
      (subst (λ (k : NodeKind). RegionMoveOk core ann w around fs (evaluate f n b.node.children k)) (sym b.is_body)
      (body_goes core ann needs flat around f fs w n s b (body_inverse core ann b.node b.note rule)))

  -- A node that is not a body has no typed evaluation of a body.
  same_kind : (e : EvalRises core ann f.method s.active.depth s.active.holds.live s.active.holds.entries n (λ d l g. TasksRise core ann f.method f.tasks d l g)) → BodyOk core ann f.method r.held.live r.held.set n → ⊥
  same_kind e b = e.inner (ap (λ (x : Node). x.kind) (same_Some e.node b.node (sym e.is_node ∙ b.is_node)) ∙ b.is_body)

  eval_goes : TasksOk core ann f.method (task.Eval n ∷ f.tasks) r.held.live r.held.set r.held.wants → TasksRise core ann f.method (task.Eval n ∷ f.tasks) s.active.depth s.active.holds.live s.active.holds.entries → RegionMoveOk core ann w around fs (evaluate_node f n (slice_get core.nodes n))
  eval_goes t (inr b) = end_goes b
  eval_goes (inl t) (inl e) = node_goes e t
  eval_goes (inr b) (inl e) = absurd (same_kind e b)

-- A node is evaluated, in regions.
pub keeps_eval_regions : ((core : CoreData) (ann : Ann) → Needs core ann → LiveShallow core ann) → ((core : CoreData) (ann : Ann) → Needs core ann → ClimbLaw core) → TakeLaw → OpenLaw → (n : ℕ) → KeepsRegions (task.Eval n)
keeps_eval_regions flat climb take opens n core ann needs around f fs r t w s = eval_goes core ann needs (flat core ann needs) (climb core ann needs) take opens around f fs r w n s t s.tasks
