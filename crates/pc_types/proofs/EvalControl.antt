-- Eval at nodes that look at what they evaluate: `and`, `or`, `if`, `while`, sequences, recover and bodies; and at
-- nodes whose children are all evaluated first.
use Rattle.std.specs.Prelude.{◌≡◌, ℕ, Bool, true, false, cond, List, [], ◌∷◌, ◌++◌, Option, Some, None, slice_get, refl}
use Rattle.std.proofs.{Common.{inl, ap, sym, subst, ◌∙◌, append_assoc}, lemmas.Option.same_Some, lemmas.Bool.and_parts}
use Rattle.pc_base.proofs.{Gets.get_below, Bools.false_true}
use Rattle.pc_caps.specs.{Computed.is_below, declared.capability.Cap.Cap}
use Rattle.pc_caps.specs.declared.capability.Form.TheVariants as form
use Rattle.pc_core.specs.{declared.declarations.Method.Method, declared.declarations.MethodKind.MethodKind, declared.nodes.Node.Node, declared.nodes.NodeKind.NodeKind, CoreData.CoreData}
use Rattle.pc_core.specs.declared.declarations.MethodKind.TheVariants as method
use Rattle.pc_core.specs.declared.nodes.NodeKind.TheVariants as nodes
use Rattle.pc_base.specs.Lists.{Each}
use Rattle.pc_ann.specs.{declared.annotation.Note.Note, declared.annotation.Ann.Ann}
use Rattle.pc_masks.specs.{Masks.meet, MaskLaws.{meet_bits, within_bits}}
use Rattle.pc_sub.specs.Computed.{is_sub}
use Rattle.pc_semantics.specs.{declared.frames.Frame.Frame, declared.frames.Task.Task, Configurations.{Around, Goes, doing}, Children.evaluations, Evaluation.{AllThen, by_way, first_then, item_tasks}}
use Rattle.pc_semantics.specs.declared.frames.Task.TheVariants as task
use Rattle.pc_rules.specs.{Parts.{readable, lower, all_fields, through, type_of}, Fields.is_this, Control.{joined, gives_result, result_ok}, Rules.said_by}
use Rattle.pc_valid.specs.Words.{Ty, Masks, before, masks_after}
use Rattle.pc_rules.proofs.{ByNumber.body_says, Agreeing.same_mask, Homes.home_body}
use Rattle.pc_core.proofs.Homes.{home, home_method}
use Rattle.pc_types.proofs.{Types.{LowerType, Lower, Want, wanted}, Tasks.{Within, want_of, stacked, EvalOk, is_lazy, ReturnOk, TasksOk}, Moves.{MoveOk, Runs}, Needs.{Needs, IsChild}, Places.is_under, Basic.{within_trans, lower_same, trans_lower, eval_more, tasks_more}, Tables.{below_sees, recovered_sees}, Begin.{BodyRule, body_inverse}, Running.tasks_ok, EvalChildren.{within_is, items_less, First, first_of_them, type_is, child_ok, whole_ok, evaluations_ok, items_ok}, Inverse.{LazyRule, IfRule, WhileRule, SeqRule, RecoverRule, read_is, condition_is}}

-- ---- types

module _ (core : CoreData) (ann : Ann) (needs : Needs core ann) where
  lower_type : (a b : Ty) → lower core a b ≡ true → LowerType core a b
  lower_type a b e =
      let p = and_parts (is_sub core a.0 b.0) (is_below a.1 b.1) e in
      (is_under core ann needs a.0 b.0 p.0, below_sees a.1 b.1 p.1)

  -- Each branch's type is below the type of both.
  joined_left : (a b : Ty) (p q : Bool) → lower core a b ≡ p → lower core b a ≡ q → Lower core (Some a) (cond p (Some b) (cond q (Some a) None))
  joined_left a b true q e g = lower_type a b e
  joined_left a b false true e g = lower_same core a
  joined_left a b false false e g = tt

  joined_right : (a b : Ty) (p q : Bool) → lower core a b ≡ p → lower core b a ≡ q → Lower core (Some b) (cond p (Some b) (cond q (Some a) None))
  joined_right a b true q e g = lower_same core b
  joined_right a b false true e g = lower_type b a g
  joined_right a b false false e g = tt

  one_joined : (a b : Option Ty) → Lower core a (joined core a b)
  one_joined (Some a) (Some b) = joined_left a b (lower core a b) (lower core b a) refl refl
  one_joined None b = tt
  one_joined (Some a) None = tt

  other_joined : (a b : Option Ty) → Lower core b (joined core a b)
  other_joined (Some a) (Some b) = joined_right a b (lower core a b) (lower core b a) refl refl
  other_joined None b = tt
  other_joined (Some a) None = tt

  -- A truth value that is read, for one that is `val`.
  truth_lower : (v : Ty) → (v.0 ≡ 2) × (readable v.1 ≡ true) → LowerType core v (2, form.Val)
  truth_lower v p = (inl p.0, λ h. below_sees v.1 form.Box p.1 refl)

  -- What a function's body gives is below its result.
  gives_lower : (t : Ty) (o : Option Ty) → gives_result core t o ≡ true → Lower core o (Some t)
  gives_lower t None e = absurd (false_true e)
  gives_lower t (Some v) e = lower_type v t e

  result_lower : (k : MethodKind) (t : Ty) (o : Option Ty) → k ≡ method.Fun → result_ok core k t o ≡ true → Lower core o (Some t)
  result_lower k t o is e = gives_lower t o (subst (λ (j : MethodKind). result_ok core j t o ≡ true) is e)

  -- ---- bodies

  -- A node of the kind of bodies is its method's body.
  is_body : (n : ℕ) (x : Node) (own : Method) → slice_get core.nodes n ≡ Some x → x.kind ≡ nodes.Body → slice_get core.methods x.method ≡ Some own → own.body ≡ Some n
  is_body n x own at kind is_own =
      let h = home core n needs.formed (get_below core.nodes n x at) in
      let is : own ≡ h.method = same_Some own h.method (sym is_own ∙ ap (slice_get core.methods) (home_method core n x h at) ∙ h.is_method) in
      ap (λ (y : Method). y.body) is ∙ h.is_body ∙ ap (λ (k : ℕ). Some k) (sym (home_body core n x h at kind))

-- ---- Eval

module _ (core : CoreData) (ann : Ann) (needs : Needs core ann) (around : Around) (f : Frame) (fs : List Frame) (r : Runs core ann around f fs) where
  children_at : (n : ℕ) (x : Node) → slice_get core.nodes n ≡ Some x → x.method ≡ f.method → Each (λ i c. IsChild core f.method c) x.children
  children_at n x at own = subst (λ (m : ℕ). Each (λ i c. IsChild core m c) x.children) own (needs.children n x at)

  -- The children of a node are these.
  pub child_at : (cs ds : List ℕ) (i c : ℕ) → cs ≡ ds → slice_get ds i ≡ Some c → Each (λ i c. IsChild core f.method c) cs → IsChild core f.method c
  child_at cs ds i c is at each = each i c (ap (λ (es : List ℕ). slice_get es i) is ∙ at)

  -- Tasks that can be done from the masks of a note can be done here.
  from_note : (t : Note) (ts : List Task) → Within t.live_before r.held.live → Within t.set_before r.held.set → TasksOk core ann f.method ts t.live_before t.set_before r.held.wants → TasksOk core ann f.method ts r.held.live r.held.set r.held.wants
  from_note t ts wl ws k = tasks_more core ann f.method ts t.live_before t.set_before r.held.live r.held.set r.held.wants wl ws k

  -- The first child, and then these tasks.
  first_ok : (x : Node) (c : ℕ) (cs : List ℕ) (ts : List Task) → x.children ≡ c ∷ cs → EvalOk core ann f.method r.held.live r.held.set r.held.wants c (λ l s g. TasksOk core ann f.method (ts ++ f.tasks) l s g) → MoveOk core ann around fs (first_then f x.children ts)
  first_ok x c cs ts is k = subst (λ (ds : List ℕ). MoveOk core ann around fs (first_then f ds ts)) (sym is) (tasks_ok core ann needs around f fs r (task.Eval c ∷ ts ++ f.tasks) (inl k))

  -- ---- bodies

  module _ (n : ℕ) (x : Node) (t : Note) (at : slice_get core.nodes n ≡ Some x) (is_note : slice_get ann.notes n ≡ Some t) (own : x.method ≡ f.method) (kind : x.kind ≡ nodes.Body) (wl : Within t.live_before r.held.live) (ws : Within t.set_before r.held.set) where
    returns_ok : (q : BodyRule core ann x t) (u : First ann q.child [] (before t) q.behind) → ReturnOk core f.method u.note.set_after (want_of core ann q.child ∷ r.held.wants)
    returns_ok q u =
        let is : q.own ≡ r.held.own = same_Some q.own r.held.own (sym q.is_own ∙ ap (slice_get core.methods) own ∙ r.held.is_own) in
        let ty : q.note.ty ≡ type_of ann q.child = sym (type_is ann q.child q.note q.is_note) in
        let end : u.note.set_after ≡ t.set_after = ap (λ (m : Masks). m.1) (same_Some (masks_after u.note) q.behind u.rest) ∙ q.set in
        let body : r.held.own.body ≡ Some n = is_body core ann needs n x r.held.own at kind (ap (slice_get core.methods) own ∙ r.held.is_own) in
        record {
          own = r.held.own;
          is_own = r.held.is_own;
          result = λ fun. (
            want_of core ann q.child,
            r.held.wants,
            refl,
            subst (λ (o : Option Ty). Lower core o (Some r.held.own.result)) ty
                (result_lower core ann needs r.held.own.kind r.held.own.result q.note.ty fun (subst (λ (y : Method). result_ok core y.kind y.result q.note.ty ≡ true) is q.result)),
          );
          fields = λ new.
              within_trans (all_fields core r.held.own.entity) t.set_after u.note.set_after
              ((within_bits (all_fields core r.held.own.entity) t.set_after).0 (needs.valid.sets f.method r.held.own r.held.is_own new n t body is_note))
              (within_is t.set_after u.note.set_after (sym end));
        }

    pub body_ok : body_says core ann x (before t) ≡ Some (said_by t) → MoveOk core ann around fs (first_then f x.children (task.Return ∷ []))
    body_ok e =
        let q = body_inverse core ann x t e in
        let u = first_of_them ann q.child [] (before t) q.behind (ap (λ (cs : List ℕ). through ann cs (before t)) (sym q.children) ∙ q.is_behind) in
        let child = child_at x.children (q.child ∷ []) 0 q.child q.children refl (children_at n x at own) in
        first_ok x q.child [] (task.Return ∷ []) q.children
        (whole_ok core ann f.method q.child u.note r.held.live r.held.set r.held.wants (λ l s g. TasksOk core ann f.method (task.Return ∷ f.tasks) l s g) child u.is_note
        (within_trans u.note.live_before t.live_before r.held.live (within_is u.note.live_before t.live_before (ap (λ (m : Masks). m.0) u.starts)) wl)
        (within_trans u.note.set_before t.set_before r.held.set (within_is u.note.set_before t.set_before (ap (λ (m : Masks). m.1) u.starts)) ws)
        (returns_ok q u))

  -- ---- nodes with a value

  module _ (n : ℕ) (e : EvalOk core ann f.method r.held.live r.held.set r.held.wants n (λ l s g. TasksOk core ann f.method f.tasks l s g)) where
    children_here : Each (λ i c. IsChild core f.method c) e.node.children
    children_here = children_at n e.node e.is_node e.own

    -- The value of another node than `this` is not taken for the frame's object.
    pub not_own : (k : NodeKind) → e.node.kind ≡ k → (is_this k ≡ true → ⊥) → e.follows.goal.own ≡ true → ⊥
    not_own k is bad h = bad (ap is_this (sym is) ∙ e.follows.this h)

    -- All children, and then the task that takes their values.
    pub strict_ok : (t : Task) (behind : Masks) → through ann e.node.children (before e.note) ≡ Some behind → TasksOk core ann f.method (t ∷ f.tasks) behind.0 behind.1 (stacked core ann e.node.children r.held.wants) → MoveOk core ann around fs (by_way f e.node.children (AllThen t))
    strict_ok t behind is next =
        let all = evaluations_ok core ann f.method e.node.children (t ∷ f.tasks) (before e.note) behind r.held.wants children_here is next in
        let ts : evaluations e.node.children ++ (t ∷ f.tasks) ≡ (evaluations e.node.children ++ t ∷ []) ++ f.tasks = sym (append_assoc (evaluations e.node.children) (t ∷ []) f.tasks) in
        tasks_ok core ann needs around f fs r ((evaluations e.node.children ++ t ∷ []) ++ f.tasks)
        (subst (λ (us : List Task). TasksOk core ann f.method us r.held.live r.held.set r.held.wants) ts (from_note e.note (evaluations e.node.children ++ (t ∷ f.tasks)) e.live e.set all))

    -- A first child from the masks of the note, whose value is taken for less.
    head_ok : (c : ℕ) (behind : Masks) (ts : List Task) (goal : Want) → IsChild core f.method c → (u : First ann c [] (before e.note) behind) → Lower core u.note.ty goal.ty → (goal.own ≡ true → ⊥) → TasksOk core ann f.method ts behind.0 behind.1 (goal ∷ r.held.wants) → EvalOk core ann f.method r.held.live r.held.set r.held.wants c (λ l s g. TasksOk core ann f.method ts l s g)
    head_ok c behind ts goal child u fits own next =
        let end : behind ≡ masks_after u.note = sym (same_Some (masks_after u.note) behind u.rest) in
        child_ok core ann f.method c u.note r.held.live r.held.set r.held.wants (λ l s g. TasksOk core ann f.method ts l s g) child u.is_note
        (within_trans u.note.live_before e.note.live_before r.held.live (within_is u.note.live_before e.note.live_before (ap (λ (m : Masks). m.0) u.starts)) e.live)
        (within_trans u.note.set_before e.note.set_before r.held.set (within_is u.note.set_before e.note.set_before (ap (λ (m : Masks). m.1) u.starts)) e.set)
        behind.0 behind.1 goal (within_is behind.0 u.note.live_after (ap (λ (m : Masks). m.0) end)) (within_is behind.1 u.note.set_after (ap (λ (m : Masks). m.1) end)) fits (λ h. absurd (own h)) next

    -- A child from these masks, whose value is that of the node.
    tail_ok : (c : ℕ) (from behind : Masks) (below : List Want) → IsChild core f.method c → (u : First ann c [] from behind) → Within e.follows.live behind.0 → Within e.follows.set behind.1 → Lower core u.note.ty e.follows.goal.ty → (e.follows.goal.own ≡ true → ⊥) → TasksOk core ann f.method f.tasks e.follows.live e.follows.set (e.follows.goal ∷ below)
        → EvalOk core ann f.method from.0 from.1 below c (λ l s g. TasksOk core ann f.method f.tasks l s g)
    tail_ok c from behind below child u wl ws fits own next =
        let end : behind ≡ masks_after u.note = sym (same_Some (masks_after u.note) behind u.rest) in
        child_ok core ann f.method c u.note from.0 from.1 below (λ l s g. TasksOk core ann f.method f.tasks l s g) child u.is_note
        (within_is u.note.live_before from.0 (ap (λ (m : Masks). m.0) u.starts)) (within_is u.note.set_before from.1 (ap (λ (m : Masks). m.1) u.starts))
        e.follows.live e.follows.set e.follows.goal
        (within_trans e.follows.live behind.0 u.note.live_after wl (within_is behind.0 u.note.live_after (ap (λ (m : Masks). m.0) end)))
        (within_trans e.follows.set behind.1 u.note.set_after ws (within_is behind.1 u.note.set_after (ap (λ (m : Masks). m.1) end)))
        fits (λ h. absurd (own h)) next

    -- ---- `and`, `or`

    pub lazy_ok : LazyRule core ann e.node e.note → is_lazy e.node.kind ≡ true → (e.follows.goal.own ≡ true → ⊥) → MoveOk core ann around fs (first_then f e.node.children (task.Test n ∷ []))
    lazy_ok q lazy own =
        let a = first_of_them ann q.left [] (before e.note) q.behind_left q.is_behind_left in
        let b = first_of_them ann q.right [] q.behind_left q.behind q.is_behind in
        let reads = read_is 2 q.left_type q.left_reads in
        let left_is : Some (2, q.left_type.1) ≡ a.note.ty = ap (λ (k : ℕ). Some (k, q.left_type.1)) (sym reads.0) ∙ sym q.is_left ∙ type_is ann q.left a.note a.is_note in
        let right_is : Some q.right_type ≡ b.note.ty = sym q.is_right ∙ type_is ann q.right b.note b.is_note in
        let live : Within e.note.live_after (meet q.behind_left.0 q.behind.0) = within_is e.note.live_after (meet q.behind_left.0 q.behind.0) q.says.live in
        let set : Within e.note.set_after (meet q.behind_left.1 q.behind.1) = within_is e.note.set_after (meet q.behind_left.1 q.behind.1) q.says.set in
        let fits : Lower core (Some (2, form.Val)) e.follows.goal.ty = subst (λ (o : Option Ty). Lower core o e.follows.goal.ty) q.says.ty e.follows.fits in
        let right_fits : Lower core b.note.ty e.follows.goal.ty = subst (λ (o : Option Ty). Lower core o e.follows.goal.ty) right_is (trans_lower core ann needs (Some q.right_type) (Some (2, form.Val)) e.follows.goal.ty (truth_lower core ann needs q.right_type (read_is 2 q.right_type q.right_reads)) fits) in
        let test : TasksOk core ann f.method (task.Test n ∷ f.tasks) q.behind_left.0 q.behind_left.1 (wanted (Some (2, q.left_type.1)) ∷ r.held.wants) = record {
          node = e.node;
          is_node = e.is_node;
          kind = lazy;
          note = e.note;
          ty = q.says.ty;
          left = q.left;
          right = q.right;
          children = q.children;
          below = r.held.wants;
          top = (q.left_type.1, refl);
          live = λ i h. ((meet_bits q.behind_left.0 q.behind.0 i).0 (live i h)).0;
          set = λ i h. ((meet_bits q.behind_left.1 q.behind.1 i).0 (set i h)).0;
          decided = e.follows;
          undecided = tail_ok q.right q.behind_left q.behind r.held.wants (child_at e.node.children (q.left ∷ q.right ∷ []) 1 q.right q.children refl children_here) b
              (λ i h. ((meet_bits q.behind_left.0 q.behind.0 i).0 (live i (e.follows.live_left i h))).1)
              (λ i h. ((meet_bits q.behind_left.1 q.behind.1 i).0 (set i (e.follows.set_left i h))).1)
              right_fits own e.follows.next;
        } in
        first_ok e.node q.left (q.right ∷ []) (task.Test n ∷ []) q.children
        (head_ok q.left q.behind_left (task.Test n ∷ f.tasks) (wanted (Some (2, q.left_type.1))) (child_at e.node.children (q.left ∷ q.right ∷ []) 0 q.left q.children refl children_here) a
        (subst (λ (o : Option Ty). Lower core o (Some (2, q.left_type.1))) left_is (lower_same core (2, q.left_type.1))) false_true test)

    -- ---- `if`

    pub if_ok : IfRule core ann e.node e.note → (e.follows.goal.own ≡ true → ⊥) → MoveOk core ann around fs (first_then f e.node.children (task.Branch n ∷ []))
    if_ok q own =
        let c = condition_is (type_of ann q.condition) q.is_condition in
        let u = first_of_them ann q.condition [] (before e.note) q.behind q.is_behind in
        let a = first_of_them ann q.then_branch [] q.behind q.behind_then q.is_then in
        let b = first_of_them ann q.else_branch [] q.behind q.behind_else q.is_else in
        let a_is : q.then_note.ty ≡ a.note.ty = ap (λ (t : Note). t.ty) (same_Some q.then_note a.note (sym q.is_then_note ∙ a.is_note)) in
        let b_is : q.else_note.ty ≡ b.note.ty = ap (λ (t : Note). t.ty) (same_Some q.else_note b.note (sym q.is_else_note ∙ b.is_note)) in
        let live : Within e.note.live_after (meet q.behind_then.0 q.behind_else.0) = within_is e.note.live_after (meet q.behind_then.0 q.behind_else.0) q.says.live in
        let set : Within e.note.set_after (meet q.behind_then.1 q.behind_else.1) = within_is e.note.set_after (meet q.behind_then.1 q.behind_else.1) q.says.set in
        let fits : Lower core (joined core q.then_note.ty q.else_note.ty) e.follows.goal.ty = subst (λ (o : Option Ty). Lower core o e.follows.goal.ty) q.says.ty e.follows.fits in
        let one_fits : Lower core a.note.ty e.follows.goal.ty = subst (λ (o : Option Ty). Lower core o e.follows.goal.ty) a_is (trans_lower core ann needs q.then_note.ty (joined core q.then_note.ty q.else_note.ty) e.follows.goal.ty (one_joined core ann needs q.then_note.ty q.else_note.ty) fits) in
        let other_fits : Lower core b.note.ty e.follows.goal.ty = subst (λ (o : Option Ty). Lower core o e.follows.goal.ty) b_is (trans_lower core ann needs q.else_note.ty (joined core q.then_note.ty q.else_note.ty) e.follows.goal.ty (other_joined core ann needs q.then_note.ty q.else_note.ty) fits) in
        let are : List ℕ = q.condition ∷ q.then_branch ∷ q.else_branch ∷ [] in
        let branch : TasksOk core ann f.method (task.Branch n ∷ f.tasks) q.behind.0 q.behind.1 (wanted (Some (2, c.0)) ∷ r.held.wants) = record {
          node = e.node;
          is_node = e.is_node;
          condition = q.condition;
          then_branch = q.then_branch;
          else_branch = q.else_branch;
          children = q.children;
          below = r.held.wants;
          top = (c.0, refl);
          one = tail_ok q.then_branch q.behind q.behind_then r.held.wants (child_at e.node.children are 1 q.then_branch q.children refl children_here) a
              (λ i h. ((meet_bits q.behind_then.0 q.behind_else.0 i).0 (live i (e.follows.live_left i h))).0)
              (λ i h. ((meet_bits q.behind_then.1 q.behind_else.1 i).0 (set i (e.follows.set_left i h))).0)
              one_fits own e.follows.next;
          other = tail_ok q.else_branch q.behind q.behind_else r.held.wants (child_at e.node.children are 2 q.else_branch q.children refl children_here) b
              (λ i h. ((meet_bits q.behind_then.0 q.behind_else.0 i).0 (live i (e.follows.live_left i h))).1)
              (λ i h. ((meet_bits q.behind_then.1 q.behind_else.1 i).0 (set i (e.follows.set_left i h))).1)
              other_fits own e.follows.next;
        } in
        first_ok e.node q.condition (q.then_branch ∷ q.else_branch ∷ []) (task.Branch n ∷ []) q.children
        (head_ok q.condition q.behind (task.Branch n ∷ f.tasks) (wanted (Some (2, c.0))) (child_at e.node.children are 0 q.condition q.children refl children_here) u
        (subst (λ (o : Option Ty). Lower core o (Some (2, c.0))) (sym c.1 ∙ type_is ann q.condition u.note u.is_note) (lower_same core (2, c.0))) false_true branch)

    -- ---- `while`

    pub while_ok : WhileRule core ann e.node e.note → MoveOk core ann around fs (first_then f e.node.children (task.Loop n ∷ []))
    while_ok q =
        let c = condition_is (type_of ann q.condition) q.is_condition in
        let u = first_of_them ann q.condition [] (before e.note) q.behind q.is_behind in
        let b = first_of_them ann q.body [] q.behind q.behind_body q.is_body in
        let end : q.behind_body ≡ masks_after b.note = sym (same_Some (masks_after b.note) q.behind_body b.rest) in
        let live : Within e.note.live_before b.note.live_after = within_trans e.note.live_before q.behind_body.0 b.note.live_after ((within_bits e.note.live_before q.behind_body.0).0 q.keeps_live) (within_is q.behind_body.0 b.note.live_after (ap (λ (m : Masks). m.0) end)) in
        let set : Within e.note.set_before b.note.set_after = within_trans e.note.set_before q.behind_body.1 b.note.set_after (within_is e.note.set_before q.behind_body.1 (sym (same_mask q.behind_body.1 e.note.set_before q.keeps_set))) (within_is q.behind_body.1 b.note.set_after (ap (λ (m : Masks). m.1) end)) in
        let again : EvalOk core ann f.method b.note.live_after b.note.set_after r.held.wants n (λ l s g. TasksOk core ann f.method f.tasks l s g) = record {
          node = e.node;
          is_node = e.is_node;
          note = e.note;
          is_note = e.is_note;
          own = e.own;
          live = live;
          set = set;
          follows = e.follows;
        } in
        let loop : TasksOk core ann f.method (task.Loop n ∷ f.tasks) q.behind.0 q.behind.1 (wanted (Some (2, c.0)) ∷ r.held.wants) = record {
          node = e.node;
          is_node = e.is_node;
          note = e.note;
          ty = q.says.ty;
          condition = q.condition;
          body = q.body;
          children = q.children;
          below = r.held.wants;
          top = (c.0, refl);
          live = within_is e.note.live_after q.behind.0 q.says.live;
          set = within_is e.note.set_after q.behind.1 q.says.set;
          ended = e.follows;
          turn = whole_ok core ann f.method q.body b.note q.behind.0 q.behind.1 r.held.wants (λ l s g. TasksOk core ann f.method (task.Discard ∷ task.Eval n ∷ f.tasks) l s g) (child_at e.node.children (q.condition ∷ q.body ∷ []) 1 q.body q.children refl children_here) b.is_note
              (within_is b.note.live_before q.behind.0 (ap (λ (m : Masks). m.0) b.starts)) (within_is b.note.set_before q.behind.1 (ap (λ (m : Masks). m.1) b.starts))
              (record { top = want_of core ann q.body; below = r.held.wants; stack = refl; next = inl again });
        } in
        first_ok e.node q.condition (q.body ∷ []) (task.Loop n ∷ []) q.children
        (head_ok q.condition q.behind (task.Loop n ∷ f.tasks) (wanted (Some (2, c.0))) (child_at e.node.children (q.condition ∷ q.body ∷ []) 0 q.condition q.children refl children_here) u
        (subst (λ (o : Option Ty). Lower core o (Some (2, c.0))) (sym c.1 ∙ type_is ann q.condition u.note u.is_note) (lower_same core (2, c.0))) false_true loop)

    -- ---- sequences and recover

    pub seq_ok : SeqRule core ann e.node e.note → (e.follows.goal.own ≡ true → ⊥)
        → MoveOk core ann around fs (Goes (doing f (item_tasks e.node.children)))
    seq_ok q own =
        let o = e.follows in
        let all = items_ok core ann f.method e.node.children f.tasks (before e.note) q.behind r.held.wants q.last q.note o.live o.set o.goal children_here q.is_behind q.is_last q.is_note
        (λ i h. items_less core e.node.children q.behind.0 i (within_is e.note.live_after _ q.says.live i (o.live_left i h)))
        (within_trans o.set e.note.set_after q.behind.1 o.set_left (within_is e.note.set_after q.behind.1 q.says.set))
        (subst (λ (v : Option Ty). Lower core v o.goal.ty) q.says.ty o.fits) own o.next
        in
        tasks_ok core ann needs around f fs r (item_tasks e.node.children ++ f.tasks)
        (from_note e.note (item_tasks e.node.children ++ f.tasks) e.live e.set all)

    pub recover_ok : (k : Option Cap) → RecoverRule core ann e.node e.note k → (e.follows.goal.own ≡ true → ⊥) → MoveOk core ann around fs (first_then f e.node.children [])
    recover_ok k q own =
        let o = e.follows in
        let u = first_of_them ann q.child [] (before e.note) q.behind (ap (λ (cs : List ℕ). through ann cs (before e.note)) (sym q.children) ∙ q.is_behind) in
        let fits : Lower core (Some (q.value.0, q.form)) o.goal.ty = subst (λ (v : Option Ty). Lower core v o.goal.ty) q.says.ty o.fits in
        let inner : Lower core (Some q.value) o.goal.ty = trans_lower core ann needs (Some q.value) (Some (q.value.0, q.form)) o.goal.ty (inl refl, recovered_sees k q.value.1 q.form q.is_form) fits in
        let value_is : Some q.value ≡ u.note.ty = sym q.is_value ∙ type_is ann q.child u.note u.is_note in
        first_ok e.node q.child [] [] q.children
        (eval_more core ann f.method e.note.live_before e.note.set_before r.held.live r.held.set e.live e.set r.held.wants q.child (λ l s g. TasksOk core ann f.method f.tasks l s g)
        (tail_ok q.child (before e.note) q.behind r.held.wants (child_at e.node.children (q.child ∷ []) 0 q.child q.children refl children_here) u
        (within_trans o.live e.note.live_after q.behind.0 o.live_left (within_is e.note.live_after q.behind.0 q.says.live))
        (within_trans o.set e.note.set_after q.behind.1 o.set_left (within_is e.note.set_after q.behind.1 q.says.set))
        (subst (λ (v : Option Ty). Lower core v o.goal.ty) value_is inner) own o.next))
