-- Test, Branch, Loop and Discard.
use Rattle.std.specs.Prelude.{◌≡◌, ℕ, Bool, true, false, List, [], ◌∷◌, length, Option, Some, slice_get, refl}
use Rattle.std.proofs.Common.{inl, ap, sym, subst, ◌∙◌, arith}
use Rattle.pc_heap.specs.{declared.value.Value.Value, declared.value.Value.TheVariants.Truth}
use Rattle.pc_caps.specs.declared.capability.Form.TheVariants as form
use Rattle.pc_core.specs.{declared.nodes.Node.Node, declared.nodes.NodeKind.NodeKind, CoreData.CoreData, Nodes.HasArity}
use Rattle.pc_core.specs.declared.kinds.Connective.TheVariants as joins
use Rattle.pc_core.specs.declared.nodes.NodeKind.TheVariants as nodes
use Rattle.pc_ann.specs.declared.annotation.Ann.{Ann}
use Rattle.pc_semantics.specs.{declared.frames.Frame.Frame, declared.frames.Task.Task, Configurations.{Around, Move, Goes, with_stack, pushed, none}, Parts.{with_top, at_node, branch_task, loop_task}, Evaluation.{truth, right_side, decided, test_task, branch, loop_turn}}
use Rattle.pc_semantics.specs.declared.frames.Task.TheVariants as task
use Rattle.pc_valid.specs.Words.{Ty}
use Rattle.pc_rules.specs.Fields.{is_this}
use Rattle.pc_base.proofs.Bools.{false_true}
use Rattle.pc_types.proofs.{Types.{OfType, OfSome, Want, wanted, StackOk}, Tasks.{TruthOnTop, is_lazy, TestOk, BranchOk, LoopOk, DiscardOk, EvalOk, TasksOk}, Frames.FramesOk, Moves.{MoveOk, Runs}, Needs.Needs, Steps.Keeps, Values.{top_is, is_truth}, Running.{go_ok, push_ok}}

module _ (core : CoreData) (ann : Ann) (needs : Needs core ann) (around : Around) (f : Frame) (fs : List Frame) (r : Runs core ann around f fs) where
  -- The truth value on top of the stack, and what is below it.
  pub record TopTruth (below : List Want) : Type 0 where
    pub value : Bool
    pub rest : List Value
    pub is : f.stack ≡ Truth value ∷ rest
    pub ok : StackOk core around.objects r.held.this below rest

  pub top_truth : (below : List Want) → TruthOnTop r.held.wants below → TopTruth below
  top_truth below t =
      let ty : Option Ty = Some (2, t.0) in
      let top = top_is core around.objects r.held.this (wanted ty) below f.stack (subst (λ (g : List Want). StackOk core around.objects r.held.this g f.stack) t.1 r.held.stack_ok) in
      let b = is_truth core ann needs around.objects t.0 top.top top.answers.0 in
      record { value = b.0; rest = top.below; is = top.is ∙ ap (λ (v : Value). v ∷ top.below) b.1; ok = top.ok }

  -- The move goes by the truth value.
  by_truth : (below : List Want) (next : Bool → Frame → Move) (t : TopTruth below) → MoveOk core ann around fs (next t.value (with_stack f t.rest)) → MoveOk core ann around fs (with_top f f.stack (truth next))
  by_truth below next t k = subst (λ (vs : List Value). MoveOk core ann around fs (with_top f vs (truth next))) (sym t.is) k

  -- Another node is evaluated, over what is below the truth value.
  goes_on : (below : List Want) (rest : List Value) (c : ℕ) (ts : List Task) → StackOk core around.objects r.held.this below rest → EvalOk core ann f.method r.held.live r.held.set below c (λ l s g. TasksOk core ann f.method ts l s g) → FramesOk core ann around.objects around.actor (record { method = f.method; slots = f.slots; stack = rest; tasks = task.Eval c ∷ ts } ∷ fs)
  goes_on below rest c ts ok e = go_ok core ann needs around f fs r r.held.live r.held.set below f.slots rest (task.Eval c ∷ ts) refl refl (λ i b. b) r.held.slots_ok ok (inl e)

  lazy_this : (k : NodeKind) → is_lazy k ≡ true → is_this k ≡ true → ⊥
  lazy_this nodes.This l h = false_true l
  lazy_this k l h = false_true h

  module _ (n : ℕ) (e : TestOk core ann f.method r.held.live r.held.set r.held.wants n (λ l s g. TasksOk core ann f.method f.tasks l s g)) where
    decided_ok : (b : Bool) (t : TopTruth e.below) → MoveOk core ann around fs (Goes (pushed (with_stack f t.rest) (Truth b)))
    decided_ok b t =
        let typed : OfType core around.objects (2, form.Val) (Truth b) = record { entity = 2; is_entity = refl; below = inl refl; kind = tt; finished = λ h. tt } in
        push_ok core ann needs around f fs r e.node e.note e.below t.rest (Truth b) e.decided e.live e.set t.ok
        (subst (λ (o : Option Ty). OfSome core around.objects o (Truth b)) (sym e.ty) typed) (λ h. absurd (lazy_this e.node.kind e.kind h))

    undecided_ok : (t : TopTruth e.below) → MoveOk core ann around fs (right_side (with_stack f t.rest) e.node.children)
    undecided_ok t = subst (λ (cs : List ℕ). MoveOk core ann around fs (right_side (with_stack f t.rest) cs)) (sym e.children) (goes_on e.below t.rest e.right f.tasks t.ok e.undecided)

    and_ok : (b : Bool) (t : TopTruth e.below) → MoveOk core ann around fs (decided joins.And e.node.children b (with_stack f t.rest))
    and_ok false t = decided_ok false t
    and_ok true t = undecided_ok t

    or_ok : (b : Bool) (t : TopTruth e.below) → MoveOk core ann around fs (decided joins.Or e.node.children b (with_stack f t.rest))
    or_ok true t = decided_ok true t
    or_ok false t = undecided_ok t

    test_kind : (k : NodeKind) → is_lazy k ≡ true → MoveOk core ann around fs (test_task f e.node.children k)
    test_kind nodes.And h = let t = top_truth e.below e.top in by_truth e.below (decided joins.And e.node.children) t (and_ok t.value t)
    test_kind nodes.Or h = let t = top_truth e.below e.top in by_truth e.below (decided joins.Or e.node.children) t (or_ok t.value t)
    test_kind k h = absurd (false_true h)

    test_ok : MoveOk core ann around fs (at_node (slice_get core.nodes n) (λ x. test_task f x.children x.kind))
    test_ok = subst (λ (o : Option Node). MoveOk core ann around fs (at_node o (λ x. test_task f x.children x.kind))) (sym e.is_node) (test_kind e.node.kind e.kind)

  module _ (n : ℕ) (e : BranchOk core ann f.method r.held.live r.held.set r.held.wants n (λ l s g. TasksOk core ann f.method f.tasks l s g)) where
    branch_by : (b : Bool) (t : TopTruth e.below) → MoveOk core ann around fs (branch (e.condition ∷ e.then_branch ∷ e.else_branch ∷ []) b (with_stack f t.rest))
    branch_by true t = goes_on e.below t.rest e.then_branch f.tasks t.ok e.one
    branch_by false t = goes_on e.below t.rest e.else_branch f.tasks t.ok e.other

    branch_ok : MoveOk core ann around fs (at_node (slice_get core.nodes n) (λ x. branch_task f x.children))
    branch_ok =
        let t = top_truth e.below e.top in
        subst (λ (o : Option Node). MoveOk core ann around fs (at_node o (λ x. branch_task f x.children))) (sym e.is_node)
        (by_truth e.below (branch e.node.children) t
        (subst (λ (cs : List ℕ). MoveOk core ann around fs (branch cs t.value (with_stack f t.rest))) (sym e.children) (branch_by t.value t)))

  module _ (n : ℕ) (e : LoopOk core ann f.method r.held.live r.held.set r.held.wants n (λ l s g. TasksOk core ann f.method f.tasks l s g)) where
    -- `this` has no children.
    no_children : (k : NodeKind) → HasArity k (length e.node.children) → is_this k ≡ true → ⊥
    no_children nodes.This a h = let two : length e.node.children ≡ 2 = ap length e.children in absurd (omega (arith, a, two))
    no_children k a h = false_true h

    ended_ok : (t : TopTruth e.below) → (is_this e.node.kind ≡ true → ⊥) → MoveOk core ann around fs (Goes (pushed (with_stack f t.rest) none))
    ended_ok t other =
        let typed : OfType core around.objects (0, form.Val) none = record { entity = 0; is_entity = refl; below = inl refl; kind = inl refl; finished = λ h. tt } in
        push_ok core ann needs around f fs r e.node e.note e.below t.rest none e.ended e.live e.set t.ok
        (subst (λ (o : Option Ty). OfSome core around.objects o none) (sym e.ty) typed) (λ h. absurd (other h))

    turn_by : (b : Bool) (t : TopTruth e.below) → MoveOk core ann around fs (loop_turn n (e.condition ∷ e.body ∷ []) b (with_stack f t.rest))
    turn_by true t = goes_on e.below t.rest e.body (task.Discard ∷ task.Eval n ∷ f.tasks) t.ok e.turn
    turn_by false t = ended_ok t (no_children e.node.kind (needs.formed.nodes n e.node e.is_node).arity)

    loop_ok : MoveOk core ann around fs (at_node (slice_get core.nodes n) (λ x. loop_task f n x.children))
    loop_ok =
        let t = top_truth e.below e.top in
        subst (λ (o : Option Node). MoveOk core ann around fs (at_node o (λ x. loop_task f n x.children))) (sym e.is_node)
        (by_truth e.below (loop_turn n e.node.children) t
        (subst (λ (cs : List ℕ). MoveOk core ann around fs (loop_turn n cs t.value (with_stack f t.rest))) (sym e.children) (turn_by t.value t)))

  discard_ok : DiscardOk r.held.wants (λ g. TasksOk core ann f.method f.tasks r.held.live r.held.set g) → MoveOk core ann around fs (with_top f f.stack (λ v g. Goes g))
  discard_ok e =
      let t = top_is core around.objects r.held.this e.top e.below f.stack (subst (λ (g : List Want). StackOk core around.objects r.held.this g f.stack) e.stack r.held.stack_ok) in
      subst (λ (vs : List Value). MoveOk core ann around fs (with_top f vs (λ v g. Goes g))) (sym t.is)
      (go_ok core ann needs around f fs r r.held.live r.held.set e.below f.slots t.below f.tasks refl refl (λ i b. b) r.held.slots_ok t.ok e.next)

pub keeps_test : (n : ℕ) → Keeps (task.Test n)
keeps_test n core ann needs around f fs r e = test_ok core ann needs around f fs r n e

pub keeps_branch : (n : ℕ) → Keeps (task.Branch n)
keeps_branch n core ann needs around f fs r e = branch_ok core ann needs around f fs r n e

pub keeps_loop : (n : ℕ) → Keeps (task.Loop n)
keeps_loop n core ann needs around f fs r e = loop_ok core ann needs around f fs r n e

pub keeps_discard : Keeps task.Discard
keeps_discard core ann needs around f fs r e = discard_ok core ann needs around f fs r e
