-- Test, Branch, Loop and Discard, in regions.
use Rattle.std.specs.Prelude.{◌≡◌, ℕ, ◌+◌, Bool, true, false, List, [], ◌∷◌, length, Option, Some, slice_get, refl}
use Rattle.std.proofs.Common.{inl, ap, sym, subst, ◌∙◌}
use Rattle.pc_heap.specs.{declared.value.Value.Value, declared.value.Value.TheVariants.Truth}
use Rattle.pc_caps.specs.declared.capability.Form.TheVariants as form
use Rattle.pc_core.specs.{declared.nodes.Node.Node, declared.nodes.NodeKind.NodeKind, CoreData.CoreData}
use Rattle.pc_core.specs.declared.kinds.Connective.TheVariants as joins
use Rattle.pc_core.specs.declared.nodes.NodeKind.TheVariants as nodes
use Rattle.pc_masks.specs.declared.mask.Mask.{Mask}
use Rattle.pc_ann.specs.{declared.annotation.Note.Note, declared.annotation.Ann.Ann}
use Rattle.pc_semantics.specs.{declared.frames.Frame.Frame, declared.frames.Task.Task, Configurations.{Around, Move, Goes, with_stack, pushed, none}, Parts.{with_top, at_node, branch_task, loop_task}, Evaluation.{truth, right_side, decided, test_task, branch, loop_turn}}
use Rattle.pc_semantics.specs.declared.frames.Task.TheVariants as task
use Rattle.pc_valid.specs.Words.{Ty}
use Rattle.pc_base.proofs.Bools.{false_true}
use Rattle.pc_types.proofs.{Types.{OfType, Want, StackOk}, Tasks.{Within, is_lazy}, Moves.Runs, Needs.Needs, Values.top_is, Choose.top_truth}
use Rattle.pc_regions.proofs.{World.{World, OnStack, Fits, Alias}, StackForms.{Entry, Shallow, Rises, entry_of, uses_top, TestRises, BranchRises, LoopRises, DiscardRises, TasksRise}, Fitting.StackFits, MoveFits.{RegionMoveOk, Situated}, Climbed.ClimbLaw, Rising.{Pushes, rise, goes_on}, ChildForms.at_depth, Schedules.KeepsRegions}

-- What is below the top of the stack.
pub stack_below : (w : World) (i h base : ℕ) (g below : List Entry) (top : Entry) (vs rest : List Value) (v : Value) → g ≡ top ∷ below → vs ≡ v ∷ rest → StackFits w i h base g vs → StackFits w i h base below rest
stack_below w i h base g below top vs rest v is at k =
    (subst (λ (us : List Value). StackFits w i h base (top ∷ below) us) at (subst (λ (es : List Entry). StackFits w i h base es vs) is k)).1

pub shallow_below : (g below : List Entry) (top : Entry) (d : ℕ) → g ≡ top ∷ below → Shallow g d → Shallow below d
shallow_below g below top d is k = (subst (λ (es : List Entry). Shallow es d) is k).1

module _ (core : CoreData) (ann : Ann) (needs : Needs core ann) (climb : ClimbLaw core) (around : Around) (f : Frame) (fs : List Frame) (r : Runs core ann around f fs) (w : World) (t : Task) (s : Situated core ann w around f (t ∷ f.tasks) fs) where
  abbrev d : ℕ
  d = s.active.depth

  abbrev g : List Entry
  g = s.active.holds.entries

  abbrev live : Mask
  live = s.active.holds.live

  module _ (top : Entry) (below : List Entry) (is : g ≡ top ∷ below) (v : Value) (rest : List Value) (at : f.stack ≡ v ∷ rest) where
    rest_fits : StackFits w around.actor (length fs) s.active.holds.base below rest
    rest_fits = stack_below w around.actor (length fs) s.active.holds.base g below top f.stack rest v is at s.active.holds.stack_fit

    rest_shallow : Shallow below d
    rest_shallow = shallow_below g below top d is s.active.shallow

    -- Other tasks go on over what is below the top.
    pub over_rest : (us : List Task) → TasksRise core ann f.method us d live below → uses_top us ≡ false → RegionMoveOk core ann w around fs (Goes (record { method = f.method; slots = f.slots; stack = rest; tasks = us }))
    over_rest us tasks calm = goes_on core ann around f (t ∷ f.tasks) fs w s below rest us rest_fits rest_shallow tasks (λ e. absurd (false_true (sym calm ∙ e)))

    rest_pushes : Pushes core ann w around.objects around.actors around.actor f.method s.active.holds.base d live below f.slots rest fs
    rest_pushes = record {
      world = s.world;
      fields = s.fields;
      here = s.here;
      top = sym s.active.last;
      opened = s.active.opened;
      this_fits = s.active.holds.this_fits;
      slots_fit = s.active.holds.slots_fit;
      stack_fit = rest_fits;
      wait = s.wait;
    }

    -- A value that is not an object replaces the top.
    pub pushed_over : (x : Node) (u : Note) (ty : Ty) (z : Value) → x.depth ≡ d → u.ty ≡ Some ty → Within u.live_after live → OfType core around.objects ty z
        → Fits w (OnStack around.actor (length fs) (length rest) (s.active.holds.base + d)) ty.1 z → Alias w around.actor s.active.holds.base (s.active.holds.base + d) ty.1 z
        → Rises core f.method u.live_after (entry_of x u) below (λ d l g. TasksRise core ann f.method f.tasks d l g) → RegionMoveOk core ann w around fs (Goes (pushed (with_stack f rest) z))
    pushed_over x u ty z deep typ less typed fits alias o =
        let e : entry_of x u ≡ at_depth d (Some ty) = ap (λ (k : ℕ). at_depth k u.ty) deep ∙ ap (at_depth d) typ in
        rise core ann climb around.objects around.actors around.actor f.method s.active.holds.base d live below f.slots rest fs w rest_pushes u.live_after (Some ty) z f.tasks less typed fits alias
        (subst (λ (y : Entry). Rises core f.method u.live_after y below (λ d l g. TasksRise core ann f.method f.tasks d l g)) e o)

  -- The move goes by the truth value.
  by_value : (b : Bool) (rest : List Value) (next : Bool → Frame → Move) → f.stack ≡ Truth b ∷ rest → RegionMoveOk core ann w around fs (next b (with_stack f rest)) → RegionMoveOk core ann w around fs (with_top f f.stack (truth next))
  by_value b rest next at k = subst (λ (vs : List Value). RegionMoveOk core ann w around fs (with_top f vs (truth next))) (sym at) k

  module _ (n : ℕ) (e : TestRises core ann f.method d live g n (λ d l g. TasksRise core ann f.method f.tasks d l g)) (rest : List Value) where
    decided_goes : (a b : Bool) → f.stack ≡ Truth a ∷ rest → RegionMoveOk core ann w around fs (Goes (pushed (with_stack f rest) (Truth b)))
    decided_goes a b at = pushed_over e.top e.below e.stack (Truth a) rest at e.node e.note (2, form.Val) (Truth b) e.depth e.ty e.live (record { entity = 2; is_entity = refl; below = inl refl; kind = tt; finished = λ h. tt }) tt tt e.decided

    undecided_goes : (a : Bool) → f.stack ≡ Truth a ∷ rest → RegionMoveOk core ann w around fs (right_side (with_stack f rest) e.node.children)
    undecided_goes a at = subst (λ (cs : List ℕ). RegionMoveOk core ann w around fs (right_side (with_stack f rest) cs)) (sym e.children) (over_rest e.top e.below e.stack (Truth a) rest at (task.Eval e.right ∷ f.tasks) (inl e.undecided) refl)

    and_goes : (b : Bool) → f.stack ≡ Truth b ∷ rest → RegionMoveOk core ann w around fs (decided joins.And e.node.children b (with_stack f rest))
    and_goes false at = decided_goes false false at
    and_goes true at = undecided_goes true at

    or_goes : (b : Bool) → f.stack ≡ Truth b ∷ rest → RegionMoveOk core ann w around fs (decided joins.Or e.node.children b (with_stack f rest))
    or_goes true at = decided_goes true true at
    or_goes false at = undecided_goes false at

    test_kind : (k : NodeKind) → is_lazy k ≡ true → (b : Bool) → f.stack ≡ Truth b ∷ rest → RegionMoveOk core ann w around fs (test_task f e.node.children k)
    test_kind nodes.And h b at = by_value b rest (decided joins.And e.node.children) at (and_goes b at)
    test_kind nodes.Or h b at = by_value b rest (decided joins.Or e.node.children) at (or_goes b at)
    test_kind k h b at = absurd (false_true h)

    pub test_goes : (b : Bool) → f.stack ≡ Truth b ∷ rest → RegionMoveOk core ann w around fs (at_node (slice_get core.nodes n) (λ x. test_task f x.children x.kind))
    test_goes b at = subst (λ (o : Option Node). RegionMoveOk core ann w around fs (at_node o (λ x. test_task f x.children x.kind))) (sym e.is_node) (test_kind e.node.kind e.kind b at)

  module _ (n : ℕ) (e : BranchRises core ann f.method d live g n (λ d l g. TasksRise core ann f.method f.tasks d l g)) (rest : List Value) where
    branch_by : (b : Bool) → f.stack ≡ Truth b ∷ rest → RegionMoveOk core ann w around fs (branch (e.condition ∷ e.then_branch ∷ e.else_branch ∷ []) b (with_stack f rest))
    branch_by true at = over_rest e.top e.below e.stack (Truth true) rest at (task.Eval e.then_branch ∷ f.tasks) (inl e.one) refl
    branch_by false at = over_rest e.top e.below e.stack (Truth false) rest at (task.Eval e.else_branch ∷ f.tasks) (inl e.other) refl

    pub branch_goes : (b : Bool) → f.stack ≡ Truth b ∷ rest → RegionMoveOk core ann w around fs (at_node (slice_get core.nodes n) (λ x. branch_task f x.children))
    branch_goes b at =
        subst (λ (o : Option Node). RegionMoveOk core ann w around fs (at_node o (λ x. branch_task f x.children))) (sym e.is_node)
        (by_value b rest (branch e.node.children) at (subst (λ (cs : List ℕ). RegionMoveOk core ann w around fs (branch cs b (with_stack f rest))) (sym e.children) (branch_by b at)))

  module _ (n : ℕ) (e : LoopRises core ann f.method d live g n (λ d l g. TasksRise core ann f.method f.tasks d l g)) (rest : List Value) where
    turn_by : (b : Bool) → f.stack ≡ Truth b ∷ rest
        → RegionMoveOk core ann w around fs (loop_turn n (e.condition ∷ e.body ∷ []) b (with_stack f rest))
    turn_by true at = over_rest e.top e.below e.stack (Truth true) rest at (task.Eval e.body ∷ task.Discard ∷ task.Eval n ∷ f.tasks) (inl e.turn) refl
    turn_by false at = pushed_over e.top e.below e.stack (Truth false) rest at e.node e.note (0, form.Val) none e.depth e.ty e.live (record { entity = 0; is_entity = refl; below = inl refl; kind = inl refl; finished = λ h. tt }) tt tt e.ended

    pub loop_goes : (b : Bool) → f.stack ≡ Truth b ∷ rest → RegionMoveOk core ann w around fs (at_node (slice_get core.nodes n) (λ x. loop_task f n x.children))
    loop_goes b at =
        subst (λ (o : Option Node). RegionMoveOk core ann w around fs (at_node o (λ x. loop_task f n x.children))) (sym e.is_node)
        (by_value b rest (loop_turn n e.node.children) at (subst (λ (cs : List ℕ). RegionMoveOk core ann w around fs (loop_turn n cs b (with_stack f rest))) (sym e.children) (turn_by b at)))

  pub discard_goes : DiscardRises g (uses_top f.tasks) (λ g. TasksRise core ann f.method f.tasks d live g) → (v : Value) (rest : List Value) → f.stack ≡ v ∷ rest → RegionMoveOk core ann w around fs (with_top f f.stack (λ v g. Goes g))
  discard_goes e v rest at =
      subst (λ (vs : List Value). RegionMoveOk core ann w around fs (with_top f vs (λ v g. Goes g))) (sym at)
      (over_rest e.top e.below e.stack v rest at f.tasks e.next e.calm)

-- ---- the tasks

module _ (climb : (core : CoreData) (ann : Ann) → Needs core ann → ClimbLaw core) where
  pub keeps_test_regions : (n : ℕ) → KeepsRegions (task.Test n)
  keeps_test_regions n core ann needs around f fs r t w s =
      let top = top_truth core ann needs around f fs r t.below t.top in
      test_goes core ann needs (climb core ann needs) around f fs r w (task.Test n) s n s.tasks top.rest top.value top.is

  pub keeps_branch_regions : (n : ℕ) → KeepsRegions (task.Branch n)
  keeps_branch_regions n core ann needs around f fs r t w s =
      let top = top_truth core ann needs around f fs r t.below t.top in
      branch_goes core ann needs (climb core ann needs) around f fs r w (task.Branch n) s n s.tasks top.rest top.value top.is

  pub keeps_loop_regions : (n : ℕ) → KeepsRegions (task.Loop n)
  keeps_loop_regions n core ann needs around f fs r t w s =
      let top = top_truth core ann needs around f fs r t.below t.top in
      loop_goes core ann needs (climb core ann needs) around f fs r w (task.Loop n) s n s.tasks top.rest top.value top.is

  pub keeps_discard_regions : KeepsRegions task.Discard
  keeps_discard_regions core ann needs around f fs r t w s =
      let top = top_is core around.objects r.held.this t.top t.below f.stack (subst (λ (g : List Want). StackOk core around.objects r.held.this g f.stack) t.stack r.held.stack_ok) in
      discard_goes core ann needs (climb core ann needs) around f fs r w task.Discard s s.tasks top.top top.below top.is
