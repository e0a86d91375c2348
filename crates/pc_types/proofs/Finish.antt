-- A node whose children are evaluated: what they left on the stack, and what follows the node.
use Rattle.std.specs.Prelude.{◌≡◌, ℕ, Bool, true, List, [], ◌∷◌, Option, Some, slice_get}
use Rattle.std.proofs.Common.{ap, sym, subst, ◌∙◌}
use Rattle.pc_heap.specs.declared.value.Value.{Value}
use Rattle.pc_core.specs.{declared.nodes.Node.Node, declared.nodes.NodeKind.NodeKind, CoreData.CoreData}
use Rattle.pc_masks.specs.declared.mask.Mask.{Mask}
use Rattle.pc_ann.specs.declared.annotation.Ann.{Ann}
use Rattle.pc_semantics.specs.{declared.frames.Frame.Frame, Configurations.{Around, Move, Goes, with_stack, pushed}, Parts.{with_top, at_node}}
use Rattle.pc_rules.specs.{Parts.type_of, Fields.is_this, Rules.said_by}
use Rattle.pc_valid.specs.Words.{Ty, before}
use Rattle.pc_rules.proofs.ByNumber.{says}
use Rattle.pc_types.proofs.{Types.{OfType, OfSome, Want, Answers, StackOk}, Tasks.{Within, want_of, stacked, FinishOk, TasksOk}, Moves.{MoveOk, Runs}, Needs.Needs, Notes.meets, Values.{TopIs, top_is}, Running.push_ok, Inverse.Says}

-- The two values on top of a typed stack: the second one is on top of the first.
pub record TwoTops (core : CoreData) (around : Around) (this : Value) (a b : Want) (below : List Want) (vs : List Value) : Type 0 where
  pub first : Value
  pub second : Value
  pub rest : List Value
  pub is : vs ≡ second ∷ first ∷ rest
  pub first_answers : Answers core around.objects this a first
  pub second_answers : Answers core around.objects this b second
  pub ok : StackOk core around.objects this below rest

-- A property of the move goes by what is on top.
pub at_top : (Holds : Move → Type 0) (f : Frame) (v : Value) (rest : List Value) (next : Value → Frame → Move) → f.stack ≡ v ∷ rest → Holds (next v (with_stack f rest)) → Holds (with_top f f.stack next)
at_top Holds f v rest next is k = subst (λ (vs : List Value). Holds (with_top f vs next)) (sym is) k

pub at_tops : (Holds : Move → Type 0) (f : Frame) (v w : Value) (rest : List Value) (next : Value → Value → Frame → Move) → f.stack ≡ v ∷ w ∷ rest → Holds (next v w (with_stack f rest))
    → Holds (with_top f f.stack (λ v g. with_top g g.stack (next v)))
at_tops Holds f v w rest next is k = subst (λ (vs : List Value). Holds (with_top f vs (λ v g. with_top g g.stack (next v)))) (sym is) k

module _ (core : CoreData) (ann : Ann) (needs : Needs core ann) (around : Around) (f : Frame) (fs : List Frame) (r : Runs core ann around f fs) (does : NodeKind → Bool) (n : ℕ) (e : FinishOk core ann f.method r.held.live r.held.set r.held.wants does n (λ l s g. TasksOk core ann f.method f.tasks l s g)) where
  stack_of : (cs : List ℕ) → e.node.children ≡ cs → StackOk core around.objects r.held.this (stacked core ann cs e.below) f.stack
  stack_of cs is = subst (λ (g : List Want). StackOk core around.objects r.held.this g f.stack) (e.stack ∙ ap (λ (ds : List ℕ). stacked core ann ds e.below) is) r.held.stack_ok

  -- The value of the only child.
  pub one_top : (c : ℕ) → e.node.children ≡ c ∷ [] → TopIs core around.objects r.held.this (want_of core ann c) e.below f.stack
  one_top c is = top_is core around.objects r.held.this (want_of core ann c) e.below f.stack (stack_of (c ∷ []) is)

  -- The values of two children.
  pub two_tops : (a b : ℕ) → e.node.children ≡ a ∷ b ∷ [] → TwoTops core around r.held.this (want_of core ann a) (want_of core ann b) e.below f.stack
  two_tops a b is =
      let t = top_is core around.objects r.held.this (want_of core ann b) (want_of core ann a ∷ e.below) f.stack (stack_of (a ∷ b ∷ []) is) in
      let u = top_is core around.objects r.held.this (want_of core ann a) e.below t.below t.ok in
      record { first = u.top; second = t.top; rest = u.below; is = t.is ∙ ap (λ (vs : List Value). t.top ∷ vs) u.is; first_answers = u.answers; second_answers = t.answers; ok = u.ok }

  -- The value of a node that leaves slots and fields as its children do.
  pub done_ok : (ty : Option Ty) (v : Value) (rest : List Value) → Says e.note ty e.behind → StackOk core around.objects r.held.this e.below rest → OfSome core around.objects ty v → (is_this e.node.kind ≡ true → ⊥) → MoveOk core ann around fs (Goes (pushed (with_stack f rest) v))
  done_ok ty v rest s ok typed other =
      push_ok core ann needs around f fs r e.node e.note e.below rest v e.follows
      (subst (λ (m : Mask). Within m r.held.live) (sym s.live) e.live) (subst (λ (m : Mask). Within m r.held.set) (sym s.set) e.set) ok
      (subst (λ (o : Option Ty). OfSome core around.objects o v) (sym s.ty) typed) (λ h. absurd (other h))

  -- The method of the node is that of the frame.
  pub own_is : slice_get core.methods e.node.method ≡ Some r.held.own
  own_is = ap (slice_get core.methods) e.own ∙ r.held.is_own

  -- The note meets the rule of its kind.
  pub rule_is : says core ann e.node (before e.note) e.note.rule e.node.kind ≡ Some (said_by e.note)
  rule_is = meets core ann needs n e.node e.note e.is_node e.is_note

  -- The move is that of the node.
  pub at_this : (move : Node → Move) → MoveOk core ann around fs (move e.node) → MoveOk core ann around fs (at_node (slice_get core.nodes n) move)
  at_this move k = subst (λ (o : Option Node). MoveOk core ann around fs (at_node o move)) (sym e.is_node) k

-- A value of a child's type.
pub typed_at : (core : CoreData) (ann : Ann) (around : Around) (c : ℕ) (ty : Ty) (v : Value) → type_of ann c ≡ Some ty → OfSome core around.objects (type_of ann c) v → OfType core around.objects ty v
typed_at core ann around c ty v is k = subst (λ (o : Option Ty). OfSome core around.objects o v) is k

pub read_at : (core : CoreData) (ann : Ann) (around : Around) (c : ℕ) (ty : Ty) (k : ℕ) (v : Value) → type_of ann c ≡ Some ty → ty.0 ≡ k → OfSome core around.objects (type_of ann c) v → OfType core around.objects (k, ty.1) v
read_at core ann around c ty k v is e typed = subst (λ (j : ℕ). OfType core around.objects (j, ty.1) v) e (typed_at core ann around c ty v is typed)
