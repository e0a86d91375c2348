-- The task Eval, at each kind of node.
use Rattle.std.specs.Prelude.{◌≡◌, ℕ, Bool, true, false, List, ◌∷◌, Option, Some, slice_get, refl}
use Rattle.std.proofs.Common.{inl, inr, ap, sym, subst, ◌∙◌}
use Rattle.pc_core.specs.{declared.nodes.Node.Node, declared.nodes.NodeKind.NodeKind, CoreData.CoreData}
use Rattle.pc_core.specs.declared.nodes.NodeKind.TheVariants as nodes
use Rattle.pc_masks.specs.declared.mask.Mask.{Mask}
use Rattle.pc_ann.specs.declared.annotation.Ann.{Ann}
use Rattle.pc_semantics.specs.{declared.frames.Frame.Frame, declared.frames.Task.Task, Configurations.Around, Evaluation.{AllThen, by_way, evaluate}, Parts.evaluate_node}
use Rattle.pc_semantics.specs.declared.frames.Task.TheVariants as task
use Rattle.pc_rules.specs.{Parts.through, Rules.said_by}
use Rattle.pc_valid.specs.Words.{Masks, before}
use Rattle.pc_rules.proofs.{ByNumber.says, OneRule.body_rule, Threads.is_branch}
use Rattle.pc_base.proofs.Bools.{false_true}
use Rattle.pc_types.proofs.{Types.Want, Tasks.{stacked, EvalOk, BodyOk, FinishOk, reads, writes, stores, makes, spawns, invokes, applies, is_lazy, TasksOk}, Moves.{MoveOk, Runs}, Needs.Needs, Basic.within_same, Notes.{meets, children_threaded}, Steps.Keeps, Inverse.{number_rule, truth_rule, text_rule, prim_rule, this_rule, local_rule, consume_rule, and_rule, or_rule, if_rule, while_rule, seq_rule, recover_rule}, EvalValue.{number_ok, truth_ok, text_ok, prim_ok, this_ok, local_ok, consume_ok}, EvalControl.{not_own, strict_ok, lazy_ok, if_ok, while_ok, seq_ok, recover_ok, body_ok}}

module _ (core : CoreData) (ann : Ann) (needs : Needs core ann) (around : Around) (f : Frame) (fs : List Frame) (r : Runs core ann around f fs) where
  module _ (n : ℕ) (e : EvalOk core ann f.method r.held.live r.held.set r.held.wants n (λ l s g. TasksOk core ann f.method f.tasks l s g)) where
    -- What the task after the children needs.
    finish_at : (does : NodeKind → Bool) (k : NodeKind) → e.node.kind ≡ k → does k ≡ true → (behind : Masks) → through ann e.node.children (before e.note) ≡ Some behind
        → FinishOk core ann f.method behind.0 behind.1 (stacked core ann e.node.children r.held.wants) does n (λ l s g. TasksOk core ann f.method f.tasks l s g)
    finish_at does k is h behind masks = record {
      node = e.node;
      is_node = e.is_node;
      note = e.note;
      is_note = e.is_note;
      own = e.own;
      kind = ap does is ∙ h;
      behind = behind;
      is_behind = masks;
      live = within_same behind.0;
      set = within_same behind.1;
      below = r.held.wants;
      stack = refl;
      follows = e.follows;
    }

    -- All children of a node of this kind, and then the task that finishes it.
    all_ok : (does : NodeKind → Bool) (t : Task) → ((l z : Mask) (g : List Want) → FinishOk core ann f.method l z g does n (λ l z g. TasksOk core ann f.method f.tasks l z g) → TasksOk core ann f.method (t ∷ f.tasks) l z g)
        → (k : NodeKind) → e.node.kind ≡ k → does k ≡ true → is_branch k ≡ false → says core ann e.node (before e.note) e.note.rule k ≡ Some (said_by e.note) → MoveOk core ann around fs (by_way f e.node.children (AllThen t))
    all_ok does t finish k is h other q =
        let c = children_threaded core ann needs n e.node e.note e.is_node k is other q in
        strict_ok core ann needs around f fs r n e t c.0 c.1 (finish c.0.0 c.0.1 (stacked core ann e.node.children r.held.wants) (finish_at does k is h c.0 c.1))

    kind_ok : (k : NodeKind) → e.node.kind ≡ k → says core ann e.node (before e.note) e.note.rule k ≡ Some (said_by e.note) → MoveOk core ann around fs (evaluate f n e.node.children k)
    kind_ok (nodes.Number v) is q = number_ok core ann needs around f fs r n e v is (number_rule core ann e.node e.note e.note.rule v q)
    kind_ok (nodes.Truth v) is q = truth_ok core ann needs around f fs r n e v is (truth_rule core ann e.node e.note e.note.rule v q)
    kind_ok (nodes.Text v) is q = text_ok core ann needs around f fs r n e v is (text_rule core ann e.node e.note e.note.rule v q)
    kind_ok (nodes.Prim v) is q = prim_ok core ann needs around f fs r n e v is (prim_rule core ann e.node e.note e.note.rule v q)
    kind_ok nodes.This is q = this_ok core ann needs around f fs r n e (this_rule core ann e.node e.note e.note.rule q)
    kind_ok (nodes.Local s) is q = local_ok core ann needs around f fs r n e s is (local_rule core ann e.node e.note e.note.rule s q)
    kind_ok (nodes.Consume s) is q = consume_ok core ann needs around f fs r n e s is (consume_rule core ann e.node e.note e.note.rule s q)
    kind_ok (nodes.Field v) is q = all_ok reads (task.Get n) (λ l s g h. h) (nodes.Field v) is refl refl q
    kind_ok (nodes.SetField v) is q = all_ok writes (task.Put n) (λ l s g h. h) (nodes.SetField v) is refl refl q
    kind_ok (nodes.Define v) is q = all_ok stores (task.Store n) (λ l s g h. h) (nodes.Define v) is refl refl q
    kind_ok (nodes.Assign v) is q = all_ok stores (task.Store n) (λ l s g h. h) (nodes.Assign v) is refl refl q
    kind_ok (nodes.New v) is q = all_ok makes (task.Make n) (λ l s g h. h) (nodes.New v) is refl refl q
    kind_ok (nodes.Spawn v) is q = all_ok spawns (task.Spawn n) (λ l s g h. h) (nodes.Spawn v) is refl refl q
    kind_ok (nodes.Call v) is q = all_ok invokes (task.Invoke n) (λ l s g h. h) (nodes.Call v) is refl refl q
    kind_ok nodes.And is q = lazy_ok core ann needs around f fs r n e (and_rule core ann e.node e.note e.note.rule q) (ap is_lazy is) (not_own core ann needs around f fs r n e nodes.And is false_true)
    kind_ok nodes.Or is q = lazy_ok core ann needs around f fs r n e (or_rule core ann e.node e.note e.note.rule q) (ap is_lazy is) (not_own core ann needs around f fs r n e nodes.Or is false_true)
    kind_ok nodes.If is q = if_ok core ann needs around f fs r n e (if_rule core ann e.node e.note e.note.rule q) (not_own core ann needs around f fs r n e nodes.If is false_true)
    kind_ok nodes.While is q = while_ok core ann needs around f fs r n e (while_rule core ann e.node e.note e.note.rule q)
    kind_ok nodes.Seq is q = seq_ok core ann needs around f fs r n e (seq_rule core ann e.node e.note e.note.rule q) (not_own core ann needs around f fs r n e nodes.Seq is false_true)
    kind_ok (nodes.Recover c) is q = recover_ok core ann needs around f fs r n e c (recover_rule core ann e.node e.note e.note.rule c q) (not_own core ann needs around f fs r n e (nodes.Recover c) is false_true)
    kind_ok nodes.Body is q = body_ok core ann needs around f fs r n e.node e.note e.is_node e.is_note e.own is e.live e.set (body_rule core ann e.node (before e.note) e.note.rule (said_by e.note) q)
    kind_ok k is q = all_ok applies (task.Apply n) (λ l s g h. h) k is refl refl q

    node_ok : MoveOk core ann around fs (evaluate_node f n (slice_get core.nodes n))
    node_ok =
        subst (λ (o : Option Node). MoveOk core ann around fs (evaluate_node f n o)) (sym e.is_node)
        (kind_ok e.node.kind refl (meets core ann needs n e.node e.note e.is_node e.is_note))

  end_ok : (n : ℕ) → BodyOk core ann f.method r.held.live r.held.set n → MoveOk core ann around fs (evaluate_node f n (slice_get core.nodes n))
  end_ok n b =
      let rule = body_rule core ann b.node (before b.note) b.note.rule (said_by b.note) (subst (λ (k : NodeKind). says core ann b.node (before b.note) b.note.rule k ≡ Some (said_by b.note)) b.is_body (meets core ann needs n b.node b.note b.is_node b.is_note)) in
      subst (λ (o : Option Node). MoveOk core ann around fs (evaluate_node f n o)) (sym b.is_node)
      (subst (λ (k : NodeKind). MoveOk core ann around fs (evaluate f n b.node.children k)) (sym b.is_body)
      (body_ok core ann needs around f fs r n b.node b.note b.is_node b.is_note b.own b.is_body b.live b.set rule))

pub keeps_eval : (n : ℕ) → Keeps (task.Eval n)
keeps_eval n core ann needs around f fs r (inl e) = node_ok core ann needs around f fs r n e
keeps_eval n core ann needs around f fs r (inr b) = end_ok core ann needs around f fs r n b
