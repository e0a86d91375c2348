-- Children that are evaluated, one after another, and what they leave.
use Rattle.std.specs.Prelude.{◌≡◌, ℕ, suc, ◌-◌, true, List, [], ◌∷◌, ◌++◌, length, Option, Some, None, slice_get, refl}
use Rattle.std.proofs.{Common.{inl, ap, sym, subst, ◌∙◌, arith}, lemmas.Option.{same_Some, none-some}}
use Rattle.pc_core.specs.{declared.nodes.Node.Node, declared.nodes.NodeKind.NodeKind, CoreData.CoreData}
use Rattle.pc_core.specs.declared.nodes.NodeKind.TheVariants as nodes
use Rattle.pc_base.specs.Lists.{Each}
use Rattle.pc_base.proofs.Options.{bind_some, kept, bind_is}
use Rattle.pc_masks.specs.{declared.mask.Mask.Mask, Masks.IsInMask, MaskLaws.without_number_bits}
use Rattle.pc_ann.specs.{declared.annotation.Note.Note, declared.annotation.Ann.Ann}
use Rattle.pc_semantics.specs.{declared.frames.Task.Task, Children.evaluations, Evaluation.item_tasks}
use Rattle.pc_semantics.specs.declared.frames.Task.TheVariants as task
use Rattle.pc_rules.specs.{Parts.{starts, through, type_of, last_child}, Control.{without_definition, without_item, without_items}}
use Rattle.pc_valid.specs.Words.{Ty, Masks, before, masks_after}
use Rattle.pc_rules.proofs.Threads.{starts_so}
use Rattle.pc_types.proofs.{Types.{Lower, Want}, Tasks.{Within, gives_this, want_of, stacked, EvalOk, TasksOk}, Needs.IsChild, Basic.{within_same, within_trans, same_lower}}

-- ---- masks

pub within_is : (a b : Mask) → a ≡ b → Within a b
within_is a b e i h = subst (λ (m : Mask). IsInMask m i) e h

-- What is live after a sequence is live after its last item.
definition_less : (k : NodeKind) (l : Mask) → Within (without_definition k l) l
definition_less (nodes.Define s) l i h = ((without_number_bits l s i).0 h).1
definition_less k l i h = h

item_less : (o : Option Node) (l : Mask) → Within (without_item o l) l
item_less None l i h = h
item_less (Some y) l i h = definition_less y.kind l i h

pub items_less : (core : CoreData) (cs : List ℕ) (l : Mask) → Within (without_items core cs l) l
items_less core [] l i h = h
items_less core (c ∷ cs) l i h = item_less (slice_get core.nodes c) l i (items_less core cs (without_item (slice_get core.nodes c) l) i h)

-- ---- one node after another

-- A first node starts from the masks, and the others follow it.
pub record First (ann : Ann) (c : ℕ) (cs : List ℕ) (m n : Masks) : Type 0 where
  pub note : Note
  pub is_note : slice_get ann.notes c ≡ Some note
  pub starts : before note ≡ m
  pub rest : through ann cs (masks_after note) ≡ Some n

pub first_of_them : (ann : Ann) (c : ℕ) (cs : List ℕ) (m n : Masks) → through ann (c ∷ cs) m ≡ Some n → First ann c cs m n
first_of_them ann c cs m n e =
    let a = bind_some (slice_get ann.notes c) _ n e in
    let k = kept (starts a.0 m) (through ann cs (masks_after a.0)) n a.2 in
    record { note = a.0; is_note = a.1; starts = starts_so a.0 m k.0; rest = k.1 }

-- The type of a node with a note.
pub type_is : (ann : Ann) (c : ℕ) (t : Note) → slice_get ann.notes c ≡ Some t → type_of ann c ≡ t.ty
type_is ann c t e = bind_is (slice_get ann.notes c) (λ (u : Note). u.ty) t e

-- The last of more than one.
pub last_next : (c d : ℕ) (cs : List ℕ) → last_child (c ∷ d ∷ cs) ≡ last_child (d ∷ cs)
last_next c d cs =
    let e : length (c ∷ d ∷ cs) - 1 ≡ suc (length (d ∷ cs) - 1) = omega arith in
    ap (slice_get (c ∷ d ∷ cs)) e

module _ (core : CoreData) (ann : Ann) (m : ℕ) where
  -- A child from these masks, when what follows takes its value for this.
  pub child_ok : (c : ℕ) (t : Note) (l s : Mask) (g : List Want) (go : Mask → Mask → List Want → Type 0) → IsChild core m c → slice_get ann.notes c ≡ Some t → Within t.live_before l → Within t.set_before s
      → (live set : Mask) (goal : Want) → Within live t.live_after → Within set t.set_after → Lower core t.ty goal.ty → (goal.own ≡ true → gives_this (slice_get core.nodes c) ≡ true) → go live set (goal ∷ g)
      → EvalOk core ann m l s g c go
  child_ok c t l s g go child at wl ws live set goal ll sl fits own next = record {
    node = child.0;
    is_node = child.1;
    note = t;
    is_note = at;
    own = child.2;
    live = wl;
    set = ws;
    follows = record {
      live = live;
      set = set;
      live_left = ll;
      set_left = sl;
      goal = goal;
      fits = fits;
      this = λ h. subst (λ (o : Option Node). gives_this o ≡ true) child.1 (own h);
      next = next;
    };
  }

  -- A child from these masks, whose value is taken for what it is.
  pub whole_ok : (c : ℕ) (t : Note) (l s : Mask) (g : List Want) (go : Mask → Mask → List Want → Type 0) → IsChild core m c → slice_get ann.notes c ≡ Some t → Within t.live_before l → Within t.set_before s
      → go t.live_after t.set_after (want_of core ann c ∷ g) → EvalOk core ann m l s g c go
  whole_ok c t l s g go child at wl ws next =
      child_ok c t l s g go child at wl ws t.live_after t.set_after (want_of core ann c) (within_same t.live_after) (within_same t.set_after)
      (subst (λ (o : Option Ty). Lower core t.ty o) (sym (type_is ann c t at)) (same_lower core t.ty)) (λ h. h) next

  -- All of them, and then what takes their values.
  pub evaluations_ok : (cs : List ℕ) (ts : List Task) (n k : Masks) (g : List Want) → Each (λ i c. IsChild core m c) cs → through ann cs n ≡ Some k
      → TasksOk core ann m ts k.0 k.1 (stacked core ann cs g) → TasksOk core ann m (evaluations cs ++ ts) n.0 n.1 g
  evaluations_ok [] ts n k g children e next = subst (λ (q : Masks). TasksOk core ann m ts q.0 q.1 g) (sym (same_Some n k e)) next
  evaluations_ok (c ∷ cs) ts n k g children e next =
      let f = first_of_them ann c cs n k e in
      inl (whole_ok c f.note n.0 n.1 g (λ l s g2. TasksOk core ann m (evaluations cs ++ ts) l s g2) (children 0 c refl) f.is_note
      (within_is f.note.live_before n.0 (ap (λ (q : Masks). q.0) f.starts)) (within_is f.note.set_before n.1 (ap (λ (q : Masks). q.1) f.starts))
      (evaluations_ok cs ts (masks_after f.note) k (want_of core ann c ∷ g) (λ i d h. children (suc i) d h) f.rest next))

  -- The items of a sequence: the value of the last one is left.
  pub items_ok : (cs : List ℕ) (ts : List Task) (n k : Masks) (g : List Want) (last : ℕ) (u : Note) (live set : Mask) (goal : Want) → Each (λ i c. IsChild core m c) cs → through ann cs n ≡ Some k
      → last_child cs ≡ Some last → slice_get ann.notes last ≡ Some u → Within live k.0 → Within set k.1 → Lower core u.ty goal.ty → (goal.own ≡ true → ⊥)
      → TasksOk core ann m ts live set (goal ∷ g) → TasksOk core ann m (item_tasks cs ++ ts) n.0 n.1 g
  items_ok [] ts n k g last u live set goal children e il at ll sl fits own next = absurd (none-some last il)
  items_ok (c ∷ []) ts n k g last u live set goal children e il at ll sl fits own next =
      let f = first_of_them ann c [] n k e in
      let is : u ≡ f.note = same_Some u f.note (sym at ∙ ap (slice_get ann.notes) (sym (same_Some c last il)) ∙ f.is_note) in
      let end : k ≡ masks_after f.note = same_Some k (masks_after f.note) (sym f.rest) in
      inl (child_ok c f.note n.0 n.1 g (λ l s g2. TasksOk core ann m ts l s g2) (children 0 c refl) f.is_note
      (within_is f.note.live_before n.0 (ap (λ (q : Masks). q.0) f.starts)) (within_is f.note.set_before n.1 (ap (λ (q : Masks). q.1) f.starts))
      live set goal (within_trans live k.0 f.note.live_after ll (within_is k.0 f.note.live_after (ap (λ (q : Masks). q.0) end))) (within_trans set k.1 f.note.set_after sl (within_is k.1 f.note.set_after (ap (λ (q : Masks). q.1) end)))
      (subst (λ (v : Note). Lower core v.ty goal.ty) is fits) (λ h. absurd (own h)) next)
  items_ok (c ∷ d ∷ cs) ts n k g last u live set goal children e il at ll sl fits own next =
      let f = first_of_them ann c (d ∷ cs) n k e in
      let more : last_child (d ∷ cs) ≡ Some last = sym (last_next c d cs) ∙ il in
      inl (whole_ok c f.note n.0 n.1 g (λ l s g2. TasksOk core ann m (task.Discard ∷ item_tasks (d ∷ cs) ++ ts) l s g2) (children 0 c refl) f.is_note
      (within_is f.note.live_before n.0 (ap (λ (q : Masks). q.0) f.starts)) (within_is f.note.set_before n.1 (ap (λ (q : Masks). q.1) f.starts))
      (record {
        top = want_of core ann c;
        below = g;
        stack = refl;
        next = items_ok (d ∷ cs) ts (masks_after f.note) k g last u live set goal (λ i x h. children (suc i) x h) f.rest more at ll sl fits own next;
      }))
