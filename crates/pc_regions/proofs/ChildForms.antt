-- Children that are evaluated, one after another, and the forms and depths of what they leave.
use Rattle.std.specs.Prelude.{◌≡◌, ℕ, suc, false, List, [], ◌∷◌, ◌++◌, Option, Some, slice_get, refl}
use Rattle.std.proofs.{Common.{inl, ap, sym, subst, ◌∙◌, arith}, lemmas.Option.{same_Some, none-some}}
use Rattle.pc_core.specs.{declared.nodes.Node.Node, CoreData.CoreData}
use Rattle.pc_core.specs.declared.nodes.NodeKind.TheVariants as nodes
use Rattle.pc_base.specs.Lists.{Each}
use Rattle.pc_masks.specs.declared.mask.Mask.{Mask}
use Rattle.pc_ann.specs.{declared.annotation.Note.Note, declared.annotation.Ann.Ann}
use Rattle.pc_semantics.specs.{declared.frames.Task.Task, Children.evaluations, Evaluation.item_tasks}
use Rattle.pc_semantics.specs.declared.frames.Task.TheVariants as task
use Rattle.pc_rules.specs.Parts.{through, type_of, last_child}
use Rattle.pc_valid.specs.Words.{Ty, Masks, masks_after}
use Rattle.pc_types.proofs.{Tasks.Within, Basic.{within_same, within_trans}, EvalChildren.{within_is, first_of_them, type_is, last_next}}
use Rattle.pc_regions.proofs.StackForms.{Entry, Shallow, Ascent, Climbs, top_of, SlotsShallow, entry_of, piled, uses_top, EvalRises, TasksRise, LiveShallow}

-- Node c exists, in method m at depth d, and is not a body.
abbrev pub IsAt : CoreData → ℕ → ℕ → ℕ → Type 0
IsAt core m d c = (y : Node) × (slice_get core.nodes c ≡ Some y) × (y.method ≡ m) × (y.depth ≡ d) × (y.kind ≡ nodes.Body → ⊥)

-- A value of this type at depth d.
abbrev pub at_depth : ℕ → Option Ty → Entry
at_depth d t = record { ty = t; depth = d }

-- The items of a sequence begin with an evaluation.
calm_items : (x : ℕ) (cs : List ℕ) (ts : List Task) → uses_top (item_tasks (x ∷ cs) ++ ts) ≡ false
calm_items x [] ts = refl
calm_items x (c ∷ cs) ts = refl

module _ (core : CoreData) (ann : Ann) (flat : LiveShallow core ann) (m d : ℕ) where
  -- A child from these live slots, whose value goes this way.
  pub child_rises : (c : ℕ) (t : Note) (l : Mask) (g : List Entry) (go : ℕ → Mask → List Entry → Type 0) → IsAt core m d c → slice_get ann.notes c ≡ Some t → Within t.live_before l
      → (live : Mask) (way : List Ascent) → Within live t.live_after → Climbs core way (at_depth d t.ty) → Shallow g (top_of way (at_depth d t.ty)).depth → SlotsShallow core m live (top_of way (at_depth d t.ty)).depth
      → go (top_of way (at_depth d t.ty)).depth live (top_of way (at_depth d t.ty) ∷ g) → EvalRises core ann m d l g c go
  child_rises c t l g go child at wl live way ll climbs low slots next =
      let is : at_depth d t.ty ≡ entry_of child.0 t = ap (λ (k : ℕ). at_depth k t.ty) (sym child.3) in
      record {
        node = child.0;
        is_node = child.1;
        note = t;
        is_note = at;
        own = child.2;
        inner = child.4;
        depth = child.3;
        live = wl;
        follows = record {
          live = live;
          left = ll;
          way = way;
          climbs = subst (Climbs core way) is climbs;
          shallow = subst (λ (e : Entry). Shallow g (top_of way e).depth) is low;
          slots = subst (λ (e : Entry). SlotsShallow core m live (top_of way e).depth) is slots;
          next = subst (λ (e : Entry). go (top_of way e).depth live (top_of way e ∷ g)) is next;
        };
      }

  -- A child from these live slots, whose value is taken for what it is.
  pub whole_rises : (c : ℕ) (t : Note) (l : Mask) (g : List Entry) (go : ℕ → Mask → List Entry → Type 0) → IsAt core m d c → slice_get ann.notes c ≡ Some t → Within t.live_before l → Shallow g d
      → go d t.live_after (at_depth d (type_of ann c) ∷ g) → EvalRises core ann m d l g c go
  whole_rises c t l g go child at wl low next =
      let here : SlotsShallow core child.0.method t.live_after child.0.depth = (flat c child.0 t child.1 at).1 child.4 in
      let slots : SlotsShallow core m t.live_after d = subst (λ (k : ℕ). SlotsShallow core k t.live_after d) child.2 (subst (SlotsShallow core child.0.method t.live_after) child.3 here) in
      child_rises c t l g go child at wl t.live_after [] (within_same t.live_after) tt low slots
      (subst (λ (o : Option Ty). go d t.live_after (at_depth d o ∷ g)) (type_is ann c t at) next)

  -- All of them, and then what takes their values.
  pub evaluations_rise : (cs : List ℕ) (ts : List Task) (n k : Masks) (l : Mask) (g : List Entry) → Each (λ i c. IsAt core m d c) cs → through ann cs n ≡ Some k → Within n.0 l → Shallow g d
      → ((more : Mask) → Within k.0 more → TasksRise core ann m ts d more (piled ann d cs g)) → TasksRise core ann m (evaluations cs ++ ts) d l g
  evaluations_rise [] ts n k l g children e wl low next = next l (subst (λ (q : Masks). Within q.0 l) (same_Some n k e) wl)
  evaluations_rise (c ∷ cs) ts n k l g children e wl low next =
      let f = first_of_them ann c cs n k e in
      inl (whole_rises c f.note l g (λ d2 l2 g2. TasksRise core ann m (evaluations cs ++ ts) d2 l2 g2) (children 0 c refl) f.is_note
      (within_trans f.note.live_before n.0 l (within_is f.note.live_before n.0 (ap (λ (q : Masks). q.0) f.starts)) wl) low
      (evaluations_rise cs ts (masks_after f.note) k f.note.live_after (at_depth d (type_of ann c) ∷ g) (λ i x h. children (suc i) x h) f.rest (within_same f.note.live_after) (omega arith, low) next))

  -- The items of a sequence: the value of the last one goes this way.
  pub items_rise : (cs : List ℕ) (ts : List Task) (n k : Masks) (l : Mask) (g : List Entry) (last : ℕ) (u : Note) (live : Mask) (way : List Ascent) → Each (λ i c. IsAt core m d c) cs → through ann cs n ≡ Some k
      → last_child cs ≡ Some last → slice_get ann.notes last ≡ Some u → Within n.0 l → Shallow g d → Within live k.0 → Climbs core way (at_depth d u.ty) → Shallow g (top_of way (at_depth d u.ty)).depth → SlotsShallow core m live (top_of way (at_depth d u.ty)).depth
      → TasksRise core ann m ts (top_of way (at_depth d u.ty)).depth live (top_of way (at_depth d u.ty) ∷ g)
      → TasksRise core ann m (item_tasks cs ++ ts) d l g
  items_rise [] ts n k l g last u live way children e il at wl low ll climbs deep slots next = absurd (none-some last il)
  items_rise (c ∷ []) ts n k l g last u live way children e il at wl low ll climbs deep slots next =
      let f = first_of_them ann c [] n k e in
      let is : u ≡ f.note = same_Some u f.note (sym at ∙ ap (slice_get ann.notes) (sym (same_Some c last il)) ∙ f.is_note) in
      let end : k ≡ masks_after f.note = same_Some k (masks_after f.note) (sym f.rest) in
      inl (child_rises c f.note l g (λ d2 l2 g2. TasksRise core ann m ts d2 l2 g2) (children 0 c refl) f.is_note
      (within_trans f.note.live_before n.0 l (within_is f.note.live_before n.0 (ap (λ (q : Masks). q.0) f.starts)) wl)
      live way (within_trans live k.0 f.note.live_after ll (within_is k.0 f.note.live_after (ap (λ (q : Masks). q.0) end)))
      (subst (λ (v : Note). Climbs core way (at_depth d v.ty)) is climbs) (subst (λ (v : Note). Shallow g (top_of way (at_depth d v.ty)).depth) is deep)
      (subst (λ (v : Note). SlotsShallow core m live (top_of way (at_depth d v.ty)).depth) is slots)
      (subst (λ (v : Note). TasksRise core ann m ts (top_of way (at_depth d v.ty)).depth live (top_of way (at_depth d v.ty) ∷ g)) is next))
  items_rise (c ∷ x ∷ cs) ts n k l g last u live way children e il at wl low ll climbs deep slots next =
      let f = first_of_them ann c (x ∷ cs) n k e in
      let more : last_child (x ∷ cs) ≡ Some last = sym (last_next c x cs) ∙ il in
      inl (whole_rises c f.note l g (λ d2 l2 g2. TasksRise core ann m (task.Discard ∷ item_tasks (x ∷ cs) ++ ts) d2 l2 g2) (children 0 c refl) f.is_note
      (within_trans f.note.live_before n.0 l (within_is f.note.live_before n.0 (ap (λ (q : Masks). q.0) f.starts)) wl) low
      (record {
        calm = calm_items x cs ts;
        top = at_depth d (type_of ann c);
        below = g;
        stack = refl;
        next = items_rise (x ∷ cs) ts (masks_after f.note) k f.note.live_after g last u live way (λ i y h. children (suc i) y h) f.rest more at (within_same f.note.live_after) low ll climbs deep slots next;
      }))
