-- What a child of a node starts from: what is live before it is live before the node or after an earlier child.
use Rattle.std.specs.Prelude.{◌≡◌, ◌⊎◌, ℕ, zero, suc, ◌<◌, false, List, [], ◌∷◌, Some, slice_get, refl}
use Rattle.std.proofs.{Common.{inl, inr, ap, sym, subst, ◌∙◌, arith}, lemmas.Option.{same_Some, none-some}}
use Rattle.pc_base.proofs.Gets.{get_below, get_within}
use Rattle.pc_core.specs.{declared.nodes.Node.Node, declared.nodes.NodeKind.NodeKind, CoreData.CoreData}
use Rattle.pc_core.specs.declared.nodes.NodeKind.TheVariants as node
use Rattle.pc_base.specs.Lists.{Each}
use Rattle.pc_ann.specs.{declared.annotation.Note.Note, declared.annotation.Ann.Ann}
use Rattle.pc_masks.specs.Masks.{IsInMask}
use Rattle.pc_rules.specs.{Parts.through, Rules.said_by}
use Rattle.pc_valid.specs.Words.{Masks, before, masks_after}
use Rattle.pc_rules.proofs.{ByNumber.{says, IsSaid}, Threads.{Threaded, is_branch, threads, first_starts, next_starts}}
use Rattle.pc_types.proofs.{Needs.Needs, Notes.note_at, EvalChildren.first_of_them, Inverse.{IfRule, if_rule}}
use Rattle.pc_regions.proofs.LiveRules.{BehindChild}

-- What is live before a child is known, or live after an earlier child.
abbrev pub Starts : Ann → (ℕ → Type 0) → List ℕ → Type 0
Starts ann Known cs =
    (i c : ℕ) (u : Note) (s : ℕ) → slice_get cs i ≡ Some c → slice_get ann.notes c ≡ Some u → IsInMask u.live_before s → Known s ⊎ ((j : ℕ) × (j < i) × BehindChild ann cs j s)

-- The same without the first child, after which more is known.
earlier_child : (ann : Ann) (c : ℕ) (cs : List ℕ) (v : Note) (s i j : ℕ) → slice_get ann.notes c ≡ Some v → j < suc i → BehindChild ann (c ∷ cs) j s → IsInMask v.live_after s ⊎ ((k : ℕ) × (k < i) × BehindChild ann cs k s)
earlier_child ann c cs v s i zero is l b =
    let same : b.note ≡ v = same_Some b.note v (sym b.is_note ∙ ap (slice_get ann.notes) (sym (same_Some c b.child b.is_child)) ∙ is) in
    inl (subst (λ (u : Note). IsInMask u.live_after s) same b.live)
earlier_child ann c cs v s i (suc j) is l b = inr (j, omega (arith, l), record { child = b.child; is_child = b.is_child; note = b.note; is_note = b.is_note; live = b.live })

pub none_before : (j : ℕ) → j < 0 → ⊥
none_before j l = omega (arith, l)

-- What comes after one of the children comes after the first or after one of the others.
pub known_behind : (ann : Ann) (Known : ℕ → Type 0) (c : ℕ) (cs : List ℕ) (v : Note) (s : ℕ) → slice_get ann.notes c ≡ Some v → Known s ⊎ ((j : ℕ) × BehindChild ann (c ∷ cs) j s) → (Known s ⊎ IsInMask v.live_after s) ⊎ ((j : ℕ) × BehindChild ann cs j s)
known_behind ann Known c cs v s is (inl k) = inl (inl k)
known_behind ann Known c cs v s is (inr b) = elim (earlier_child ann c cs v s b.0 b.0 is (omega arith) b.1) [ inl live ↦ inl (inr live) | inr k ↦ inr (k.0, k.2) ]

pub next_starts_known : (ann : Ann) (Known : ℕ → Type 0) (c : ℕ) (cs : List ℕ) (v : Note) → slice_get ann.notes c ≡ Some v → Starts ann Known (c ∷ cs) → Starts ann (λ s. Known s ⊎ IsInMask v.live_after s) cs
next_starts_known ann Known c cs v is starts i d u s at note h =
    elim (starts (suc i) d u s at note h) [
      | inl k ↦ inl (inl k)
      | inr p ↦ elim (earlier_child ann c cs v s i p.0 is p.1 p.2) [ inl k ↦ inl (inr k) | inr b ↦ inr b ]
    ]

-- ---- children that are evaluated one after another

threaded_starts : (ann : Ann) (cs : List ℕ) (m : Masks) → Threaded ann cs m → Each (λ i c. (u : Note) × (slice_get ann.notes c ≡ Some u)) cs → Starts ann (λ s. IsInMask m.0 s) cs
threaded_starts ann cs m t notes zero c u s at note h = inl (subst (λ (k : Masks). IsInMask k.0 s) (first_starts ann cs m c u t at note) h)
threaded_starts ann cs m t notes (suc i) c u s at note h =
    let below = get_below cs (suc i) c at in
    let d = get_within cs i (omega (arith, below)) in
    let v = notes i d.0 d.1 in
    inr (i, omega arith, record { child = d.0; is_child = d.1; note = v.0; is_note = v.1; live = subst (λ (k : Masks). IsInMask k.0 s) (next_starts ann cs m i d.0 c v.0 u t d.1 at v.1 note) h })

-- ---- branches

module _ (core : CoreData) (ann : Ann) (x : Node) (t : Note) (r : IfRule core ann x t) where
  -- What is live before a branch is live after the condition.
  behind_condition : (c : ℕ) (n : Masks) (u : Note) (s i : ℕ) → through ann (c ∷ []) r.behind ≡ Some n → slice_get ann.notes c ≡ Some u → 0 < i → IsInMask u.live_before s
      → (j : ℕ) × (j < i) × BehindChild ann (r.condition ∷ r.then_branch ∷ r.else_branch ∷ []) j s
  behind_condition c n u s i e note l h =
      let f = first_of_them ann r.condition [] (before t) r.behind r.is_behind in
      let g = first_of_them ann c [] r.behind n e in
      let same : g.note ≡ u = same_Some g.note u (sym g.is_note ∙ note) in
      let from : before u ≡ masks_after f.note = ap before (sym same) ∙ g.starts ∙ sym (same_Some (masks_after f.note) r.behind f.rest) in
      (0, l, record { child = r.condition; is_child = refl; note = f.note; is_note = f.is_note; live = subst (λ (k : Masks). IsInMask k.0 s) from h })

  branches_start : Starts ann (λ s. IsInMask t.live_before s) (r.condition ∷ r.then_branch ∷ r.else_branch ∷ [])
  branches_start zero c u s at note h =
      let f = first_of_them ann r.condition [] (before t) r.behind r.is_behind in
      let same : f.note ≡ u = same_Some f.note u (sym f.is_note ∙ ap (slice_get ann.notes) (same_Some r.condition c at) ∙ note) in
      inl (subst (λ (k : Masks). IsInMask k.0 s) (ap before (sym same) ∙ f.starts) h)
  branches_start (suc zero) c u s at note h = inr (behind_condition r.then_branch r.behind_then u s 1 r.is_then (ap (slice_get ann.notes) (same_Some r.then_branch c at) ∙ note) (omega arith) h)
  branches_start (suc (suc zero)) c u s at note h = inr (behind_condition r.else_branch r.behind_else u s 2 r.is_else (ap (slice_get ann.notes) (same_Some r.else_branch c at) ∙ note) (omega arith) h)
  branches_start (suc (suc (suc i))) c u s at note h = absurd (none-some c at)

-- ---- each node

branch_or_not : (k : NodeKind) → (k ≡ node.If) ⊎ (is_branch k ≡ false)
branch_or_not node.If = inl refl
branch_or_not k = inr refl

pub children_start : (core : CoreData) (ann : Ann) → Needs core ann → (n : ℕ) (x : Node) (t : Note) → slice_get core.nodes n ≡ Some x → IsSaid core ann x t → Starts ann (λ s. IsInMask t.live_before s) x.children
children_start core ann needs n x t at meets =
    elim (branch_or_not x.kind) [
      | inl is ↦ let r = if_rule core ann x t t.rule (subst (λ (k : NodeKind). says core ann x (before t) t.rule k ≡ Some (said_by t)) is meets) in
          subst (λ (cs : List ℕ). Starts ann (λ s. IsInMask t.live_before s) cs) (sym r.children) (branches_start core ann x t r)
      | inr other ↦ threaded_starts ann x.children (before t) (threads core ann x (before t) (said_by t) t.rule x.kind other (needs.formed.nodes n x at).arity meets)
          (λ i c e. let child = needs.children n x at i c e in let u = note_at core ann needs c child.0 child.1 in (u.0, u.1))
    ]
