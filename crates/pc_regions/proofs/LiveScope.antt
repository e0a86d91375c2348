-- What is live at a node is in scope there: its definition comes before it, and the sequence that has the definition is
-- still to come. So it is no deeper than the node.
use Rattle.std.specs.Prelude.{◌≡◌, ◌≢◌, ◌⊎◌, ℕ, zero, suc, ◌+◌, ◌-◌, ◌<◌, ◌≤◌, List, [], ◌∷◌, ◌++◌, map, length, Some, slice_get, refl}
use Rattle.std.proofs.{Common.{inl, inr, ap, sym, subst, ◌∙◌, arith}, lemmas.Option.{same_Some, none-some}, lemmas.Bool.{cases_lt, and_parts}, lemmas.List.length-map}
use Rattle.pc_base.proofs.Gets.{get_below, map_get, range_get, append_get}
use Rattle.pc_core.specs.{declared.declarations.Method.Method, declared.nodes.Slot.Slot, declared.nodes.Node.Node, declared.nodes.NodeKind.NodeKind, CoreData.{CoreData, own_slots}, Methods.{LocalFits, SlotsFit, UsesSlot}, Entities.{this_slot, param_slot}, Nodes.{NamesFit, NamesLocal, NamesSlot, inner_depth}}
use Rattle.pc_core.specs.declared.nodes.NodeKind.TheVariants as node
use Rattle.pc_base.specs.Lists.{Each}
use Rattle.pc_masks.specs.{declared.mask.Mask.Mask, Masks.{IsInMask, first, same}, MaskLaws.first_bits}
use Rattle.pc_ann.specs.{declared.annotation.Note.Note, declared.annotation.Ann.Ann}
use Rattle.pc_valid.specs.Words.{before, Defines}
use Rattle.pc_rules.specs.{Control.start_set, Rules.said_by, Trees.{Tree, Forest, tree, empty, more, body_tree, tree_le}}
use Rattle.pc_rules.proofs.{ByNumber.{says, IsSaid}, OneRule.body_rule, Homes.{own_tree, children_of, children_before}}
use Rattle.pc_core.proofs.Homes.{home}
use Rattle.pc_regions.proofs.{StackForms.{SlotsShallow, LiveShallow}, LiveTrees.{forest_from, inner_tree, tree_deep}, LiveRules.{BehindChild, Remains, Sets, live_behind, defined_out}, LiveStarts.{Starts, none_before, known_behind, next_starts_known, children_start}}
use Rattle.pc_types.proofs.{Needs.{Needs, IsChild}, Needed.not_first, Notes.{note_at, meets, same_within}, Begin.body_inverse}

-- ---- slots

-- The slot of index s is in scope before node p: it is that of `this`, of a parameter, or of a local whose definition comes before
-- p and whose sequence does not.
abbrev pub InScope : CoreData → ℕ → Method → ℕ → ℕ → Type 0
InScope core m f p s = (y : Slot) → slice_get core.slots (f.first_slot + s) ≡ Some y → (y.depth ≡ 0) ⊎ ((l : LocalFits core m s y) × (l.define < p) × (p ≤ l.sequence))

-- A slot of the method: it is of depth 0, or that of a local.
slot_among : (core : CoreData) (m : ℕ) (f : Method) (fit : SlotsFit core m f) (s : ℕ) (y : Slot) → slice_get (this_slot m f ∷ map (param_slot m) f.params ++ fit.0) s ≡ Some y → (y.depth ≡ 0) ⊎ (LocalFits core m s y × (suc (length f.params) ≤ s))
slot_among core m f fit zero y e = inl (ap (λ (z : Slot). z.depth) (sym (same_Some (this_slot m f) y e)))
slot_among core m f fit (suc j) y e =
    let count : length (map (param_slot m) f.params) ≡ length f.params = length-map f.params (param_slot m) in
    elim (append_get (map (param_slot m) f.params) fit.0 j y e) [
      | inl p ↦ let q = map_get (param_slot m) f.params j y p in inl (ap (λ (z : Slot). z.depth) (sym q.2))
      | inr l ↦ let low = l.0 in
          let at : 1 + length f.params + (j - length (map (param_slot m) f.params)) ≡ suc j = omega (arith, low, count) in
          inr (subst (λ (k : ℕ). LocalFits core m k y) at (fit.2 (j - length (map (param_slot m) f.params)) y l.1), omega (arith, low, count))
    ]

module _ (core : CoreData) (ann : Ann) (needs : Needs core ann) (m : ℕ) (f : Method) (is_method : slice_get core.methods m ≡ Some f) (other : m ≢ 0) where
  slots_fit : SlotsFit core m f
  slots_fit = elim (needs.formed.methods m f is_method).slots [ inl none ↦ absurd (other none) | inr fit ↦ fit ]

  -- The place of a slot among those of the core and among those of the method.
  own_place : (a n s : ℕ) → s < n → (a ≤ a + s) × (a + s < a + n) × (a + s - a ≡ s)
  own_place a n s l = (omega arith, omega (arith, l), omega arith)

  -- A slot of the method by its index.
  slot_scope : (s : ℕ) (y : Slot) → s < f.slots → slice_get core.slots (f.first_slot + s) ≡ Some y → (y.depth ≡ 0) ⊎ (LocalFits core m s y × (suc (length f.params) ≤ s))
  slot_scope s y l e =
      let fit : SlotsFit core m f = slots_fit in
      let place = own_place f.first_slot f.slots s l in
      let there : slice_get (own_slots core f) (f.first_slot + s - f.first_slot) ≡ Some y = range_get core.slots f.first_slot (f.first_slot + f.slots) (f.first_slot + s) y place.0 place.1 e in
      slot_among core m f fit s y (ap (λ (zs : List Slot). slice_get zs s) (sym fit.1) ∙ ap (slice_get (own_slots core f)) (sym place.2) ∙ there)

  -- `this` and the parameters are in scope everywhere.
  outer_scope : (p s : ℕ) → s < suc (length f.params) → InScope core m f p s
  outer_scope p s l y e =
      let room = needs.room m f is_method other in
      elim (slot_scope s y (omega (arith, l, room)) e) [
        | inl d ↦ inl d
        | inr k ↦ let above = k.1 in absurd (omega (arith, l, above))
      ]

  -- ---- from place to place

  -- A sequence whose definition comes before a tree is not in the tree.
  sequence_past : (low n s : ℕ) (y : Slot) → Tree core low n → (l : LocalFits core m s y) → l.define < low → low ≤ l.sequence → n + 1 ≤ l.sequence
  sequence_past low n s y t l before ahead =
      elim (cases_lt l.sequence (n + 1)) [
        | inl inside ↦ let own = inner_tree core low n l.sequence t ahead (omega (arith, inside)) in
            let from = forest_from core own.0 l.sequence l.around.children (children_of core own.0 l.sequence l.around l.is_around own.2) l.item.0 l.define l.item.1 in
            let up = own.1 in
            absurd (omega (arith, before, from, up))
        | inr past ↦ past
      ]

  -- What is in scope before a tree is in scope after it.
  tree_past : (low n s : ℕ) → Tree core low n → InScope core m f low s → InScope core m f (n + 1) s
  tree_past low n s t scope y e =
      elim (scope y e) [
        | inl d ↦ inl d
        | inr k ↦ let first = tree_le core low n t in
            let before = k.1 in
            inr (k.0, omega (arith, first, before), sequence_past low n s y t k.0 k.1 k.2)
      ]

  -- What is in scope before a node is in scope after it, unless the node is the sequence.
  node_past : (n s : ℕ) (x : Node) → slice_get core.nodes n ≡ Some x → (x.kind ≡ node.Seq → Defines core x.children s → ⊥) → InScope core m f n s → InScope core m f (n + 1) s
  node_past n s x at out scope y e =
      elim (scope y e) [
        | inl d ↦ inl d
        | inr k ↦ let l = k.0 in
            let before = k.1 in
            let ahead = k.2 in
            elim (cases_lt n l.sequence) [
              | inl past ↦ inr (l, omega (arith, before), omega (arith, past))
              | inr end ↦ let here : l.sequence ≡ n = omega (arith, ahead, end) in
                  let same : l.around ≡ x = same_Some l.around x (sym l.is_around ∙ ap (slice_get core.nodes) here ∙ at) in
                  absurd (out (ap (λ (z : Node). z.kind) (sym same) ∙ l.is_sequence) (l.define, l.definition, (l.item.0, ap (λ (z : Node). slice_get z.children l.item.0) (sym same) ∙ l.item.1), l.is_definition, l.defines))
            ]
      ]

  -- A slot that is set by a node is in scope after it.
  set_scope : (n s : ℕ) (x : Node) → slice_get core.nodes n ≡ Some x → x.method ≡ m → Sets x.kind s → InScope core m f (n + 1) s
  set_scope n s x at own (inl is) y e =
      let named : NamesLocal core x.method s = subst (NamesFit core x.method) is (needs.formed.nodes n x at).names in
      let same : named.0 ≡ f = same_Some named.0 f (sym named.2 ∙ ap (slice_get core.methods) own ∙ is_method) in
      elim (slot_scope s y (subst (λ (g : Method). s < g.slots) same named.3) e) [
        | inl d ↦ inl d
        | inr k ↦ let l = k.0 in
            let here = l.only n x at own is in
            let item = children_before core l.sequence l.around needs.formed l.is_around l.item.0 l.define l.item.1 in
            inr (l, omega (arith, here), omega (arith, here, item))
      ]
  set_scope n s x at own (inr is) y e =
      let named : NamesSlot core x.method s = subst (NamesFit core x.method) is (needs.formed.nodes n x at).names in
      let same : named.1.0 ≡ f = same_Some named.1.0 f (sym named.1.1 ∙ ap (slice_get core.methods) own ∙ is_method) in
      elim (slot_scope s y (subst (λ (g : Method). s < g.slots) same named.1.2) e) [
        | inl d ↦ inl d
        | inr k ↦ let l = k.0 in
            let place = l.later n x at own (subst (UsesSlot s) (sym is) refl) in
            let after = place.0 in
            let before = place.1 in
            inr (l, omega (arith, after), omega (arith, before))
      ]

  -- ---- depths

  -- What is in scope at a node is no deeper.
  scope_depth : (n s : ℕ) (x : Node) (y : Slot) → slice_get core.nodes n ≡ Some x → slice_get core.slots (f.first_slot + s) ≡ Some y → InScope core m f (n + 1) s → y.depth ≤ x.depth
  scope_depth n s x y at e scope =
      elim (scope y e) [
        | inl d ↦ omega (arith, d)
        | inr k ↦ let l = k.0 in
            let own = own_tree core l.sequence needs.formed (get_below core.nodes l.sequence l.around l.is_around) in
            let from = forest_from core own.0 l.sequence l.around.children (children_of core own.0 l.sequence l.around l.is_around own.1) l.item.0 l.define l.item.1 in
            let before = k.1 in
            let ahead = k.2 in
            let deep = tree_deep core needs.formed own.0 l.sequence n own.1 (omega (arith, from, before)) (omega (arith, ahead)) l.around x l.is_around at in
            let item = (needs.formed.nodes l.sequence l.around l.is_around).depths l.item.0 l.define l.item.1 l.definition l.is_definition in
            let level : inner_depth l.around.kind l.around.depth ≡ l.around.depth = ap (λ (j : NodeKind). inner_depth j l.around.depth) l.is_sequence in
            let slot = l.depth in
            omega (arith, deep, item, level, slot)
      ]

  -- ---- down the tree

  -- What is live before node k and after it is no deeper than it.
  abbrev ShallowAt : ℕ → Type 0
  ShallowAt k = (x : Node) (t : Note) → slice_get core.nodes k ≡ Some x → slice_get ann.notes k ≡ Some t → SlotsShallow core x.method t.live_before x.depth × SlotsShallow core x.method t.live_after x.depth

  shallow : (n : ℕ) (x : Node) (l : Mask) → slice_get core.nodes n ≡ Some x → x.method ≡ m → ((s : ℕ) → IsInMask l s → InScope core m f (n + 1) s) → SlotsShallow core x.method l x.depth
  shallow n x l at own scope s g y h is e =
      let same : g ≡ f = same_Some g f (sym is ∙ ap (slice_get core.methods) own ∙ is_method) in
      scope_depth n s x y at (subst (λ (k : Method). slice_get core.slots (k.first_slot + s) ≡ Some y) same e) (scope s h)

  shallow_at : (n : ℕ) (x : Node) (t : Note) → slice_get core.nodes n ≡ Some x → slice_get ann.notes n ≡ Some t → x.method ≡ m
      → ((s : ℕ) → IsInMask t.live_before s → InScope core m f (n + 1) s) → ((s : ℕ) → IsInMask t.live_after s → InScope core m f (n + 1) s) → ShallowAt n
  shallow_at n x t at is own before after y u there note =
      let node_is : x ≡ y = same_Some x y (sym at ∙ there) in
      let note_is : t ≡ u = same_Some t u (sym is ∙ note) in
      subst (λ (z : Node). SlotsShallow core z.method u.live_before z.depth × SlotsShallow core z.method u.live_after z.depth) node_is
      (subst (λ (v : Note). SlotsShallow core x.method v.live_before x.depth × SlotsShallow core x.method v.live_after x.depth) note_is
      (shallow n x t.live_before at own before, shallow n x t.live_after at own after))

  -- The root of a tree, if what comes after its children is in scope.
  root_scope : (n : ℕ) (x : Node) (t : Note) → slice_get core.nodes n ≡ Some x → x.method ≡ m → IsSaid core ann x t → ((s : ℕ) → Remains ann x.children t.live_before s → InScope core m f n s) → (s : ℕ) → IsInMask t.live_after s → InScope core m f (n + 1) s
  root_scope n x t at own meets behind s h =
      elim (live_behind core ann x t s h meets) [
        | inl r ↦ node_past n s x at (defined_out core ann x t s h meets) (behind s r)
        | inr sets ↦ set_scope n s x at own sets
      ]

  -- Live before a row of trees, in this mask or after one of the trees that come before them in the same node.
  abbrev LiveIn : Mask → List Mask → ℕ → Type 0
  LiveIn l [] s = IsInMask l s
  LiveIn l (k ∷ ks) s = LiveIn l ks s ⊎ IsInMask k s

  -- If what is live before a tree is in scope, all its nodes are right, and what is live after it is in scope. The same
  -- holds for a row of trees.
  mutual
    tree_scope : (low n : ℕ) → Tree core low n → IsChild core m n → (t : Note) → slice_get ann.notes n ≡ Some t → ((s : ℕ) → IsInMask t.live_before s → InScope core m f low s)
        → ((k : ℕ) → low ≤ k → k ≤ n → ShallowAt k) × ((s : ℕ) → IsInMask t.live_after s → InScope core m f (n + 1) s)
    tree_scope low n (tree x g row) child t is before =
        let same : child.0 ≡ x = same_Some child.0 x (sym child.1 ∙ g) in
        let own : x.method ≡ m = ap (λ (z : Node). z.method) (sym same) ∙ child.2 in
        let met = meets core ann needs n x t g is in
        let each : Each (λ i c. IsChild core m c) x.children = subst (λ (j : ℕ). Each (λ i c. IsChild core j c) x.children) own (needs.children n x g) in
        let inside = forest_scope low n x.children row each t.live_before [] before (children_start core ann needs n x t g met) in
        let after = root_scope n x t g own met inside.1 in (
          λ k l h. elim (cases_lt k n) [
            | inl below ↦ inside.0 k l below
            | inr end ↦ let here : n ≡ k = omega (arith, h, end) in subst (λ (j : ℕ). ShallowAt j) here (shallow_at n x t g is own (λ s live. tree_past low n s (tree x g row) (before s live)) after)
          ],
          after,
        )

    forest_scope : (low high : ℕ) (cs : List ℕ) → Forest core low high cs → Each (λ i c. IsChild core m c) cs → (l : Mask) (ls : List Mask) → ((s : ℕ) → LiveIn l ls s → InScope core m f low s) → Starts ann (LiveIn l ls) cs
        → ((k : ℕ) → low ≤ k → k < high → ShallowAt k) × ((s : ℕ) → LiveIn l ls s ⊎ ((j : ℕ) × BehindChild ann cs j s) → InScope core m f high s)
    forest_scope low high [] empty each l ls known starts = (
      λ k from to. absurd (omega (arith, from, to)),
      λ s h. elim h [ inl k ↦ known s k | inr b ↦ absurd (none-some b.1.child b.1.is_child) ],
    )
    forest_scope low high (c ∷ cs) (more t row) each l ls known starts =
        let child = each 0 c refl in
        let u = note_at core ann needs c child.0 child.1 in
        let one = tree_scope low c t child u.0 u.1 (λ s live. elim (starts 0 c u.0 s refl u.1 live) [ inl k ↦ known s k | inr b ↦ absurd (none_before b.0 b.1) ]) in
        let now : (s : ℕ) → LiveIn l ls s ⊎ IsInMask u.0.live_after s → InScope core m f (c + 1) s = λ s h. elim h [ inl k ↦ tree_past low c s t (known s k) | inr live ↦ one.1 s live ] in
        let rest = forest_scope (c + 1) high cs row (λ i d e. each (suc i) d e) l (u.0.live_after ∷ ls) now (next_starts_known ann (LiveIn l ls) c cs u.0 u.1 starts) in (
          λ k from to. elim (cases_lt k (c + 1)) [ inl inside ↦ one.0 k from (omega (arith, inside)) | inr behind ↦ rest.0 k behind to ],
          λ s h. rest.1 s (known_behind ann (LiveIn l ls) c cs u.0 s u.1 h),
        )

-- ---- every node

-- What is live before a body is in scope.
begins : (core : CoreData) (ann : Ann) (x : Node) (t : Note) → says core ann x (before t) t.rule node.Body ≡ Some (said_by t) → (f : Method) → slice_get core.methods x.method ≡ Some f → (s : ℕ) → IsInMask t.live_before s → s < suc (length f.params)
begins core ann x t e f is s h =
    let r = body_inverse core ann x t (body_rule core ann x (before t) t.rule (said_by t) e) in
    let own : r.own ≡ f = same_Some r.own f (sym r.is_own ∙ is) in
    let starts = and_parts (same t.live_before (first (1 + length r.own.params))) (same t.set_before (start_set core r.own)) r.starts in
    let few = ((first_bits (1 + length r.own.params) s).0 (same_within t.live_before (first (1 + length r.own.params)) starts.0 s h)).0 in
    subst (λ (g : Method). s < suc (length g.params)) own (omega (arith, few))

-- What is live at a node is no deeper than the node.
pub live_shallow : (core : CoreData) (ann : Ann) → Needs core ann → LiveShallow core ann
live_shallow core ann needs n x t at is =
    let h = home core n needs.formed (get_below core.nodes n x at) in
    let b = needs.body h.number h.body h.method h.is_method h.is_body in
    let u = note_at core ann needs h.body b.0 b.1 in
    let other : h.number ≢ 0 = λ z. not_first core needs.formed h.body b.0 b.1 (b.2 ∙ z) in
    let said = subst (λ (k : NodeKind). says core ann b.0 (before u.0) u.0.rule k ≡ Some (said_by u.0)) b.3 u.2 in
    let all = tree_scope core ann needs h.number h.method h.is_method other h.method.first_node h.body (body_tree core h.number h.method h.body h.fits) (b.0, b.1, b.2) u.0 u.1
    (λ s live. outer_scope core ann needs h.number h.method h.is_method other h.method.first_node s (begins core ann b.0 u.0 said h.method (ap (slice_get core.methods) b.2 ∙ h.is_method) s live))
    in
    let here = all.0 n h.from h.to x t at is in
    (here.0, λ inner. here.1)
