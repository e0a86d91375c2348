-- The trees of nodes: what is in a node has its own tree there, and is no less deep.
use Rattle.std.specs.Prelude.{◌≡◌, ℕ, zero, suc, ◌+◌, ◌<◌, ◌≤◌, List, [], ◌∷◌, Some, slice_get, refl}
use Rattle.std.proofs.{Common.{inl, inr, ap, sym, subst, ◌∙◌, arith}, lemmas.Option.{same_Some, none-some}, lemmas.Bool.cases_lt}
use Rattle.pc_core.specs.{declared.nodes.Node.Node, declared.nodes.NodeKind.NodeKind, CoreData.CoreData, Nodes.inner_depth, Formed.Formed}
use Rattle.pc_core.specs.declared.nodes.NodeKind.TheVariants as nodes
use Rattle.pc_base.specs.Lists.{Each}
use Rattle.pc_rules.specs.Trees.{Tree, Forest, tree, empty, more, tree_le}

-- The roots of a row of trees do not come before it.
pub forest_from : (core : CoreData) (low high : ℕ) (cs : List ℕ) → Forest core low high cs → Each (λ i c. low ≤ c) cs
forest_from core low high [] f i c e = absurd (none-some c e)
forest_from core low high (d ∷ cs) (more t f) zero c e = let l = tree_le core low d t in let s = same_Some d c e in omega (arith, l, s)
forest_from core low high (d ∷ cs) (more t f) (suc i) c e =
    let l = tree_le core low d t in
    let m = forest_from core (d + 1) high cs f i c e in
    omega (arith, l, m)

-- What is in a tree has a tree of its own, in it.
mutual
  pub inner_tree : (core : CoreData) (low n k : ℕ) → Tree core low n → low ≤ k → k ≤ n → (l : ℕ) × (low ≤ l) × Tree core l k
  inner_tree core low n k (tree x g f) l h =
      elim (cases_lt k n) [
        | inl below ↦ inner_forest core low n k x.children f l below
        | inr at ↦ let e : n ≡ k = omega (arith, h, at) in (low, omega arith, subst (Tree core low) e (tree x g f))
      ]

  inner_forest : (core : CoreData) (low high k : ℕ) (cs : List ℕ) → Forest core low high cs → low ≤ k → k < high → (l : ℕ) × (low ≤ l) × Tree core l k
  inner_forest core low high k [] empty l h = absurd (omega (arith, l, h))
  inner_forest core low high k (c ∷ cs) (more t f) l h =
      elim (cases_lt k (c + 1)) [
        | inl inside ↦ inner_tree core low c k t l (omega (arith, inside))
        | inr behind ↦ let first = tree_le core low c t in
            let q = inner_forest core (c + 1) high k cs f behind h in
            let from = q.1 in
            (q.0, omega (arith, first, from), q.2)
      ]

-- A tree has its root.
pub root_of : (core : CoreData) (low n : ℕ) → Tree core low n → (x : Node) × (slice_get core.nodes n ≡ Some x)
root_of core low n (tree x g f) = (x, g)

-- ---- depths

inner_least : (k : NodeKind) (d : ℕ) → d ≤ inner_depth k d
inner_least (nodes.Recover c) d = omega arith
inner_least k d = omega arith

same_depth : (n k : ℕ) (core : CoreData) (x y : Node) → n ≡ k → slice_get core.nodes n ≡ Some x → slice_get core.nodes k ≡ Some y → x.depth ≤ y.depth
same_depth n k core x y e g h =
    let d : x.depth ≡ y.depth = ap (λ (z : Node). z.depth) (same_Some x y (sym g ∙ ap (slice_get core.nodes) e ∙ h)) in
    omega (arith, d)

-- A child is no less deep than its parent.
child_deep : (core : CoreData) → Formed core → (n : ℕ) (x : Node) → slice_get core.nodes n ≡ Some x → Each (λ i c. (y : Node) → slice_get core.nodes c ≡ Some y → x.depth ≤ y.depth) x.children
child_deep core formed n x g i c e y h =
    let d = (formed.nodes n x g).depths i c e y h in
    let l = inner_least x.kind x.depth in
    omega (arith, d, l)

mutual
  pub tree_deep : (core : CoreData) → Formed core → (low n k : ℕ) → Tree core low n → low ≤ k → k ≤ n → (x y : Node) → slice_get core.nodes n ≡ Some x → slice_get core.nodes k ≡ Some y → x.depth ≤ y.depth
  tree_deep core formed low n k (tree z g f) l h x y is at =
      elim (cases_lt k n) [
        | inl below ↦ let same : z ≡ x = same_Some z x (sym g ∙ is) in
            subst (λ (v : Node). v.depth ≤ y.depth) same (forest_deep core formed low n k z.children f l below z.depth (child_deep core formed n z g) y at)
        | inr end ↦ same_depth n k core x y (omega (arith, h, end)) is at
      ]

  forest_deep : (core : CoreData) → Formed core → (low high k : ℕ) (cs : List ℕ) → Forest core low high cs → low ≤ k → k < high
      → (d : ℕ) → Each (λ i c. (y : Node) → slice_get core.nodes c ≡ Some y → d ≤ y.depth) cs → (y : Node) → slice_get core.nodes k ≡ Some y → d ≤ y.depth
  forest_deep core formed low high k [] empty l h d deep y at = absurd (omega (arith, l, h))
  forest_deep core formed low high k (c ∷ cs) (more t f) l h d deep y at =
      elim (cases_lt k (c + 1)) [
        | inl inside ↦ let r = root_of core low c t in
            let a = deep 0 c refl r.0 r.1 in
            let b = tree_deep core formed low c k t l (omega (arith, inside)) r.0 y r.1 at in
            omega (arith, a, b)
        | inr behind ↦ forest_deep core formed (c + 1) high k cs f behind h d (λ i x e. deep (suc i) x e) y at
      ]
