-- The tree of a node.
use Rattle.std.specs.Prelude.{◌≡◌, ℕ, ◌+◌, ◌-◌, ◌<◌, ◌≤◌, List, [], ◌∷◌, length, Some, slice_get}
use Rattle.std.proofs.{Common.{inl, inr, ap, sym, subst, ◌∙◌, arith}, lemmas.Option.same_Some, lemmas.Bool.cases_lt}
use Rattle.pc_base.specs.Lists.{Each}
use Rattle.pc_base.proofs.Gets.{get_below, range_get}
use Rattle.pc_core.specs.{declared.nodes.Node.Node, CoreData.{CoreData, node_end}, Formed.Formed}
use Rattle.pc_core.specs.declared.nodes.NodeKind.TheVariants as node
use Rattle.pc_core.proofs.Homes.{Home, home}
use Rattle.pc_rules.specs.Trees.{Tree, Forest, tree, empty, more, body_tree, forest_below}

-- A node with the kind of a body is the body of its method.
pub home_body : (core : CoreData) (n : ℕ) (x : Node) (h : Home core n) → slice_get core.nodes n ≡ Some x → x.kind ≡ node.Body → n ≡ h.body
home_body core n x h g k =
    let at : node_end h.method.first_node h.method.body ≡ h.body + 1 = ap (node_end h.method.first_node) h.is_body in
    let to = h.to in
    let from = h.from in
    let end : n < node_end h.method.first_node h.method.body = omega (arith, at, to) in
    let e = h.fits.one (n - h.method.first_node) x (range_get core.nodes h.method.first_node (node_end h.method.first_node h.method.body) n x from end g) k in
    omega (arith, e, from)

-- ---- trees

-- Every node in a tree has a tree of its own.
mutual
  tree_in : (core : CoreData) (low n k : ℕ) → Tree core low n → low ≤ k → k ≤ n → (l : ℕ) × Tree core l k
  tree_in core low n k (tree x g f) l h =
      elim (cases_lt k n) [
        | inl below ↦ forest_in core low n k x.children f l below
        | inr at ↦ let e : n ≡ k = omega (arith, h, at) in (low, subst (Tree core low) e (tree x g f))
      ]

  forest_in : (core : CoreData) (low high k : ℕ) (cs : List ℕ) → Forest core low high cs → low ≤ k → k < high → (l : ℕ) × Tree core l k
  forest_in core low high k [] empty l h = absurd (omega (arith, l, h))
  forest_in core low high k (c ∷ cs) (more t f) l h =
      elim (cases_lt k (c + 1)) [
        | inl inside ↦ tree_in core low c k t l (omega (arith, inside))
        | inr behind ↦ forest_in core (c + 1) high k cs f behind h
      ]

pub own_tree : (core : CoreData) (n : ℕ) → Formed core → n < length core.nodes → (l : ℕ) × Tree core l n
own_tree core n formed l = let h = home core n formed l in tree_in core h.method.first_node h.body n (body_tree core h.number h.method h.body h.fits) h.from h.to

pub children_of : (core : CoreData) (low n : ℕ) (x : Node) → slice_get core.nodes n ≡ Some x → Tree core low n → Forest core low n x.children
children_of core low n x g (tree y h f) = subst (λ (z : Node). Forest core low n z.children) (same_Some y x (sym h ∙ g)) f

-- The children of a node come before it.
pub children_before : (core : CoreData) (n : ℕ) (x : Node) → Formed core → slice_get core.nodes n ≡ Some x → Each (λ i c. c < n) x.children
children_before core n x formed g =
    let t = own_tree core n formed (get_below core.nodes n x g) in
    forest_below core t.0 n x.children (children_of core t.0 n x g t.1)
