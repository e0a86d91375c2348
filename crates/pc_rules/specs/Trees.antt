-- The nodes of a method as a tree. Since they are in post-order, a subtree is a run of nodes that ends with its root.
use Rattle.std.proofs.{Common.{ap, sym, subst, ◌∙◌, arith}, lemmas.Option.{same_Some, none-some}}
use Rattle.pc_base.proofs.Gets.{get_range}
use Rattle.std.specs.Prelude.{◌≡◌, ℕ, zero, suc, ◌+◌, ◌<◌, ◌≤◌, List, [], ◌∷◌, ◌++◌, length, Some, slice_get, refl}
use Rattle.pc_core.specs.{declared.declarations.Method.Method, declared.nodes.Node.Node, CoreData.{CoreData, node_end}, Further.own_nodes, Methods.{PostOrder, BodyFits}}
use Rattle.pc_base.specs.Lists.{Each}

-- The subtree of node n consists of the nodes from number `low` up to n: its children's subtrees, one after the other,
-- and itself.
mutual
  pub data Tree (core : CoreData) : ℕ → ℕ → Type 0 where
    tree : {low n : ℕ} (x : Node) → slice_get core.nodes n ≡ Some x → Forest core low n x.children → Tree core low n

  pub data Forest (core : CoreData) : ℕ → ℕ → List ℕ → Type 0 where
    empty : {low : ℕ} → Forest core low low []
    more : {low high c : ℕ} {cs : List ℕ} → Tree core low c → Forest core (c + 1) high cs → Forest core low high (c ∷ cs)

forest_append : (core : CoreData) (low middle n : ℕ) (cs : List ℕ) → Forest core low middle cs → Tree core middle n → Forest core low (n + 1) (cs ++ n ∷ [])
forest_append core low middle n [] empty t = more t empty
forest_append core low middle n (c ∷ cs) (more u f) t = more u (forest_append core (c + 1) middle n cs f t)

forest_split : (core : CoreData) (low high : ℕ) (rest cs : List ℕ) → Forest core low high (rest ++ cs) → (middle : ℕ) × Forest core low middle rest × Forest core middle high cs
forest_split core low high [] cs f = (low, empty, f)
forest_split core low high (r ∷ rest) cs (more t f) = let s = forest_split core (r + 1) high rest cs f in (s.0, more t s.1, s.2)

-- Nodes in post-order combine the trees without a parent before them into those after them.
forest_order : (core : CoreData) (low n : ℕ) (xs : List Node) (waiting last : List ℕ) → PostOrder n xs waiting last → Each (λ i x. slice_get core.nodes (n + i) ≡ Some x) xs → Forest core low n waiting → Forest core low (n + length xs) last
forest_order core low n [] waiting last p h f = let e : n ≡ n + 0 = omega arith in subst (λ k. Forest core low k last) e (subst (λ ws. Forest core low n ws) p f)
forest_order core low n (x ∷ xs) waiting last p h f =
    let s = forest_split core low n p.0 x.children (subst (λ ws. Forest core low n ws) p.1 f) in
    let e : n + 0 ≡ n = omega arith in
    let here : slice_get core.nodes n ≡ Some x = ap (slice_get core.nodes) (sym e) ∙ h 0 x refl in
    let next : Each (λ i x. slice_get core.nodes (n + 1 + i) ≡ Some x) xs = λ i y g. let k : n + 1 + i ≡ n + suc i = omega arith in ap (slice_get core.nodes) k ∙ h (suc i) y g in
    let total : n + 1 + length xs ≡ n + length (x ∷ xs) = omega arith in
    subst (λ k. Forest core low k last) total (forest_order core low (n + 1) xs (p.0 ++ n ∷ []) last p.2 next (forest_append core low s.0 n p.0 s.1 (tree x here s.2)))

only_tree : (core : CoreData) (low high n : ℕ) → Forest core low high (n ∷ []) → Tree core low n
only_tree core low high n (more t f) = t

-- The nodes of a method with a body are one tree.
pub body_tree : (core : CoreData) (m : ℕ) (x : Method) (b : ℕ) → BodyFits core m x b → Tree core x.first_node b
body_tree core m x b f =
    only_tree core x.first_node (x.first_node + length (own_nodes core x)) b
    (forest_order core x.first_node x.first_node (own_nodes core x) [] (b ∷ []) f.post_order
    (λ i y g. (get_range core.nodes x.first_node (node_end x.first_node x.body) i y g).1) empty)

-- A tree begins at or before its root.
mutual
  pub tree_le : (core : CoreData) (low n : ℕ) → Tree core low n → low ≤ n
  tree_le core low n (tree x g f) = forest_le core low n x.children f

  pub forest_le : (core : CoreData) (low high : ℕ) (cs : List ℕ) → Forest core low high cs → low ≤ high
  forest_le core low high [] empty = omega arith
  forest_le core low high (c ∷ cs) (more t f) = let l = tree_le core low c t in let m = forest_le core (c + 1) high cs f in omega (arith, l, m)

-- The roots of a sequence of trees are within it.
pub forest_below : (core : CoreData) (low high : ℕ) (cs : List ℕ) → Forest core low high cs → Each (λ i c. c < high) cs
forest_below core low high [] f i c e = absurd (none-some c e)
forest_below core low high (d ∷ cs) (more t f) zero c e = let m = forest_le core (d + 1) high cs f in let s = same_Some d c e in omega (arith, m, s)
forest_below core low high (d ∷ cs) (more t f) (suc i) c e = forest_below core (d + 1) high cs f i c e
