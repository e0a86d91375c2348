-- The parent of a node, and the order of methods.
use Rattle.std.specs.Prelude.{◌≡◌, ◌⊎◌, ℕ, zero, suc, ◌+◌, ◌-◌, ◌<◌, ◌≤◌, List, [], ◌∷◌, map, length, Some, slice_get}
use Rattle.std.proofs.{Common.{inl, inr, ap, subst, ◌∙◌, arith}, lemmas.Option.{same_Some, none-some}, lemmas.Bool.cases_lt}
use Rattle.pc_core.specs.{declared.declarations.Method.Method, CoreData.{CoreData, node_end}, Formed.Formed}
use Rattle.pc_base.specs.Lists.{Follow, Has}
use Rattle.pc_base.proofs.{Ranges.run_within, Gets.get_map}
use Rattle.pc_rules.specs.Trees.{Tree, Forest, tree, empty, more, body_tree}
use Rattle.pc_core.proofs.Homes.{home}
use Rattle.pc_check.specs.Sources.{IsChild, IsBodyOrChild}

-- ---- parents

mutual
  parent_in : (core : CoreData) (low n k : ℕ) → Tree core low n → low ≤ k → k < n → (p : ℕ) × (k < p) × IsChild core p k
  parent_in core low n k (tree x g f) l h =
      elim (among core low n k x.children f l h) [
        | inl child ↦ (n, h, (x, g, child))
        | inr deeper ↦ deeper
      ]

  among : (core : CoreData) (low high k : ℕ) (cs : List ℕ) → Forest core low high cs → low ≤ k → k < high → (Has cs k) ⊎ ((p : ℕ) × (k < p) × IsChild core p k)
  among core low high k [] empty l h = absurd (omega (arith, l, h))
  among core low high k (c ∷ cs) (more t f) l h =
      elim (cases_lt k c) [
        | inl inside ↦ inr (parent_in core low c k t l inside)
        | inr behind ↦ elim (cases_lt c k) [
          | inl further ↦ elim (among core (c + 1) high k cs f (omega (arith, further)) h) [
            | inl child ↦ inl (suc child.0, child.1)
            | inr deeper ↦ inr deeper
          ]
          | inr at ↦ let e : c ≡ k = omega (arith, behind, at) in inl (0, ap Some e)
        ]
      ]

-- A node is the body of its method, or has a parent, which comes after it.
pub known : (core : CoreData) (n : ℕ) → Formed core → n < length core.nodes → IsBodyOrChild core (n + 1) n
known core n formed l =
    let h = home core n formed l in
    let to = h.to in
    elim (cases_lt n h.body) [
      | inl below ↦ let p = parent_in core h.method.first_node h.body n (body_tree core h.number h.method h.body h.fits) h.from below in
          let q = p.1 in inr (p.0, omega (arith, q), p.2)
      | inr at ↦ let e : h.body ≡ n = omega (arith, to, at) in inl (h.number, h.method, h.is_method, h.is_body ∙ ap Some e)
    ]

-- ---- the order of methods

pub follow_order : (at : ℕ) (runs : List (ℕ × ℕ)) (last i j : ℕ) (r q : ℕ × ℕ) → Follow at runs last → i < j → slice_get runs i ≡ Some r → slice_get runs j ≡ Some q → r.0 + r.1 ≤ q.0
follow_order at [] last i j r q p l e g = absurd (none-some r e)
follow_order at (s ∷ ss) last i zero r q p l e g = absurd (omega (arith, l))
follow_order at (s ∷ ss) last zero (suc j) r q p l e g =
    let w = run_within (at + s.1) ss last j q p.1 g in
    let first = p.0 in
    let here = w.0 in
    subst (λ (z : ℕ × ℕ). z.0 + z.1 ≤ q.0) (same_Some s r e) (omega (arith, first, here))
follow_order at (s ∷ ss) last (suc i) (suc j) r q p l e g = follow_order (at + s.1) ss last i j r q p.1 (omega (arith, l)) e g

-- The body of an earlier method comes before that of a later one.
pub earlier_body : (core : CoreData) (i j a b : ℕ) (f g : Method) → Formed core → i < j → slice_get core.methods i ≡ Some f → slice_get core.methods j ≡ Some g → f.body ≡ Some a → g.body ≡ Some b → a < b
earlier_body core i j a b f g formed l hf hg ea eb =
    let o = follow_order 0 (map (λ (x : Method). (x.first_node, node_end x.first_node x.body - x.first_node)) core.methods) (length core.nodes) i j _ _ formed.nodes_follow l (get_map (λ (x : Method). (x.first_node, node_end x.first_node x.body - x.first_node)) core.methods i f hf) (get_map (λ (x : Method). (x.first_node, node_end x.first_node x.body - x.first_node)) core.methods j g hg) in
    let at : node_end f.first_node f.body ≡ a + 1 = ap (node_end f.first_node) ea in
    let from = ((formed.methods i f hf).body a ea).from in
    let to = ((formed.methods j g hg).body b eb).from in
    omega (arith, o, at, from, to)
