-- Nodes are appended if there are not too many.
use Rattle.std.proofs.{Common.{◌≡◌, ℕ, suc, ◌+◌, ◌<◌, ◌≤◌, List, [], ◌∷◌, ◌++◌, length, Some, None, Bool, true, false, refl, sym, ◌∙◌, subst, inl, inr, arith, if◌then◌else◌}, lemmas.Bool.cases_lt, lemmas.List.length_push}
use Rattle.std.specs.Prelude.{nat_lt}
use Rattle.pc_base.proofs.Bools.{true_false}
use Rattle.pc_base.specs.{declared.span.Span.Span, Limits.node_limit}
use Rattle.pc_core.specs.{declared.nodes.Node.Node, declared.nodes.NodeKind.NodeKind}
use Rattle.pc_body_spec.specs.{Bodies.{Rose, Roses, rose, no_roses, more, node_of}, Fold.{Numbered, and_then, push, put, puts}}
use Rattle.pc_body_spec.proofs.PostOrders.{post}
use Rattle.pc_core_relation.specs.MemberFaults.{node_count, nodes_count}

-- There is this number of nodes, or there are too many.
abbrev pub Counts : {A : Type 0} → Numbered A → ℕ → Type 0
Counts None n = node_limit < n
Counts (Some r) n = length r.1 ≡ n

push_counts : (m : ℕ) (k : NodeKind) (s : Span) (d : ℕ) (cs : List ℕ) (ns : List Node) (n : ℕ) → length ns ≡ n → Counts (push m k s d cs ns) (suc n)
unfolding push
push_counts m k s d cs ns n e = by (nat_lt (length ns) node_limit) refl
  where
    less : length ns < node_limit → nat_lt (length ns) node_limit ≡ true
    less l = search (arith, l)

    by : (b : Bool) → nat_lt (length ns) node_limit ≡ b → Counts (if b then Some (length ns, ns ++ node_of m k s d cs ∷ []) else None) (suc n)
    by true h = let z : length (ns ++ node_of m k s d cs ∷ []) ≡ length ns + 1 = length_push ns (node_of m k s d cs) in omega (arith, z, e)
    by false h = elim (cases_lt (length ns) node_limit) [
      | inl l ↦ absurd (true_false (sym (less l) ∙ h))
      | inr l ↦ omega (arith, l, e)
    ]

then_push : (m : ℕ) (k : NodeKind) (s : Span) (d : ℕ) (a : Numbered (List ℕ)) (n : ℕ) → Counts a n → Counts (and_then a (push m k s d)) (suc n)
then_push m k s d None n h = omega (arith, h)
then_push m k s d (Some r) n h = push_counts m k s d r.0 r.1 n h

then_some : (x : ℕ) (b : Numbered (List ℕ)) (n : ℕ) → Counts b n → Counts (and_then b (λ y. λ ns. Some (x ∷ y, ns))) n
then_some x None n h = h
then_some x (Some r) n h = h

then_more : (m : ℕ) (rs : Roses) (a : Numbered ℕ) (n : ℕ) → Counts a n → ((ns : List Node) → Counts (puts m rs ns) (length ns + nodes_count rs)) → Counts (and_then a (λ x. λ ns. and_then (puts m rs ns) (λ y. λ ns. Some (x ∷ y, ns)))) (n + nodes_count rs)
then_more m rs None n h rest = omega (arith, h)
then_more m rs (Some r) n h rest = then_some r.0 (puts m rs r.1) (n + nodes_count rs) (subst (λ k. Counts (puts m rs r.1) (k + nodes_count rs)) h (rest r.1))

moved_up : {A : Type 0} (a : Numbered A) (n k : ℕ) → Counts a (suc (n + k)) → Counts a (n + suc k)
moved_up a n k h = subst (Counts a) (let z : suc (n + k) ≡ n + suc k = omega arith in z) h

over : {A : Type 0} (a : Numbered A) (n k j : ℕ) → Counts a (n + k + j) → Counts a (n + (k + j))
over a n k j h = subst (Counts a) (let z : n + k + j ≡ n + (k + j) = omega arith in z) h

mutual
  pub put_counts : (m : ℕ) (r : Rose) (ns : List Node) → Counts (put m r ns) (length ns + node_count r)
  put_counts m (rose k s d rs) ns = moved_up (and_then (puts m rs ns) (push m k s d)) (length ns) (nodes_count rs) (then_push m k s d (puts m rs ns) (length ns + nodes_count rs) (puts_counts m rs ns))

  pub puts_counts : (m : ℕ) (rs : Roses) (ns : List Node) → Counts (puts m rs ns) (length ns + nodes_count rs)
  puts_counts m no_roses ns = let z : length ns ≡ length ns + 0 = omega arith in z
  puts_counts m (more r rs) ns =
      over (and_then (put m r ns) (λ x. λ ns. and_then (puts m rs ns) (λ y. λ ns. Some (x ∷ y, ns)))) (length ns) (node_count r) (nodes_count rs)
      (then_more m rs (put m r ns) (length ns + node_count r) (put_counts m r ns) (λ ks. puts_counts m rs ks))

-- There are not too many if it was appended.
pub put_few : (m : ℕ) (r : Rose) (n : ℕ) (before after : List Node) → put m r before ≡ Some (n, after) → length after ≤ node_limit
put_few m r n before after h = (post m r n before after h).few
