-- A rose is numbered in a list of nodes iff it was appended there.
use Rattle.std.proofs.{Common.{◌≡◌, ℕ, zero, suc, ◌+◌, ◌<◌, ◌≤◌, List, [], ◌∷◌, ◌++◌, length, take, Some, nat_lt, true, refl, ap, ◌∙◌, sym, subst, arith}, lemmas.Bool.lt-ltb, lemmas.Option.{same_Some, none-some}}
use Rattle.std.specs.Prelude.{slice_get}
use Rattle.pc_base.specs.{declared.span.Span.Span, Limits.node_limit}
use Rattle.pc_base.proofs.Gets.{get_front, get_behind, get_below}
use Rattle.pc_core.specs.{declared.nodes.Node.Node, declared.nodes.NodeKind.NodeKind}
use Rattle.pc_body_spec.specs.{Bodies.{Rose, Roses, rose, more, no_roses, node_of}, Fold.{and_then, put, puts, push}, Laws.WasPut}
use Rattle.pc_body_spec.proofs.PostOrders.{Parts, parts, Pushed, pushed, AllStand, post, posts}
use Rattle.pc_core_relation.specs.{Files.{IsNumbered, AreNumbered}, Laws.{WhatIsPutIsNumbered, WhatIsNumberedIsPut}}
use Rattle.pc_core_relation.proofs.Lists.{take_count}

-- ---- more nodes after it

mutual
  numbered_front : (nodes extra : List Node) (m from : ℕ) (r : Rose) (n : ℕ) → IsNumbered nodes m from r n → IsNumbered (nodes ++ extra) m from r n
  numbered_front nodes extra m from (rose k s d rs) n h = (h.0, all_front nodes extra m from rs h.0 n h.1, get_front nodes extra n (node_of m k s d h.0) h.2)

  all_front : (nodes extra : List Node) (m from : ℕ) (rs : Roses) (ks : List ℕ) (next : ℕ) → AreNumbered nodes m from rs ks next → AreNumbered (nodes ++ extra) m from rs ks next
  all_front nodes extra m from no_roses ks next h = h
  all_front nodes extra m from (more r rs) ks next h = (h.0, h.1, h.2, numbered_front nodes extra m from r h.0 h.3, all_front nodes extra m (h.0 + 1) rs h.1 next h.4)

-- The same in a list that continues another.
pub numbered_in : (nodes all extra : List Node) (m from : ℕ) (r : Rose) (n : ℕ) → all ≡ nodes ++ extra → IsNumbered nodes m from r n → IsNumbered all m from r n
numbered_in nodes all extra m from r n e h = subst (λ ns. IsNumbered ns m from r n) (sym e) (numbered_front nodes extra m from r n h)

-- ---- what was appended is numbered

mutual
  put_numbered : (m : ℕ) (r : Rose) (n : ℕ) (before after : List Node) → put m r before ≡ Some (n, after) → IsNumbered after m (length before) r n
  put_numbered m (rose k s d rs) n before after h =
      let p : Parts (puts m rs before) (push m k s d) (n, after) = parts (puts m rs before) (push m k s d) (n, after) h in
      let q : Pushed m k s d p.fst p.mid n after = pushed m k s d p.fst p.mid n after p.second in
      let x : Node = node_of m k s d p.fst in
      let nodes : after ≡ p.mid ++ x ∷ [] = q.nodes in
      let number : n ≡ length p.mid = q.number in
      let inside : AreNumbered p.mid m (length before) rs p.fst (length p.mid) = puts_numbered m rs p.fst before p.mid p.first in
      let moved : AreNumbered after m (length before) rs p.fst (length p.mid) = subst (λ ns. AreNumbered ns m (length before) rs p.fst (length p.mid)) (sym nodes) (all_front p.mid (x ∷ []) m (length before) rs p.fst (length p.mid) inside) in
      let own : slice_get after n ≡ Some x = ap (slice_get after) number ∙ ap (λ ns. slice_get ns (length p.mid)) nodes ∙ get_behind p.mid x [] in
      (p.fst, subst (AreNumbered after m (length before) rs p.fst) (sym number) moved, own)

  puts_numbered : (m : ℕ) (rs : Roses) (ks : List ℕ) (before after : List Node) → puts m rs before ≡ Some (ks, after) → AreNumbered after m (length before) rs ks (length after)
  puts_numbered m no_roses ks before after h =
      let e = same_Some _ _ h in
      (sym (ap (λ r. r.0) e), ap (λ r. length r.1) e)
  puts_numbered m (more r rs) ks before after h =
      let p : Parts (put m r before) (λ a. λ ns. and_then (puts m rs ns) (λ b. λ ns. Some (a ∷ b, ns))) (ks, after) = parts (put m r before) (λ a. λ ns. and_then (puts m rs ns) (λ b. λ ns. Some (a ∷ b, ns))) (ks, after) h in
      let q : Parts (puts m rs p.mid) (λ b. λ ns. Some (p.fst ∷ b, ns)) (ks, after) = parts (puts m rs p.mid) (λ b. λ ns. Some (p.fst ∷ b, ns)) (ks, after) p.second in
      let e = same_Some _ _ q.second in
      let stand : AllStand m q.fst p.mid q.mid = posts m rs q.fst p.mid q.mid q.first in
      let was : WasPut m p.fst before p.mid = post m r p.fst before p.mid p.first in
      let one : IsNumbered p.mid m (length before) r p.fst = put_numbered m r p.fst before p.mid p.first in
      let here : IsNumbered q.mid m (length before) r p.fst = numbered_in p.mid q.mid stand.own m (length before) r p.fst stand.behind one in
      let rest : AreNumbered q.mid m (length p.mid) rs q.fst (length q.mid) = puts_numbered m rs q.fst p.mid q.mid q.first in
      let next : AreNumbered q.mid m (p.fst + 1) rs q.fst (length q.mid) = subst (λ k. AreNumbered q.mid m k rs q.fst (length q.mid)) was.last rest in
      subst (λ o. AreNumbered o.1 m (length before) (more r rs) o.0 (length o.1)) e (p.fst, q.fst, refl, here, next)

pub what_is_put_is_numbered : WhatIsPutIsNumbered
what_is_put_is_numbered m r n before after h = (put_numbered m r n before after h, (post m r n before after h).last)

-- ---- what is numbered was appended

-- One more element of a list.
take_next : {T : Type 0} → (xs : List T) (n : ℕ) (x : T) → slice_get xs n ≡ Some x → take n xs ++ x ∷ [] ≡ take (n + 1) xs
take_next [] n x e = absurd (none-some x e)
take_next (y ∷ ys) zero x e = ap (λ z. z ∷ []) (sym (same_Some y x e))
take_next (y ∷ ys) (suc n) x e = let more : suc (n + 1) ≡ suc n + 1 = omega arith in ap (λ zs. y ∷ zs) (take_next ys n x e) ∙ ap (λ k. take k (y ∷ ys)) more

push_next : (nodes : List Node) (m : ℕ) (k : NodeKind) (s : Span) (d : ℕ) (ks : List ℕ) (n : ℕ) → length nodes ≤ node_limit → slice_get nodes n ≡ Some (node_of m k s d ks) → push m k s d ks (take n nodes) ≡ Some (n, take (n + 1) nodes)
unfolding push
push_next nodes m k s d ks n few h =
    let within : n < length nodes = get_below nodes n (node_of m k s d ks) h in
    let count : length (take n nodes) ≡ n = take_count nodes n (omega (arith, within)) in
    let room : nat_lt (length (take n nodes)) node_limit ≡ true = lt-ltb (length (take n nodes)) node_limit (omega (arith, count, within, few)) in
    rw room (ap (λ c. Some (c, take n nodes ++ node_of m k s d ks ∷ [])) count ∙ ap (λ ns. Some (n, ns)) (take_next nodes n (node_of m k s d ks) h))

mutual
  numbered_put : (nodes : List Node) (m from : ℕ) (r : Rose) (n : ℕ) → length nodes ≤ node_limit → IsNumbered nodes m from r n → put m r (take from nodes) ≡ Some (n, take (n + 1) nodes)
  numbered_put nodes m from (rose k s d rs) n few h = rw (all_put nodes m from rs h.0 n few h.1) (push_next nodes m k s d h.0 n few h.2)

  all_put : (nodes : List Node) (m from : ℕ) (rs : Roses) (ks : List ℕ) (next : ℕ) → length nodes ≤ node_limit → AreNumbered nodes m from rs ks next → puts m rs (take from nodes) ≡ Some (ks, take next nodes)
  all_put nodes m from no_roses ks next few h = ap (λ xs. Some (xs, take from nodes)) (sym h.0) ∙ ap (λ k. Some (ks, take k nodes)) h.1
  all_put nodes m from (more r rs) ks next few h =
      let first : put m r (take from nodes) ≡ Some (h.0, take (h.0 + 1) nodes) = numbered_put nodes m from r h.0 few h.3 in
      let rest : puts m rs (take (h.0 + 1) nodes) ≡ Some (h.1, take next nodes) = all_put nodes m (h.0 + 1) rs h.1 next few h.4 in
      rw (first, rest) (ap (λ xs. Some (xs, take next nodes)) (sym h.2))

pub what_is_numbered_is_put : WhatIsNumberedIsPut
what_is_numbered_is_put nodes m from r n few h = numbered_put nodes m from r n few h

-- ---- where numbers start

mutual
  pub numbered_from : (nodes : List Node) (m from : ℕ) (r : Rose) (n : ℕ) → IsNumbered nodes m from r n → from ≤ n
  numbered_from nodes m from (rose k s d rs) n h = all_from nodes m from rs h.0 n h.1

  all_from : (nodes : List Node) (m from : ℕ) (rs : Roses) (ks : List ℕ) (next : ℕ) → AreNumbered nodes m from rs ks next → from ≤ next
  all_from nodes m from no_roses ks next h = let e = h.1 in omega (arith, e)
  all_from nodes m from (more r rs) ks next h =
      let first = numbered_from nodes m from r h.0 h.3 in
      let rest = all_from nodes m (h.0 + 1) rs h.1 next h.4 in
      omega (arith, first, rest)
