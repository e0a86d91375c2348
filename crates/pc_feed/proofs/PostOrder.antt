-- By post-order a node's children are the last of the nodes without a parent.
use Rattle.std.specs.Prelude.{◌≡◌, ◌≢◌, ℕ, zero, suc, ◌+◌, ◌-◌, ◌<◌, ◌≤◌, List, [], ◌∷◌, ◌++◌, length, take, drop, Some, slice_get, slice_range}
use Rattle.std.proofs.{Common.{inl, inr, ap, sym, subst, ◌∙◌, arith}, lemmas.Bool.cases_lt, lemmas.Option.{same_Some, none-some}, lemmas.List.append_cancel_right}
use Rattle.pc_base.proofs.Gets.{get_below}
use Rattle.pc_core.specs.{declared.nodes.Node.Node, CoreData.{CoreData, node_end}, Methods.PostOrder, Formed.Formed}
use Rattle.pc_core.specs.declared.nodes.NodeKind.TheVariants as node
use Rattle.pc_core.proofs.Homes.{Home, home}
use Rattle.pc_rules.proofs.Homes.{home_body}
use Rattle.pc_feed.specs.{Waiting.{WaitingNodes, start, next, body}, WaitingLaws.ChildrenWaitLast}

drop_suc : {A : Type 0} → (xs : List A) (i : ℕ) (x : A) → slice_get xs i ≡ Some x → drop i xs ≡ x ∷ drop (suc i) xs
drop_suc [] i x e = absurd (none-some x e)
drop_suc (y ∷ xs) zero x e = ap (λ z. z ∷ xs) (same_Some y x e)
drop_suc (y ∷ xs) (suc i) x e = drop_suc xs i x e

-- A range that begins at an element.
range_cut : {A : Type 0} → (xs : List A) (n last : ℕ) (x : A) → slice_get xs n ≡ Some x → n ≤ last → slice_range xs n (last + 1) ≡ x ∷ slice_range xs (n + 1) (last + 1)
range_cut xs n last x e l =
    let count : last + 1 - n ≡ suc (last + 1 - (n + 1)) = omega (arith, l) in
    let on : suc n ≡ n + 1 = omega arith in
    ap (λ k. take k (drop n xs)) count ∙ ap (take (suc (last + 1 - (n + 1)))) (drop_suc xs n x e) ∙ ap (λ k. x ∷ take (last + 1 - (n + 1)) (drop k xs)) on

range_none : {A : Type 0} → (xs : List A) (n : ℕ) → slice_range xs (n + 1) (n + 1) ≡ []
range_none xs n = let z : n + 1 - (n + 1) ≡ 0 = omega arith in ap (λ k. take k (drop (n + 1) xs)) z

-- Node n in its method, from which on the nodes are in post-order after these nodes without a parent.
record At (core : CoreData) (n : ℕ) (ws : List ℕ) : Type 0 where
  pub own : Home core n
  pub order : PostOrder n (slice_range core.nodes n (own.body + 1)) ws (own.body ∷ [])

-- At a method's first node there are no nodes without a parent.
at_first : (core : CoreData) (n : ℕ) (h : Home core n) → h.method.first_node ≡ n → At core n []
at_first core n h e =
    let end : node_end h.method.first_node h.method.body ≡ h.body + 1 = ap (node_end h.method.first_node) h.is_body in
    record {
      own = h;
      order = subst (λ k. PostOrder k (slice_range core.nodes k (h.body + 1)) [] (h.body ∷ [])) e
          (subst (λ k. PostOrder h.method.first_node (slice_range core.nodes h.method.first_node k) [] (h.body ∷ [])) end h.fits.post_order);
    }

-- The step at node n.
taken : (core : CoreData) (n : ℕ) (ws : List ℕ) (x : Node) (a : At core n ws) → slice_get core.nodes n ≡ Some x
    → (rest : List ℕ) × (ws ≡ rest ++ x.children) × PostOrder (n + 1) (slice_range core.nodes (n + 1) (a.own.body + 1)) (rest ++ n ∷ []) (a.own.body ∷ [])
taken core n ws x a g = subst (λ xs. PostOrder n xs ws (a.own.body ∷ [])) (range_cut core.nodes n a.own.body x g a.own.to) a.order

at_next : (core : CoreData) (n : ℕ) (rest : List ℕ) (x : Node) (a : At core n (rest ++ x.children)) → slice_get core.nodes n ≡ Some x → x.kind ≢ node.Body → At core (n + 1) (rest ++ n ∷ [])
at_next core n rest x a g other =
    let t = taken core n (rest ++ x.children) x a g in
    let same : t.0 ≡ rest = sym (append_cancel_right rest t.0 x.children t.1) in
    let h = a.own in
    let from = h.from in
    let to = h.to in
    let before : n < h.body = elim (cases_lt n h.body) [
      | inl l ↦ l
      | inr m ↦ let e : h.body ≡ n = omega (arith, m, to) in
          let root = same_Some h.fits.root x (sym h.fits.is_root ∙ ap (slice_get core.nodes) e ∙ g) in
          absurd (other (sym (ap (λ (y : Node). y.kind) root) ∙ h.fits.is_body))
    ] in
    record {
      own = record { number = h.number; method = h.method; is_method = h.is_method; body = h.body; is_body = h.is_body; fits = h.fits; from = omega (arith, from); to = omega (arith, before) };
      order = subst (λ r. PostOrder (n + 1) (slice_range core.nodes (n + 1) (h.body + 1)) (r ++ n ∷ []) (h.body ∷ [])) same t.2;
    }

-- After a body the next method begins.
first_behind : (core : CoreData) (n : ℕ) (x : Node) (h : Home core (n + 1)) → slice_get core.nodes n ≡ Some x → x.kind ≡ node.Body → h.method.first_node ≡ n + 1
first_behind core n x h g k =
    let from = h.from in
    let to = h.to in
    elim (cases_lt n h.method.first_node) [
      | inl l ↦ omega (arith, l, from)
      | inr m ↦
          let here : Home core n = record { number = h.number; method = h.method; is_method = h.is_method; body = h.body; is_body = h.is_body; fits = h.fits; from = omega (arith, m); to = omega (arith, to) } in
          let e = home_body core n x here g k in
          absurd (omega (arith, e, to))
    ]

at_waits : (core : CoreData) → Formed core → (n : ℕ) (ws : List ℕ) → WaitingNodes core n ws → n < length core.nodes → At core n ws
at_waits core f zero [] start l = let h = home core 0 f l in let from = h.from in at_first core 0 h (omega (arith, from))
at_waits core f n ws (next {n = k} rest x g other w) l = at_next core k rest x (at_waits core f k (rest ++ x.children) w (get_below core.nodes k x g)) g other
at_waits core f n ws (body {n = k} x g is w) l = let h = home core (k + 1) f l in at_first core (k + 1) h (first_behind core k x h g is)

alone_at : (core : CoreData) (n : ℕ) (x : Node) (h : Home core n) (rest : List ℕ) → slice_get core.nodes n ≡ Some x → x.kind ≡ node.Body → PostOrder (n + 1) (slice_range core.nodes (n + 1) (h.body + 1)) (rest ++ n ∷ []) (h.body ∷ []) → rest ≡ []
alone_at core n x h rest g k p =
    let e = home_body core n x h g k in
    let none : slice_range core.nodes (n + 1) (h.body + 1) ≡ [] = ap (λ b. slice_range core.nodes (n + 1) (b + 1)) (sym e) ∙ range_none core.nodes n in
    let left : rest ++ n ∷ [] ≡ h.body ∷ [] = subst (λ xs. PostOrder (n + 1) xs (rest ++ n ∷ []) (h.body ∷ [])) none p in
    append_cancel_right rest [] (n ∷ []) (left ∙ ap (λ b. b ∷ []) (sym e))

pub children_wait_last : ChildrenWaitLast
children_wait_last core n ws x f w g =
    let a = at_waits core f n ws w (get_below core.nodes n x g) in
    let t = taken core n ws x a g in
    (t.0, t.1, λ k. alone_at core n x a.own t.0 g k t.2)
