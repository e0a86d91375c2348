-- From facts about a rose to facts about its nodes.
use Rattle.std.proofs.{Common.{◌≡◌, ℕ, zero, suc, ◌+◌, ◌-◌, ◌≤◌, List, [], ◌∷◌, ◌++◌, length, Some, refl, ap, ◌∙◌, sym, subst, arith, inl, inr}, lemmas.Bool.cases_lt, Math.Nat.min-eq_left, lemmas.List.length-append, lemmas.Option.{same_Some, none-some}}
use Rattle.std.specs.Prelude.{slice_get, ◌^◌}
use Rattle.pc_base.specs.{declared.span.Span.Span, Lists.Each}
use Rattle.pc_base.proofs.Gets.{get_front, get_push, get_behind, get_below, append_get}
use Rattle.pc_core.specs.{declared.nodes.Node.Node, declared.nodes.NodeKind.NodeKind, Nodes.{HasArity, inner_depth}}
use Rattle.pc_core.specs.declared.nodes.NodeKind.TheVariants as node
use Rattle.pc_body_spec.specs.{Bodies.{Rose, Roses, rose, more, no_roses, node_of, deeper}, Fold.{and_then, put, puts, push}, Shapes.{count, depth_inside, Shaped, AllShaped}, Meanings.{Every, EveryOf}, Laws.{HasChildren, NodesHaveChildren, WasPut}}
use Rattle.pc_body_spec.proofs.PostOrders.{Parts, parts, Pushed, pushed, AllStand, post, posts}

-- ---- how many nodes there are

abbrev mutual
  size : Rose → ℕ
  size (rose k s d rs) = suc (sizes rs)

  sizes : Roses → ℕ
  sizes no_roses = 0
  sizes (more r rs) = size r + sizes rs

mutual
  put_long : (m : ℕ) (r : Rose) (n : ℕ) (before after : List Node) → put m r before ≡ Some (n, after) → length after ≡ length before + size r
  put_long m (rose k s d rs) n before after h =
      let p = parts (puts m rs before) (push m k s d) (n, after) h in
      let q : Pushed m k s d p.fst p.mid n after = pushed m k s d p.fst p.mid n after p.second in
      let inside : length p.mid ≡ length before + sizes rs = puts_long m rs p.fst before p.mid p.first in
      let whole : length after ≡ length p.mid + 1 = ap length q.nodes ∙ length-append p.mid (node_of m k s d p.fst ∷ []) in
      omega (arith, inside, whole)

  puts_long : (m : ℕ) (rs : Roses) (ks : List ℕ) (before after : List Node) → puts m rs before ≡ Some (ks, after) → length after ≡ length before + sizes rs
  puts_long m no_roses ks before after h =
      let e : length after ≡ length before = sym (ap (λ r. length r.1) (same_Some _ _ h)) in
      omega (arith, e)
  puts_long m (more r rs) ks before after h =
      let p = parts (put m r before) (λ a. λ ns. and_then (puts m rs ns) (λ b. λ ns. Some (a ∷ b, ns))) (ks, after) h in
      let q = parts (puts m rs p.mid) (λ b. λ ns. Some (p.fst ∷ b, ns)) (ks, after) p.second in
      let first : length p.mid ≡ length before + size r = put_long m r p.fst before p.mid p.first in
      let rest : length q.mid ≡ length p.mid + sizes rs = puts_long m rs q.fst p.mid q.mid q.first in
      let e : length after ≡ length q.mid = sym (ap (λ r. length r.1) (same_Some _ _ q.second)) in
      omega (arith, first, rest, e)

-- ---- children

-- Some children are in the list, at this depth.
abbrev AllAt : List Node → ℕ → List ℕ → Type 0
AllAt ns d ks = Each (λ i k. (y : Node) × (slice_get ns k ≡ Some y) × (y.depth ≡ d)) ks

at_front : (ns extra : List Node) (d : ℕ) (ks : List ℕ) → AllAt ns d ks → AllAt (ns ++ extra) d ks
at_front ns extra d ks h i k e = let z = h i k e in (z.0, get_front ns extra k z.0 z.1, z.2)

at_more : (ns : List Node) (d k : ℕ) (y : Node) (ks : List ℕ) → slice_get ns k ≡ Some y → y.depth ≡ d → AllAt ns d ks → AllAt ns d (k ∷ ks)
at_more ns d k y ks g e h zero j f = (y, ap (slice_get ns) (sym (same_Some k j f)) ∙ g, e)
at_more ns d k y ks g e h (suc i) j f = h i j f

front_children : (ns extra : List Node) (x : Node) → HasChildren ns x → HasChildren (ns ++ extra) x
front_children ns extra x h = record { arity = h.arity; depths = at_front ns extra (inner_depth x.kind x.depth) x.children h.depths }

-- The nodes after the first ones have their children.
abbrev New : List Node → List Node → Type 0
New before after = (i : ℕ) (x : Node) → length before ≤ i → slice_get after i ≡ Some x → HasChildren after x

pub beyond : (ns : List Node) (i : ℕ) (x : Node) → length ns ≤ i → slice_get ns i ≡ Some x → ⊥
beyond ns i x from e = let l = get_below ns i x e in absurd (omega (arith, l, from))

inside_is : (k : NodeKind) (d : ℕ) → d + 1 ≤ 2 ^ 32 - 1 → depth_inside k d ≡ inner_depth k d
inside_is (node.Recover n) d h = min-eq_left h
inside_is k d h = refl

-- What a rose leaves: its new nodes have their children, and its own is the last, at its depth.
record Done (d n : ℕ) (before after : List Node) : Type 0 where
  new : New before after
  own : Node
  is_own : slice_get after n ≡ Some own
  depth : own.depth ≡ d

record AllDone (d many : ℕ) (ks : List ℕ) (before after : List Node) : Type 0 where
  new : New before after
  many_are : length ks ≡ many
  are : AllAt after d ks

abbrev Below : ℕ → ℕ → Type 0
Below d many = d + many ≤ 2 ^ 32 - 1

inside_below : (k : NodeKind) (d many : ℕ) → Below d (suc many) → Below (depth_inside k d) many
inside_below (node.Recover n) d many h =
    let l : d + 1 ≤ 2 ^ 32 - 1 = omega (arith, h) in
    let e : deeper d ≡ d + 1 = min-eq_left l in
    omega (arith, e, h)
inside_below k d many h = omega (arith, h)

-- One more node after those inside it.
close : (m : ℕ) (k : NodeKind) (s : Span) (d many : ℕ) (ks : List ℕ) (before mid : List Node) → d + 1 ≤ 2 ^ 32 - 1 → HasArity k many → AllDone (depth_inside k d) many ks before mid → New before (mid ++ node_of m k s d ks ∷ [])
close m k s d many ks before mid low arity a i x from e =
    elim (get_push mid (node_of m k s d ks) i x e) [
      | inl old ↦ front_children mid (node_of m k s d ks ∷ []) x (a.new i x from old)
      | inr new ↦ subst (HasChildren (mid ++ node_of m k s d ks ∷ [])) new.1 (record {
        arity = subst (HasArity k) (sym a.many_are) arity;
        depths = subst (λ z. AllAt (mid ++ node_of m k s d ks ∷ []) z ks) (inside_is k d low) (at_front mid (node_of m k s d ks ∷ []) (depth_inside k d) ks a.are);
      })
    ]

-- One list of new nodes after another.
both : (before mid own : List Node) → New before mid → New mid (mid ++ own) → New before (mid ++ own)
both before mid own a b i x from e =
    elim (cases_lt i (length mid)) [
      | inl l ↦ elim (append_get mid own i x e) [ inl old ↦ front_children mid own x (a i x from old) | inr new ↦ b i x new.0 e ]
      | inr l ↦ b i x l e
    ]

mutual
  done : (m d : ℕ) (r : Rose) (n : ℕ) (before after : List Node) → Shaped d r → Below d (size r) → put m r before ≡ Some (n, after) → Done d n before after
  done m d (rose k s e rs) n before after shape low h =
      let p : Parts (puts m rs before) (push m k s e) (n, after) = parts (puts m rs before) (push m k s e) (n, after) h in
      let q : Pushed m k s e p.fst p.mid n after = pushed m k s e p.fst p.mid n after p.second in
      let x : Node = node_of m k s e p.fst in
      let same : e ≡ d = shape.0 in
      let below : Below e (suc (sizes rs)) = omega (arith, low, same) in
      let one_more : e + 1 ≤ 2 ^ 32 - 1 = omega (arith, below) in
      let a : AllDone (depth_inside k e) (count rs) p.fst before p.mid = all_done m (depth_inside k e) rs p.fst before p.mid (subst (λ z. AllShaped (depth_inside k z) rs) (sym same) shape.2) (inside_below k e (sizes rs) below) p.first in
      record {
        new = subst (New before) (sym q.nodes) (close m k s e (count rs) p.fst before p.mid one_more shape.1 a);
        own = x;
        is_own = ap (slice_get after) q.number ∙ ap (λ ns. slice_get ns (length p.mid)) q.nodes ∙ get_behind p.mid x [];
        depth = same;
      }

  all_done : (m d : ℕ) (rs : Roses) (ks : List ℕ) (before after : List Node) → AllShaped d rs → Below d (sizes rs) → puts m rs before ≡ Some (ks, after) → AllDone d (count rs) ks before after
  all_done m d no_roses ks before after shape low h =
      let e = same_Some _ _ h in
      record {
        new = subst (New before) (ap (λ r. r.1) e) (λ i x from g. absurd (beyond before i x from g));
        many_are = sym (ap (λ r. length r.0) e);
        are = subst (λ r. AllAt after d r.0) e (λ i k g. absurd (none-some k g));
      }
  all_done m d (more r rs) ks before after shape low h =
      let p = parts (put m r before) (λ a. λ ns. and_then (puts m rs ns) (λ b. λ ns. Some (a ∷ b, ns))) (ks, after) h in
      let q = parts (puts m rs p.mid) (λ b. λ ns. Some (p.fst ∷ b, ns)) (ks, after) p.second in
      let e = same_Some _ _ q.second in
      let first_low : Below d (size r) = omega (arith, low) in
      let rest_low : Below d (sizes rs) = omega (arith, low) in
      let a : Done d p.fst before p.mid = done m d r p.fst before p.mid shape.0 first_low p.first in
      let b : AllDone d (count rs) q.fst p.mid q.mid = all_done m d rs q.fst p.mid q.mid shape.1 rest_low q.first in
      let stand : AllStand m q.fst p.mid q.mid = posts m rs q.fst p.mid q.mid q.first in
      let whole : q.mid ≡ p.mid ++ stand.own = stand.behind in
      let here : slice_get q.mid p.fst ≡ Some a.own = ap (λ ns. slice_get ns p.fst) whole ∙ get_front p.mid stand.own p.fst a.own a.is_own in
      let news : New before q.mid = subst (New before) (sym whole) (both before p.mid stand.own a.new (subst (New p.mid) whole b.new)) in
      subst (λ r. AllDone d (suc (count rs)) r.0 before r.1) e (record {
        new = news;
        many_are = ap suc b.many_are;
        are = at_more q.mid d p.fst a.own q.fst here a.depth b.are;
      })

pub nodes_have_children : NodesHaveChildren
nodes_have_children m r n before after shape h =
    let stand : WasPut m n before after = post m r n before after h in
    let few = stand.few in
    let long : length after ≡ length before + size r = put_long m r n before after h in
    let low : Below 0 (size r) = omega (arith, few, long) in
    (done m 0 r n before after shape low h).new

-- ---- kinds

module _ (P : NodeKind → Type 0) where
  -- The nodes after the first ones are of these kinds.
  abbrev pub NewAre : List Node → List Node → Type 0
  NewAre before after = (i : ℕ) (x : Node) → length before ≤ i → slice_get after i ≡ Some x → P x.kind

  both_are : (before mid own : List Node) → NewAre before mid → NewAre mid (mid ++ own) → NewAre before (mid ++ own)
  both_are before mid own a b i x from e =
      elim (cases_lt i (length mid)) [
        | inl l ↦ elim (append_get mid own i x e) [ inl old ↦ a i x from old | inr new ↦ b i x new.0 e ]
        | inr l ↦ b i x l e
      ]

  mutual
    pub kept : (m : ℕ) (r : Rose) (n : ℕ) (before after : List Node) → Every P r → put m r before ≡ Some (n, after) → NewAre before after
    kept m (rose k s d rs) n before after every h =
        let p : Parts (puts m rs before) (push m k s d) (n, after) = parts (puts m rs before) (push m k s d) (n, after) h in
        let q : Pushed m k s d p.fst p.mid n after = pushed m k s d p.fst p.mid n after p.second in
        let inside : NewAre before p.mid = all_kept m rs p.fst before p.mid every.1 p.first in
        subst (NewAre before) (sym q.nodes) (λ i x from e. elim (get_push p.mid (node_of m k s d p.fst) i x e) [ inl old ↦ inside i x from old | inr new ↦ subst (λ (y : Node). P y.kind) new.1 every.0 ])

    pub all_kept : (m : ℕ) (rs : Roses) (ks : List ℕ) (before after : List Node) → EveryOf P rs → puts m rs before ≡ Some (ks, after) → NewAre before after
    all_kept m no_roses ks before after every h = subst (NewAre before) (ap (λ r. r.1) (same_Some _ _ h)) (λ i x from g. absurd (beyond before i x from g))
    all_kept m (more r rs) ks before after every h =
        let p = parts (put m r before) (λ a. λ ns. and_then (puts m rs ns) (λ b. λ ns. Some (a ∷ b, ns))) (ks, after) h in
        let q = parts (puts m rs p.mid) (λ b. λ ns. Some (p.fst ∷ b, ns)) (ks, after) p.second in
        let stand : AllStand m q.fst p.mid q.mid = posts m rs q.fst p.mid q.mid q.first in
        let a : NewAre before p.mid = kept m r p.fst before p.mid every.0 p.first in
        let b : NewAre p.mid q.mid = all_kept m rs q.fst p.mid q.mid every.1 q.first in
        let news : NewAre before q.mid = subst (NewAre before) (sym stand.behind) (both_are before p.mid stand.own a (subst (NewAre p.mid) stand.behind b)) in
        subst (λ r. NewAre before r.1) (same_Some _ _ q.second) news
