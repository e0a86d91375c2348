-- The nodes of a rose are in post-order after the existing ones.
use Rattle.std.proofs.{Common.{◌≡◌, ℕ, zero, suc, ◌+◌, ◌-◌, ◌<◌, List, [], ◌∷◌, ◌++◌, length, Some, None, nat_lt, refl, ap, ◌∙◌, sym, subst, append_assoc, append-nil, arith, if◌then◌else◌, true, false, Bool, inl, inr}, lemmas.List.length-append, lemmas.Bool.ltb-true, lemmas.Option.{same_Some, none-some}}
use Rattle.std.specs.Prelude.{slice_get}
use Rattle.pc_base.specs.{declared.span.Span.Span, Lists.Each, Limits.node_limit}
use Rattle.pc_core.specs.{declared.nodes.Node.Node, declared.nodes.NodeKind.NodeKind, Methods.PostOrder, Growing.post_order_push}
use Rattle.pc_base.proofs.Gets.{append_get}
use Rattle.pc_body_spec.specs.{Bodies.{Rose, Roses, rose, more, no_roses, node_of}, Fold.{Numbered, and_then, put, puts, push}, Laws.{WasPut, IsPostOrder}}

-- the result of a chain, taken apart
pub record Parts {A B : Type 0} (o : Numbered A) (f : A → List Node → Numbered B) (r : B × List Node) : Type 0 where
  pub fst : A
  pub mid : List Node
  pub first : o ≡ Some (fst, mid)
  pub second : f fst mid ≡ Some r

pub parts : {A B : Type 0} (o : Numbered A) (f : A → List Node → Numbered B) (r : B × List Node) → and_then o f ≡ Some r → Parts o f r
parts None f r h = absurd (none-some r h)
parts (Some a) f r h = record { fst = a.0; mid = a.1; first = refl; second = h }

-- the result of a push
abbrev grown : ℕ → NodeKind → Span → ℕ → List ℕ → List Node → Numbered ℕ
grown m k s d cs ns = Some (length ns, ns ++ node_of m k s d cs ∷ [])

pub record Pushed (m : ℕ) (k : NodeKind) (s : Span) (d : ℕ) (cs : List ℕ) (ns : List Node) (n : ℕ) (after : List Node) : Type 0 where
  pub number : n ≡ length ns
  pub nodes : after ≡ ns ++ node_of m k s d cs ∷ []
  pub room : length ns < node_limit

pub pushed : (m : ℕ) (k : NodeKind) (s : Span) (d : ℕ) (cs : List ℕ) (ns : List Node) (n : ℕ) (after : List Node) → push m k s d cs ns ≡ Some (n, after) → Pushed m k s d cs ns n after
unfolding push
pushed m k s d cs ns n after h = by_room (nat_lt (length ns) node_limit) refl h
  where
    by_room : (b : Bool) → nat_lt (length ns) node_limit ≡ b → (if b then grown m k s d cs ns else None) ≡ Some (n, after) → Pushed m k s d cs ns n after
    by_room true t h = record { number = ap (λ r. r.0) (sym (same_Some _ _ h)); nodes = ap (λ r. r.1) (sym (same_Some _ _ h)); room = ltb-true (length ns) node_limit t }
    by_room false t h = absurd (none-some _ h)

-- nodes in post-order, one list of them after the other
pub post_order_append : (n : ℕ) (xs ys : List Node) (waiting mid last : List ℕ) → PostOrder n xs waiting mid → PostOrder (n + length xs) ys mid last → PostOrder n (xs ++ ys) waiting last
post_order_append n [] ys waiting mid last p q =
    let e : n + 0 ≡ n = omega arith in
    subst (λ w. PostOrder n ys w last) (sym p) (subst (λ k. PostOrder k ys mid last) e q)
post_order_append n (x ∷ xs) ys waiting mid last p q =
    let e : n + length (x ∷ xs) ≡ n + 1 + length xs = omega arith in
    (p.0, p.1, post_order_append (n + 1) xs ys (p.0 ++ n ∷ []) mid last p.2 (subst (λ k. PostOrder k ys mid last) e q))

-- The result of appending some roses to some nodes.
pub record AllStand (m : ℕ) (numbers : List ℕ) (before after : List Node) : Type 0 where
  pub own : List Node
  pub behind : after ≡ before ++ own
  pub method : Each (λ i x. x.method ≡ m) own
  pub order : (waiting : List ℕ) → PostOrder (length before) own waiting (waiting ++ numbers)

each_append : {T : Type 0} (P : T → Type 0) (xs ys : List T) → Each (λ i x. P x) xs → Each (λ i x. P x) ys → Each (λ i x. P x) (xs ++ ys)
each_append P xs ys a b i x e = elim (append_get xs ys i x e) [ inl l ↦ a i x l | inr r ↦ b (i - length xs) x r.1 ]

only : (m : ℕ) (x : Node) (i : ℕ) (y : Node) → x.method ≡ m → slice_get (x ∷ []) i ≡ Some y → y.method ≡ m
only m x zero y own e = subst (λ (z : Node). z.method ≡ m) (same_Some x y e) own
only m x (suc i) y own e = absurd (none-some y e)

mutual
  pub post : (m : ℕ) (r : Rose) (n : ℕ) (before after : List Node) → put m r before ≡ Some (n, after) → WasPut m n before after
  post m (rose k s d rs) n before after h =
      let p : Parts (puts m rs before) (push m k s d) (n, after) = parts (puts m rs before) (push m k s d) (n, after) h in
      let q : Pushed m k s d p.fst p.mid n after = pushed m k s d p.fst p.mid n after p.second in
      let c : AllStand m p.fst before p.mid = posts m rs p.fst before p.mid p.first in
      let x : Node = node_of m k s d p.fst in
      let there : after ≡ before ++ (c.own ++ x ∷ []) = q.nodes ∙ ap (λ ns. ns ++ x ∷ []) c.behind ∙ append_assoc before c.own (x ∷ []) in
      let long : length p.mid ≡ length before + length c.own = ap length c.behind ∙ length-append before c.own in
      let ends : length after ≡ length p.mid + 1 = ap length q.nodes ∙ length-append p.mid (x ∷ []) in
      let number = q.number in
      let room = q.room in
      let it : length before + length c.own ≡ n = sym long ∙ sym number in
      record {
        own = c.own ++ x ∷ [];
        behind = there;
        last = omega (arith, ends, number);
        few = omega (arith, ends, room);
        method = each_append (λ y. y.method ≡ m) c.own (x ∷ []) c.method (λ i y e. only m x i y refl e);
        order = λ waiting. subst (λ j. PostOrder (length before) (c.own ++ x ∷ []) waiting (waiting ++ j ∷ [])) it (post_order_push (length before) c.own waiting waiting x (c.order waiting));
      }

  pub posts : (m : ℕ) (rs : Roses) (numbers : List ℕ) (before after : List Node) → puts m rs before ≡ Some (numbers, after) → AllStand m numbers before after
  posts m no_roses numbers before after h =
      let e = same_Some _ _ h in
      record {
        own = [];
        behind = sym (ap (λ r. r.1) e) ∙ sym (append-nil before);
        method = λ i y g. absurd (none-some y g);
        order = λ waiting. sym (append-nil waiting) ∙ ap (λ r. waiting ++ r.0) e;
      }
  posts m (more r rs) numbers before after h =
      let p = parts (put m r before) (λ a. λ ns. and_then (puts m rs ns) (λ b. λ ns. Some (a ∷ b, ns))) (numbers, after) h in
      let q = parts (puts m rs p.mid) (λ b. λ ns. Some (p.fst ∷ b, ns)) (numbers, after) p.second in
      let e = same_Some _ _ q.second in
      let a : WasPut m p.fst before p.mid = post m r p.fst before p.mid p.first in
      let b : AllStand m q.fst p.mid q.mid = posts m rs q.fst p.mid q.mid q.first in
      let long : length p.mid ≡ length before + length a.own = ap length a.behind ∙ length-append before a.own in
      record {
        own = a.own ++ b.own;
        behind = sym (ap (λ r. r.1) e) ∙ b.behind ∙ ap (λ ns. ns ++ b.own) a.behind ∙ append_assoc before a.own b.own;
        method = each_append (λ y. y.method ≡ m) a.own b.own a.method b.method;
        order = λ waiting.
            let tail : PostOrder (length before + length a.own) b.own (waiting ++ p.fst ∷ []) ((waiting ++ p.fst ∷ []) ++ q.fst) = subst (λ k. PostOrder k b.own (waiting ++ p.fst ∷ []) ((waiting ++ p.fst ∷ []) ++ q.fst)) long (b.order (waiting ++ p.fst ∷ [])) in
            let same : (waiting ++ p.fst ∷ []) ++ q.fst ≡ waiting ++ numbers = append_assoc waiting (p.fst ∷ []) q.fst ∙ ap (λ r. waiting ++ r.0) e in
            subst (PostOrder (length before) (a.own ++ b.own) waiting) same (post_order_append (length before) a.own b.own waiting (waiting ++ p.fst ∷ []) ((waiting ++ p.fst ∷ []) ++ q.fst) (a.order waiting) tail);
      }

pub post_order : IsPostOrder
post_order = post
