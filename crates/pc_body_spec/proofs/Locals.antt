-- Locals among the nodes: every use of one comes after its definition, in the same sequence.
use Rattle.std.proofs.{Common.{◌≡◌, ℕ, suc, ◌+◌, ◌<◌, ◌≤◌, List, [], ◌∷◌, ◌++◌, length, Some, refl, ap, ◌∙◌, sym, subst, arith, inl, inr}, lemmas.Bool.cases_lt, lemmas.List.{length-append, append-nil}, lemmas.Option.{same_Some, none-some}}
use Rattle.std.specs.Prelude.{slice_get, ◌⊎◌}
use Rattle.pc_base.proofs.Gets.{get_front, get_push, get_behind, get_below, append_get}
use Rattle.pc_core.specs.{declared.nodes.Node.Node, declared.nodes.NodeKind.NodeKind, Methods.UsesSlot}
use Rattle.pc_core.specs.declared.nodes.NodeKind.TheVariants as node
use Rattle.pc_base.specs.Lists.{Has, IsIn}
use Rattle.pc_body_spec.specs.{Bodies.{Rose, Roses, rose, more, no_roses, node_of}, Fold.{and_then, put, puts, push}, Visibility.{AsksVisible, ItemAsks, Scoped, AllScoped, ItemsScoped}, Laws.{IsItem, IsDefined, LocalsAreDefined}}
use Rattle.pc_body_spec.proofs.{PostOrders.{Parts, parts, Pushed, pushed, AllStand, posts}, Nodes.beyond}

-- ---- what a kind requires, by cases

abbrev IsDefine : NodeKind → Type 0
IsDefine (node.Define n) = Unit {0}
IsDefine k = ⊥

-- Its own slot is visible; it is not a definition; and its children are those of a sequence, or define nothing.
record Asked (k : NodeKind) (vis : List ℕ) (all items : Type 0) : Type 0 where
  uses : (s : ℕ) → UsesSlot s k → IsIn s vis
  other : (s : ℕ) → k ≡ node.Define s → ⊥
  inside : all ⊎ ((k ≡ node.Seq) × items)

asked : (k : NodeKind) (vis : List ℕ) (all items : Type 0) → AsksVisible k vis all items → Asked k vis all items
asked (node.Local n) vis all items h = record { uses = λ s u. subst (λ z. IsIn z vis) u h.0; other = λ s e. subst IsDefine (sym e) tt; inside = inl h.1 }
asked (node.Consume n) vis all items h = record { uses = λ s u. subst (λ z. IsIn z vis) u h.0; other = λ s e. subst IsDefine (sym e) tt; inside = inl h.1 }
asked (node.Assign n) vis all items h = record { uses = λ s u. subst (λ z. IsIn z vis) u h.0; other = λ s e. subst IsDefine (sym e) tt; inside = inl h.1 }
asked node.Seq vis all items h = record { uses = λ s u. absurd u; other = λ s e. subst IsDefine (sym e) tt; inside = inr (refl, h) }
asked (node.Define n) vis all items h = absurd h
asked k vis all items h = record { uses = λ s u. absurd u; other = λ s e. subst IsDefine (sym e) tt; inside = inl h }

-- An item defines a local, or it is like any other part.
abbrev ItemIs : NodeKind → List ℕ → Type 0 → Type 0 → (List ℕ → Type 0) → Type 0
ItemIs k vis all part rest = ((s : ℕ) × (k ≡ node.Define s) × all × rest (vis ++ s ∷ [])) ⊎ (part × rest vis)

item_is : (k : NodeKind) (vis : List ℕ) (all part : Type 0) (rest : List ℕ → Type 0) → ItemAsks k vis all part rest → ItemIs k vis all part rest
item_is (node.Define n) vis all part rest h = inl (n, refl, h.0, h.1)
item_is k vis all part rest h = inr h

-- ---- what is known of a node

-- An earlier item, whose number is one of these, defines the local.
record IsEarly (ns : List Node) (ks : List ℕ) (i s : ℕ) : Type 0 where
  define : ℕ
  definition : Node
  is_definition : slice_get ns define ≡ Some definition
  defines : definition.kind ≡ node.Define s
  before : define < i
  item : Has ks define

-- What is known while the sequence around it, with these items, has not come yet.
record Good (vis : List ℕ) (ns : List Node) (ks : List ℕ) (i : ℕ) (x : Node) : Type 0 where
  uses : (s : ℕ) → UsesSlot s x.kind → IsIn s vis ⊎ (IsDefined ns i s ⊎ IsEarly ns ks i s)
  item : (s : ℕ) → x.kind ≡ node.Define s → IsItem ns i ⊎ Has ks i

defined_front : (ns own : List Node) (i s : ℕ) → IsDefined ns i s → IsDefined (ns ++ own) i s
defined_front ns own i s f = record {
  define = f.define;
  definition = f.definition;
  is_definition = get_front ns own f.define f.definition f.is_definition;
  defines = f.defines;
  before = f.before;
  sequence = f.sequence;
  around = f.around;
  is_around = get_front ns own f.sequence f.around f.is_around;
  is_sequence = f.is_sequence;
  item = f.item;
  behind = f.behind;
}

item_front : (ns own : List Node) (i : ℕ) → IsItem ns i → IsItem (ns ++ own) i
item_front ns own i f = record {
  sequence = f.sequence;
  around = f.around;
  is_around = get_front ns own f.sequence f.around f.is_around;
  is_sequence = f.is_sequence;
  item = f.item;
  behind = f.behind;
}

-- With more nodes and more items the same is known.
good_more : (vis : List ℕ) (ns own : List Node) (ks js : List ℕ) (i : ℕ) (x : Node) → ((k : ℕ) → Has ks k → Has js k) → Good vis ns ks i x → Good vis (ns ++ own) js i x
good_more vis ns own ks js i x sub g = record {
  uses = λ s u. elim (g.uses s u) [
    | inl a ↦ inl a
    | inr b ↦ elim b [
      | inl d ↦ inr (inl (defined_front ns own i s d))
      | inr e ↦ inr (inr (record { define = e.define; definition = e.definition; is_definition = get_front ns own e.define e.definition e.is_definition; defines = e.defines; before = e.before; item = sub e.define e.item }))
    ]
  ];
  item = λ s e. elim (g.item s e) [ inl a ↦ inl (item_front ns own i a) | inr b ↦ inr (sub i b) ];
}

abbrev New : List ℕ → List ℕ → List Node → List Node → Type 0
New vis ks before after = (i : ℕ) (x : Node) → length before ≤ i → slice_get after i ≡ Some x → Good vis after ks i x

no_items : (js : List ℕ) (k : ℕ) → Has [] k → Has js k
no_items js k h = absurd (none-some k h.1)

one_more : (j : ℕ) (ks : List ℕ) (k : ℕ) → Has ks k → Has (j ∷ ks) k
one_more j ks k h = (suc h.0, h.1)

same_items : (ks : List ℕ) (k : ℕ) → Has ks k → Has ks k
same_items ks k h = h

-- New nodes after new nodes.
both : (vis ks js : List ℕ) (before mid own : List Node) → ((k : ℕ) → Has ks k → Has js k) → New vis ks before mid → New vis js mid (mid ++ own) → New vis js before (mid ++ own)
both vis ks js before mid own sub a b i x from e =
    elim (cases_lt i (length mid)) [
      | inl l ↦ elim (append_get mid own i x e) [ inl old ↦ good_more vis mid own ks js i x sub (a i x from old) | inr new ↦ b i x new.0 e ]
      | inr l ↦ b i x l e
    ]

-- The node around parts other than items.
close : (vis : List ℕ) (before mid : List Node) (y : Node) → ((s : ℕ) → UsesSlot s y.kind → IsIn s vis) → ((s : ℕ) → y.kind ≡ node.Define s → ⊥) → New vis [] before mid → New vis [] before (mid ++ y ∷ [])
close vis before mid y own other a i x from e =
    elim (get_push mid y i x e) [
      | inl old ↦ good_more vis mid (y ∷ []) [] [] i x (same_items []) (a i x from old)
      | inr new ↦ subst (Good vis (mid ++ y ∷ []) [] i) new.1 (record { uses = λ s u. inl (own s u); item = λ s d. absurd (other s d) })
    ]

-- The sequence around its items.
close_items : (vis : List ℕ) (before mid : List Node) (y : Node) → y.kind ≡ node.Seq → ((s : ℕ) → UsesSlot s y.kind → IsIn s vis) → ((s : ℕ) → y.kind ≡ node.Define s → ⊥) → New vis y.children before mid → New vis [] before (mid ++ y ∷ [])
close_items vis before mid y is own other a i x from e =
    elim (get_push mid y i x e) [
      | inl old ↦ old_good old (good_more vis mid (y ∷ []) y.children y.children i x (same_items y.children) (a i x from old))
      | inr new ↦ subst (Good vis (mid ++ y ∷ []) [] i) new.1 (record { uses = λ s u. inl (own s u); item = λ s d. absurd (other s d) })
    ]
  where
    old_good : slice_get mid i ≡ Some x → Good vis (mid ++ y ∷ []) y.children i x → Good vis (mid ++ y ∷ []) [] i x
    old_good at g =
        let below : i < length mid = get_below mid i x at in
        record {
          uses = λ s u. elim (g.uses s u) [
            | inl v ↦ inl v
            | inr b ↦ elim b [
              | inl d ↦ inr (inl d)
              | inr f ↦ inr (inl (record { define = f.define; definition = f.definition; is_definition = f.is_definition; defines = f.defines; before = f.before; sequence = length mid; around = y; is_around = get_behind mid y []; is_sequence = is; item = f.item; behind = below }))
            ]
          ];
          item = λ s d. elim (g.item s d) [
            | inl v ↦ inl v
            | inr b ↦ inl (record { sequence = length mid; around = y; is_around = get_behind mid y []; is_sequence = is; item = b; behind = below })
          ];
        }

-- An item that defines a local: its number is that of its node.
close_define : (vis ks : List ℕ) (s : ℕ) (before mid : List Node) (y : Node) → y.kind ≡ node.Define s → New vis [] before mid → New vis (length mid ∷ ks) before (mid ++ y ∷ [])
close_define vis ks s before mid y is a i x from e =
    elim (get_push mid y i x e) [
      | inl old ↦ good_more vis mid (y ∷ []) [] (length mid ∷ ks) i x (no_items (length mid ∷ ks)) (a i x from old)
      | inr new ↦ subst (Good vis (mid ++ y ∷ []) (length mid ∷ ks) i) new.1 (record { uses = λ z u. absurd (subst (UsesSlot z) is u); item = λ z d. inr (0, ap Some (sym new.0)) })
    ]

split : (xs : List ℕ) (y x : ℕ) → IsIn x (xs ++ y ∷ []) → IsIn x xs ⊎ (y ≡ x)
split [] y x (inl e) = inr (sym e)
split [] y x (inr e) = absurd e
split (z ∷ zs) y x (inl e) = inl (inl e)
split (z ∷ zs) y x (inr e) = elim (split zs y x e) [ inl l ↦ inl (inr l) | inr r ↦ inr r ]

-- The items after one that defines a local.
after_define : (vis bs : List ℕ) (s a : ℕ) (mid all : List Node) (y : Node) → slice_get all a ≡ Some y → y.kind ≡ node.Define s → a < length mid → New (vis ++ s ∷ []) bs mid all → New vis (a ∷ bs) mid all
after_define vis bs s a mid all y at is below later i x from e =
    let g : Good (vis ++ s ∷ []) all bs i x = later i x from e in
    let low : a < i = omega (arith, below, from) in
    record {
      uses = λ z u. elim (g.uses z u) [
        | inl v ↦ elim (split vis s z v) [
          | inl w ↦ inl w
          | inr w ↦ inr (inr (record { define = a; definition = y; is_definition = at; defines = is ∙ ap node.Define w; before = low; item = (0, refl) }))
        ]
        | inr b ↦ elim b [
          | inl d ↦ inr (inl d)
          | inr f ↦ inr (inr (record { define = f.define; definition = f.definition; is_definition = f.is_definition; defines = f.defines; before = f.before; item = one_more a bs f.define f.item }))
        ]
      ];
      item = λ z d. elim (g.item z d) [ inl v ↦ inl v | inr b ↦ inr (one_more a bs i b) ];
    }

-- One more item before the later ones.
widen : (vis bs : List ℕ) (a : ℕ) (mid all : List Node) → New vis bs mid all → New vis (a ∷ bs) mid all
widen vis bs a mid all later i x from e = subst (λ ns. Good vis ns (a ∷ bs) i x) (append-nil all) (good_more vis all [] bs (a ∷ bs) i x (one_more a bs) (later i x from e))

mutual
  put_good : (m : ℕ) (r : Rose) (n : ℕ) (before after : List Node) (vis : List ℕ) → Scoped vis r → put m r before ≡ Some (n, after) → New vis [] before after
  put_good m (rose k s d rs) n before after vis h e =
      let p : Parts (puts m rs before) (push m k s d) (n, after) = parts (puts m rs before) (push m k s d) (n, after) e in
      let q : Pushed m k s d p.fst p.mid n after = pushed m k s d p.fst p.mid n after p.second in
      let a : Asked k vis (AllScoped vis rs) (ItemsScoped vis rs) = asked k vis (AllScoped vis rs) (ItemsScoped vis rs) h in
      let y : Node = node_of m k s d p.fst in
      let whole : New vis [] before (p.mid ++ y ∷ []) = elim a.inside [
        | inl all ↦ close vis before p.mid y a.uses a.other (all_good m rs p.fst before p.mid vis all p.first)
        | inr items ↦ close_items vis before p.mid y items.0 a.uses a.other (items_good m rs p.fst before p.mid vis items.1 p.first)
      ] in
      subst (New vis [] before) (sym q.nodes) whole

  all_good : (m : ℕ) (rs : Roses) (ks : List ℕ) (before after : List Node) (vis : List ℕ) → AllScoped vis rs → puts m rs before ≡ Some (ks, after) → New vis [] before after
  all_good m no_roses ks before after vis h e = subst (New vis [] before) (ap (λ r. r.1) (same_Some _ _ e)) (λ i x from g. absurd (beyond before i x from g))
  all_good m (more r rs) ks before after vis h e =
      let p = parts (put m r before) (λ a. λ ns. and_then (puts m rs ns) (λ b. λ ns. Some (a ∷ b, ns))) (ks, after) e in
      let q = parts (puts m rs p.mid) (λ b. λ ns. Some (p.fst ∷ b, ns)) (ks, after) p.second in
      let stand : AllStand m q.fst p.mid q.mid = posts m rs q.fst p.mid q.mid q.first in
      let a : New vis [] before p.mid = put_good m r p.fst before p.mid vis h.0 p.first in
      let b : New vis [] p.mid q.mid = all_good m rs q.fst p.mid q.mid vis h.1 q.first in
      let news : New vis [] before q.mid = subst (New vis [] before) (sym stand.behind) (both vis [] [] before p.mid stand.own (same_items []) a (subst (New vis [] p.mid) stand.behind b)) in
      subst (λ r. New vis [] before r.1) (same_Some _ _ q.second) news

  items_good : (m : ℕ) (rs : Roses) (ks : List ℕ) (before after : List Node) (vis : List ℕ) → ItemsScoped vis rs → puts m rs before ≡ Some (ks, after) → New vis ks before after
  items_good m no_roses ks before after vis h e = subst (λ r. New vis r.0 before r.1) (same_Some _ _ e) (λ i x from g. absurd (beyond before i x from g))
  items_good m (more (rose k s d cs) rs) ks before after vis h e =
      let p = parts (put m (rose k s d cs) before) (λ a. λ ns. and_then (puts m rs ns) (λ b. λ ns. Some (a ∷ b, ns))) (ks, after) e in
      let q = parts (puts m rs p.mid) (λ b. λ ns. Some (p.fst ∷ b, ns)) (ks, after) p.second in
      let stand : AllStand m q.fst p.mid q.mid = posts m rs q.fst p.mid q.mid q.first in
      let c : Parts (puts m cs before) (push m k s d) (p.fst, p.mid) = parts (puts m cs before) (push m k s d) (p.fst, p.mid) p.first in
      let o : Pushed m k s d c.fst c.mid p.fst p.mid = pushed m k s d c.fst c.mid p.fst p.mid c.second in
      let y : Node = node_of m k s d c.fst in
      let js : List ℕ = p.fst ∷ q.fst in
      let at : slice_get q.mid p.fst ≡ Some y = ap (λ ns. slice_get ns p.fst) stand.behind ∙ get_front p.mid stand.own p.fst y (ap (slice_get p.mid) o.number ∙ ap (λ ns. slice_get ns (length c.mid)) o.nodes ∙ get_behind c.mid y []) in
      let ends : length p.mid ≡ length c.mid + 1 = ap length o.nodes ∙ length-append c.mid (y ∷ []) in
      let number = o.number in
      let below : p.fst < length p.mid = omega (arith, ends, number) in
      let news : New vis js before q.mid = elim (item_is k vis (AllScoped vis cs) (AsksVisible k vis (AllScoped vis cs) (ItemsScoped vis cs)) (λ v. ItemsScoped v rs) h) [
        | inl f ↦
            let inside : New vis [] before c.mid = all_good m cs c.fst before c.mid vis f.2 c.first in
            let closed : New vis (length c.mid ∷ q.fst) before p.mid = subst (New vis (length c.mid ∷ q.fst) before) (sym o.nodes) (close_define vis q.fst f.0 before c.mid y f.1 inside) in
            let first : New vis js before p.mid = subst (λ z. New vis (z ∷ q.fst) before p.mid) (sym number) closed in
            let later : New vis js p.mid q.mid = after_define vis q.fst f.0 p.fst p.mid q.mid y at f.1 below (items_good m rs q.fst p.mid q.mid (vis ++ f.0 ∷ []) f.3 q.first) in
            subst (New vis js before) (sym stand.behind) (both vis js js before p.mid stand.own (same_items js) first (subst (New vis js p.mid) stand.behind later))
        | inr f ↦
            let first : New vis [] before p.mid = put_good m (rose k s d cs) p.fst before p.mid vis f.0 p.first in
            let behind : New vis q.fst p.mid q.mid = items_good m rs q.fst p.mid q.mid vis f.1 q.first in
            let later : New vis js p.mid q.mid = widen vis q.fst p.fst p.mid q.mid behind in
            subst (New vis js before) (sym stand.behind) (both vis [] js before p.mid stand.own (no_items js) first (subst (New vis js p.mid) stand.behind later))
      ] in
      subst (λ r. New vis r.0 before r.1) (same_Some _ _ q.second) news

pub locals_are_defined : LocalsAreDefined
locals_are_defined vis m r n before after h e i x from at =
    let g : Good vis after [] i x = put_good m r n before after vis h e i x from at in (
      λ s u. elim (g.uses s u) [
        | inl a ↦ inl a
        | inr b ↦ elim b [ inl d ↦ inr d | inr f ↦ absurd (none-some f.define f.item.1) ]
      ],
      λ s d. elim (g.item s d) [ inl a ↦ a | inr b ↦ absurd (none-some i b.1) ],
    )
