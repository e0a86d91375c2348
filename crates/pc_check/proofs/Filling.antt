-- The sources of the children follow from that of their parent.
use Rattle.std.specs.Prelude.{◌≡◌, ◌⊎◌, ℕ, zero, suc, ◌+◌, ◌-◌, ◌<◌, ◌≤◌, true, false, List, [], ◌∷◌, map, length, get_or, Some, slice_get, slice_set, refl}
use Rattle.std.proofs.{Common.{inl, inr, ap, sym, subst, ◌∙◌, arith}, lemmas.List.{length-map, length-set}, lemmas.Option.{same_Some, none-some, slice_get-get_or}, lemmas.Bool.cases_lt}
use Rattle.pc_base.proofs.{Gets.{get_below, get_set, get_set_same, map_get}, Bools.false_true}
use Rattle.pc_core.specs.{declared.nodes.Node.Node, declared.nodes.NodeKind.NodeKind, CoreData.CoreData, Formed.Formed}
use Rattle.pc_core.specs.declared.nodes.NodeKind.TheVariants as node
use Rattle.pc_rules.proofs.{Agreeing.body_method, Homes.{children_of, children_before}}
use Rattle.pc_rules.specs.{Trees.{Tree, Forest, more, body_tree, tree_le}, Checks.is_else, Checks.StartsFrom.{body, first_child, else_branch, next_child}}
use Rattle.pc_check.specs.{declared.sources.Source.Source, Sources.{Comes, IsPlacedSource, Sourced, IsBodyOrChild, Filled, PartFilled, PassesOn, ComesLater}}
use Rattle.pc_check.specs.declared.sources.Source.TheVariants as source
use Rattle.pc_check.proofs.Parents.{known}

-- ---- where the trees of a sequence begin

abbrev pub low_at : ℕ → List ℕ → ℕ → ℕ
low_at low cs zero = low
low_at low [] (suc i) = low
low_at low (c ∷ cs) (suc i) = low_at (c + 1) cs i

pub tree_at : (core : CoreData) (low high i c : ℕ) (cs : List ℕ) → Forest core low high cs → slice_get cs i ≡ Some c → Tree core (low_at low cs i) c
tree_at core low high i c [] f e = absurd (none-some c e)
tree_at core low high zero c (d ∷ cs) (more t f) e = subst (Tree core low) (same_Some d c e) t
tree_at core low high (suc i) c (d ∷ cs) (more t f) e = tree_at core (d + 1) high i c cs f e

pub low_next : (low i d : ℕ) (cs : List ℕ) → slice_get cs i ≡ Some d → low_at low cs (suc i) ≡ d + 1
low_next low i d [] e = absurd (none-some d e)
low_next low zero d (c ∷ cs) e = ap (λ k. k + 1) (same_Some c d e)
low_next low (suc i) d (c ∷ cs) e = low_next (c + 1) i d cs e

pub low_le : (core : CoreData) (low high i c : ℕ) (cs : List ℕ) → Forest core low high cs → slice_get cs i ≡ Some c → low ≤ low_at low cs i
low_le core low high i c [] f e = absurd (none-some c e)
low_le core low high zero c (d ∷ cs) (more t f) e = omega arith
low_le core low high (suc i) c (d ∷ cs) (more t f) e = let l = tree_le core low d t in let m = low_le core (d + 1) high i c cs f e in omega (arith, l, m)

pub low_behind : (core : CoreData) (low high i c d : ℕ) (cs : List ℕ) → Forest core low high cs → slice_get cs 0 ≡ Some d → slice_get cs (suc i) ≡ Some c → d < low_at low cs (suc i)
low_behind core low high i c d [] f e g = absurd (none-some d e)
low_behind core low high i c d (b ∷ cs) (more t f) e g = let m = low_le core (b + 1) high i c cs f g in let s = same_Some b d e in omega (arith, m, s)

-- ---- the source of a child

first_comes : (core : CoreData) (low p c : ℕ) (x : Node) (s : Source) → slice_get core.nodes p ≡ Some x → slice_get x.children 0 ≡ Some c → Comes core low p s → Comes core low c s
first_comes core low p c x (source.Start m) g e h = (h.0, h.1, λ ann. first_child p x g e (h.2 ann))
first_comes core low p c x (source.Behind s) g e h = (h.0, λ ann t k. first_child p x g e (h.1 ann t k))

pub first_placed : (x : Node) (s : Source) → PassesOn x 0 s s
first_placed x s core p c g h e = (h.0, tree_at core h.0 p 0 c x.children (children_of core h.0 p x g h.1) e, first_comes core h.0 p c x s g e h.2)

else_is : (k : NodeKind) (i : ℕ) → is_else k i ≡ true → (k ≡ node.If) × (i ≡ 2)
else_is node.If (suc (suc zero)) e = (refl, refl)
else_is k i e = absurd (false_true e)

pub else_placed : (x : Node) (i d : ℕ) → is_else x.kind (suc i) ≡ true → slice_get x.children 0 ≡ Some d → ComesLater x (suc i) (source.Behind d)
else_placed x i d b first s core p c g h e =
    let f = children_of core h.0 p x g h.1 in
    let k = else_is x.kind (suc i) b in (
      low_at h.0 x.children (suc i),
      tree_at core h.0 p (suc i) c x.children f e,
      (low_behind core h.0 p i c d x.children f first e, λ ann t n. else_branch p d x t g k.0 (ap (slice_get x.children) (sym k.1) ∙ e) first n),
    )

pub next_placed : (x : Node) (i d : ℕ) → is_else x.kind (suc i) ≡ false → slice_get x.children i ≡ Some d → ComesLater x (suc i) (source.Behind d)
next_placed x i d b last s core p c g h e =
    let f = children_of core h.0 p x g h.1 in
    let n = low_next h.0 i d x.children last in (
      low_at h.0 x.children (suc i),
      tree_at core h.0 p (suc i) c x.children f e,
      (omega (arith, n), λ ann t k. next_child p d i x t g b e last k),
    )

-- The same at an index that is not the first.
pub else_later : (x : Node) (i d : ℕ) → 0 < i → is_else x.kind i ≡ true → slice_get x.children 0 ≡ Some d → ComesLater x i (source.Behind d)
else_later x zero d l b e = absurd (omega (arith, l))
else_later x (suc i) d l b e = else_placed x i d b e

pub next_later : (x : Node) (i d : ℕ) → 0 < i → is_else x.kind i ≡ false → slice_get x.children (i - 1) ≡ Some d → ComesLater x i (source.Behind d)
next_later x zero d l b e = absurd (omega (arith, l))
next_later x (suc i) d l b e = let k : suc i - 1 ≡ i = omega arith in next_placed x i d b (ap (slice_get x.children) (sym k) ∙ e)

-- ---- from the last node to the first

pub filled_start : (core : CoreData) (sources : List Source) → Formed core → sources ≡ map (λ (x : Node). source.Start x.method) core.nodes → Filled core sources (length core.nodes)
filled_start core sources formed is = (
  ap length is ∙ length-map core.nodes (λ (x : Node). source.Start x.method),
  λ n s e k. elim k [
    | inl b ↦ let f = b.1 in
        let fit = (formed.methods b.0 f b.2).body n b.3 in
        let y = map_get (λ (x : Node). source.Start x.method) core.nodes n s (ap (λ ss. slice_get ss n) (sym is) ∙ e) in
        let root : fit.root ≡ y.0 = same_Some fit.root y.0 (sym fit.is_root ∙ y.1) in
        let own : y.0.method ≡ b.0 = ap (λ (z : Node). z.method) (sym root) ∙ body_method core b.0 f n b.3 fit in
        let at : slice_get core.methods y.0.method ≡ Some f = ap (slice_get core.methods) own ∙ b.2 in
        let kind : y.0.kind ≡ node.Body = ap (λ (z : Node). z.kind) (sym root) ∙ fit.is_body in
        subst (IsPlacedSource core n) y.2 (f.first_node, body_tree core b.0 f n fit, (f, at, λ ann. body y.0 f y.1 kind at))
    | inr p ↦ let l = get_below core.nodes p.0 p.2.0 p.2.1 in let m = p.1 in absurd (omega (arith, l, m))
  ],
)

pub own_placed : (core : CoreData) (sources : List Source) (p : ℕ) (s : Source) → Formed core → Filled core sources (p + 1) → slice_get sources p ≡ Some s → IsPlacedSource core p s
own_placed core sources p s formed f e =
    let l = get_below sources p s e in
    let n = f.0 in
    f.1 p s e (known core p formed (omega (arith, l, n)))

pub part_start : (core : CoreData) (sources : List Source) (i : ℕ) (x : Node) → Filled core sources i → PartFilled core sources i x 0
part_start core sources i x f = (f.0, λ n s e k. elim k [ inl a ↦ f.1 n s e a | inr b ↦ let l = b.1 in absurd (omega (arith, l)) ])

pub part_step : (core : CoreData) (sources : List Source) (i : ℕ) (x : Node) (j c : ℕ) (s : Source) → PartFilled core sources i x j → slice_get x.children j ≡ Some c → IsPlacedSource core c s → PartFilled core (slice_set sources c s) i x (j + 1)
part_step core sources i x j c s f e h = (
  length-set sources c s ∙ f.0,
  λ n t g k. elim (get_set sources c s n t g) [
    | inl new ↦ subst (IsPlacedSource core n) (sym new.1) (subst (λ m. IsPlacedSource core m s) (sym new.0) h)
    | inr old ↦ elim k [
      | inl a ↦ f.1 n t old (inl a)
      | inr b ↦ elim (cases_lt b.0 j) [
        | inl below ↦ f.1 n t old (inr (b.0, below, b.2))
        | inr at ↦ let l = b.1 in
            let same : b.0 ≡ j = omega (arith, l, at) in
            let here : c ≡ n = same_Some c n (sym e ∙ ap (slice_get x.children) (sym same) ∙ b.2) in
            let within : c < length sources = subst (λ m. m < length sources) (sym here) (get_below sources n t old) in
            let is : s ≡ t = same_Some s t (sym (get_set_same sources c s within) ∙ ap (slice_get (slice_set sources c s)) here ∙ g) in
            subst (IsPlacedSource core n) is (subst (λ m. IsPlacedSource core m s) here h)
      ]
    ]
  ],
)

part_own : (core : CoreData) (p n : ℕ) (x : Node) → slice_get core.nodes p ≡ Some x → IsBodyOrChild core p n → IsBodyOrChild core (p + 1) n ⊎ ((k : ℕ) × (k < length x.children) × (slice_get x.children k ≡ Some n))
part_own core p n x g k =
    elim k [
      | inl b ↦ inl (inl b)
      | inr q ↦ elim (cases_lt p q.0) [
        | inl behind ↦ inl (inr (q.0, omega (arith, behind), q.2))
        | inr at ↦ let l = q.1 in
            let same : q.0 ≡ p = omega (arith, l, at) in
            let is : q.2.0 ≡ x = same_Some q.2.0 x (sym q.2.1 ∙ ap (slice_get core.nodes) same ∙ g) in
            let child : slice_get x.children q.2.2.0 ≡ Some n = subst (λ (z : Node). slice_get z.children q.2.2.0 ≡ Some n) is q.2.2.1 in
            inr (q.2.2.0, get_below x.children q.2.2.0 n child, child)
      ]
    ]

pub part_end : (core : CoreData) (sources : List Source) (p : ℕ) (x : Node) → slice_get core.nodes p ≡ Some x → PartFilled core sources (p + 1) x (length x.children) → Filled core sources p
part_end core sources p x g f = (f.0, λ n s e k. f.1 n s e (part_own core p n x g k))

pub part_whole : (core : CoreData) (sources : List Source) (p : ℕ) (x : Node) (j : ℕ) → slice_get core.nodes p ≡ Some x → length x.children ≤ j → PartFilled core sources (p + 1) x j → Filled core sources p
part_whole core sources p x j g l f = part_end core sources p x g (f.0, λ n s e k. f.1 n s e (elim k [ inl a ↦ inl a | inr b ↦ let m = b.1 in inr (b.0, omega (arith, l, m), b.2) ]))

pub filled_end : (core : CoreData) (sources : List Source) → Formed core → Filled core sources 0 → Sourced core sources
filled_end core sources formed f = (
  f.0,
  λ n s e. let l = get_below sources n s e in
      let c = f.0 in
      f.1 n s e (elim (known core n formed (omega (arith, l, c))) [ inl b ↦ inl b | inr p ↦ inr (p.0, omega arith, p.2) ]),
)

-- What the code has read.
pub node_there : (core : CoreData) (ns : List Node) (n : ℕ) (x : Node) → ns ≡ core.nodes → n < length core.nodes → x ≡ get_or ns n x → slice_get core.nodes n ≡ Some x
node_there core ns n x same l e = slice_get-get_or core.nodes n x l ∙ ap Some (ap (λ ms. get_or ms n x) (sym same) ∙ sym e)

pub child_within : (core : CoreData) (sources : List Source) (n : ℕ) (x : Node) (i c : ℕ) → Formed core → n < length core.nodes → length sources ≡ length core.nodes → slice_get core.nodes n ≡ Some x → slice_get x.children i ≡ Some c → c < length sources
child_within core sources n x i c formed l count g e = let below = children_before core n x formed g i c e in omega (arith, below, l, count)
