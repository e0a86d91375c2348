-- In post-order a node is the child of at most one other.
use Rattle.std.proofs.{Common.{◌≡◌, ℕ, zero, suc, ◌+◌, ◌<◌, ◌≤◌, List, [], ◌∷◌, ◌++◌, length, Some, refl, sym, ap, ◌∙◌, arith, inl, inr}, lemmas.Option.{same_Some, none-some}}
use Rattle.std.specs.Prelude.{slice_get}
use Rattle.pc_base.proofs.{Gets.{get_front, get_below, get_push, get_append}, Elements.below_next}
use Rattle.pc_core.specs.{declared.nodes.Node.Node, Methods.PostOrder}
use Rattle.pc_base.specs.Lists.{Each, Has, Differ}

-- The nodes without a parent before a node.
waited : (waiting rest : List ℕ) (x y : Node) (c : ℕ) → waiting ≡ rest ++ x.children → x ≡ y → Has y.children c → (k : ℕ) × (slice_get waiting (length rest + k) ≡ Some c)
waited waiting rest x y c e s h = (h.0, ap (λ ws. slice_get ws (length rest + h.0)) e ∙ get_append rest x.children h.0 ∙ ap (λ (z : Node). slice_get z.children h.0) s ∙ h.1)

kept : (waiting rest children : List ℕ) (k c : ℕ) → waiting ≡ rest ++ children → slice_get rest k ≡ Some c → slice_get waiting k ≡ Some c
kept waiting rest children k c e h = ap (λ ws. slice_get ws k) e ∙ get_front rest children k c h

-- A node that has a parent already and comes before these nodes is a child of none of them.
gone : (n : ℕ) (xs : List Node) (waiting last : List ℕ) → PostOrder n xs waiting last → (c : ℕ) → c < n → (Has waiting c → ⊥) → (i : ℕ) (y : Node) → slice_get xs i ≡ Some y → Has y.children c → ⊥
gone n [] waiting last p c l absent i y e h = none-some y e
gone n (x ∷ xs) waiting last p c l absent zero y e h =
    let w = waited waiting p.0 x y c p.1 (same_Some x y e) h in
    absent (length p.0 + w.0, w.1)
gone n (x ∷ xs) waiting last p c l absent (suc i) y e h =
    let low : c < n + 1 = omega (arith, l) in
    gone (n + 1) xs (p.0 ++ n ∷ []) last p.2 c low (λ g. elim (get_push p.0 n g.0 c g.1) [
      | inl a ↦ absent (g.0, kept waiting p.0 x.children g.0 c p.1 a)
      | inr b ↦ let s = b.1 in absurd (omega (arith, s, l))
    ]) i y e h

differ_next : (n : ℕ) (rest : List ℕ) → Each (λ i c. c < n) rest → Differ rest → Differ (rest ++ n ∷ [])
differ_next n rest b d i j c g h = elim (get_push rest n i c g) [
  | inl a ↦ elim (get_push rest n j c h) [
    | inl e ↦ d i j c a e
    | inr e ↦ let l = b i c a in let s = e.1 in absurd (omega (arith, l, s))
  ]
  | inr a ↦ elim (get_push rest n j c h) [
    | inl e ↦ let l = b j c e in let s = a.1 in absurd (omega (arith, l, s))
    | inr e ↦ a.0 ∙ sym e.0
  ]
]

-- Children of the first of these nodes are children of no later one.
later_none : (n : ℕ) (x : Node) (xs : List Node) (waiting last : List ℕ) → PostOrder n (x ∷ xs) waiting last → Differ waiting → Each (λ i c. c < n) waiting → (y z : Node) (j c : ℕ) → x ≡ y → slice_get xs j ≡ Some z → Has y.children c → Has z.children c → ⊥
later_none n x xs waiting last p d b y z j c s e g h =
    let w = waited waiting p.0 x y c p.1 s g in
    let l : c < n = b (length p.0 + w.0) c w.1 in
    let low : c < n + 1 = omega (arith, l) in
    gone (n + 1) xs (p.0 ++ n ∷ []) last p.2 c low (λ k. elim (get_push p.0 n k.0 c k.1) [
      | inl a ↦
          let same : k.0 ≡ length p.0 + w.0 = d k.0 (length p.0 + w.0) c (kept waiting p.0 x.children k.0 c p.1 a) w.1 in
          let high = get_below p.0 k.0 c a in
          absurd (omega (arith, same, high))
      | inr r ↦ let t = r.1 in absurd (omega (arith, t, l))
    ]) j z e h

pub one_parent : (n : ℕ) (xs : List Node) (waiting last : List ℕ) → PostOrder n xs waiting last → Differ waiting → Each (λ i c. c < n) waiting → (i j : ℕ) (y z : Node) (c : ℕ) → slice_get xs i ≡ Some y → slice_get xs j ≡ Some z → Has y.children c → Has z.children c → i ≡ j
one_parent n [] waiting last p d b i j y z c e f g h = absurd (none-some y e)
one_parent n (x ∷ xs) waiting last p d b zero zero y z c e f g h = refl
one_parent n (x ∷ xs) waiting last p d b zero (suc j) y z c e f g h = absurd (later_none n x xs waiting last p d b y z j c (same_Some x y e) f g h)
one_parent n (x ∷ xs) waiting last p d b (suc i) zero y z c e f g h = absurd (later_none n x xs waiting last p d b z y i c (same_Some x z f) e h g)
one_parent n (x ∷ xs) waiting last p d b (suc i) (suc j) y z c e f g h =
    let front : Each (λ k v. v < n) p.0 = λ k v r. b k v (kept waiting p.0 x.children k v p.1 r) in
    let apart : Differ p.0 = λ k m v r t. d k m v (kept waiting p.0 x.children k v p.1 r) (kept waiting p.0 x.children m v p.1 t) in
    ap suc (one_parent (n + 1) xs (p.0 ++ n ∷ []) last p.2 (differ_next n p.0 front apart) (below_next n p.0 front) i j y z c e f g h)

-- Children are no lower than the nodes without a parent, and than the first node.
pub children_above : (low n : ℕ) (xs : List Node) (waiting last : List ℕ) → PostOrder n xs waiting last → low ≤ n → Each (λ i c. low ≤ c) waiting → (i : ℕ) (y : Node) (c : ℕ) → slice_get xs i ≡ Some y → Has y.children c → low ≤ c
children_above low n [] waiting last p l b i y c e h = absurd (none-some y e)
children_above low n (x ∷ xs) waiting last p l b zero y c e h =
    let w = waited waiting p.0 x y c p.1 (same_Some x y e) h in
    b (length p.0 + w.0) c w.1
children_above low n (x ∷ xs) waiting last p l b (suc i) y c e h =
    children_above low (n + 1) xs (p.0 ++ n ∷ []) last p.2 (omega (arith, l)) (λ k v g. elim (get_push p.0 n k v g) [
      | inl a ↦ b k v (kept waiting p.0 x.children k v p.1 a)
      | inr r ↦ let s = r.1 in omega (arith, s, l)
    ]) i y c e h
