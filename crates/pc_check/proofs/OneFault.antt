-- A core has at most one fault.
use Rattle.std.specs.Prelude.{◌≡◌, ℕ, zero, suc, ◌+◌, ◌<◌, ◌≤◌, false, List, [], ◌∷◌, length, Some, slice_get, refl}
use Rattle.std.proofs.{Common.{inl, inr, ap, sym, subst, ◌∙◌, arith}, lemmas.Option.{same_Some, none-some}, lemmas.Bool.{cases_lt, cases_order}}
use Rattle.pc_base.proofs.{Gets.get_below, Bools.false_true}
use Rattle.pc_core.specs.{declared.declarations.Method.Method, declared.nodes.Node.Node, CoreData.CoreData, Formed.Formed}
use Rattle.pc_core.specs.declared.nodes.NodeKind.TheVariants as node
use Rattle.pc_ann.specs.{declared.annotation.Note.Note, declared.annotation.Ann.Ann}
use Rattle.pc_masks.specs.Masks.{first}
use Rattle.pc_valid.specs.{Words.{Masks, before, masks_after}, Valid.KeepsWritten}
use Rattle.pc_rules.specs.{Control.start_set, Rules.IsSaid, Checks.{FillsFields, StartsFrom, GoesWell, SaysNothing, StaysUnset, is_else}, Checks.StartsFrom.{body, first_child, else_branch, next_child}, Trees.{Tree, Forest, tree, empty, more, body_tree, tree_le}}
use Rattle.pc_core.proofs.Homes.{Home, home}
use Rattle.pc_rules.proofs.{Homes.{home_body, own_tree, children_of, children_before}, Agreeing.{Agree, node_step}, Derivations.{to_no_rule, to_unset, to_reached}}
use Rattle.pc_check.specs.Laws.{OneNode, OneConstructor, OneKindOfFault, PrefixesAgree}
use Rattle.pc_check.proofs.{Filling.{low_at, tree_at, low_le}, Parents.earlier_body, Agreement.{tree_one, reaches_same, nothing_yet, chosen, says_there}}

-- ---- a node has one parent

mutual
  tree_low : (core : CoreData) (low n k from : ℕ) → Tree core low n → Tree core from k → low ≤ k → k ≤ n → low ≤ from
  tree_low core low n k from (tree x g f) t l h =
      elim (cases_lt k n) [
        | inl below ↦ forest_low core low n k from x.children f t l below
        | inr at ↦ let e : k ≡ n = omega (arith, h, at) in
            let s = tree_one core low from n (tree x g f) (subst (Tree core from) e t) in
            omega (arith, s)
      ]

  forest_low : (core : CoreData) (low high k from : ℕ) (cs : List ℕ) → Forest core low high cs → Tree core from k → low ≤ k → k < high → low ≤ from
  forest_low core low high k from [] empty t l h = absurd (omega (arith, l, h))
  forest_low core low high k from (c ∷ cs) (more u f) t l h =
      elim (cases_lt k (c + 1)) [
        | inl inside ↦ tree_low core low c k from u t l (omega (arith, inside))
        | inr behind ↦ let m = forest_low core (c + 1) high k from cs f t behind h in let b = tree_le core low c u in omega (arith, m, b)
      ]

-- What comes after a root of a sequence of trees begins after it.
begins_behind : (core : CoreData) (low high n p from j : ℕ) (cs : List ℕ) → Forest core low high cs → slice_get cs j ≡ Some n → n < p → p < high → Tree core from p → n + 1 ≤ from
begins_behind core low high n p from j [] f e l h t = absurd (none-some n e)
begins_behind core low high n p from zero (c ∷ cs) (more u f) e l h t =
    let is : c ≡ n = same_Some c n e in
    let m = forest_low core (c + 1) high p from cs f t (omega (arith, is, l)) h in
    omega (arith, m, is)
begins_behind core low high n p from (suc j) (c ∷ cs) (more u f) e l h t = begins_behind core (c + 1) high n p from j cs f e l h t

-- A parent's tree begins at or before its child.
parent_low : (core : CoreData) (low p n i : ℕ) (x : Node) → slice_get core.nodes p ≡ Some x → Tree core low p → slice_get x.children i ≡ Some n → low ≤ n
parent_low core low p n i x g t e =
    let row = children_of core low p x g t in
    let l = low_le core low p i n x.children row e in
    let m = tree_le core (low_at low x.children i) n (tree_at core low p i n x.children row e) in
    omega (arith, l, m)

not_lower : (core : CoreData) (n p q i j : ℕ) (x y : Node) → Formed core → slice_get core.nodes p ≡ Some x → slice_get core.nodes q ≡ Some y → slice_get x.children i ≡ Some n → slice_get y.children j ≡ Some n → p < q → ⊥
not_lower core n p q i j x y formed g h e f l =
    let tp = own_tree core p formed (get_below core.nodes p x g) in
    let tq = own_tree core q formed (get_below core.nodes q y h) in
    let np = children_before core p x formed g i n e in
    let a = parent_low core tp.0 p n i x g tp.1 e in
    let b = begins_behind core tq.0 q n p tp.0 j y.children (children_of core tq.0 q y h tq.1) f np l tp.1 in
    omega (arith, a, b)

one_parent : (core : CoreData) (n p q i j : ℕ) (x y : Node) → Formed core → slice_get core.nodes p ≡ Some x → slice_get core.nodes q ≡ Some y → slice_get x.children i ≡ Some n → slice_get y.children j ≡ Some n → p ≡ q
one_parent core n p q i j x y formed g h e f =
    elim (cases_order p q) [
      | inl same ↦ same
      | inr other ↦ elim other [ inl l ↦ absurd (not_lower core n p q i j x y formed g h e f l) | inr l ↦ absurd (not_lower core n q p j i y x formed h g f e l) ]
    ]

one_place : (core : CoreData) (low high n i j : ℕ) (cs : List ℕ) → Forest core low high cs → slice_get cs i ≡ Some n → slice_get cs j ≡ Some n → i ≡ j
one_place core low high n i j [] f e h = absurd (none-some n e)
one_place core low high n zero zero (c ∷ cs) f e h = refl
one_place core low high n zero (suc j) (c ∷ cs) (more t f) e h =
    let is = same_Some c n e in
    let l = low_le core (c + 1) high j n cs f h in
    let m = tree_le core (low_at (c + 1) cs j) n (tree_at core (c + 1) high j n cs f h) in
    absurd (omega (arith, is, l, m))
one_place core low high n (suc i) zero (c ∷ cs) (more t f) e h =
    let is = same_Some c n h in
    let l = low_le core (c + 1) high i n cs f e in
    let m = tree_le core (low_at (c + 1) cs i) n (tree_at core (c + 1) high i n cs f e) in
    absurd (omega (arith, is, l, m))
one_place core low high n (suc i) (suc j) (c ∷ cs) (more t f) e h = ap suc (one_place core (c + 1) high n i j cs f e h)

-- A child of one node at one place.
record Twice (core : CoreData) (p q i j : ℕ) (x y : Node) : Type 0 where
  parent : p ≡ q
  at : x ≡ y
  place : i ≡ j

once : (core : CoreData) (n p q i j : ℕ) (x y : Node) → Formed core → slice_get core.nodes p ≡ Some x → slice_get core.nodes q ≡ Some y → slice_get x.children i ≡ Some n → slice_get y.children j ≡ Some n → Twice core p q i j x y
once core n p q i j x y formed g h e f =
    let same = one_parent core n p q i j x y formed g h e f in
    let is : x ≡ y = same_Some x y (sym g ∙ ap (slice_get core.nodes) same ∙ h) in
    let t = own_tree core p formed (get_below core.nodes p x g) in
    record {
      parent = same;
      at = is;
      place = one_place core t.0 p n i j x.children (children_of core t.0 p x g t.1) e (ap (λ (z : Node). slice_get z.children j) is ∙ f);
    }

-- A body is not a child.
body_alone : (core : CoreData) (n p i : ℕ) (x y : Node) → Formed core → slice_get core.nodes n ≡ Some x → x.kind ≡ node.Body → slice_get core.nodes p ≡ Some y → slice_get y.children i ≡ Some n → ⊥
body_alone core n p i x y formed g k h e =
    let m = home core p formed (get_below core.nodes p y h) in
    let t = own_tree core p formed (get_below core.nodes p y h) in
    let low = tree_low core m.method.first_node m.body p t.0 (body_tree core m.number m.method m.body m.fits) t.1 m.from m.to in
    let l = parent_low core t.0 p n i y h t.1 e in
    let b = children_before core p y formed h i n e in
    let to = m.to in
    let own : Home core n = record { number = m.number; method = m.method; is_method = m.is_method; body = m.body; is_body = m.is_body; fits = m.fits; from = omega (arith, low, l); to = omega (arith, b, to) } in
    let at = home_body core n x own g k in
    omega (arith, at, b, to)

-- ---- only one pair of masks reaches a node

same_note : (b : Ann) (c d : ℕ) (t u : Note) → c ≡ d → slice_get b.notes c ≡ Some t → slice_get b.notes d ≡ Some u
    → masks_after t ≡ masks_after u
same_note b c d t u e h k = ap masks_after (same_Some t u (sym h ∙ ap (slice_get b.notes) e ∙ k))

not_first : {i : ℕ} → 0 ≡ suc i → ⊥
not_first {i} e = omega (arith, e)

-- The masks after an earlier child, from its place on.
abbrev starts_of_in : CoreData → Method → Masks
starts_of_in core f = (first (1 + length f.params), start_set core f)

module _ (core : CoreData) (b : Ann) (formed : Formed core) where
  else_one : (n p c : ℕ) (x : Node) (t : Note) (m : Masks) → slice_get core.nodes p ≡ Some x → x.kind ≡ node.If → slice_get x.children 2 ≡ Some n → slice_get x.children 0 ≡ Some c → slice_get b.notes c ≡ Some t → StartsFrom core b n m → masks_after t ≡ m
  else_one n p c x t m g k e f i (body y h u w v) = absurd (body_alone core n p 2 y x formed u w g e)
  else_one n p c x t m g k e f i (first_child q y h w r) = let o = once core n q p 0 2 y x formed h g w e in absurd (not_first o.place)
  else_one n p c x t m g k e f i (else_branch q d y u h w v z s) = let o = once core n p q 2 2 x y formed g h e v in same_note b c d t u (same_Some c d (sym f ∙ ap (λ (a : Node). slice_get a.children 0) o.at ∙ z)) i s
  else_one n p c x t m g k e f i (next_child q d j y u h w v z s) =
      let o = once core n p q 2 (suc j) x y formed g h e v in
      absurd (false_true (sym w ∙ ap (is_else y.kind) (sym o.place) ∙ ap (λ a. is_else a 2) (ap (λ (a : Node). a.kind) (sym o.at) ∙ k)))

  next_one : (n p c i : ℕ) (x : Node) (t : Note) (m : Masks) → slice_get core.nodes p ≡ Some x → is_else x.kind (suc i) ≡ false → slice_get x.children (suc i) ≡ Some n → slice_get x.children i ≡ Some c → slice_get b.notes c ≡ Some t → StartsFrom core b n m → masks_after t ≡ m
  next_one n p c i x t m g k e f s (body y h u w v) = absurd (body_alone core n p (suc i) y x formed u w g e)
  next_one n p c i x t m g k e f s (first_child q y h w r) = let o = once core n q p 0 (suc i) y x formed h g w e in absurd (not_first o.place)
  next_one n p c i x t m g k e f s (else_branch q d y u h w v z a) =
      let o = once core n p q (suc i) 2 x y formed g h e v in
      absurd (false_true (sym k ∙ ap (is_else x.kind) o.place ∙ ap (λ z. is_else z 2) (ap (λ (z : Node). z.kind) o.at ∙ w)))
  next_one n p c i x t m g k e f s (next_child q d j y u h w v z a) =
      let o = once core n p q (suc i) (suc j) x y formed g h e v in
      let l = o.place in
      let same : i ≡ j = omega (arith, l) in
      same_note b c d t u (same_Some c d (sym f ∙ ap (λ (z : Node). slice_get z.children i) o.at ∙ ap (slice_get y.children) same ∙ z)) s a

  pub body_one : (n : ℕ) (x : Node) (f : Method) (m : Masks) → slice_get core.nodes n ≡ Some x → x.kind ≡ node.Body → slice_get core.methods x.method ≡ Some f → StartsFrom core b n m → ◌≡◌ {A = Masks} (first (1 + length f.params), start_set core f) m
  body_one n x f m g k e (body y h u w v) =
      let is : x ≡ y = same_Some x y (sym g ∙ u) in
      let own : f ≡ h = same_Some f h (sym e ∙ ap (λ (z : Node). slice_get core.methods z.method) is ∙ v) in
      ap (starts_of_in core) own
  body_one n x f m g k e (first_child q y h w r) = absurd (body_alone core n q 0 x y formed g k h w)
  body_one n x f m g k e (else_branch q d y u h w v z s) = absurd (body_alone core n q 2 x y formed g k h v)
  body_one n x f m g k e (next_child q d j y u h w v z s) = absurd (body_alone core n q (suc j) x y formed g k h v)

  -- What reaches a first child reaches its parent.
  up : (n p : ℕ) (x : Node) (m : Masks) → slice_get core.nodes p ≡ Some x → slice_get x.children 0 ≡ Some n → StartsFrom core b n m → StartsFrom core b p m
  up n p x m g e (body y h u w v) = absurd (body_alone core n p 0 y x formed u w g e)
  up n p x m g e (first_child q y h w r) = let o = once core n q p 0 0 y x formed h g w e in subst (λ k. StartsFrom core b k m) o.parent r
  up n p x m g e (else_branch q d y u h w v z s) = let o = once core n p q 0 2 x y formed g h e v in absurd (not_first o.place)
  up n p x m g e (next_child q d j y u h w v z s) = let o = once core n p q 0 (suc j) x y formed g h e v in absurd (not_first o.place)

  pub reaches_one : (n : ℕ) (m k : Masks) → StartsFrom core b n m → StartsFrom core b n k → m ≡ k
  reaches_one n m k (body x f g c e) r = body_one n x f k g c e r
  reaches_one n m k (first_child p x g e r) s = reaches_one p m k r (up n p x k g e s)
  reaches_one n m k (else_branch p c x t g d e f i) r = else_one n p c x t k g d e f i r
  reaches_one n m k (next_child p c i x t g d e f j) r = next_one n p c i x t k g d e f j r

-- ---- two partial annotations up to a node

module _ (core : CoreData) (a b : Ann) (formed : Formed core) (wa : KeepsWritten core a) (wb : KeepsWritten core b) where
  pub carried : (n : ℕ) (x : Node) (m : Masks) → Agree core a b n → slice_get core.nodes n ≡ Some x → StartsFrom core a n m → StartsFrom core b n m
  carried n x m same g r =
      let own = own_tree core n formed (get_below core.nodes n x g) in
      let low = tree_le core own.0 n own.1 in
      reaches_same core a b n m own.0 formed own.1 (λ c l. same.notes c (omega (arith, l, low))) r

  pub agree_both : (n : ℕ) → ((k : ℕ) → k < n → GoesWell core a k) → ((k : ℕ) → k < n → GoesWell core b k) → Agree core a b n
  agree_both zero h k = nothing_yet core a b
  agree_both (suc n) h k =
      let same = agree_both n (λ i l. h i (omega (arith, l))) (λ i l. k i (omega (arith, l))) in
      let r = h n (omega arith) in
      let s = k n (omega arith) in
      let is : s.0 ≡ r.0 = same_Some s.0 r.0 (sym s.2 ∙ r.2) in
      let meets = subst (λ (z : Node). IsSaid core b z s.1) is s.4 in
      let start = reaches_one core b formed n (before r.1) (before s.1) (carried n r.0 (before r.1) same r.2 r.5) s.5 in
      let e : n + 1 ≡ suc n = omega arith in
      subst (Agree core a b) e (node_step core a b formed wa wb n r.0 r.1 s.1 r.2 (children_before core n r.0 formed r.2) same r.3 s.3 r.4 meets start)

-- A node without a rule in one has no note that satisfies a rule in the other.
no_note : (core : CoreData) (a b : Ann) (n : ℕ) → Formed core → SaysNothing core a n → length b.slots ≡ length core.slots → KeepsWritten core b → ((k : ℕ) → k ≤ n → GoesWell core b k) → ⊥
no_note core a b n formed w sb wb h =
    let same = agree_both core a b formed w.written wb n w.before (λ k l. h k (omega (arith, l))) in
    let s = h n (omega arith) in
    let is : s.0 ≡ w.at = same_Some s.0 w.at (sym s.2 ∙ w.is_at) in
    let meets = subst (λ (z : Node). IsSaid core b z s.1) is s.4 in
    let start = reaches_one core b formed n (before s.1) w.masks s.5 (carried core a b formed w.written wb n w.at w.masks same w.is_at w.reaches) in
    let c = chosen core b formed wb sb a w.written n w.at w.at.kind w.slots same w.is_at refl in
    none-some _ (sym (w.none s.1.rule c.0 c.1) ∙ says_there core b formed wb sb a w.written n w.at w.masks s.1 same w.is_at meets start c)

node_alike : (core : CoreData) (a b : Ann) (n k : ℕ) → Formed core → SaysNothing core a n → SaysNothing core b k → n ≡ k
node_alike core a b n k formed w v =
    elim (cases_order n k) [
      | inl same ↦ same
      | inr other ↦ elim other [
        | inl l ↦ absurd (no_note core a b n formed w v.slots v.written (λ i m. v.before i (omega (arith, l, m))))
        | inr l ↦ absurd (no_note core b a k formed v w.slots w.written (λ i m. w.before i (omega (arith, l, m))))
      ]
    ]

pub one_node : OneNode
one_node core a b n k formed w v = node_alike core a b n k formed (to_no_rule core formed a n w) (to_no_rule core formed b k v)

-- A constructor that leaves a field unset in one does not set them all in the other.
not_set : (core : CoreData) (a b : Ann) (m : ℕ) → Formed core → (w : StaysUnset core a m) → KeepsWritten core b → ((k : ℕ) → k ≤ w.body → GoesWell core b k) → FillsFields core b w.method → ⊥
not_set core a b m formed w wb h sets =
    let same = agree_both core a b formed w.written wb (w.body + 1) (λ k l. w.before k (omega (arith, l))) (λ k l. h k (omega (arith, l))) in
    let there : slice_get b.notes w.body ≡ Some w.note = sym (same.notes w.body (omega arith)) ∙ w.is_note in
    false_true (sym w.lacks ∙ sets w.constructor w.body w.note w.is_body there)

earlier : (core : CoreData) (a b : Ann) (m k : ℕ) → Formed core → StaysUnset core a m → StaysUnset core b k → m < k → ⊥
earlier core a b m k formed w v l =
    let e = earlier_body core m k w.body v.body w.method v.method formed l w.is_method v.is_method w.is_body v.is_body in
    not_set core a b m formed w v.written (λ i h. v.before i (omega (arith, h, e))) (v.sets m w.method w.is_method l)

constructor_alike : (core : CoreData) (a b : Ann) (m k : ℕ) → Formed core → StaysUnset core a m → StaysUnset core b k → m ≡ k
constructor_alike core a b m k formed w v =
    elim (cases_order m k) [
      | inl same ↦ same
      | inr other ↦ elim other [ inl l ↦ absurd (earlier core a b m k formed w v l) | inr l ↦ absurd (earlier core b a k m formed v w l) ]
    ]

pub one_constructor : OneConstructor
one_constructor core a b m k formed w v = constructor_alike core a b m k formed (to_unset core formed a m w) (to_unset core formed b k v)

not_both : (core : CoreData) (a b : Ann) (n m : ℕ) → Formed core → SaysNothing core a n → StaysUnset core b m → ⊥
not_both core a b n m formed w v =
    elim (cases_lt v.body n) [
      | inl below ↦ not_set core b a m formed v w.written (λ k l. w.before k (omega (arith, l, below))) (w.sets m v.method v.is_method (λ c e. let is = same_Some v.body c (sym v.is_body ∙ e) in omega (arith, is, below)))
      | inr at ↦ no_note core a b n formed w v.slots v.written (λ k l. v.before k (omega (arith, l, at)))
    ]

pub one_kind : OneKindOfFault
one_kind core a b n m formed w v = not_both core a b n m formed (to_no_rule core formed a n w) (to_unset core formed b m v)

pub prefixes_same : PrefixesAgree
prefixes_same core a b n k formed wa wb h i l =
    (agree_both core a b formed wa wb n (λ j m. to_reached core formed a j (h j m)) (λ j m. to_reached core formed b j (i j m))).notes k l
