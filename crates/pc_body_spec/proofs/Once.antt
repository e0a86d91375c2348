-- Each local of a body is defined by exactly one of its nodes.
use Rattle.std.proofs.{Common.{◌≡◌, ℕ, zero, suc, ◌+◌, ◌-◌, ◌<◌, ◌≤◌, length, List, [], ◌∷◌, ◌++◌, Option, Some, None, Bool, true, false, refl, sym, ap, ◌∙◌, subst, inl, inr, arith}, lemmas.Option.{same_Some, none-some}, lemmas.Bool.{eq-eqb, and_from}, lemmas.Bool.Decides.eqb_tells}
use Rattle.std.specs.Prelude.{slice_get, nat_eq, ◌⊎◌, ◌&&◌}
use Rattle.pc_base.specs.{declared.span.Span.Span, Counts.one_if}
use Rattle.pc_tree.specs.declared.written_names.Name.{Name}
use Rattle.pc_tree.specs.Tree as t
use Rattle.pc_core.specs.{declared.nodes.Node.Node, declared.nodes.NodeKind.NodeKind}
use Rattle.pc_core.specs.declared.nodes.NodeKind.TheVariants as node
use Rattle.pc_base.proofs.{Gets.{append_get, get_append}, Bools.true_false}
use Rattle.pc_body_spec.specs.{Bodies.{Rose, Roses, rose, more, no_roses, one, and_last, node_of, roses_of_items, added_none, initials_then, initial_fields, gives_none, none_last, body_with, added_body, Context, slot_at, params_scope}, Parts.{initial_of, maybe_body, value_faults, written_body_faults, value_locals, body_locals}, Fold.{and_then, put, puts, push}, Faults.initial_faults, Slots.{Local, initial_locals, method_locals, placed_from}, Places.{body_places, initial_places, local_start}, Counts.{kind_times, times, times_all, local_times, has_slot, has_place}, Laws.{IsDefinedOnce, LocalsAreDefinedOnce, AddedLocalsAreDefinedOnce, WasPut}}
use Rattle.pc_body_spec.proofs.{Meanings.{left_none, right_none}, Counts.{join_n, last_n, sequence_n, expr_n, items_n}, PostOrders.{Parts, parts, Pushed, pushed, post}, Nodes.beyond, Places.{Rising, rising, method_in, initials_in, slot_is}}

-- ---- how often a body defines a slot

module _ (c : Context) (z : ℕ → ℕ → Bool) where
  initial_n : (n : Name) (v : Option t.Expr) (rest : Roses) → value_faults c v ≡ [] → times_all z (initial_of c n v rest) ≡ local_times c z (value_locals v) + times_all z rest
  initial_n n None rest f = omega arith
  initial_n n (Some e) rest f = let h = expr_n c z [] 0 e f in omega (arith, h)

  initials_n : (fs : List t.Field) (rest : Roses) → initial_faults c fs ≡ [] → times_all z (initials_then c fs rest) ≡ local_times c z (initial_locals fs) + times_all z rest
  initials_n [] rest f = omega arith
  initials_n (x ∷ fs) rest f =
      let first = initial_n x.name x.value (initials_then c fs rest) (left_none (value_faults c x.value) (initial_faults c fs) f) in
      let last = initials_n fs rest (right_none (value_faults c x.value) (initial_faults c fs) f) in
      let sum = join_n c z (value_locals x.value) (initial_locals fs) in
      omega (arith, first, last, sum)

  none_n : (b : Bool) (s : Span) (rs : Roses) → times_all z (none_last b s rs) ≡ times_all z rs
  none_n true s rs = let h : times_all z (and_last rs (added_none s 0)) ≡ times_all z rs + 0 = last_n c z rs (added_none s 0) in omega (arith, h)
  none_n false s rs = refl

  body_n : (fs : List t.Field) (x : t.Method) (b : t.Seq) → initial_faults c (initial_fields x.word fs) ≡ [] → written_body_faults c (params_scope x.params) (Some b) ≡ [] → times z (body_with c fs x b) ≡ local_times c z (initial_locals (initial_fields x.word fs) ++ body_locals (Some b))
  body_n fs x (t.seq is s) f g =
      let sc = params_scope x.params in
      let last = none_last (gives_none x.word x.result) x.name.span (roses_of_items c sc 0 is) in
      let all = sequence_n c z s 0 (initials_then c (initial_fields x.word fs) last) in
      let first = initials_n (initial_fields x.word fs) last f in
      let none = none_n (gives_none x.word x.result) x.name.span (roses_of_items c sc 0 is) in
      let items = items_n c z sc 0 is g in
      let sum = join_n c z (initial_locals (initial_fields x.word fs)) (body_locals (Some (t.seq is s))) in
      omega (arith, all, first, none, items, sum)

  pub maybe_n : (fs : List t.Field) (x : t.Method) (o : Option t.Seq) (r : Rose) → initial_faults c (initial_fields x.word fs) ≡ [] → written_body_faults c (params_scope x.params) o ≡ [] → maybe_body c fs x o ≡ Some r → times z r ≡ local_times c z (initial_locals (initial_fields x.word fs) ++ body_locals o)
  maybe_n fs x None r f g e = absurd (none-some r e)
  maybe_n fs x (Some b) r f g e = ap (times z) (sym (same_Some _ _ e)) ∙ body_n fs x b f g

  pub added_n : (fs : List t.Field) (s : Span) → initial_faults c fs ≡ [] → times z (added_body c fs s) ≡ local_times c z (initial_locals fs)
  added_n fs s f =
      let all = sequence_n c z s 0 (initials_then c fs (one (added_none s 0))) in
      let first : times_all z (initials_then c fs (one (added_none s 0))) ≡ local_times c z (initial_locals fs) + 0 = initials_n fs (one (added_none s 0)) f in
      omega (arith, all, first)

-- ---- how often nodes define it

abbrev pub node_times : (ℕ → ℕ → Bool) → List Node → ℕ
node_times z [] = 0
node_times z (x ∷ xs) = kind_times z x.kind x.depth + node_times z xs

pub node_join : (z : ℕ → ℕ → Bool) (xs ys : List Node) → node_times z (xs ++ ys) ≡ node_times z xs + node_times z ys
node_join z [] ys = omega arith
node_join z (x ∷ xs) ys = let h = node_join z xs ys in omega (arith, h)

mutual
  pub put_n : (z : ℕ → ℕ → Bool) (m : ℕ) (r : Rose) (n : ℕ) (before after : List Node) → put m r before ≡ Some (n, after) → node_times z after ≡ node_times z before + times z r
  put_n z m (rose k s d rs) n before after h =
      let p : Parts (puts m rs before) (push m k s d) (n, after) = parts (puts m rs before) (push m k s d) (n, after) h in
      let q : Pushed m k s d p.fst p.mid n after = pushed m k s d p.fst p.mid n after p.second in
      let inside : node_times z p.mid ≡ node_times z before + times_all z rs = puts_n z m rs p.fst before p.mid p.first in
      let whole : node_times z after ≡ node_times z p.mid + (kind_times z k d + 0) = ap (node_times z) q.nodes ∙ node_join z p.mid (node_of m k s d p.fst ∷ []) in
      omega (arith, inside, whole)

  puts_n : (z : ℕ → ℕ → Bool) (m : ℕ) (rs : Roses) (ks : List ℕ) (before after : List Node) → puts m rs before ≡ Some (ks, after) → node_times z after ≡ node_times z before + times_all z rs
  puts_n z m no_roses ks before after h =
      let e : node_times z before ≡ node_times z after = ap (λ r. node_times z r.1) (same_Some _ _ h) in
      omega (arith, e)
  puts_n z m (more r rs) ks before after h =
      let p = parts (put m r before) (λ a. λ ns. and_then (puts m rs ns) (λ b. λ ns. Some (a ∷ b, ns))) (ks, after) h in
      let q = parts (puts m rs p.mid) (λ b. λ ns. Some (p.fst ∷ b, ns)) (ks, after) p.second in
      let first : node_times z p.mid ≡ node_times z before + times z r = put_n z m r p.fst before p.mid p.first in
      let rest : node_times z q.mid ≡ node_times z p.mid + times_all z rs = puts_n z m rs q.fst p.mid q.mid q.first in
      let e : node_times z q.mid ≡ node_times z after = ap (λ r. node_times z r.1) (same_Some _ _ q.second) in
      omega (arith, first, rest, e)

-- ---- once

abbrev IsDefine : NodeKind → Type 0
IsDefine (node.Define n) = Unit {0}
IsDefine k = ⊥

abbrev slot_in : NodeKind → ℕ
slot_in (node.Define n) = n
slot_in k = 0

abbrev Tells : ℕ → NodeKind → ℕ → Type 0
Tells z k d = ((k ≡ node.Define z) × (kind_times (has_slot z) k d ≡ 1)) ⊎ ((k ≡ node.Define z → ⊥) × (kind_times (has_slot z) k d ≡ 0))

tells : (z : ℕ) (k : NodeKind) (d : ℕ) → Tells z k d
tells z (node.Define n) d = elim (eqb_tells n z) [
  | inl p ↦ inl (ap node.Define p.1, ap one_if p.0)
  | inr p ↦ inr (λ e. p.1 (ap slot_in e), ap one_if p.0)
]
tells z k d = inr (λ e. subst IsDefine (sym e) tt, refl)

-- None of these nodes defines it.
never : (z : ℕ) (xs : List Node) → node_times (has_slot z) xs ≡ 0 → (k : ℕ) (w : Node) → slice_get xs k ≡ Some w → w.kind ≡ node.Define z → ⊥
never z [] e k w g d = none-some w g
never z (x ∷ xs) e zero w g d = elim (tells z x.kind x.depth) [
  | inl p ↦ let h = p.1 in absurd (omega (arith, e, h))
  | inr p ↦ p.0 (ap (λ (y : Node). y.kind) (same_Some x w g) ∙ d)
]
never z (x ∷ xs) e (suc k) w g d = let h : node_times (has_slot z) xs ≡ 0 = omega (arith, e) in never z xs h k w g d

record Once (z : ℕ) (xs : List Node) : Type 0 where
  define : ℕ
  definition : Node
  is_definition : slice_get xs define ≡ Some definition
  defines : definition.kind ≡ node.Define z
  only : (k : ℕ) (w : Node) → slice_get xs k ≡ Some w → w.kind ≡ node.Define z → k ≡ define

first_one : (z : ℕ) (x : Node) (xs : List Node) → x.kind ≡ node.Define z → node_times (has_slot z) xs ≡ 0 → (k : ℕ) (w : Node) → slice_get (x ∷ xs) k ≡ Some w → w.kind ≡ node.Define z → k ≡ 0
first_one z x xs is e zero w g d = refl
first_one z x xs is e (suc k) w g d = absurd (never z xs e k w g d)

later_one : (z : ℕ) (x : Node) (xs : List Node) (o : Once z xs) → (x.kind ≡ node.Define z → ⊥) → (k : ℕ) (w : Node) → slice_get (x ∷ xs) k ≡ Some w → w.kind ≡ node.Define z → k ≡ suc o.define
later_one z x xs o other zero w g d = absurd (other (ap (λ (y : Node). y.kind) (same_Some x w g) ∙ d))
later_one z x xs o other (suc k) w g d = ap suc (o.only k w g d)

once : (z : ℕ) (xs : List Node) → node_times (has_slot z) xs ≡ 1 → Once z xs
once z [] e = absurd (omega (arith, e))
once z (x ∷ xs) e = elim (tells z x.kind x.depth) [
  | inl p ↦
      let h = p.1 in
      let rest : node_times (has_slot z) xs ≡ 0 = omega (arith, e, h) in
      record { define = 0; definition = x; is_definition = refl; defines = p.0; only = first_one z x xs p.0 rest }
  | inr p ↦
      let h = p.1 in
      let rest : node_times (has_slot z) xs ≡ 1 = omega (arith, e, h) in
      let o : Once z xs = once z xs rest in
      record { define = suc o.define; definition = o.definition; is_definition = o.is_definition; defines = o.defines; only = later_one z x xs o p.0 }
]

-- A node that defines the slot at the depth.
record Somewhere (z e : ℕ) (xs : List Node) : Type 0 where
  place : ℕ
  definition : Node
  is_definition : slice_get xs place ≡ Some definition
  defines : definition.kind ≡ node.Define z
  deep : definition.depth ≡ e

and_false : (a b : Bool) → b ≡ false → (a && b) ≡ false
and_false true b h = h
and_false false b h = refl

false_and : (a b : Bool) → a ≡ false → (a && b) ≡ false
false_and false b h = refl
false_and true b h = absurd (true_false h)

abbrev Says : ℕ → ℕ → NodeKind → ℕ → Type 0
Says z e k d = ((k ≡ node.Define z) × (d ≡ e)) ⊎ (kind_times (has_place z e) k d ≡ 0)

says : (z e : ℕ) (k : NodeKind) (d : ℕ) → Says z e k d
says z e (node.Define n) d = elim (eqb_tells n z) [
  | inl p ↦ elim (eqb_tells d e) [
    | inl q ↦ inl (ap node.Define p.1, q.1)
    | inr q ↦ inr (ap one_if (and_false (nat_eq n z) (nat_eq d e) q.0))
  ]
  | inr p ↦ inr (ap one_if (false_and (nat_eq n z) (nat_eq d e) p.0))
]
says z e k d = inr refl

somewhere : (z e : ℕ) (xs : List Node) → 1 ≤ node_times (has_place z e) xs → Somewhere z e xs
somewhere z e [] h = absurd (omega (arith, h))
somewhere z e (x ∷ xs) h = elim (says z e x.kind x.depth) [
  | inl p ↦ record { place = 0; definition = x; is_definition = refl; defines = p.0; deep = p.1 }
  | inr p ↦
      let rest : 1 ≤ node_times (has_place z e) xs = omega (arith, h, p) in
      let o : Somewhere z e xs = somewhere z e xs rest in
      record { place = suc o.place; definition = o.definition; is_definition = o.is_definition; defines = o.defines; deep = o.deep }
]

-- ---- locals whose slots differ

equal_is : (a b : ℕ) → a ≡ b → one_if (nat_eq a b) ≡ 1
equal_is a b e = elim (eqb_tells a b) [ inl p ↦ ap one_if p.0 | inr p ↦ absurd (p.1 e) ]

other_is : (a b : ℕ) → (a ≡ b → ⊥) → one_if (nat_eq a b) ≡ 0
other_is a b n = elim (eqb_tells a b) [ inl p ↦ absurd (n p.1) | inr p ↦ ap one_if p.0 ]

-- The locals have the slots from this one on.
abbrev pub SlotsFrom : Context → ℕ → List Local → Type 0
SlotsFrom c at ls = (j : ℕ) (l : Local) → slice_get ls j ≡ Some l → slot_at c.slots (local_start l) ≡ at + j

pub next_slots : (c : Context) (at : ℕ) (x : Local) (xs : List Local) → SlotsFrom c at (x ∷ xs) → SlotsFrom c (suc at) xs
next_slots c at x xs f j l e = let h : slot_at c.slots (local_start l) ≡ at + suc j = f (suc j) l e in omega (arith, h)

none_has : (c : Context) (z at : ℕ) (ls : List Local) → z < at → SlotsFrom c at ls → local_times c (has_slot z) ls ≡ 0
none_has c z at [] low f = refl
none_has c z at (x ∷ xs) low f =
    let here : slot_at c.slots (local_start x) ≡ at + 0 = f 0 x refl in
    let first : one_if (nat_eq (slot_at c.slots (local_start x)) z) ≡ 0 = other_is (slot_at c.slots (local_start x)) z (λ e. absurd (omega (arith, e, here, low))) in
    let up : z < suc at = omega (arith, low) in
    let rest = none_has c z (suc at) xs up (next_slots c at x xs f) in
    omega (arith, first, rest)

one_has : (c : Context) (at : ℕ) (ls : List Local) → SlotsFrom c at ls → (i : ℕ) (l : Local) → slice_get ls i ≡ Some l → local_times c (has_slot (at + i)) ls ≡ 1
one_has c at [] f i l e = absurd (none-some l e)
one_has c at (x ∷ xs) f zero l e =
    let here : slot_at c.slots (local_start x) ≡ at + 0 = f 0 x refl in
    let first = equal_is (slot_at c.slots (local_start x)) (at + 0) here in
    let low : at + 0 < suc at = omega arith in
    let rest = none_has c (at + 0) (suc at) xs low (next_slots c at x xs f) in
    omega (arith, first, rest)
one_has c at (x ∷ xs) f (suc i) l e =
    let here : slot_at c.slots (local_start x) ≡ at + 0 = f 0 x refl in
    let first = other_is (slot_at c.slots (local_start x)) (at + suc i) (λ g. absurd (omega (arith, g, here))) in
    let same : suc at + i ≡ at + suc i = omega arith in
    let rest : local_times c (has_slot (at + suc i)) xs ≡ 1 = subst (λ k. local_times c (has_slot k) xs ≡ 1) same (one_has c (suc at) xs (next_slots c at x xs f) i l e) in
    omega (arith, first, rest)

some_has : (c : Context) (at : ℕ) (ls : List Local) → SlotsFrom c at ls → (i : ℕ) (l : Local) → slice_get ls i ≡ Some l → 1 ≤ local_times c (has_place (at + i) l.depth) ls
some_has c at [] f i l e = absurd (none-some l e)
some_has c at (x ∷ xs) f zero l e =
    let here : slot_at c.slots (local_start x) ≡ at + 0 = f 0 x refl in
    let same : x.depth ≡ l.depth = ap (λ (y : Local). y.depth) (same_Some x l e) in
    let first : one_if (has_place (at + 0) l.depth (slot_at c.slots (local_start x)) x.depth) ≡ 1 = ap one_if (and_from (nat_eq (slot_at c.slots (local_start x)) (at + 0)) (nat_eq x.depth l.depth) (eq-eqb (slot_at c.slots (local_start x)) (at + 0) here) (eq-eqb x.depth l.depth same)) in
    omega (arith, first)
some_has c at (x ∷ xs) f (suc i) l e =
    let same : suc at + i ≡ at + suc i = omega arith in
    let rest : 1 ≤ local_times c (has_place (at + suc i) l.depth) xs = subst (λ k. 1 ≤ local_times c (has_place k l.depth) xs) same (some_has c (suc at) xs (next_slots c at x xs f) i l e) in
    omega (arith, rest)

pub slots_from : (c : Context) (at : ℕ) (ls : List Local) → c.slots ≡ placed_from at ls → Rising local_start ls → SlotsFrom c at ls
slots_from c at ls same r j l e = ap (λ ps. slot_at ps (local_start l)) same ∙ slot_is at ls r j l e

-- ---- together

put_once : (z e m : ℕ) (r : Rose) (n : ℕ) (before after : List Node) → put m r before ≡ Some (n, after) → times (has_slot z) r ≡ 1 → 1 ≤ times (has_place z e) r → IsDefinedOnce z e before after
put_once z e m r n before after h one_ some_ =
    let stand : WasPut m n before after = post m r n before after h in
    let all : node_times (has_slot z) after ≡ node_times (has_slot z) before + times (has_slot z) r = put_n (has_slot z) m r n before after h in
    let split : node_times (has_slot z) after ≡ node_times (has_slot z) before + node_times (has_slot z) stand.own = ap (node_times (has_slot z)) stand.behind ∙ node_join (has_slot z) before stand.own in
    let own : node_times (has_slot z) stand.own ≡ 1 = omega (arith, all, split, one_) in
    let deep_all : node_times (has_place z e) after ≡ node_times (has_place z e) before + times (has_place z e) r = put_n (has_place z e) m r n before after h in
    let deep_split : node_times (has_place z e) after ≡ node_times (has_place z e) before + node_times (has_place z e) stand.own = ap (node_times (has_place z e)) stand.behind ∙ node_join (has_place z e) before stand.own in
    let deep_own : 1 ≤ node_times (has_place z e) stand.own = omega (arith, deep_all, deep_split, some_) in
    let o : Once z stand.own = once z stand.own own in
    let w : Somewhere z e stand.own = somewhere z e stand.own deep_own in
    let same : w.place ≡ o.define = o.only w.place w.definition w.is_definition w.defines in
    record {
      define = length before + o.define;
      definition = o.definition;
      behind = omega arith;
      is_definition = ap (λ ns. slice_get ns (length before + o.define)) stand.behind ∙ get_append before stand.own o.define ∙ o.is_definition;
      defines = o.defines;
      deep = ap (λ (y : Node). y.depth) (same_Some o.definition w.definition (sym o.is_definition ∙ ap (slice_get stand.own) (sym same) ∙ w.is_definition)) ∙ w.deep;
      only = λ k x from g d. elim (append_get before stand.own k x (ap (λ ns. slice_get ns k) (sym stand.behind) ∙ g)) [
        | inl old ↦ absurd (beyond before k x from old)
        | inr new ↦ let at : k - length before ≡ o.define = o.only (k - length before) x new.1 d in omega (arith, at, from)
      ];
    }

pub locals_are_defined_once : LocalsAreDefinedOnce
locals_are_defined_once c fs x r m n before after same a f e h i l g =
    let own = left_none (initial_faults c (initial_fields x.word fs)) (written_body_faults c (params_scope x.params) x.body) f in
    let rest = right_none (initial_faults c (initial_fields x.word fs)) (written_body_faults c (params_scope x.params) x.body) f in
    let at : ℕ = 1 + length x.params in
    let up : Rising local_start (method_locals fs x) = rising local_start (method_locals fs x) (body_places fs x) (method_in fs x) a in
    let slots : SlotsFrom c at (method_locals fs x) = slots_from c at (method_locals fs x) same up in
    let one_ : times (has_slot (at + i)) r ≡ 1 = maybe_n c (has_slot (at + i)) fs x x.body r own rest e ∙ one_has c at (method_locals fs x) slots i l g in
    let some_ : 1 ≤ times (has_place (at + i) l.depth) r = subst (λ k. 1 ≤ k) (sym (maybe_n c (has_place (at + i) l.depth) fs x x.body r own rest e)) (some_has c at (method_locals fs x) slots i l g) in
    put_once (at + i) l.depth m r n before after h one_ some_

pub added_locals_are_defined_once : AddedLocalsAreDefinedOnce
added_locals_are_defined_once c fs s m n before after same a f h i l g =
    let up : Rising local_start (initial_locals fs) = rising local_start (initial_locals fs) (initial_places fs) (initials_in fs) a in
    let slots : SlotsFrom c 1 (initial_locals fs) = slots_from c 1 (initial_locals fs) same up in
    let one_ : times (has_slot (1 + i)) (added_body c fs s) ≡ 1 = added_n c (has_slot (1 + i)) fs s f ∙ one_has c 1 (initial_locals fs) slots i l g in
    let some_ : 1 ≤ times (has_place (1 + i) l.depth) (added_body c fs s) = subst (λ k. 1 ≤ k) (sym (added_n c (has_place (1 + i) l.depth) fs s f)) (some_has c 1 (initial_locals fs) slots i l g) in
    put_once (1 + i) l.depth m (added_body c fs s) n before after h one_ some_
