-- Objects after one is added, and after a field is set.
use Rattle.std.specs.{Prelude.{◌≡◌, ◌⊎◌, ℕ, ◌+◌, ◌<◌, ◌≤◌, Bool, true, false, cond, length, Option, Some, None, nat_eq, slice_get, slice_set, refl}, Ordering.eq_by_cmp, FinMap.{get, insert, get-insert}}
use Rattle.std.proofs.{Common.{inl, inr, ap, sym, subst, ◌∙◌, arith, length-set}, lemmas.Option.{same_Some, none-some}, lemmas.Bool.eq-eqb, lemmas.Bool.Decides.eqb_tells, lemmas.Map.Views.tells_apart}
use Rattle.pc_heap.specs.{Objects.{address_cmp, ObjectMap, made_by, next_address, with_field, with_value, Object}, Parts.object_in, declared.value.Address.Address, declared.value.Value.Value}
use Rattle.pc_heap.proofs.{Maps.{addresses_total, exact_addresses, get_own}, Counts.made_more}
use Rattle.pc_base.specs.Counts.{one_if}
use Rattle.pc_base.proofs.Gets.{get_below, get_set_same, get_set_other}
use Rattle.pc_types.proofs.Growth.{Grown, grown_same, Extends}

-- One address, or another.
pub address_cases : (q a : Address) → ((q ≡ a) × (eq_by_cmp address_cmp q a ≡ true)) ⊎ (eq_by_cmp address_cmp q a ≡ false)
address_cases q a = go (eq_by_cmp address_cmp q a) refl
  where
    go : (b : Bool) → eq_by_cmp address_cmp q a ≡ b → ((q ≡ a) × (eq_by_cmp address_cmp q a ≡ true)) ⊎ (eq_by_cmp address_cmp q a ≡ false)
    go true e = inl (tells_apart exact_addresses q a e, e)
    go false e = inr e

pub get_after : (h : ObjectMap) (a : Address) (o : Object) (q : Address) → get (insert h a o) q ≡ cond (eq_by_cmp address_cmp q a) (Some o) (get h q)
get_after h a o q = get-insert addresses_total h a o q

pub get_here : (h : ObjectMap) (a : Address) (o : Object) → get (insert h a o) a ≡ Some o
get_here h a o = get_own addresses_total h a o

-- What is there was put there, or was there before.
pub put_or_before : (h : ObjectMap) (a : Address) (o : Object) (q : Address) (x : Object) → get (insert h a o) q ≡ Some x → ((q ≡ a) × (x ≡ o)) ⊎ (get h q ≡ Some x)
put_or_before h a o q x e =
    elim (address_cases q a) [
      | inl p ↦ inl (p.0, same_Some x o (sym e ∙ get_after h a o q ∙ ap (λ b. cond b (Some o) (get h q)) p.1))
      | inr n ↦ inr (sym (ap (λ b. cond b (Some o) (get h q)) n) ∙ sym (get_after h a o q) ∙ e)
    ]

-- If something was there, something is there.
pub put_stays : (h : ObjectMap) (a : Address) (o : Object) (q : Address) → (x : Object) × (get h q ≡ Some x) → (x : Object) × (get (insert h a o) q ≡ Some x)
put_stays h a o q x =
    elim (address_cases q a) [
      | inl p ↦ (o, get_after h a o q ∙ ap (λ b. cond b (Some o) (get h q)) p.1)
      | inr n ↦ (x.0, get_after h a o q ∙ ap (λ b. cond b (Some o) (get h q)) n ∙ x.1)
    ]

-- What was there is still there, and has grown, if what is put has grown from what was there.
pub put_extends : (h : ObjectMap) (a : Address) (o : Object) → ((x : Object) → get h a ≡ Some x → Grown x o) → Extends h (insert h a o)
put_extends h a o grown = record {
  each = λ q x e.
      elim (address_cases q a) [
        | inl p ↦ (o, get_after h a o q ∙ ap (λ b. cond b (Some o) (get h q)) p.1, grown x (ap (get h) (sym p.0) ∙ e))
        | inr n ↦ (x, get_after h a o q ∙ ap (λ b. cond b (Some o) (get h q)) n ∙ e, grown_same x)
      ];
}

pub fresh_extends : (h : ObjectMap) (a : Address) (o : Object) → get h a ≡ None → Extends h (insert h a o)
fresh_extends h a o none = put_extends h a o (λ x e. absurd (none-some x (sym none ∙ e)))

-- ---- a field that is set

pub field_grown : (o : Object) (k : ℕ) (v : Value) → Grown o (with_field o k v)
field_grown o k v = record {
  entity = refl;
  room = length-set o.fields k (Some v);
  set = λ i w e.
      elim (eqb_tells i k) [
        | inl p ↦ (v, ap (slice_get (slice_set o.fields k (Some v))) p.1 ∙ get_set_same o.fields k (Some v) (subst (λ (n : ℕ). n < length o.fields) p.1 (get_below o.fields i (Some w) e)))
        | inr p ↦ (w, get_set_other o.fields k (Some v) i p.1 ∙ e)
      ];
}

pub written : (h : ObjectMap) (a : Address) (k : ℕ) (v : Value) (o : Object) → get h a ≡ Some o → with_value h a k v ≡ insert h a (with_field o k v)
written h a k v o e = ap (λ (p : Option Object). insert h a (with_field (object_in p) k v)) e

pub write_extends : (h : ObjectMap) (a : Address) (k : ℕ) (v : Value) (o : Object) → get h a ≡ Some o → Extends h (with_value h a k v)
write_extends h a k v o e =
    subst (Extends h) (sym (written h a k v o e))
    (put_extends h a (with_field o k v) (λ x g. subst (λ (y : Object). Grown y (with_field o k v)) (same_Some o x (sym e ∙ g)) (field_grown o k v)))

-- ---- how many objects a maker has made

more_or_same : (n k : ℕ) → n ≤ n + k
more_or_same n k = omega arith

pub made_grows : (h : ObjectMap) (a : Address) (o : Object) (maker : ℕ) → get h a ≡ None → made_by h maker ≤ made_by (insert h a o) maker
made_grows h a o maker none = subst (λ (n : ℕ). made_by h maker ≤ n) (sym (made_more h a o maker none)) (more_or_same (made_by h maker) (one_if (nat_eq a.maker maker)))

one_more : (n k m : ℕ) → k ≡ 1 → m ≡ n + k → n < m
one_more n k m e f = omega (arith, e, f)

pub made_here : (h : ObjectMap) (a : Address) (o : Object) → get h a ≡ None → made_by h a.maker < made_by (insert h a o) a.maker
made_here h a o none = one_more (made_by h a.maker) (one_if (nat_eq a.maker a.maker)) (made_by (insert h a o) a.maker) (ap one_if (eq-eqb a.maker a.maker refl)) (made_more h a o a.maker none)

-- An address whose serial is that count is free.
pub fresh : (h : ObjectMap) (i : ℕ) → ((o : Object) → get h (next_address h i) ≡ Some o → made_by h i < made_by h i) → (p : Option Object) → get h (next_address h i) ≡ p → p ≡ None
fresh h i below None e = refl
fresh h i below (Some o) e = let l = below o e in absurd (omega (arith, l))
