-- The makers of objects are actors, and stay so.
use Rattle.std.proofs.{Common.{◌≡◌, ℕ, ◌+◌, ◌<◌, ◌≤◌, Bool, true, false, cond, List, [], ◌∷◌, Option, Some, None, refl, sym, ap, ◌∙◌, subst, arith}, lemmas.Bool.{true≢false, eqb-true}, lemmas.List.Sums.sum_by-cons, lemmas.Map.Lookups.{CmpEqualImpliesEq, exact_pairs, exact_unsigned}, lemmas.Map.Views.tells_apart}
use Rattle.std.specs.{Prelude.{nat_eq, is_some, IsSome}, List.count_by, Cmp.eq_by_cmp_equiv, Ordering.{eq_by_cmp, is_eq, nat_cmp}, FinMap.{empty, get, insert, len, entries, find, get-empty, get-insert, get-entries, len-empty, len-insert}}
use Rattle.pc_heap.specs.{Addresses.addresses_total, Heaps.object_limit, Objects.{address_cmp, ObjectMap, made_by, next_address, Object}, declared.value.Address.Address}
use Rattle.pc_semantics.specs.Configurations.{own_address}
use Rattle.pc_machine.specs.States.{Peopled}
use Rattle.pc_base.specs.Counts.{one_if}

pub exact_addresses : CmpEqualImpliesEq address_cmp
exact_addresses a b h = ap (λ (p : ℕ × ℕ). record { maker = p.0; serial = p.1 }) (exact_pairs nat_cmp nat_cmp exact_unsigned exact_unsigned (a.maker, a.serial) (b.maker, b.serial) h)

-- ---- an actor that has made nothing

-- a number that is less is another
other_number : (a n : ℕ) (b : Bool) → nat_eq a n ≡ b → a < n → one_if b ≡ 0
other_number a n true e l = absurd (omega (arith, eqb-true a n e, l))
other_number a n false e l = refl

either_some : (b : Bool) (x : Object) (o : Option Object) → IsSome o → IsSome (cond b (Some x) o)
either_some true x o h = refl
either_some false x o h = h

none_by : (n : ℕ) (es : List (Address × Object)) → ((a : Address) → IsSome (find address_cmp a es) → a.maker < n) → count_by (λ e. nat_eq e.0.maker n) es ≡ 0
none_by n [] h = refl
none_by n (e ∷ es) h =
    let own : IsSome (find address_cmp e.0 (e ∷ es)) = ap (λ b. is_some (cond b (Some e.1) (find address_cmp e.0 es))) ((eq_by_cmp_equiv addresses_total).refl e.0) in
    let first : one_if (nat_eq e.0.maker n) ≡ 0 = other_number e.0.maker n (nat_eq e.0.maker n) refl (h e.0 own) in
    let others = none_by n es (λ a s. h a (either_some (is_eq (address_cmp a e.0)) e.1 (find address_cmp a es) s)) in
    let both = sum_by-cons (λ (x : Address × Object). one_if (nat_eq x.0.maker n)) e es in
    omega (arith, first, others, both)

-- The next actor has made nothing.
pub made_none : (m : ObjectMap) (n : ℕ) → Peopled m n → made_by m n ≡ 0
made_none m n p = none_by n (entries m) (λ a s. p.makers a (subst (λ (o : Option Object). IsSome o) (sym (get-entries m a)) s))

pub next_own : (m : ObjectMap) (n : ℕ) → Peopled m n → next_address m n ≡ own_address n
next_own m n p = ap (λ k. let a : Address = record { maker = n; serial = k } in a) (made_none m n p)

-- ---- what is there after an object was added

was_there : (m : ObjectMap) (a b : Address) (o : Object) (t : Bool) → eq_by_cmp address_cmp b a ≡ t → IsSome (cond t (Some o) (get m b)) → (P : Address → Type 0) → P a → (IsSome (get m b) → P b) → P b
was_there m a b o true e h P here other = subst P (sym (tells_apart exact_addresses b a e)) here
was_there m a b o false e h P here other = other h

-- if the new object's address has a property and those of the old ones do, so does every object that exists
pub each_there : (m : ObjectMap) (a : Address) (o : Object) (P : Address → Type 0) → P a → ((b : Address) → IsSome (get m b) → P b) → (b : Address) → IsSome (get (insert m a o) b) → P b
each_there m a o P here others b h =
    was_there m a b o (eq_by_cmp address_cmp b a) refl (subst (λ (x : Option Object). IsSome x) (get-insert addresses_total m a o b) h) P here (others b)

len_at_most : (t : Bool) (n : ℕ) → (n ≤ cond t n (n + 1)) × (cond t n (n + 1) ≤ n + 1)
len_at_most true n = (omega arith, omega arith)
len_at_most false n = (omega arith, omega arith)

-- no object is lost, and at most one comes
pub len_grows : (m : ObjectMap) (a : Address) (o : Object) → (len m ≤ len (insert m a o)) × (len (insert m a o) ≤ len m + 1)
len_grows m a o =
    let e = len-insert addresses_total m a o in
    let b = len_at_most (is_some (get m a)) (len m) in
    (omega (arith, e, b.0), omega (arith, e, b.1))

len_new : (m : ObjectMap) (a : Address) (o : Object) → get m a ≡ None → len (insert m a o) ≡ len m + 1
len_new m a o none = len-insert addresses_total m a o ∙ ap (λ (x : Option Object). cond (is_some x) (len m) (len m + 1)) none

nothing : (o : Option Object) → (IsSome o → ⊥) → o ≡ None
nothing None h = refl
nothing (Some x) h = absurd (h refl)

-- ---- what keeps the makers actors

pub peopled_none : Peopled empty 0
peopled_none = record {
  makers = λ a h. absurd (true≢false (sym h ∙ ap is_some (get-empty address_cmp a)));
  few_actors = omega arith;
  few_objects = omega (arith, len-empty address_cmp Object);
}

-- an object of an actor
pub peopled_object : (m : ObjectMap) (n : ℕ) (a : Address) (o : Object) → Peopled m n → len m < object_limit → a.maker < n → Peopled (insert m a o) n
peopled_object m n a o p few own = record {
  makers = each_there m a o (λ b. b.maker < n) own p.makers;
  few_actors = let g = len_grows m a o in omega (arith, p.few_actors, g.0);
  few_objects = let g = len_grows m a o in omega (arith, few, g.1);
}

-- another object in the place of one
pub peopled_again : (m : ObjectMap) (n : ℕ) (a : Address) (o : Object) → Peopled m n → IsSome (get m a) → Peopled (insert m a o) n
peopled_again m n a o p there =
    let same : len (insert m a o) ≡ len m = len-insert addresses_total m a o ∙ ap (λ b. cond b (len m) (len m + 1)) there in
    record {
      makers = each_there m a o (λ b. b.maker < n) (p.makers a there) p.makers;
      few_actors = omega (arith, p.few_actors, same);
      few_objects = omega (arith, p.few_objects, same);
    }

-- an actor with its object
pub peopled_actor : (m : ObjectMap) (n : ℕ) (o : Object) → Peopled m n → len m < object_limit → Peopled (insert m (own_address n) o) (n + 1)
peopled_actor m n o p few =
    let free : get m (own_address n) ≡ None = nothing (get m (own_address n)) (λ h. let l = p.makers (own_address n) h in omega (arith, l)) in
    let more = len_new m (own_address n) o free in
    record {
      makers = each_there m (own_address n) o (λ b. b.maker < n + 1) (omega arith) (λ b h. let l = p.makers b h in omega (arith, l));
      few_actors = omega (arith, p.few_actors, more);
      few_objects = omega (arith, few, more);
    }
