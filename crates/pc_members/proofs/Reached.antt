-- What is reached is exactly what chains of edges lead to, listed in ascending order.
use Rattle.std.proofs.{Common.{◌≡◌, ℕ, zero, suc, ◌+◌, ◌≤◌, ◌<◌, List, [], ◌∷◌, ◌++◌, length, Option, Some, None, Bool, true, false, nat_eq, refl, sym, ap, ◌∙◌, subst, arith, inl, inr, ⊎_elim, ◌⊎◌, if◌then◌else◌}, lemmas.Cmp.nat_eq_equiv, lemmas.Option.{same_Some, none-some}, lemmas.Map.Keys.IsDistinct-push, lemmas.Map.Steps.length-le_from_distinct_below}
use Rattle.std.specs.{Prelude.slice_get, List.IsDistinct}
use Rattle.pc_base.specs.Lists.{Has, Ascends, IsIn}
use Rattle.pc_members.specs.Edges.{Edges, edges_from, has_number, added_last, add_all, reach_turn, grow, reached, ascending, above_from, EdgePath, link, links}
use Rattle.pc_members.proofs.Reaches.{any_has, has_in, get_in, in_get, only_led, all_led}
use Rattle.pc_base.proofs.{Bools.true_false, Elements.ascends_none}

-- ---- what is found is different

add_distinct : (found : List ℕ) (b : ℕ) → IsDistinct nat_eq found → IsDistinct nat_eq (added_last found b)
add_distinct found b d = by (has_number found b) refl
  where
    by : (t : Bool) → has_number found b ≡ t → IsDistinct nat_eq (if t then found else found ++ b ∷ [])
    by true e = d
    by false e = IsDistinct-push nat_eq_equiv found b d (any_has found b ∙ e)

all_distinct : (found bs : List ℕ) → IsDistinct nat_eq found → IsDistinct nat_eq (add_all found bs)
all_distinct found [] d = d
all_distinct found (c ∷ bs) d = all_distinct (added_last found c) bs (add_distinct found c d)

distinct_at : (k : ℕ) (e : Edges) (found : List ℕ) (at : ℕ) (o : Option ℕ) → IsDistinct nat_eq found → ((more : List ℕ) → IsDistinct nat_eq more → IsDistinct nat_eq (grow k e more (suc at))) → IsDistinct nat_eq (reach_turn o found (λ a. grow k e (add_all found (edges_from e a)) (suc at)))
distinct_at k e found at None d rec = d
distinct_at k e found at (Some x) d rec = rec (add_all found (edges_from e x)) (all_distinct found (edges_from e x) d)

grow_distinct : (k : ℕ) (e : Edges) (found : List ℕ) (at : ℕ) → IsDistinct nat_eq found → IsDistinct nat_eq (grow k e found at)
grow_distinct zero e found at d = d
grow_distinct (suc k) e found at d = distinct_at k e found at (slice_get found at) d (λ more g. grow_distinct k e more (suc at) g)

reached_distinct : (e : Edges) (a : ℕ) → IsDistinct nat_eq (reached e a)
unfolding IsDistinct
reached_distinct e a = grow_distinct (length e + 1) e (add_all [] (edges_from e a)) 0 (all_distinct [] (edges_from e a) tt)

-- ---- no more is found than there are numbers

-- Every target of an edge has a list of edges itself, perhaps an empty one.
abbrev pub Within : Edges → Type 0
Within e = (a b : ℕ) → IsIn b (edges_from e a) → b < length e

pub chain_within : (e : Edges) {a b : ℕ} → Within e → EdgePath e a b → b < length e
chain_within e {a} {b} w (link h) = w a b h
chain_within e w (links h r) = chain_within e w r

reached_few : (e : Edges) (a : ℕ) → Within e → length (reached e a) ≤ length e
reached_few e a w = length-le_from_distinct_below (reached e a) (length e) (reached_distinct e a) (λ q h. chain_within e w (only_led (length e + 1) e a q (has_in (reached e a) q (sym (any_has (reached e a) q) ∙ h))))

pub reached_led : (e : Edges) (a b : ℕ) → IsIn b (reached e a) → EdgePath e a b
reached_led e a b i = only_led (length e + 1) e a b i

pub led_reached : (e : Edges) (a b : ℕ) → Within e → EdgePath e a b → IsIn b (reached e a)
led_reached e a b w c = all_led (length e + 1) e a b (let f = reached_few e a w in omega (arith, f)) c

-- ---- in ascending order

eq_refl : (b : ℕ) → nat_eq b b ≡ true
eq_refl b = search (arith)

pub in_has : (xs : List ℕ) (b : ℕ) → IsIn b xs → has_number xs b ≡ true
in_has [] b h = absurd h
in_has (x ∷ xs) b h = ⊎_elim (λ e. ap (λ t. if t then true else has_number xs b) (ap (nat_eq b) (sym e) ∙ eq_refl b))
    (λ i. by (nat_eq b x) (in_has xs b i)) h
  where
    by : (t : Bool) → has_number xs b ≡ true → (if t then true else has_number xs b) ≡ true
    by true r = refl
    by false r = r

apart : (a b : ℕ) → a ≤ b → (a < b) ⊎ (a ≡ b)
apart zero zero l = inr refl
apart zero (suc b) l = inl (omega arith)
apart (suc a) zero l = absurd (omega (arith, l))
apart (suc a) (suc b) l = let m : a ≤ b = omega (arith, l) in ⊎_elim (λ s. let t : suc a < suc b = omega (arith, s) in inl t) (λ s. inr (ap suc s)) (apart a b m)

only_ascending : (found : List ℕ) (k at b : ℕ) → IsIn b (ascending found at k) → IsIn b found × (at ≤ b)
only_ascending found zero at b h = absurd h
only_ascending found (suc k) at b h = by (λ i. let r = only_ascending found k (suc at) b i in (r.0, omega (arith, r.1))) (has_number found at) refl h
  where
    by : (IsIn b (ascending found (suc at) k) → IsIn b found × (at ≤ b)) → (t : Bool) → has_number found at ≡ t → IsIn b (if t then at ∷ ascending found (suc at) k else ascending found (suc at) k) → IsIn b found × (at ≤ b)
    by on true e i = ⊎_elim (λ s. (subst (λ x. IsIn x found) (sym s) (has_in found at e), omega (arith, s))) on i
    by on false e i = on i

all_ascending : (found : List ℕ) (k at b : ℕ) → IsIn b found → at ≤ b → b < at + k → IsIn b (ascending found at k)
all_ascending found zero at b i l u = absurd (omega (arith, l, u))
all_ascending found (suc k) at b i l u =
    by (λ m. all_ascending found k (suc at) b i (omega (arith, m)) (omega (arith, u))) (has_number found at) refl (apart at b l)
  where
    by : (at < b → IsIn b (ascending found (suc at) k)) → (t : Bool) → has_number found at ≡ t → (at < b) ⊎ (at ≡ b) → IsIn b (if t then at ∷ ascending found (suc at) k else ascending found (suc at) k)
    by on true e c = ⊎_elim (λ m. inr (on m)) (λ s. inl (sym s)) c
    by on false e c = ⊎_elim (λ m. on m) (λ s. absurd (true_false (sym (in_has found b i) ∙ ap (has_number found) (sym s) ∙ e))) c

ascends_cons : (x : ℕ) (xs : List ℕ) → ((b : ℕ) → IsIn b xs → x < b) → Ascends xs → Ascends (x ∷ xs)
ascends_cons x xs f r i zero a b l ea eb = absurd (omega (arith, l))
ascends_cons x xs f r zero (suc j) a b l ea eb = let m = f b (get_in xs j b eb) in let s = same_Some _ _ ea in omega (arith, m, s)
ascends_cons x xs f r (suc i) (suc j) a b l ea eb = r i j a b (omega (arith, l)) ea eb

pub ascending_ascends : (found : List ℕ) (k at : ℕ) → Ascends (ascending found at k)
ascending_ascends found zero at = ascends_none
ascending_ascends found (suc k) at = by (has_number found at) (ascending_ascends found k (suc at))
  where
    by : (t : Bool) → Ascends (ascending found (suc at) k) → Ascends (if t then at ∷ ascending found (suc at) k else ascending found (suc at) k)
    by true rec = ascends_cons at (ascending found (suc at) k) (λ b i. let r = only_ascending found k (suc at) b i in omega (arith, r.1)) rec
    by false rec = rec

-- ---- for each number

pub above_length : (e : Edges) (k a : ℕ) → length (above_from e a k) ≡ k
above_length e zero a = refl
above_length e (suc k) a = ap suc (above_length e k (suc a))

pub above_get : (e : Edges) (k a i : ℕ) (l : List ℕ) → slice_get (above_from e a k) i ≡ Some l → l ≡ ascending (reached e (a + i)) 0 (length e)
above_get e zero a i l h = absurd (none-some l h)
above_get e (suc k) a zero l h = sym (same_Some _ _ h) ∙ ap (λ x. ascending (reached e x) 0 (length e)) (let z : a ≡ a + zero = omega arith in z)
above_get e (suc k) a (suc i) l h = above_get e k (suc a) i l h ∙ ap (λ x. ascending (reached e x) 0 (length e)) (let z : suc a + i ≡ a + suc i = omega arith in z)

pub listed_led : (e : Edges) (a b : ℕ) → Has (ascending (reached e a) 0 (length e)) b → EdgePath e a b
listed_led e a b h = reached_led e a b (only_ascending (reached e a) (length e) 0 b (get_in (ascending (reached e a) 0 (length e)) h.0 b h.1)).0

pub led_listed : (e : Edges) (a b : ℕ) → Within e → EdgePath e a b → Has (ascending (reached e a) 0 (length e)) b
led_listed e a b w c =
    let m = chain_within e w c in
    in_get (ascending (reached e a) 0 (length e)) b (all_ascending (reached e a) (length e) 0 b (led_reached e a b w c) (omega arith) (omega (arith, m)))
