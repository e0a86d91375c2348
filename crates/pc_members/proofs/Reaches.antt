-- What is reached is what chains of edges lead to.
use Rattle.std.proofs.{Common.{◌≡◌, ℕ, zero, suc, ◌+◌, ◌-◌, ◌≤◌, ◌<◌, List, [], ◌∷◌, ◌++◌, length, Option, Some, None, Bool, true, false, nat_eq, ◌||◌, refl, sym, ap, ◌∙◌, subst, arith, append-nil, append_assoc, length-append, inl, inr, ⊎_elim, ◌⊎◌, if◌then◌else◌}, lemmas.Option.{same_Some, none-some, slice_get_within}}
use Rattle.std.specs.{Prelude.slice_get, List.list_any}
use Rattle.pc_members.specs.Edges.{Edges, edges_from, has_number, added_last, add_all, reach_turn, grow, reached_in, reached, ascending, above_from, EdgePath, link, links}
use Rattle.pc_base.specs.Lists.{IsIn}

in_front : (b : ℕ) (xs ys : List ℕ) → IsIn b xs → IsIn b (xs ++ ys)
in_front b [] ys h = absurd h
in_front b (x ∷ xs) ys h = ⊎_elim (λ e. inl e) (λ i. inr (in_front b xs ys i)) h

in_last : (b : ℕ) (xs : List ℕ) → IsIn b (xs ++ b ∷ [])
in_last b [] = inl refl
in_last b (x ∷ xs) = inr (in_last b xs)

in_parts : (b c : ℕ) (xs : List ℕ) → IsIn b (xs ++ c ∷ []) → IsIn b xs ⊎ (b ≡ c)
in_parts b c [] h = ⊎_elim (λ e. inr e) (λ i. absurd i) h
in_parts b c (x ∷ xs) h = ⊎_elim (λ e. inl (inl e)) (λ i. ⊎_elim (λ j. inl (inr j)) (λ e. inr e) (in_parts b c xs i)) h

eq_true : (x b : ℕ) → nat_eq b x ≡ true → b ≡ x
eq_true x b h = search (arith, h)

one_in : (t : Bool) (x : ℕ) (xs : List ℕ) (b : ℕ) → nat_eq b x ≡ t → (has_number xs b ≡ true → IsIn b xs) → (if t then true else has_number xs b) ≡ true → IsIn b (x ∷ xs)
one_in true x xs b e rec g = inl (eq_true x b e)
one_in false x xs b e rec g = inr (rec g)

pub has_in : (xs : List ℕ) (b : ℕ) → has_number xs b ≡ true → IsIn b xs
has_in [] b h = let no : ⊥ = cc in absurd no
has_in (x ∷ xs) b h = one_in (nat_eq b x) x xs b refl (has_in xs b) h

add_old : (b : ℕ) (found : List ℕ) (c : ℕ) → IsIn b found → IsIn b (added_last found c)
add_old b found c h = by (has_number found c)
  where
    by : (t : Bool) → IsIn b (if t then found else found ++ c ∷ [])
    by true = h
    by false = in_front b found (c ∷ []) h

add_new : (found : List ℕ) (c : ℕ) → IsIn c (added_last found c)
add_new found c = by (has_number found c) refl
  where
    by : (t : Bool) → has_number found c ≡ t → IsIn c (if t then found else found ++ c ∷ [])
    by true e = has_in found c e
    by false e = in_last c found

add_only : (b : ℕ) (found : List ℕ) (c : ℕ) → IsIn b (added_last found c) → IsIn b found ⊎ (b ≡ c)
add_only b found c = by (has_number found c)
  where
    by : (t : Bool) → IsIn b (if t then found else found ++ c ∷ []) → IsIn b found ⊎ (b ≡ c)
    by true h = inl h
    by false h = in_parts b c found h

all_old : (b : ℕ) (found bs : List ℕ) → IsIn b found → IsIn b (add_all found bs)
all_old b found [] h = h
all_old b found (c ∷ bs) h = all_old b (added_last found c) bs (add_old b found c h)

all_new : (b : ℕ) (found bs : List ℕ) → IsIn b bs → IsIn b (add_all found bs)
all_new b found [] h = absurd h
all_new b found (c ∷ bs) h = ⊎_elim (λ e. all_old b (added_last found c) bs (subst (λ x. IsIn x (added_last found c)) (sym e) (add_new found c))) (λ i. all_new b (added_last found c) bs i) h

all_only : (b : ℕ) (found bs : List ℕ) → IsIn b (add_all found bs) → IsIn b found ⊎ IsIn b bs
all_only b found [] h = inl h
all_only b found (c ∷ bs) h = ⊎_elim (λ i. ⊎_elim (λ j. inl j) (λ e. inr (inl e)) (add_only b found c i)) (λ j. inr (inr j)) (all_only b (added_last found c) bs h)

-- The second list begins with the first.
abbrev Longer : List ℕ → List ℕ → Type 0
Longer xs ys = (more : List ℕ) × (ys ≡ xs ++ more)

add_longer : (found : List ℕ) (c : ℕ) → Longer found (added_last found c)
add_longer found c = by (has_number found c)
  where
    by : (t : Bool) → (more : List ℕ) × ((if t then found else found ++ c ∷ []) ≡ found ++ more)
    by true = ([], sym (append-nil found))
    by false = (c ∷ [], refl)

all_longer : (found bs : List ℕ) → Longer found (add_all found bs)
all_longer found [] = ([], sym (append-nil found))
all_longer found (c ∷ bs) =
    let a = add_longer found c in
    let r = all_longer (added_last found c) bs in
    (a.0 ++ r.0, r.1 ∙ ap (λ l. l ++ r.0) a.1 ∙ append_assoc found a.0 r.0)

pub get_in : (xs : List ℕ) (i x : ℕ) → slice_get xs i ≡ Some x → IsIn x xs
get_in [] i x h = absurd (none-some x h)
get_in (y ∷ xs) zero x h = inl (sym (same_Some _ _ h))
get_in (y ∷ xs) (suc i) x h = inr (get_in xs i x h)

pub in_get : (xs : List ℕ) (x : ℕ) → IsIn x xs → (i : ℕ) × (slice_get xs i ≡ Some x)
in_get [] x h = absurd h
in_get (y ∷ xs) x h = ⊎_elim (λ e. (0, ap (λ z. Some z) (sym e))) (λ j. let r = in_get xs x j in (suc r.0, r.1)) h

get_early : (xs ys : List ℕ) (i : ℕ) → i < length xs → slice_get (xs ++ ys) i ≡ slice_get xs i
get_early [] ys i l = absurd (omega arith)
get_early (x ∷ xs) ys zero l = refl
get_early (x ∷ xs) ys (suc i) l = let m : i < length xs = omega arith in get_early xs ys i m

get_none : (xs : List ℕ) (i : ℕ) → slice_get xs i ≡ None → length xs ≤ i
get_none [] i h = omega arith
get_none (x ∷ xs) zero h = absurd (none-some x (sym h))
get_none (x ∷ xs) (suc i) h = let r = get_none xs i h in omega (arith, r)

-- One more edge at the end of a chain.
chain_on : (e : Edges) {a b c : ℕ} → EdgePath e a b → IsIn c (edges_from e b) → EdgePath e a c
chain_on e (link h) i = links h (link i)
chain_on e (links h r) i = links h (chain_on e r i)

-- Chains lead to all of these.
abbrev AllLed : Edges → ℕ → List ℕ → Type 0
AllLed e a xs = (b : ℕ) → IsIn b xs → EdgePath e a b

led_at : (k : ℕ) (e : Edges) (a : ℕ) (found : List ℕ) (at : ℕ) (o : Option ℕ) → slice_get found at ≡ o → AllLed e a found → ((more : List ℕ) → AllLed e a more → AllLed e a (grow k e more (suc at))) → AllLed e a (reach_turn o found (λ a. grow k e (add_all found (edges_from e a)) (suc at)))
led_at k e a found at None is h rec = h
led_at k e a found at (Some x) is h rec =
    let l = h x (get_in found at x is) in
    rec (add_all found (edges_from e x)) (λ b i. ⊎_elim (λ j. h b j) (λ j. chain_on e l j) (all_only b found (edges_from e x) i))

led : (k : ℕ) (e : Edges) (a : ℕ) (found : List ℕ) (at : ℕ) → AllLed e a found → AllLed e a (grow k e found at)
led zero e a found at h = h
led (suc k) e a found at h = led_at k e a found at (slice_get found at) refl h (λ more g. led k e a more (suc at) g)

-- Chains lead to what is reached.
pub only_led : (k : ℕ) (e : Edges) (a b : ℕ) → IsIn b (reached_in k e a) → EdgePath e a b
only_led k e a b i = led k e a (add_all [] (edges_from e a)) 0 (λ b i. ⊎_elim (λ j. absurd j) (λ j. link j) (all_only b [] (edges_from e a) i)) b i

-- The direct targets of the first numbers are found; and so are those of all numbers.
abbrev Closed : Edges → List ℕ → ℕ → Type 0
Closed e found at = (i x : ℕ) → i < at → slice_get found i ≡ Some x → (b : ℕ) → IsIn b (edges_from e x) → IsIn b found

abbrev Whole : Edges → List ℕ → Type 0
Whole e found = (x : ℕ) → IsIn x found → (b : ℕ) → IsIn b (edges_from e x) → IsIn b found

kept_at : (k : ℕ) (e : Edges) (found : List ℕ) (at b : ℕ) (o : Option ℕ) → IsIn b found → ((more : List ℕ) → IsIn b more → IsIn b (grow k e more (suc at))) → IsIn b (reach_turn o found (λ a. grow k e (add_all found (edges_from e a)) (suc at)))
kept_at k e found at b None h rec = h
kept_at k e found at b (Some x) h rec = rec (add_all found (edges_from e x)) (all_old b found (edges_from e x) h)

kept : (k : ℕ) (e : Edges) (found : List ℕ) (at b : ℕ) → IsIn b found → IsIn b (grow k e found at)
kept zero e found at b h = h
kept (suc k) e found at b h = kept_at k e found at b (slice_get found at) h (λ more g. kept k e more (suc at) b g)

split : (i at : ℕ) → i < suc at → (i < at) ⊎ (i ≡ at)
split zero zero l = inr refl
split zero (suc at) l = inl (omega arith)
split (suc i) zero l = absurd (omega (arith, l))
split (suc i) (suc at) l = let m : i < suc at = omega (arith, l) in ⊎_elim (λ s. let t : suc i < suc at = omega (arith, s) in inl t) (λ s. inr (ap suc s)) (split i at m)

same_in : (e : Edges) (found : List ℕ) (x y b : ℕ) (bs : List ℕ) → bs ≡ edges_from e y → y ≡ x → IsIn b (edges_from e x)
    → IsIn b (add_all found bs)
same_in e found x y b bs n s j = all_new b found bs (subst (λ l. IsIn b l) (ap (edges_from e) (sym s) ∙ sym n) j)

step : (e : Edges) (found : List ℕ) (at y : ℕ) (r more : List ℕ) → r ≡ edges_from e y → add_all found r ≡ found ++ more → (i x : ℕ) → i < suc at → at < length found → slice_get found at ≡ Some y → slice_get (add_all found r) i ≡ Some x → Closed e found at → (b : ℕ) → IsIn b (edges_from e x) → IsIn b (add_all found r)
step e found at y r more n longer i x m w is g c b j =
    let early : i < length found = omega (arith, m, w) in
    let here : slice_get found i ≡ Some x = sym (get_early found more i early) ∙ ap (λ l. slice_get l i) (sym longer) ∙ g in
    let cases = split i at m in
    ⊎_elim (λ s. all_old b found r (c i x s here b j)) (λ s. same_in e found x y b r n (same_Some _ _ (sym is ∙ ap (λ k. slice_get found k) (sym s) ∙ here)) j) cases

whole_at : (k : ℕ) (e : Edges) (found : List ℕ) (at : ℕ) (o : Option ℕ) → slice_get found at ≡ o → Closed e found at → at ≤ length found → ((more : List ℕ) → Closed e more (suc at) → suc at ≤ length more → Whole e (grow k e more (suc at)) ⊎ (suc at + k ≤ length (grow k e more (suc at)))) → Whole e (reach_turn o found (λ a. grow k e (add_all found (edges_from e a)) (suc at))) ⊎ (at + suc k ≤ length (reach_turn o found (λ a. grow k e (add_all found (edges_from e a)) (suc at))))
whole_at k e found at None is c l rec = inl (λ x i b j. let g = in_get found x i in let m : g.0 < at = omega (arith, slice_get_within found g.0 x g.1, get_none found at is) in c g.0 x m g.1 b j)
whole_at k e found at (Some y) is c l rec =
    let r = edges_from e y in
    let more = all_longer found r in
    let w = slice_get_within found at y is in
    let c2 : Closed e (add_all found r) (suc at) = λ i x m g b j. step e found at y r more.0 refl more.1 i x m w is g c b j in
    let l2 : suc at ≤ length (add_all found r) = omega (arith, w, ap length more.1, length-append found more.0) in
    ⊎_elim (λ a. inl a) (λ a. inr (omega (arith, a))) (rec (add_all found r) c2 l2)

whole : (k : ℕ) (e : Edges) (found : List ℕ) (at : ℕ) → Closed e found at → at ≤ length found → Whole e (grow k e found at) ⊎ (at + k ≤ length (grow k e found at))
whole zero e found at c l = inr (omega (arith, l))
whole (suc k) e found at c l = whole_at k e found at (slice_get found at) refl c l (λ more c2 l2. whole k e more (suc at) c2 l2)

follow : (e : Edges) (found : List ℕ) → Whole e found → {c b : ℕ} → IsIn c found → EdgePath e c b → IsIn b found
follow e found w {c} {b} i (link h) = w c i b h
follow e found w {c} i (links {b = d} h r) = follow e found w (w c i d h) r

begin_at : (e : Edges) (found : List ℕ) {a b : ℕ} → Whole e found → ((d : ℕ) → IsIn d (edges_from e a) → IsIn d found) → EdgePath e a b
    → IsIn b found
begin_at e found {b = b} w first (link h) = first b h
begin_at e found w first (links {b = d} h r) = follow e found w (first d h) r

-- What chains lead to is reached, with enough steps for what is found.
pub all_led : (k : ℕ) (e : Edges) (a b : ℕ) → length (reached_in k e a) < k → EdgePath e a b → IsIn b (reached_in k e a)
all_led k e a b few l =
    let first : List ℕ = add_all [] (edges_from e a) in
    let found : List ℕ = reached_in k e a in
    ⊎_elim (λ w. begin_at e found w (λ d i. kept k e first 0 d (all_new d [] (edges_from e a) i)) l) (λ m. absurd (omega (arith, few, m))) (whole k e first 0 (λ i x m. absurd (omega (arith, m))) (omega arith))

pub any_has : (xs : List ℕ) (b : ℕ) → list_any (nat_eq b) xs ≡ has_number xs b
any_has [] b = refl
any_has (x ∷ xs) b = by (nat_eq b x) (any_has xs b)
  where
    by : (t : Bool) → list_any (nat_eq b) xs ≡ has_number xs b → (t || list_any (nat_eq b) xs) ≡ (if t then true else has_number xs b)
    by true rec = refl
    by false rec = rec

pub one_turn : (n : ℕ) (e : Edges) (found : List ℕ) (at a : ℕ) → at < n → slice_get found at ≡ Some a → grow (n - at) e found at ≡ grow (n - (at + 1)) e (add_all found (edges_from e a)) (at + 1)
one_turn n e found at a l h =
    let m : n - at ≡ suc (n - (at + 1)) = omega (arith, l) in
    let i : suc at ≡ at + 1 = omega arith in
    ap (λ k. grow k e found at) m ∙ ap (λ o. reach_turn o found (λ a. grow (n - (at + 1)) e (add_all found (edges_from e a)) (suc at))) h ∙ ap (λ k. grow (n - (at + 1)) e (add_all found (edges_from e a)) k) i

-- ---- the iterations of the loops

pub ascend_turn : (found : List ℕ) (at n : ℕ) → at < n → ascending found at (n - at) ≡ (if has_number found at then at ∷ ascending found (at + 1) (n - (at + 1)) else ascending found (at + 1) (n - (at + 1)))
ascend_turn found at n l =
    let m : n - at ≡ suc (n - (at + 1)) = omega (arith, l) in
    let i : suc at ≡ at + 1 = omega arith in
    ap (ascending found at) m ∙ ap (λ k. if has_number found at then at ∷ ascending found k (n - (at + 1)) else ascending found k (n - (at + 1))) i

pub above_turn : (e : Edges) (at n : ℕ) → at < n → above_from e at (n - at) ≡ ascending (reached e at) 0 (length e) ∷ above_from e (at + 1) (n - (at + 1))
above_turn e at n l =
    let m : n - at ≡ suc (n - (at + 1)) = omega (arith, l) in
    let i : suc at ≡ at + 1 = omega arith in
    ap (above_from e at) m ∙ ap (λ k. ascending (reached e at) 0 (length e) ∷ above_from e k (n - (at + 1))) i

-- One more element, and the rest.
one_behind : {T : Type 0} → (xs ys : List T) (x : T) → (xs ++ x ∷ []) ++ ys ≡ xs ++ x ∷ ys
one_behind xs ys x = append_assoc xs (x ∷ []) ys

pub found_goes : (found whole old new : List ℕ) (at n : ℕ) → at < n → whole ≡ old ++ ascending found at (n - at) → has_number found at ≡ true → new ≡ old ++ at ∷ [] → whole ≡ new ++ ascending found (at + 1) (n - (at + 1))
found_goes found whole old new at n l inv yes' is =
    let rest : List ℕ = ascending found (at + 1) (n - (at + 1)) in
    inv ∙ ap (λ r. old ++ r) (ascend_turn found at n l ∙ ap (λ b. if b then at ∷ rest else rest) yes') ∙ sym (one_behind old rest at) ∙ ap (λ f. f ++ rest) (sym is)

pub missed_goes : (found whole old new : List ℕ) (at n : ℕ) → at < n → whole ≡ old ++ ascending found at (n - at) → has_number found at ≡ false → new ≡ old → whole ≡ new ++ ascending found (at + 1) (n - (at + 1))
missed_goes found whole old new at n l inv no' is =
    let rest : List ℕ = ascending found (at + 1) (n - (at + 1)) in
    inv ∙ ap (λ r. old ++ r) (ascend_turn found at n l ∙ ap (λ b. if b then at ∷ rest else rest) no') ∙ ap (λ f. f ++ rest) (sym is)

pub above_goes : (e : Edges) (whole old new : List (List ℕ)) (at n : ℕ) (x : List ℕ) → at < n → whole ≡ old ++ above_from e at (n - at) → x ≡ ascending (reached e at) 0 (length e) → new ≡ old ++ x ∷ [] → whole ≡ new ++ above_from e (at + 1) (n - (at + 1))
above_goes e whole old new at n x l inv same is =
    let rest : List (List ℕ) = above_from e (at + 1) (n - (at + 1)) in
    inv ∙ ap (λ r. old ++ r) (above_turn e at n l ∙ ap (λ y. y ∷ rest) (sym same)) ∙ sym (one_behind old rest x) ∙ ap (λ f. f ++ rest) (sym is)
