-- How many methods are picked from a list, at most one with each name: as many as there are names with a method to be
-- picked.
use Rattle.std.proofs.{Common.{◌≡◌, ℕ, zero, suc, ◌+◌, List, [], ◌∷◌, ◌++◌, length, Some, Bool, true, false, cond, ◌&&◌, ◌||◌, not, count_by, refl, sym, ap, ◌∙◌, arith, inl, inr, if◌then◌else◌}, lemmas.Bool.{and_parts, and_cases, not-true, not-false}, lemmas.Option.{same_Some, none-some}, lemmas.List.Sums.sum_by-cons}
use Rattle.std.specs.{Prelude.slice_get, List.list_any, Str.bytes_eq}
use Rattle.pc_base.specs.Lists.{Has, Differ, Text}
use Rattle.pc_base.proofs.{Bools.true_false, Elements.has_on}
use Rattle.pc_tree.specs.declared.kinds.EntityKind.{EntityKind}
use Rattle.pc_tree.specs.Tree as t
use Rattle.pc_members.specs.{MemberLists.{is_among, firsts, methods_taken_over}, Members.{method_texts, is_takable}}
use Rattle.pc_members.proofs.Differences.{same_text, equal_texts}
use Rattle.pc_member_counts.specs.Totals.{takes}
use Rattle.pc_member_counts.proofs.{Truths.{and_true, and_false, or_false, or_true}, Sights.{pushed_same, pushed_other}}

-- ---- counts over names

pub count_cons : (p : Text → Bool) (x : Text) (xs : List Text) → count_by p (x ∷ xs) ≡ cond (p x) 1 0 + count_by p xs
count_cons p x xs = sum_by-cons (λ y. cond (p y) 1 0) x xs

pub same_count : (p q : Text → Bool) (xs : List Text) → ((x : Text) → Has xs x → p x ≡ q x) → count_by p xs ≡ count_by q xs
same_count p q [] h = refl
same_count p q (x ∷ xs) h =
    let rest : count_by p xs ≡ count_by q xs = same_count p q xs (λ y g. h y (has_on x xs y g)) in
    count_cons p x xs ∙ ap (λ b. cond b 1 0 + count_by p xs) (h x (0, refl)) ∙ ap (λ n. cond (q x) 1 0 + n) rest ∙ sym (count_cons q x xs)

pub count_none : (p : Text → Bool) (xs : List Text) → ((x : Text) → p x ≡ false) → count_by p xs ≡ 0
count_none p [] h = refl
count_none p (x ∷ xs) h = count_cons p x xs ∙ ap (λ b. cond b 1 0 + count_by p xs) (h x) ∙ (let z : 0 + count_by p xs ≡ count_by p xs = omega arith in z) ∙ count_none p xs h

pub count_others : (p : Text → Bool) (xs : List Text) → count_by p xs + count_by (λ x. not (p x)) xs ≡ length xs
count_others p [] = refl
count_others p (x ∷ xs) =
    let a = count_cons p x xs in
    let b = count_cons (λ y. not (p y)) x xs in
    let c = count_others p xs in
    by (p x) (count_by p (x ∷ xs)) (count_by (λ y. not (p y)) (x ∷ xs)) (count_by p xs) (count_by (λ y. not (p y)) xs) a b c
  where
    by : (t : Bool) (m n k l : ℕ) → m ≡ cond t 1 0 + k → n ≡ cond (not t) 1 0 + l → k + l ≡ length xs → m + n ≡ suc (length xs)
    by true m n k l a b c = omega (arith, a, b, c)
    by false m n k l a b c = omega (arith, a, b, c)

-- ---- one more name

differ_rest : (x : Text) (xs : List Text) → Differ (x ∷ xs) → Differ xs
differ_rest x xs d i j y hi hj = let e = d (suc i) (suc j) y hi hj in omega (arith, e)

not_behind : (x : Text) (xs : List Text) → Differ (x ∷ xs) → Has xs x → ⊥
not_behind x xs d h = let e = d 0 (suc h.0) x refl h.1 in absurd (omega (arith, e))

one_more : (p q : Text → Bool) (x : Text) → p x ≡ false → ((y : Text) → q y ≡ (p y || bytes_eq y x)) → (xs : List Text) → Differ xs → Has xs x → count_by q xs ≡ suc (count_by p xs)
one_more p q x n e [] d h = absurd (none-some x h.1)
one_more p q x n e (y ∷ xs) d h = by (bytes_eq y x) refl (λ g. one_more p q x n e xs (differ_rest y xs d) g)
  where
    other : (z : Text) → Has xs z → x ≡ y → bytes_eq z x ≡ false
    other z g s = lone (bytes_eq z x) refl
      where
        lone : (b : Bool) → bytes_eq z x ≡ b → b ≡ false
        lone true c = absurd (not_behind y xs d (g.0, g.1 ∙ ap (λ w. Some w) (equal_texts z x c ∙ s)))
        lone false c = refl

    behind : bytes_eq y x ≡ false → Has xs x
    behind c = at h.0 h.1
      where
        at : (i : ℕ) → slice_get (y ∷ xs) i ≡ Some x → Has xs x
        at zero g = absurd (true_false (sym (ap (λ w. bytes_eq w x) (same_Some y x g) ∙ same_text x) ∙ c))
        at (suc i) g = (i, g)

    by : (b : Bool) → bytes_eq y x ≡ b → (Has xs x → count_by q xs ≡ suc (count_by p xs)) → count_by q (y ∷ xs) ≡ suc (count_by p (y ∷ xs))
    by true c rest =
        let s : x ≡ y = sym (equal_texts y x c) in
        let qs : q y ≡ true = e y ∙ ap (λ b. p y || b) c ∙ or_true (p y) in
        let ps : p y ≡ false = ap p (sym s) ∙ n in
        let same : count_by q xs ≡ count_by p xs = same_count q p xs (λ z g. e z ∙ ap (λ b. p z || b) (other z g s) ∙ or_false (p z)) in
        count_cons q y xs ∙ ap (λ b. cond b 1 0 + count_by q xs) qs ∙ ap (λ k. 1 + k) same
        ∙ (let z : 1 + count_by p xs ≡ suc (0 + count_by p xs) = omega arith in z)
        ∙ sym (ap suc (count_cons p y xs ∙ ap (λ b. cond b 1 0 + count_by p xs) ps))
    by false c rest =
        let qs : q y ≡ p y = e y ∙ ap (λ b. p y || b) c ∙ or_false (p y) in
        count_cons q y xs ∙ ap (λ b. cond b 1 0 + count_by q xs) qs ∙ ap (λ k. cond (p y) 1 0 + k) (rest (behind c))
        ∙ (let z : cond (p y) 1 0 + suc (count_by p xs) ≡ suc (cond (p y) 1 0 + count_by p xs) = omega arith in z)
        ∙ sym (ap suc (count_cons p y xs))

-- ---- what is picked

-- A method with the property has the name.
abbrev pub has_named : (t.Method → Bool) → Text → List t.Method → Bool
has_named g x ms = list_any (λ (m : t.Method). bytes_eq x m.name.text && g m) ms

-- The methods with the property, the first with each name that is new.
abbrev picks : (t.Method → Bool) → List Text → List t.Method → List t.Method
picks g known [] = []
picks g known (m ∷ ms) = if g m && not (is_among m.name.text known) then m ∷ picks g (known ++ m.name.text ∷ []) ms else picks g known ms

-- A new name with such a method.
abbrev wanted : (t.Method → Bool) → List Text → List t.Method → Text → Bool
wanted g known ms x = has_named g x ms && not (is_among x known)

-- The names of these methods are among the names.
abbrev pub Covered : List Text → List t.Method → Type 0
Covered names ms = (m : t.Method) → Has ms m → Has names m.name.text

module _ (g : t.Method → Bool) (names : List Text) (d : Differ names) where
  -- A method that is picked adds one name.
  wanted_more : (known : List Text) (m : t.Method) (ms : List t.Method) → g m ≡ true → is_among m.name.text known ≡ false
      → (y : Text) → wanted g known (m ∷ ms) y ≡ (wanted g (known ++ m.name.text ∷ []) ms y || bytes_eq y m.name.text)
  wanted_more known m ms gm new y = by (bytes_eq y m.name.text) refl
    where
      by : (b : Bool) → bytes_eq y m.name.text ≡ b → (((b && g m) || has_named g y ms) && not (is_among y known)) ≡ ((has_named g y ms && not (is_among y (known ++ m.name.text ∷ []))) || b)
      by true e =
          ap (λ b. (b || has_named g y ms) && not (is_among y known)) gm ∙ ap not (ap (λ z. is_among z known) (equal_texts y m.name.text e) ∙ new)
          ∙ sym (or_true (has_named g y ms && not (is_among y (known ++ m.name.text ∷ []))))
      by false e = ap (λ b. has_named g y ms && not b) (sym (pushed_other y m.name.text known e)) ∙ sym (or_false (has_named g y ms && not (is_among y (known ++ m.name.text ∷ []))))

  -- A method that is not picked adds none.
  wanted_same : (known : List Text) (m : t.Method) (ms : List t.Method) → (g m && not (is_among m.name.text known)) ≡ false → (y : Text) → wanted g known (m ∷ ms) y ≡ wanted g known ms y
  wanted_same known m ms none y = by (bytes_eq y m.name.text) refl
    where
      known_is : (b : Bool) → is_among y known ≡ b → b ≡ true → ((g m || has_named g y ms) && not (is_among y known)) ≡ (has_named g y ms && not (is_among y known))
      known_is b e f = ap (λ c. (g m || has_named g y ms) && not c) (e ∙ f) ∙ and_false (g m || has_named g y ms) ∙ sym (ap (λ c. has_named g y ms && not c) (e ∙ f) ∙ and_false (has_named g y ms))

      by : (b : Bool) → bytes_eq y m.name.text ≡ b → (((b && g m) || has_named g y ms) && not (is_among y known)) ≡ (has_named g y ms && not (is_among y known))
      by true e = elim (and_cases (g m) (not (is_among m.name.text known)) none) [
        | inl a ↦ ap (λ b. (b || has_named g y ms) && not (is_among y known)) a
        | inr a ↦ known_is (is_among y known) refl (ap (λ z. is_among z known) (equal_texts y m.name.text e) ∙ not-false (is_among m.name.text known) a)
      ]
      by false e = refl

  count_picks : (known : List Text) (ms : List t.Method) → Covered names ms → length (picks g known ms) ≡ count_by (wanted g known ms) names
  count_picks known [] c = sym (count_none (wanted g known []) names (λ x. refl))
  count_picks known (m ∷ ms) c = by (λ ks. count_picks ks ms (λ z h. c z (has_on m ms z h))) (g m && not (is_among m.name.text known)) refl
    where
      by : ((ks : List Text) → length (picks g ks ms) ≡ count_by (wanted g ks ms) names) → (b : Bool) → (g m && not (is_among m.name.text known)) ≡ b
          → length (if b then m ∷ picks g (known ++ m.name.text ∷ []) ms else picks g known ms) ≡ count_by (wanted g known (m ∷ ms)) names
      by rest true e =
          let p = and_parts (g m) (not (is_among m.name.text known)) e in
          let next : List Text = known ++ m.name.text ∷ [] in
          let gone : wanted g next ms m.name.text ≡ false = ap (λ b. has_named g m.name.text ms && not b) (pushed_same m.name.text m.name.text known (same_text m.name.text)) ∙ and_false (has_named g m.name.text ms) in
          ap suc (rest next)
          ∙ sym (one_more (wanted g next ms) (wanted g known (m ∷ ms)) m.name.text gone (wanted_more known m ms p.0 (not-true (is_among m.name.text known) p.1)) names d (c m (0, refl)))
      by rest false e = rest known ∙ sym (same_count (wanted g known (m ∷ ms)) (wanted g known ms) names (λ y h. wanted_same known m ms e y))

-- ---- the methods of a trait, and what is taken over

taken_picks : (k : EntityKind) (known : List Text) (ms : List t.Method) → methods_taken_over k known ms ≡ picks (is_takable k) known ms
taken_picks k known [] = refl
taken_picks k known (m ∷ ms) = by (λ ks. taken_picks k ks ms) (is_takable k m && not (is_among m.name.text known))
  where
    by : ((ks : List Text) → methods_taken_over k ks ms ≡ picks (is_takable k) ks ms) → (b : Bool)
        → (if b then m ∷ methods_taken_over k (known ++ m.name.text ∷ []) ms else methods_taken_over k known ms) ≡ (if b then m ∷ picks (is_takable k) (known ++ m.name.text ∷ []) ms else picks (is_takable k) known ms)
    by rest true = ap (λ zs. m ∷ zs) (rest (known ++ m.name.text ∷ []))
    by rest false = rest known

abbrev any_method : t.Method → Bool
any_method m = true

first_picks : (known : List Text) (ms : List t.Method) → firsts known ms ≡ picks any_method known ms
first_picks known [] = refl
first_picks known (m ∷ ms) = by (λ ks. first_picks ks ms) (is_among m.name.text known)
  where
    by : ((ks : List Text) → firsts ks ms ≡ picks any_method ks ms) → (b : Bool)
        → (if b then firsts known ms else m ∷ firsts (known ++ m.name.text ∷ []) ms) ≡ (if not b then m ∷ picks any_method (known ++ m.name.text ∷ []) ms else picks any_method known ms)
    by rest true = rest known
    by rest false = ap (λ zs. m ∷ zs) (rest (known ++ m.name.text ∷ []))

named_any : (x : Text) (ms : List t.Method) → has_named any_method x ms ≡ is_among x (method_texts ms)
named_any x [] = refl
named_any x (m ∷ ms) = ap (λ b. b || has_named any_method x ms) (and_true (bytes_eq x m.name.text)) ∙ ap (λ b. bytes_eq x m.name.text || b) (named_any x ms)

pub count_taken_over : (k : EntityKind) (known names : List Text) (ms : List t.Method) → Differ names → Covered names ms → length (methods_taken_over k known ms) ≡ count_by (λ x. takes k x ms && not (is_among x known)) names
count_taken_over k known names ms d c = ap length (taken_picks k known ms) ∙ count_picks (is_takable k) names d known ms c

pub count_firsts : (names : List Text) (ms : List t.Method) → Differ names → Covered names ms → length (firsts [] ms) ≡ count_by (λ x. is_among x (method_texts ms)) names
count_firsts names ms d c =
    ap length (first_picks [] ms) ∙ count_picks any_method names d [] ms c
    ∙ same_count (wanted any_method [] ms) (λ x. is_among x (method_texts ms)) names (λ x h. and_true (has_named any_method x ms) ∙ named_any x ms)
