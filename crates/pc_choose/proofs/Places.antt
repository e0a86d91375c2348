-- Marks, and the places of able actors among them.
use Rattle.std.proofs.{Common.{◌≡◌, ℕ, zero, suc, ◌+◌, ◌-◌, ◌<◌, ◌≤◌, Bool, true, false, cond, nat_lt, List, [], ◌∷◌, ◌++◌, length, take, get_or, set, sum, map, Option, Some, None, refl, sym, ap, ◌∙◌, subst, arith, inl, inr}, Math.Nat.eq-or-lt_of_le, lemmas.Bool.{false≢true, ltb-false, ltb-true}, lemmas.List.{length-map, take_more, take_all}, lemmas.List.Sums.{sum_by-cons, sum_by-take-le}, lemmas.Option.{none-some, same_Some}}
use Rattle.std.specs.Prelude.{slice_get, IfNone, IfSome}
use Rattle.pc_semantics.specs.{declared.actors.Actor.Actor, Configurations.Configuration}
use Rattle.pc_tally.specs.Sums.{FallsOn}
use Rattle.pc_tally.proofs.Sums.{sum_grows, sum_all}
use Rattle.pc_choose.specs.{Able.{able, is_able, able_among, able_actors}, Marks.{mark, mark_of, marks_of, AreMarks}}

abbrev same : ℕ → ℕ
same x = x

-- ---- marks

pub mark_small : (b : Bool) → mark b ≤ 1
mark_small true = omega arith
mark_small false = omega arith

pub marks_at : (xs : List Actor) (i d : ℕ) → i < length xs → get_or (map mark_of xs) i d ≡ mark (is_able (slice_get xs i))
marks_at [] i d l = absurd (omega (arith, l))
marks_at (x ∷ xs) zero d l = refl
marks_at (x ∷ xs) (suc i) d l = marks_at xs i d (omega (arith, l))

small_in : (xs : List Actor) (i : ℕ) → get_or (map mark_of xs) i 0 ≤ 1
small_in [] i = omega arith
small_in (x ∷ xs) zero = mark_small (is_able (Some x))
small_in (x ∷ xs) (suc i) = small_in xs i

pub are_marks : (c : Configuration) → AreMarks (marks_of c)
are_marks c i = small_in c.actors i

small_set : (ms : List ℕ) (j v : ℕ) → v ≤ 1 → AreMarks ms → (i : ℕ) → get_or (set ms j v) i 0 ≤ 1
small_set [] j v s a i = a i
small_set (m ∷ ms) zero v s a zero = s
small_set (m ∷ ms) zero v s a (suc i) = a (suc i)
small_set (m ∷ ms) (suc j) v s a zero = a zero
small_set (m ∷ ms) (suc j) v s a (suc i) = small_set ms j v s (λ k. a (suc k)) i

pub marks_set : (ms : List ℕ) (j v : ℕ) → v ≤ 1 → AreMarks ms → AreMarks (set ms j v)
marks_set ms j v s a i = small_set ms j v s a i

pub marks_push : (ms : List ℕ) → AreMarks ms → (i : ℕ) → get_or (ms ++ 1 ∷ []) i 0 ≤ 1
marks_push [] a zero = omega arith
marks_push [] a (suc i) = omega arith
marks_push (m ∷ ms) a zero = a zero
marks_push (m ∷ ms) a (suc i) = marks_push ms (λ k. a (suc k)) i

-- A mark that is there already, and one of no actor.
pub same_set : (ms : List ℕ) (i v : ℕ) → slice_get ms i ≡ Some v → set ms i v ≡ ms
same_set [] i v e = refl
same_set (m ∷ ms) zero v e = ap (λ (n : ℕ). n ∷ ms) (sym (same_Some m v e))
same_set (m ∷ ms) (suc i) v e = ap (λ (l : List ℕ). m ∷ l) (same_set ms i v e)

pub past_set : (ms : List ℕ) (i v : ℕ) → slice_get ms i ≡ None → set ms i v ≡ ms
past_set [] i v e = refl
past_set (m ∷ ms) zero v e = absurd (none-some m (sym e))
past_set (m ∷ ms) (suc i) v e = ap (λ (l : List ℕ). m ∷ l) (past_set ms i v e)

-- There are no more marks equal to 1 than marks.
pub marks_sum : (ms : List ℕ) → AreMarks ms → sum ms ≤ length ms
marks_sum [] a = omega arith
marks_sum (m ∷ ms) a =
    let e = sum_by-cons same m ms in
    let r = marks_sum ms (λ k. a (suc k)) in
    let h : m ≤ 1 = a zero in
    omega (arith, e, r, h)

-- The same with another mark in a place.
pub marks_room : (ms : List ℕ) (i : ℕ) → AreMarks ms → i < length ms → sum ms + 1 ≤ length ms + get_or ms i 0
marks_room [] i a l = absurd (omega (arith, l))
marks_room (m ∷ ms) zero a l =
    let e = sum_by-cons same m ms in
    let r = marks_sum ms (λ k. a (suc k)) in
    omega (arith, e, r)
marks_room (m ∷ ms) (suc i) a l =
    let e = sum_by-cons same m ms in
    let r = marks_room ms i (λ k. a (suc k)) (omega (arith, l)) in
    let h : m ≤ 1 = a zero in
    omega (arith, e, r, h)

first_sum : (ms : List ℕ) (n : ℕ) → AreMarks ms → sum (take n ms) ≤ n
first_sum ms zero a = omega arith
first_sum [] (suc n) a = omega arith
first_sum (m ∷ ms) (suc n) a =
    let e = sum_by-cons same m (take n ms) in
    let r = first_sum ms n (λ k. a (suc k)) in
    let h : m ≤ 1 = a zero in
    omega (arith, e, r, h)

pub marks_fit : (c : Configuration) (n : ℕ) → sum (take n (marks_of c)) ≤ n
marks_fit c n = first_sum (marks_of c) n (are_marks c)

pub one_mark_more : (c : Configuration) (n d : ℕ) → n < length c.actors → take (n + 1) (marks_of c) ≡ take n (marks_of c) ++ mark (able c n) ∷ []
one_mark_more c n d l =
    let m : n < length (marks_of c) = let e = length-map c.actors mark_of in omega (arith, e, l) in
    take_more (marks_of c) n d m ∙ ap (λ (x : ℕ). take n (marks_of c) ++ x ∷ []) (marks_at c.actors n d l)

pub all_marks : (c : Configuration) (n : ℕ) → length c.actors ≤ n → take n (marks_of c) ≡ marks_of c
all_marks c n l = let e = length-map c.actors mark_of in take_all n (marks_of c) (omega (arith, e, l))

-- ---- a mark at a place

abbrev pub is_marked : Option ℕ → Bool
is_marked None = false
is_marked (Some n) = nat_lt 0 n

marked_mark : (b : Bool) → nat_lt 0 (mark b) ≡ b
marked_mark true = refl
marked_mark false = refl

marked_in : (xs : List Actor) (i : ℕ) → is_marked (slice_get (map mark_of xs) i) ≡ is_able (slice_get xs i)
marked_in [] i = refl
marked_in (x ∷ xs) zero = marked_mark (is_able (Some x))
marked_in (x ∷ xs) (suc i) = marked_in xs i

pub marked_is_able : (c : Configuration) (i : ℕ) → is_marked (slice_get (marks_of c) i) ≡ able c i
marked_is_able c i = marked_in c.actors i

-- ---- places of able actors

step_in : (xs : List Actor) (a : ℕ) → sum (take (suc a) (map mark_of xs)) ≡ sum (take a (map mark_of xs)) + mark (is_able (slice_get xs a))
step_in [] zero = refl
step_in [] (suc a) = refl
step_in (x ∷ xs) zero = let e = sum_by-cons same (mark_of x) [] in omega (arith, e)
step_in (x ∷ xs) (suc a) =
    let e = sum_by-cons same (mark_of x) (take (suc a) (map mark_of xs)) in
    let f = sum_by-cons same (mark_of x) (take a (map mark_of xs)) in
    let r = step_in xs a in
    omega (arith, e, f, r)

module _ (c : Configuration) where
  abbrev before : ℕ → ℕ
  before i = sum (take i (marks_of c))

  step_at : (a : ℕ) → before (a + 1) ≡ before a + mark (able c a)
  step_at a = let n : a + 1 ≡ suc a = omega arith in ap before n ∙ step_in c.actors a

  able_more : (a : ℕ) → able c a ≡ true → before (a + 1) ≡ before a + 1
  able_more a e = step_at a ∙ ap (λ (b : Bool). before a + mark b) e

  unable_more : (a : ℕ) → able c a ≡ false → before (a + 1) ≡ before a
  unable_more a e = let s = step_at a ∙ ap (λ (b : Bool). before a + mark b) e in omega (arith, s)

  able_there : (a n i : ℕ) → a ≤ i → i < a + suc n → able c a ≡ false → able c i ≡ true → a + 1 ≤ i
  able_there a n i l m e t = elim (eq-or-lt_of_le l) [
    | inl s ↦ absurd (false≢true (sym e ∙ ap (able c) s ∙ t))
    | inr s ↦ omega (arith, s)
  ]

  -- the able actor at a place of those from a on
  module _ (n a : ℕ) (more : (k i : ℕ) → a + 1 ≤ i → i < a + 1 + n → able c i ≡ true → before i ≡ before (a + 1) + k → slice_get (able_among c (a + 1) n) k ≡ Some i) where
    here : (b : Bool) → able c a ≡ b → (k i : ℕ) → a ≤ i → i < a + suc n → able c i ≡ true → before i ≡ before a + k → slice_get (cond b (a ∷ able_among c (a + 1) n) (able_among c (a + 1) n)) k ≡ Some i
    here false e k i l m t s =
        let u : before (a + 1) ≡ before a = unable_more a e in
        more k i (able_there a n i l m e t) (omega (arith, m)) t (omega (arith, s, u))
    here true e zero i l m t s = elim (eq-or-lt_of_le l) [
      | inl is ↦ ap (λ (x : ℕ). Some x) is
      | inr past ↦
          let u : before (a + 1) ≡ before a + 1 = able_more a e in
          let g = sum_grows (a + 1) i (marks_of c) (omega (arith, past)) in
          absurd (omega (arith, u, g, s))
    ]
    here true e (suc k) i l m t s = elim (eq-or-lt_of_le l) [
      | inl is ↦ let f = ap before is in absurd (omega (arith, f, s))
      | inr past ↦
          let u : before (a + 1) ≡ before a + 1 = able_more a e in
          more k i (omega (arith, past)) (omega (arith, m)) t (omega (arith, s, u))
    ]

  place_at : (n a k i : ℕ) → a ≤ i → i < a + n → able c i ≡ true → before i ≡ before a + k → slice_get (able_among c a n) k ≡ Some i
  place_at zero a k i l m t s = absurd (omega (arith, l, m))
  place_at (suc n) a k i l m t s = here n a (λ k' i' l' m' t' s'. place_at n (a + 1) k' i' l' m' t' s') (able c a) refl k i l m t s

  -- no place
  module _ (n a : ℕ) (more : (k : ℕ) → before (a + 1 + n) ≤ before (a + 1) + k → slice_get (able_among c (a + 1) n) k ≡ None) where
    none_here : (b : Bool) → able c a ≡ b → (k : ℕ) → before (a + suc n) ≤ before a + k → slice_get (cond b (a ∷ able_among c (a + 1) n) (able_among c (a + 1) n)) k ≡ None
    none_here false e k s =
        let u : before (a + 1) ≡ before a = unable_more a e in
        let f : a + suc n ≡ a + 1 + n = omega arith in
        let g = ap before f in
        more k (omega (arith, s, u, g))
    none_here true e zero s =
        let u : before (a + 1) ≡ before a + 1 = able_more a e in
        let g = sum_grows (a + 1) (a + suc n) (marks_of c) (omega arith) in
        absurd (omega (arith, u, g, s))
    none_here true e (suc k) s =
        let u : before (a + 1) ≡ before a + 1 = able_more a e in
        let f : a + suc n ≡ a + 1 + n = omega arith in
        let g = ap before f in
        more k (omega (arith, s, u, g))

  no_place : (n a k : ℕ) → before (a + n) ≤ before a + k → slice_get (able_among c a n) k ≡ None
  no_place zero a k s = refl
  no_place (suc n) a k s = none_here n a (λ k' s'. no_place n (a + 1) k' s') (able c a) refl k s

  -- ---- how many are able

  module _ (n a : ℕ) (more : before (a + 1) + length (able_among c (a + 1) n) ≡ before (a + 1 + n)) where
    count_here : (b : Bool) → able c a ≡ b → before a + length (cond b (a ∷ able_among c (a + 1) n) (able_among c (a + 1) n)) ≡ before (a + suc n)
    count_here false e =
        let u : before (a + 1) ≡ before a = unable_more a e in
        let f : a + suc n ≡ a + 1 + n = omega arith in
        let g = ap before f in
        omega (arith, more, u, g)
    count_here true e =
        let u : before (a + 1) ≡ before a + 1 = able_more a e in
        let f : a + suc n ≡ a + 1 + n = omega arith in
        let g = ap before f in
        omega (arith, more, u, g)

  count_among : (n a : ℕ) → before a + length (able_among c a n) ≡ before (a + n)
  count_among zero a = let f : a ≡ a + 0 = omega arith in let g = ap before f in omega (arith, g)
  count_among (suc n) a = count_here n a (count_among n (a + 1)) (able c a) refl

  pub marks_count : sum (marks_of c) ≡ length (able_actors c)
  marks_count =
      let e = length-map c.actors mark_of in
      let a = sum_all (0 + length c.actors) (marks_of c) (omega (arith, e)) in
      let n = count_among (length c.actors) 0 in
      omega (arith, a, n)

  -- ---- if the sums of marks fall

  module _ (k i : ℕ) (f : FallsOn (marks_of c) k i) where
    falls_by : (b : Bool) → able c i ≡ b → able c i ≡ true
    falls_by true e = e
    falls_by false e = let u : before (i + 1) ≡ before i = unable_more i e in absurd (omega (arith, u, f.before, f.passes))

    falls_able : able c i ≡ true
    falls_able = falls_by (able c i) refl

    falls_more : before (i + 1) ≡ before i + 1
    falls_more = able_more i falls_able

    falls_there : i < length c.actors
    falls_there = let e = length-map c.actors mark_of in omega (arith, e, f.there)

  pub found_at : (k i : ℕ) → FallsOn (marks_of c) k i → slice_get (able_actors c) k ≡ Some i
  found_at k i f =
      let m = falls_more k i f in
      place_at (length c.actors) 0 k i (omega arith) (omega (arith, falls_there k i f)) (falls_able k i f) (omega (arith, m, f.before, f.passes))

  pub none_at : (k : ℕ) → sum (marks_of c) ≤ k → slice_get (able_actors c) k ≡ None
  none_at k l =
      let e = length-map c.actors mark_of in
      let a = sum_all (0 + length c.actors) (marks_of c) (omega (arith, e)) in
      no_place (length c.actors) 0 k (omega (arith, a, l))

  module _ (first end : ℕ) where
    by_order : (i : ℕ) → FallsOn (marks_of c) (before first) i → (b : Bool) → nat_lt i first ≡ b → first ≤ i
    by_order i f false e = ltb-false i first e
    by_order i f true e = let l : i < first = ltb-true i first e in let g = sum_grows (i + 1) first (marks_of c) (omega (arith, l)) in absurd (omega (arith, g, f.passes))

    at_least : (i : ℕ) → FallsOn (marks_of c) (before first) i → first ≤ i
    at_least i f = by_order i f (nat_lt i first) refl

    pub first_found : (i : ℕ) → FallsOn (marks_of c) (before first) i → i < end → slice_get (able_among c first (end - first)) 0 ≡ Some i
    first_found i f l =
        let m = falls_more (before first) i f in
        let g : first ≤ i = at_least i f in
        place_at (end - first) first 0 i g (omega (arith, g, l)) (falls_able (before first) i f) (omega (arith, m, f.before, f.passes))

    before_end : before (first + (end - first)) ≤ before first + 0 → slice_get (able_among c first (end - first)) 0 ≡ None
    before_end l = no_place (end - first) first 0 l

    pub first_past : (i : ℕ) → FallsOn (marks_of c) (before first) i → end ≤ i → slice_get (able_among c first (end - first)) 0 ≡ None
    first_past i f l =
        let g = at_least i f in
        let h = sum_grows (first + (end - first)) i (marks_of c) (omega (arith, l, g)) in
        before_end (omega (arith, h, f.before))

    pub first_none : sum (marks_of c) ≤ before first → slice_get (able_among c first (end - first)) 0 ≡ None
    first_none l = let h = sum_by-take-le same (marks_of c) (first + (end - first)) in before_end (omega (arith, h, l))

    pub first_beyond : length (marks_of c) ≤ first → slice_get (able_among c first (end - first)) 0 ≡ None
    first_beyond l = let e = sum_all first (marks_of c) l in first_none (omega (arith, e))

-- the first one itself
pub first_here : (c : Configuration) (first end : ℕ) → first < end → able c first ≡ true → Some first ≡ slice_get (able_among c first (end - first)) 0
first_here c first end l w = sym (place_at c (end - first) first 0 first (omega arith) (omega (arith, l)) w (omega arith))

-- ---- the same of marks that are a configuration's

module _ (c : Configuration) (ms : List ℕ) (known : ms ≡ marks_of c) where
  of_marks : (k i : ℕ) → FallsOn ms k i → FallsOn (marks_of c) k i
  of_marks k i f = subst (λ (m : List ℕ). FallsOn m k i) known f

  pub are_known : AreMarks ms
  are_known = subst AreMarks (sym known) (are_marks c)

  pub count_known : sum ms ≡ length (able_actors c)
  count_known = ap sum known ∙ marks_count c

  pub marked_known : (i : ℕ) → is_marked (slice_get ms i) ≡ able c i
  marked_known i = ap (λ (m : List ℕ). is_marked (slice_get m i)) known ∙ marked_is_able c i

  pub place_known : (k : ℕ) (o : Option ℕ) → IfNone o (sum ms ≤ k) → IfSome o (FallsOn ms k) → o ≡ slice_get (able_actors c) k
  place_known k None n s = let e = ap sum known in sym (none_at c k (omega (arith, e, n)))
  place_known k (Some i) n s = sym (found_at c k i (of_marks k i s))

  module _ (first end k : ℕ) (is : k ≡ sum (take first ms)) where
    ranked : k ≡ sum (take first (marks_of c))
    ranked = is ∙ ap (λ (m : List ℕ). sum (take first m)) known

    falls_known : (i : ℕ) → FallsOn ms k i → FallsOn (marks_of c) (sum (take first (marks_of c))) i
    falls_known i f = subst (λ (n : ℕ). FallsOn (marks_of c) n i) ranked (of_marks k i f)

    pub first_known : (i : ℕ) → FallsOn ms k i → i < end → Some i ≡ slice_get (able_among c first (end - first)) 0
    first_known i f l = sym (first_found c first end i (falls_known i f) l)

    pub past_known : (i : ℕ) → FallsOn ms k i → end ≤ i → None ≡ slice_get (able_among c first (end - first)) 0
    past_known i f l = sym (first_past c first end i (falls_known i f) l)

    pub none_known : sum ms ≤ k → None ≡ slice_get (able_among c first (end - first)) 0
    none_known l = let e = ap sum known in let r = ranked in sym (first_none c first end (omega (arith, e, r, l)))

  pub beyond_known : (first end : ℕ) → length ms ≤ first → None ≡ slice_get (able_among c first (end - first)) 0
  beyond_known first end l = let e : length ms ≡ length (marks_of c) = ap length known in sym (first_beyond c first end (omega (arith, e, l)))
