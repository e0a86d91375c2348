-- How a list ends.
use Rattle.std.proofs.{Common.{◌≡◌, ◌≢◌, ℕ, zero, suc, ◌+◌, ◌*◌, ◌<◌, ◌≤◌, Bool, true, false, nat_lt, get_or, ◌/◌, ◌%◌, List, [], ◌∷◌, ◌++◌, length, Option, Some, None, inl, inr, refl, sym, ap, subst, ◌∙◌, arith}, lemmas.Nat.mod_below, lemmas.Bool.ltb-false, lemmas.Option.{slice_get_cases, slice_get-get_or}}
use Rattle.std.specs.{Prelude.{IsSomeAnd, cond, ◌&&◌, ◌⊎◌, filter, slice_get, if◌then◌else◌}, List.range_with_len}
use Rattle.pc_core.specs.CoreData.{CoreData}
use Rattle.pc_semantics.specs.{declared.outcome.Outcome.Outcome, declared.outcome.Outcome.TheVariants.{Moved, Skipped, Lacks, TooLong}, Configurations.{Configuration, start}, Step.{followed, run_from, step}}
use Rattle.pc_draws.specs.Draws.{state}
use Rattle.pc_choose.specs.{declared.point.Point.Point, declared.point.Picked.Picked, Able.{able, is_able, able_actors}, Choice.{turn, new_turn, turn_of, picked, picks, or_new_round, next_in_round, stepped, at_first, most_turns}, Lists.{AfterStep, Follows, most_steps}, Laws.{EndsAt, ListsEnd}}

-- ---- if no one is picked, no actor is able

abbrev There : {X : Type 0} → Option X → Type 0
There None = ⊥
There (Some x) = Unit {0}

gone : {X : Type 0} (x : X) → Some x ≡ None → ⊥
gone x e = subst There e tt

abbrev Filled : List ℕ → Type 0
Filled [] = ⊥
Filled (x ∷ xs) = Unit {0}

module _ (test : ℕ → Bool) (a n : ℕ) (more : filter test (range_with_len (a + 1) n) ≡ [] → (j : ℕ) → j < n → test (a + 1 + j) ≡ false) where
  none_here : (b : Bool) → test a ≡ b → cond b (a ∷ filter test (range_with_len (a + 1) n)) (filter test (range_with_len (a + 1) n)) ≡ [] → (j : ℕ) → j < suc n → test (a + j) ≡ false
  none_here true t e j l = absurd (subst Filled e tt)
  none_here false t e zero l = let s : a ≡ a + 0 = omega arith in subst (λ (k : ℕ). test k ≡ false) s t
  none_here false t e (suc j) l = let s : a + 1 + j ≡ a + suc j = omega arith in subst (λ (k : ℕ). test k ≡ false) s (more e j (omega (arith, l)))

none_passes : (test : ℕ → Bool) (n a : ℕ) → filter test (range_with_len a n) ≡ [] → (j : ℕ) → j < n → test (a + j) ≡ false
none_passes test zero a e j l = absurd (omega (arith, l))
none_passes test (suc n) a e j l = none_here test a n (none_passes test n (a + 1)) (test a) refl e j l

none_able : (c : Configuration) → able_actors c ≡ [] → (i : ℕ) → able c i ≡ false
none_able c e i = elim (slice_get_cases c.actors i).1 [
  | inl there ↦ let z : 0 + i ≡ i = omega arith in subst (λ (k : ℕ). able c k ≡ false) z (none_passes (able c) (length c.actors) 0 e i there.1)
  | inr past ↦ ap is_able past.1
]

heads : (xs : List ℕ) (r : ℕ) → picks (slice_get xs 0) r ≡ None → xs ≡ []
heads [] r e = refl
heads (x ∷ xs) r e = absurd (gone (record { actor = x; round = r }) e)

place_there : (xs : List ℕ) (x : ℕ) → 0 < length xs → picks (slice_get xs (x % length xs)) 0 ≡ None → ⊥
place_there xs x l e =
    gone (record { actor = get_or xs (x % length xs) 0; round = 0 })
    (sym (ap (λ (o : Option ℕ). picks o 0) (slice_get-get_or xs (x % length xs) 0 (mod_below x (length xs) l))) ∙ e)

drawn : (xs : List ℕ) (x : ℕ) → picks (slice_get xs (x % length xs)) 0 ≡ None → xs ≡ []
drawn [] x e = refl
drawn (y ∷ ys) x e = absurd (place_there (y ∷ ys) x (omega arith) e)

round_over : (p : Point) (c : Configuration) (o : Option ℕ) → or_new_round p c o ≡ None → able_actors c ≡ []
round_over p c None e = heads (able_actors c) (length c.actors) e
round_over p c (Some i) e = absurd (gone (record { actor = i; round = p.round }) e)

none_picked : (seed : ℕ) (p : Point) (c : Configuration) → picked seed p c ≡ None → able_actors c ≡ []
none_picked zero p c e = round_over p c (next_in_round p c) e
none_picked (suc s) p c e = drawn (able_actors c) (state (suc s) (suc (2 * p.turns)) / 65536) e

-- ---- no turn

module _ (seed : ℕ) (p : Point) (c : Configuration) where
  no_turn_of : (o : Option Picked) → turn_of seed p o ≡ None → o ≡ None
  no_turn_of None e = refl
  no_turn_of (Some x) e = absurd (gone _ e)

  no_new : (b : Bool) → nat_lt p.turns most_turns ≡ b → (if b then turn_of seed p (picked seed p c) else None) ≡ None → (most_turns ≤ p.turns) ⊎ ((i : ℕ) → able c i ≡ false)
  no_new true t e = inr (none_able c (none_picked seed p c (no_turn_of (picked seed p c) e)))
  no_new false t e = inl (ltb-false p.turns most_turns t)

  no_turn_if : (b : Bool) → (if b then Some p else new_turn seed p c) ≡ None → (most_turns ≤ p.turns) ⊎ ((i : ℕ) → able c i ≡ false)
  no_turn_if true e = absurd (gone p e)
  no_turn_if false e = no_new (nat_lt p.turns most_turns) refl e

  no_turn : turn seed p c ≡ None → (most_turns ≤ p.turns) ⊎ ((i : ℕ) → able c i ≡ false)
  no_turn e = no_turn_if (nat_lt 0 p.left && able c p.actor) e

  -- a turn more at most
  abbrev Grows : Option Point → Type 0
  Grows None = Unit {0}
  Grows (Some q) = q.turns ≤ p.turns + 1

  turn_grows : (o : Option Picked) → Grows (turn_of seed p o)
  turn_grows None = tt
  turn_grows (Some x) = omega arith

  new_grows : (b : Bool) → Grows (if b then turn_of seed p (picked seed p c) else None)
  new_grows true = turn_grows (picked seed p c)
  new_grows false = tt

  grows_if : (b : Bool) → Grows (if b then Some p else new_turn seed p c)
  grows_if true = omega arith
  grows_if false = new_grows (nat_lt p.turns most_turns)

  grows : Grows (turn seed p c)
  grows = grows_if (nat_lt 0 p.left && able c p.actor)

-- ---- the end

module _ (core : CoreData) where
  abbrev Stops : Configuration → List ℕ → Type 0
  Stops c list = (before : List ℕ) × (i : ℕ) × (list ≡ before ++ i ∷ []) × ((step core (run_from core c before) i).0 ≢ Moved)

  abbrev Ends : ℕ → Configuration → List ℕ → Type 0
  Ends n c list = (n + length list ≡ most_steps) ⊎ ((most_turns ≤ n + length list) ⊎ (((i : ℕ) → able (run_from core c list) i ≡ false) ⊎ Stops c list))

  abbrev not_moved : Outcome → Type 0
  not_moved Moved = ⊥
  not_moved Skipped = Unit {0}
  not_moved (Lacks l) = Unit {0}
  not_moved TooLong = Unit {0}

  module _ (n : ℕ) (c : Configuration) (i : ℕ) (is : List ℕ) where
    stop : (r : Outcome × Configuration) → step core c i ≡ r → not_moved r.0 → is ≡ [] → Ends n c (i ∷ is)
    stop r e m b = inr (inr (inr ([], i, ap (λ (l : List ℕ). i ∷ l) b, λ moved. subst not_moved (sym (ap (λ (x : Outcome × Configuration). x.0) e) ∙ moved) m)))

    onward : (d : Configuration) → step core c i ≡ (Moved, d) → Ends (n + 1) d is → Ends n c (i ∷ is)
    onward d e ends = elim ends [
      | inl full ↦ inl (omega (arith, full))
      | inr rest ↦ elim rest [
        | inl turns ↦ inr (inl (omega (arith, turns)))
        | inr more ↦ elim more [
          | inl none ↦ inr (inr (inl (λ k. subst (λ (r : Outcome × Configuration). able (followed (λ next. run_from core next is) c c r) k ≡ false) (sym e) (none k))))
          | inr s ↦ inr (inr (inr (i ∷ s.0, s.1, ap (λ (l : List ℕ). i ∷ l) s.2, subst (λ (r : Outcome × Configuration). (step core (followed (λ next. run_from core next s.0) c c r) s.1).0 ≢ Moved) (sym e) s.3)))
        ]
      ]
    ]

    module _ (seed room : ℕ) (q : Point) (more : (d : Configuration) → Follows core seed room q d is → Ends (n + 1) d is) where
      after_step : (r : Outcome × Configuration) → step core c i ≡ r → AfterStep (λ d. Follows core seed room q d is) is r → Ends n c (i ∷ is)
      after_step (Moved, d) e b = onward d e (more d b)
      after_step (Skipped, d) e b = stop (Skipped, d) e tt b
      after_step (Lacks l, d) e b = stop (Lacks l, d) e tt b
      after_step (TooLong, d) e b = stop (TooLong, d) e tt b

  module _ (seed room n : ℕ) (more : (q : Point) (d : Configuration) (list : List ℕ) → q.turns ≤ n + 1 → Follows core seed room q d list → Ends (n + 1) d list) where
    in_turn : (p : Point) (c : Configuration) (i : ℕ) (is : List ℕ) → p.turns ≤ n → (t : Option Point) → Grows seed p c t → IsSomeAnd t (λ q. (i ≡ q.actor) × AfterStep (λ d. Follows core seed room (stepped q) d is) is (step core c i)) → Ends n c (i ∷ is)
    in_turn p c i is few None g f = absurd f
    in_turn p c i is few (Some q) g f =
        let l : q.turns ≤ n + 1 = omega (arith, few, g) in
        after_step n c i is seed room (stepped q) (λ d b. more (stepped q) d is l b) (step core c i) refl f.1

  list_ends : (seed room n : ℕ) → n + room ≡ most_steps → (p : Point) (c : Configuration) (list : List ℕ) → p.turns ≤ n → Follows core seed room p c list → Ends n c list
  list_ends seed zero n e p c list few f = let l : length list ≡ 0 = ap length f in inl (omega (arith, e, l))
  list_ends seed (suc room) n e p c [] few f = elim (no_turn seed p c f) [
    | inl turns ↦ inr (inl (omega (arith, turns, few)))
    | inr none ↦ inr (inr (inl none))
  ]
  list_ends seed (suc room) n e p c (i ∷ is) few f =
      let s : n + 1 + room ≡ most_steps = omega (arith, e) in
      in_turn seed room n (λ q d list l b. list_ends seed room (n + 1) s q d list l b) p c i is few (turn seed p c) (grows seed p c) f

from_zero : (core : CoreData) (list : List ℕ) → Ends core 0 (start core) list → EndsAt core list
from_zero core list ends = elim ends [
  | inl full ↦ inl (omega (arith, full))
  | inr rest ↦ elim rest [
    | inl turns ↦ inr (inl (omega (arith, turns)))
    | inr more ↦ inr (inr more)
  ]
]

pub lists_end : ListsEnd
lists_end core seed list f = from_zero core list (list_ends core seed most_steps 0 refl at_first (start core) list (omega arith) f)
