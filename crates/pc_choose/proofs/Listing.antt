-- A seed has exactly one list.
use Rattle.std.proofs.Common.{◌≡◌, ℕ, zero, suc, ◌≤◌, List, [], ◌∷◌, ◌++◌, length, Option, Some, None, refl, sym, ap, subst, ◌∙◌, arith}
use Rattle.std.specs.Prelude.{IsSomeAnd}
use Rattle.pc_core.specs.CoreData.{CoreData}
use Rattle.pc_semantics.specs.{declared.outcome.Outcome.Outcome, declared.outcome.Outcome.TheVariants.{Moved, Skipped, Lacks, TooLong}, Configurations.{Configuration, start}, Step.{followed, run_from, step}}
use Rattle.pc_choose.specs.{declared.point.Point.Point, Choice.{turn, stepped, at_first}, Lists.{AfterStep, Follows, most_steps}, Laws.{ListsAreOne, ListsAreShort, StepsMove}}

-- no list with a first number is empty
abbrev Filled : List ℕ → Type 0
Filled [] = ⊥
Filled (x ∷ xs) = Unit {0}

pub never : (x : ℕ) (xs : List ℕ) → x ∷ xs ≡ [] → ⊥
never x xs e = subst Filled e tt

pub never_within : (ks : List ℕ) (i : ℕ) (is : List ℕ) → ks ++ i ∷ is ≡ [] → ⊥
never_within [] i is e = never i is e
never_within (k ∷ ks) i is e = never k (ks ++ i ∷ is) e

-- ---- the list, as it is made

abbrev pub after_step : (Configuration → List ℕ) → Outcome × Configuration → List ℕ
after_step more (Moved, d) = more d
after_step more (Skipped, d) = []
after_step more (Lacks l, d) = []
after_step more (TooLong, d) = []

abbrev pub after_turn : CoreData → (Point → Configuration → List ℕ) → Configuration → Option Point → List ℕ
after_turn core more c None = []
after_turn core more c (Some q) = q.actor ∷ after_step (more (stepped q)) (step core c q.actor)

abbrev pub list_of : CoreData → (seed room : ℕ) → Point → Configuration → List ℕ
list_of core seed zero p c = []
list_of core seed (suc room) p c = after_turn core (list_of core seed room) c (turn seed p c)

module _ (core : CoreData) (seed : ℕ) where
  -- ---- it follows

  module _ (room : ℕ) (more : (q : Point) (d : Configuration) → Follows core seed room q d (list_of core seed room q d)) where
    step_follows : (q : Point) (r : Outcome × Configuration) → AfterStep (λ d. Follows core seed room q d (after_step (list_of core seed room q) r)) (after_step (list_of core seed room q) r) r
    step_follows q (Moved, d) = more q d
    step_follows q (Skipped, d) = refl
    step_follows q (Lacks l, d) = refl
    step_follows q (TooLong, d) = refl

    turn_follows : (p : Point) (c : Configuration) (t : Option Point) → turn seed p c ≡ t → Follows core seed (suc room) p c (after_turn core (list_of core seed room) c t)
    turn_follows p c None e = e
    turn_follows p c (Some q) e =
        subst
        (λ (o : Option Point). IsSomeAnd o (λ x. (q.actor ≡ x.actor) × AfterStep (λ d. Follows core seed room (stepped x) d (after_step (list_of core seed room (stepped q)) (step core c q.actor))) (after_step (list_of core seed room (stepped q)) (step core c q.actor)) (step core c q.actor)))
        (sym e)
        (refl, step_follows (stepped q) (step core c q.actor))

  pub list_follows : (room : ℕ) (p : Point) (c : Configuration) → Follows core seed room p c (list_of core seed room p c)
  list_follows zero p c = refl
  list_follows (suc room) p c = turn_follows room (list_follows room) p c (turn seed p c) refl

  -- ---- no other does

  module _ (room : ℕ) (more : (q : Point) (d : Configuration) (list : List ℕ) → Follows core seed room q d list → list ≡ list_of core seed room q d) where
    step_is : (q : Point) (is : List ℕ) (r : Outcome × Configuration) → AfterStep (λ d. Follows core seed room q d is) is r → is ≡ after_step (list_of core seed room q) r
    step_is q is (Moved, d) b = more q d is b
    step_is q is (Skipped, d) b = b
    step_is q is (Lacks l, d) b = b
    step_is q is (TooLong, d) b = b

    turn_is : (c : Configuration) (i : ℕ) (is : List ℕ) (t : Option Point) → IsSomeAnd t (λ q. (i ≡ q.actor) × AfterStep (λ d. Follows core seed room (stepped q) d is) is (step core c i)) → i ∷ is ≡ after_turn core (list_of core seed room) c t
    turn_is c i is None f = absurd f
    turn_is c i is (Some q) f =
        ap (λ (l : List ℕ). i ∷ l) (step_is (stepped q) is (step core c i) f.1)
        ∙ ap (λ (k : ℕ). k ∷ after_step (list_of core seed room (stepped q)) (step core c k)) f.0

  pub list_is : (room : ℕ) (p : Point) (c : Configuration) (list : List ℕ) → Follows core seed room p c list → list ≡ list_of core seed room p c
  list_is zero p c list f = f
  list_is (suc room) p c [] f = sym (ap (after_turn core (list_of core seed room) c) f)
  list_is (suc room) p c (i ∷ is) f = turn_is room (list_is room) c i is (turn seed p c) f

  -- ---- it is short

  module _ (room : ℕ) (more : (q : Point) (d : Configuration) (list : List ℕ) → Follows core seed room q d list → length list ≤ room) where
    none : (is : List ℕ) → is ≡ [] → length is ≤ room
    none is e = let n : length is ≡ 0 = ap length e in omega (arith, n)

    step_short : (q : Point) (is : List ℕ) (r : Outcome × Configuration) → AfterStep (λ d. Follows core seed room q d is) is r → length is ≤ room
    step_short q is (Moved, d) b = more q d is b
    step_short q is (Skipped, d) b = none is b
    step_short q is (Lacks l, d) b = none is b
    step_short q is (TooLong, d) b = none is b

    turn_short : (c : Configuration) (i : ℕ) (is : List ℕ) (t : Option Point) → IsSomeAnd t (λ q. (i ≡ q.actor) × AfterStep (λ d. Follows core seed room (stepped q) d is) is (step core c i)) → length is ≤ room
    turn_short c i is None f = absurd f
    turn_short c i is (Some q) f = step_short (stepped q) is (step core c i) f.1

  pub list_short : (room : ℕ) (p : Point) (c : Configuration) (list : List ℕ) → Follows core seed room p c list → length list ≤ room
  list_short zero p c list f = let n : length list ≡ 0 = ap length f in omega (arith, n)
  list_short (suc room) p c [] f = omega arith
  list_short (suc room) p c (i ∷ is) f = let n = turn_short room (list_short room) c i is (turn seed p c) f in omega (arith, n)

  -- ---- its steps move

  module _ (i j : ℕ) (rest : List ℕ) where
    step_moves : (Goes : Configuration → Type 0) (r : Outcome × Configuration) → AfterStep Goes (j ∷ rest) r → r.0 ≡ Moved
    step_moves goes (Moved, d) b = refl
    step_moves goes (Skipped, d) b = absurd (never j rest b)
    step_moves goes (Lacks l, d) b = absurd (never j rest b)
    step_moves goes (TooLong, d) b = absurd (never j rest b)

    here_moves : (room : ℕ) (c : Configuration) (t : Option Point) → IsSomeAnd t (λ q. (i ≡ q.actor) × AfterStep (λ d. Follows core seed room (stepped q) d (j ∷ rest)) (j ∷ rest) (step core c i)) → (step core c i).0 ≡ Moved
    here_moves room c None f = absurd f
    here_moves room c (Some q) f = step_moves (λ d. Follows core seed room (stepped q) d (j ∷ rest)) (step core c i) f.1

    module _ (room : ℕ) (ks : List ℕ) (more : (q : Point) (d : Configuration) → Follows core seed room q d (ks ++ i ∷ j ∷ rest) → (step core (run_from core d ks) i).0 ≡ Moved) where
      later : (q : Point) (c : Configuration) (r : Outcome × Configuration) → AfterStep (λ d. Follows core seed room q d (ks ++ i ∷ j ∷ rest)) (ks ++ i ∷ j ∷ rest) r → (step core (followed (λ next. run_from core next ks) c c r) i).0 ≡ Moved
      later q c (Moved, d) b = more q d b
      later q c (Skipped, d) b = absurd (never_within ks i (j ∷ rest) b)
      later q c (Lacks l, d) b = absurd (never_within ks i (j ∷ rest) b)
      later q c (TooLong, d) b = absurd (never_within ks i (j ∷ rest) b)

      later_turn : (c : Configuration) (k : ℕ) (t : Option Point) → IsSomeAnd t (λ q. (k ≡ q.actor) × AfterStep (λ d. Follows core seed room (stepped q) d (ks ++ i ∷ j ∷ rest)) (ks ++ i ∷ j ∷ rest) (step core c k)) → (step core (followed (λ next. run_from core next ks) c c (step core c k)) i).0 ≡ Moved
      later_turn c k None f = absurd f
      later_turn c k (Some q) f = later (stepped q) c (step core c k) f.1

    pub all_move : (before : List ℕ) (room : ℕ) (p : Point) (c : Configuration) → Follows core seed room p c (before ++ i ∷ j ∷ rest) → (step core (run_from core c before) i).0 ≡ Moved
    all_move [] zero p c f = absurd (never i (j ∷ rest) f)
    all_move [] (suc room) p c f = here_moves room c (turn seed p c) f
    all_move (k ∷ ks) zero p c f = absurd (never k (ks ++ i ∷ j ∷ rest) f)
    all_move (k ∷ ks) (suc room) p c f = later_turn room ks (all_move ks room) c k (turn seed p c) f

-- ---- the laws

pub lists_are_one : ListsAreOne
lists_are_one core seed = record {
  list = list_of core seed most_steps at_first (start core);
  chosen = list_follows core seed most_steps at_first (start core);
  one = λ other f. list_is core seed most_steps at_first (start core) other f;
}

pub lists_are_short : ListsAreShort
lists_are_short core seed list f = list_short core seed most_steps at_first (start core) list f

pub steps_move : StepsMove
steps_move core seed before rest i j f = all_move core seed i j rest before most_steps at_first (start core) f
