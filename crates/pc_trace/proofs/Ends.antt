-- How the outcomes of a run end.
use Rattle.std.specs.Prelude.{◌≡◌, ◌⊎◌, ◌<◌, ℕ, zero, suc, ◌+◌, List, [], ◌∷◌, length, take, drop, Option, Some, None, slice_get, refl}
use Rattle.std.proofs.{Common.{inl, inr, ap, sym, subst, ◌∙◌, arith}, lemmas.Option.{same_Some, none-some}, lemmas.List.take-append-drop}
use Rattle.pc_base.proofs.{Gets.get_below, Cuts.{drop_item, take_whole}}
use Rattle.pc_core.specs.CoreData.{CoreData}
use Rattle.pc_semantics.specs.{declared.outcome.Lack.Lack, declared.outcome.Outcome.Outcome, declared.outcome.Outcome.TheVariants.{Moved, Skipped, Lacks, TooLong}, Configurations.{Configuration, start}, Step.{step, followed, run_from, after, outcomes_from, outcomes}, Text.{ended_at, end_of}}
use Rattle.pc_events.specs.{Before.at_place, Counting.Live}
use Rattle.pc_events.proofs.Outcomes.{turn, goes_on}

abbrev GoesOn : Option Outcome → Type 0
GoesOn o = (o ≡ Some Moved) ⊎ (o ≡ Some Skipped)

abbrev pub IsEnd : Outcome → Type 0
IsEnd Moved = ⊥
IsEnd Skipped = ⊥
IsEnd (Lacks l) = Unit {0}
IsEnd TooLong = Unit {0}

lacks_goes : (l : Lack) → GoesOn (Some (Lacks l)) → ⊥
lacks_goes l (inl e) = bad (same_Some (Lacks l) Moved e)
  where
    bad : Lacks l ≡ Moved → ⊥
    bad z = cc
lacks_goes l (inr e) = bad (same_Some (Lacks l) Skipped e)
  where
    bad : Lacks l ≡ Skipped → ⊥
    bad z = cc

long_goes : GoesOn (Some TooLong) → ⊥
long_goes (inl e) = bad (same_Some TooLong Moved e)
  where
    bad : TooLong ≡ Moved → ⊥
    bad z = cc
long_goes (inr e) = bad (same_Some TooLong Skipped e)
  where
    bad : TooLong ≡ Skipped → ⊥
    bad z = cc

-- ---- the outcome of a turn

from_core : (core : CoreData) (list : List ℕ) (c : Configuration) (n i : ℕ) → ((m : ℕ) → m < n → GoesOn (slice_get (outcomes_from core c list) m)) → slice_get list n ≡ Some i
    → slice_get (outcomes_from core c list) n ≡ Some (step core (run_from core c (take n list)) i).0
from_core core [] c n i live e = absurd (none-some i e)
from_core core (j ∷ js) c zero i live e = ap (λ (x : ℕ). Some (step core c x).0) (same_Some j i e)
from_core core (j ∷ js) c (suc n) i live e = go (λ d more. from_core core js d n i more e) (step core c j) live
  where
    go : ((d : Configuration) → ((m : ℕ) → m < n → GoesOn (slice_get (outcomes_from core d js) m)) → slice_get (outcomes_from core d js) n ≡ Some (step core (run_from core d (take n js)) i).0) → (r : Outcome × Configuration)
        → ((m : ℕ) → m < suc n → GoesOn (slice_get (r.0 ∷ followed (λ d. outcomes_from core d js) [] c r) m))
        → slice_get (followed (λ d. outcomes_from core d js) [] c r) n ≡ Some (step core (followed (λ d. run_from core d (take n js)) c c r) i).0
    go more (Moved, d) l = more d (λ m b. l (suc m) (omega (arith, b)))
    go more (Skipped, d) l = more c (λ m b. l (suc m) (omega (arith, b)))
    go more (Lacks k, d) l = absurd (lacks_goes k (l 0 (omega arith)))
    go more (TooLong, d) l = absurd (long_goes (l 0 (omega arith)))

pub outcome_at : (core : CoreData) (list : List ℕ) (n i : ℕ) → Live core list n → slice_get list n ≡ Some i → slice_get (outcomes core list) n ≡ Some (step core (at_place core list n) i).0
outcome_at core list n i live e = from_core core list (start core) n i live e

-- ---- the end

next_place : (m n : ℕ) → m + 1 + n ≡ m + suc n
next_place m n = omega arith

same_place : (m : ℕ) → m ≡ m + 0
same_place m = omega arith

ends_here : (m : ℕ) (o : Outcome) (os : List Outcome) → IsEnd o → ended_at m (o ∷ os) ≡ Some (m, o)
ends_here m Moved os e = absurd e
ends_here m Skipped os e = absurd e
ends_here m (Lacks l) os e = refl
ends_here m TooLong os e = refl

ends_later : (os : List Outcome) (m n : ℕ) (o : Outcome) → ((k : ℕ) → k < n → GoesOn (slice_get os k)) → slice_get os n ≡ Some o → IsEnd o → ended_at m os ≡ Some (m + n, o)
ends_later [] m n o live e end = absurd (none-some o e)
ends_later (x ∷ xs) m zero o live e end = ap (λ (y : Outcome). ended_at m (y ∷ xs)) (same_Some x o e) ∙ ends_here m o xs end ∙ ap (λ (k : ℕ). Some (k, o)) (same_place m)
ends_later (Moved ∷ xs) m (suc n) o live e end = ends_later xs (m + 1) n o (λ k b. live (suc k) (omega (arith, b))) e end ∙ ap (λ (k : ℕ). Some (k, o)) (next_place m n)
ends_later (Skipped ∷ xs) m (suc n) o live e end = ends_later xs (m + 1) n o (λ k b. live (suc k) (omega (arith, b))) e end ∙ ap (λ (k : ℕ). Some (k, o)) (next_place m n)
ends_later (Lacks l ∷ xs) m (suc n) o live e end = absurd (lacks_goes l (live 0 (omega arith)))
ends_later (TooLong ∷ xs) m (suc n) o live e end = absurd (long_goes (live 0 (omega arith)))

never_ends : (os : List Outcome) (m : ℕ) → ((n : ℕ) (o : Outcome) → slice_get os n ≡ Some o → GoesOn (Some o)) → ended_at m os ≡ None
never_ends [] m h = refl
never_ends (Moved ∷ xs) m h = never_ends xs (m + 1) (λ n o e. h (suc n) o e)
never_ends (Skipped ∷ xs) m h = never_ends xs (m + 1) (λ n o e. h (suc n) o e)
never_ends (Lacks l ∷ xs) m h = absurd (lacks_goes l (h 0 (Lacks l) refl))
never_ends (TooLong ∷ xs) m h = absurd (long_goes (h 0 TooLong refl))

module _ (core : CoreData) (list : List ℕ) where
  -- The whole list was gone through.
  pub ran_on : Live core list (length list) → end_of (outcomes core list) ≡ None
  ran_on live = never_ends (outcomes core list) 1 (λ n o e. subst GoesOn e (live n (get_below list n (turn core list (start core) n o e).actor (turn core list (start core) n o e).is)))

  pub at_end : at_place core list (length list) ≡ after core list
  at_end = ap (after core) (take_whole list)

  module _ (n i : ℕ) (o : Outcome) (live : Live core list n) (is : slice_get list n ≡ Some i) (ends : (step core (at_place core list n) i).0 ≡ o) (end : IsEnd o) where
    ends_at : end_of (outcomes core list) ≡ Some (1 + n, o)
    ends_at = ends_later (outcomes core list) 1 n o live (outcome_at core list n i live is ∙ ap Some ends) end

    -- The run ends at this place, counted from 1.
    pub ended : (place : ℕ) → place ≡ n + 1 → end_of (outcomes core list) ≡ Some (place, o)
    ended place e = let p : 1 + n ≡ place = omega (arith, e) in ends_at ∙ ap (λ (k : ℕ). Some (k, o)) p

    stays : (c : Configuration) (r : Outcome × Configuration) (rest : List ℕ) → r.0 ≡ o → IsEnd o → followed (λ d. run_from core d rest) c c r ≡ c
    stays c (Moved, d) rest s t = absurd (subst IsEnd (sym s) t)
    stays c (Skipped, d) rest s t = absurd (subst IsEnd (sym s) t)
    stays c (Lacks l, d) rest s t = refl
    stays c (TooLong, d) rest s t = refl

    -- It stays where it is.
    pub stops : after core list ≡ at_place core list n
    stops =
        ap (after core) (sym (take-append-drop n list)) ∙ goes_on core list (start core) n (step core (at_place core list n) i).0 (outcome_at core list n i live is) (drop n list)
        ∙ ap (run_from core (at_place core list n)) (drop_item list n i is) ∙ stays (at_place core list n) (step core (at_place core list n) i) (drop (n + 1) list) ends end
