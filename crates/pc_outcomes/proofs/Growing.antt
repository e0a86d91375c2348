-- The table of some seeds, and that with one seed more.
use Rattle.std.proofs.{Common.{◌≡◌, ◌≤◌, ◌+◌, ℕ, zero, suc, true, false, List, [], ◌∷◌, ◌++◌, length, refl, sym, ap, ◌∙◌, subst, arith, length-append}, lemmas.List.Sums.sum_by_push}
use Rattle.std.specs.{Prelude.{IfSome, slice_get}, List.list_any}
use Rattle.pc_core.specs.CoreData.{CoreData}
use Rattle.pc_outcomes.specs.{declared.entry.Entry.Entry, declared.entry.Play.Play, Plays.{ArePlays, IsPlayOfSeed}, Tables.{IsOutcomesTable, shows_outcome, steps_limit, texts_limit, total_steps, total_texts}, Under.entry_of}
use Rattle.pc_outcomes.proofs.Grouping.{counted, counted_entries, new_entries, texts_counted, texts_new}

if_push : {X : Type 0} (P : ℕ → X → Type 0) (xs : List X) (y : X) → ((i : ℕ) → IfSome (slice_get xs i) (P i)) → P (length xs) y → (i : ℕ) → IfSome (slice_get (xs ++ y ∷ []) i) (P i)
if_push P [] y a b zero = b
if_push P [] y a b (suc i) = tt
if_push P (x ∷ xs) y a b zero = a zero
if_push P (x ∷ xs) y a b (suc i) = if_push (λ k. P (suc k)) xs y (λ k. a (suc k)) b i

-- The table of no seeds.
abbrev pub none_yet : (core : CoreData) → IsOutcomesTable core 0 []
none_yet core = record {
  plays = [];
  are = record { all = refl; are = λ s. tt };
  entries_are = record { each = tt; every = tt; ascend = tt; differ = tt };
  few_steps = omega arith;
  few_bytes = omega arith;
}

module _ (core : CoreData) (seed : ℕ) (es : List Entry) (u : IsOutcomesTable core seed es) (p : Play) (is : IsPlayOfSeed core seed p) where
  pub plays_push : ArePlays core (seed + 1) (u.plays ++ p ∷ [])
  plays_push = record {
    all = length-append u.plays (p ∷ []) ∙ ap (λ (n : ℕ). n + 1) u.are.all;
    are = if_push (λ s. IsPlayOfSeed core s) u.plays p u.are.are (subst (λ (s : ℕ). IsPlayOfSeed core s p) (sym u.are.all) is);
  }

  pub steps_push : total_steps (u.plays ++ p ∷ []) ≡ total_steps u.plays + p.steps
  steps_push = sum_by_push (λ (x : Play). x.steps) u.plays p

  module _ (few : total_steps u.plays + p.steps ≤ steps_limit) where
    pub few_now : total_steps (u.plays ++ p ∷ []) ≤ steps_limit
    few_now = let e = steps_push in omega (arith, e, few)

    -- An entry shows the outcome of the play.
    abbrev pub with_shown : list_any (λ e. shows_outcome e p) es ≡ true → IsOutcomesTable core (seed + 1) (counted u.plays p es)
    with_shown any = record {
      plays = u.plays ++ p ∷ [];
      are = plays_push;
      entries_are = counted_entries u.plays p es any u.entries_are;
      few_steps = few_now;
      few_bytes = let e = texts_counted u.plays p es in let f = u.few_bytes in omega (arith, e, f);
    }

    -- None does.
    abbrev pub with_new : list_any (λ e. shows_outcome e p) es ≡ false → total_texts es + length p.text ≤ texts_limit → IsOutcomesTable core (seed + 1) (es ++ entry_of (length u.plays) p ∷ [])
    with_new none short = record {
      plays = u.plays ++ p ∷ [];
      are = plays_push;
      entries_are = new_entries u.plays p es none u.entries_are;
      few_steps = few_now;
      few_bytes = let e = texts_new u.plays p es in omega (arith, e, short);
    }
