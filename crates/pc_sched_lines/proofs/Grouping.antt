-- A row goes on, or another begins after it.
use Rattle.std.proofs.{Common.{◌≡◌, ◌≢◌, ◌<◌, ◌≤◌, ◌+◌, ◌^◌, ℕ, List, [], ◌∷◌, ◌++◌, length, take, get_or, refl, sym, ap, ◌∙◌, subst, arith}, lemmas.List.{length-take-le, take_more}}
use Rattle.std.specs.List.{AllByRecursion}
use Rattle.pc_sched.specs.{declared.turns.Turn.Turn, Schedules.turn_limit}
use Rattle.pc_sched_lines.specs.{Lines.{AreRows, HasOtherActor}, Rows.{Fits, RowsOf}}
use Rattle.pc_sched_lines.proofs.Spreads.{last_within, spread_longer, spread_push}

-- ---- the last row is longer

differs_longer : (turn : Turn) (xs : List Turn) (t u : Turn) → u.actor ≡ t.actor → HasOtherActor turn (xs ++ t ∷ [])
    → HasOtherActor turn (xs ++ u ∷ [])
differs_longer turn [] t u e d = λ same. d (same ∙ e)
differs_longer turn (x ∷ xs) t u e d = d

rows_longer : (xs : List Turn) (t u : Turn) → u.actor ≡ t.actor → 0 < u.times → AreRows (xs ++ t ∷ []) → AreRows (xs ++ u ∷ [])
rows_longer [] t u e some r = (some, tt, tt)
rows_longer (x ∷ xs) t u e some r = (r.0, differs_longer x xs t u e r.1, rows_longer xs t u e some r.2)

fit_longer : (xs : List Turn) (t u : Turn) → Fits u → AllByRecursion Fits (xs ++ t ∷ []) → AllByRecursion Fits (xs ++ u ∷ [])
fit_longer [] t u f a = (f, tt)
fit_longer (x ∷ xs) t u f a = (a.0, fit_longer xs t u f a.1)

last_fits : (xs : List Turn) (t : Turn) → AllByRecursion Fits (xs ++ t ∷ []) → Fits t
last_fits [] t a = a.0
last_fits (x ∷ xs) t a = last_fits xs t a.1

pub goes_on : (list : List ℕ) (xs : List Turn) (t : Turn) → t.times < turn_limit → RowsOf list (xs ++ t ∷ [])
    → RowsOf (list ++ t.actor ∷ []) (xs ++ record { actor = t.actor; times = t.times + 1 } ∷ [])
goes_on list xs t few r =
    let u : Turn = record { actor = t.actor; times = t.times + 1 } in
    record {
      steps = spread_longer xs t ∙ ap (λ l. l ++ t.actor ∷ []) r.steps;
      rows = rows_longer xs t u refl (omega arith) r.rows;
      fit = fit_longer xs t u ((last_fits xs t r.fit).0, omega (arith, few)) r.fit;
    }

-- ---- another begins

differs_more : (turn : Turn) (xs : List Turn) (t u : Turn) → HasOtherActor turn (xs ++ t ∷ []) → HasOtherActor turn ((xs ++ t ∷ []) ++ u ∷ [])
differs_more turn [] t u d = d
differs_more turn (x ∷ xs) t u d = d

rows_more : (xs : List Turn) (t u : Turn) → u.actor ≢ t.actor → 0 < u.times → AreRows (xs ++ t ∷ []) → AreRows ((xs ++ t ∷ []) ++ u ∷ [])
rows_more [] t u n some r = (r.0, λ e. n (sym e), (some, tt, tt))
rows_more (x ∷ xs) t u n some r = (r.0, differs_more x xs t u r.1, rows_more xs t u n some r.2)

fit_more : (xs : List Turn) (u : Turn) → Fits u → AllByRecursion Fits xs → AllByRecursion Fits (xs ++ u ∷ [])
fit_more [] u f a = (f, tt)
fit_more (x ∷ xs) u f a = (a.0, fit_more xs u f a.1)

pub begins : (list : List ℕ) (xs : List Turn) (t : Turn) (actor : ℕ) → actor < 2 ^ 32 → actor ≢ t.actor → RowsOf list (xs ++ t ∷ [])
    → RowsOf (list ++ actor ∷ []) ((xs ++ t ∷ []) ++ record { actor = actor; times = 1 } ∷ [])
begins list xs t actor small n r =
    let u : Turn = record { actor = actor; times = 1 } in
    record {
      steps = spread_push (xs ++ t ∷ []) u ∙ ap (λ l. l ++ actor ∷ []) r.steps;
      rows = rows_more xs t u n (omega arith) r.rows;
      fit = fit_more (xs ++ t ∷ []) u (small, omega arith) r.fit;
    }

-- ---- at the start

-- a list of which a step more was read
pub one_more : (first : ℕ) (rest : List ℕ) (i : ℕ) (d : ℕ) (rows : List Turn) → i < length rest → RowsOf ((first ∷ take i rest) ++ get_or rest i d ∷ []) rows → RowsOf (first ∷ take (i + 1) rest) rows
one_more first rest i d rows within r = subst (λ (l : List ℕ). RowsOf (first ∷ l) rows) (sym (take_more rest i d within)) r

-- The result of a step of some actor, if it is the row's.
pub goes_on_with : (list : List ℕ) (xs : List Turn) (t : Turn) (actor : ℕ) → actor ≡ t.actor → t.times < turn_limit → RowsOf list (xs ++ t ∷ [])
    → RowsOf (list ++ actor ∷ []) (xs ++ record { actor = actor; times = t.times + 1 } ∷ [])
goes_on_with list xs t actor e few r =
    subst (λ (a : ℕ). RowsOf (list ++ a ∷ []) (xs ++ record { actor = a; times = t.times + 1 } ∷ [])) (sym e) (goes_on list xs t few r)

-- A row has no more steps than were read.
pub row_within : (first : ℕ) (rest : List ℕ) (i : ℕ) (xs : List Turn) (t : Turn) → i < length rest → length rest + 1 ≤ turn_limit → RowsOf (first ∷ take i rest) (xs ++ t ∷ []) → t.times < turn_limit
row_within first rest i xs t within few r =
    let a = last_within xs t in
    let b = ap (λ (l : List ℕ). length l) r.steps in
    let d = length-take-le i rest (omega (arith, within)) in
    omega (arith, a, b, d, within, few)
