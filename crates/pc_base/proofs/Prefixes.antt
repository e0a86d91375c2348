-- The bytes at the start of a text that pass a test, and how a text begins.
use Rattle.std.proofs.{Common.{◌≡◌, ℕ, suc, ◌+◌, Bool, true, false, cond, List, [], ◌∷◌, ◌++◌, length, take, refl, arith}, lemmas.Bool.{and_parts, eq-eqb}}
use Rattle.std.specs.{Prelude.nat_eq, List.{prefix_len, list_all, starts_with}}

-- A run continues after bytes that all pass the test.
pub run_app : (p : ℕ → Bool) (xs ys : List ℕ) → list_all p xs ≡ true → prefix_len p (xs ++ ys) ≡ length xs + prefix_len p ys
run_app p [] ys all = omega arith
run_app p (x ∷ xs) ys all =
    let (here, more) = and_parts (p x) (list_all p xs) all in
    rw here (omega (arith, run_app p xs ys more))

all_step : (p : ℕ → Bool) (x : ℕ) (xs : List ℕ) (n : ℕ) (t : Bool) → p x ≡ t → list_all p (take n xs) ≡ true → list_all p (take (cond t (1 + n) 0) (x ∷ xs)) ≡ true
all_step p x xs n true e more = let one : 1 + n ≡ suc n = omega arith in rw (one, e) more
all_step p x xs n false e more = refl

-- The bytes of a run all pass the test.
pub run_all : (p : ℕ → Bool) (xs : List ℕ) → list_all p (take (prefix_len p xs) xs) ≡ true
run_all p [] = refl
run_all p (x ∷ xs) = all_step p x xs (prefix_len p xs) (p x) refl (run_all p xs)

-- A text begins with what was put before it.
pub begins_own : (word after : List ℕ) → starts_with nat_eq (word ++ after) word ≡ true
begins_own [] after = refl
begins_own (b ∷ word) after = rw (eq-eqb b b refl) (begins_own word after)
