-- Runs of bytes.
use Rattle.std.proofs.{Common.{◌≡◌, ℕ, suc, ◌+◌, ◌≤◌, Bool, true, false, cond, List, [], ◌∷◌, length, drop, refl, subst, arith}, lemmas.Bool.not-false, lemmas.List.take_all}
use Rattle.std.specs.List.{prefix_len, list_all}
use Rattle.pc_sched.specs.Schedules.{is_separator, no_blank, AtWordEnd}
use Rattle.pc_base.proofs.Prefixes.{run_all}

pub run_whole : (p : ℕ → Bool) (xs : List ℕ) → length xs ≤ prefix_len p xs → list_all p xs ≡ true
run_whole p xs whole = subst (λ l. list_all p l ≡ true) (take_all (prefix_len p xs) xs whole) (run_all p xs)

ends_step : (b : ℕ) (bs : List ℕ) (n : ℕ) (t : Bool) → no_blank b ≡ t → AtWordEnd (drop n bs) → AtWordEnd (drop (cond t (1 + n) 0) (b ∷ bs))
ends_step b bs n true e more = let one : 1 + n ≡ suc n = omega arith in rw one more
ends_step b bs n false e more = not-false (is_separator b) e

-- after bytes that are no blanks, the text ends or a blank follows
pub run_ends : (text : List ℕ) → AtWordEnd (drop (prefix_len no_blank text) text)
run_ends [] = tt
run_ends (b ∷ bs) = ends_step b bs (prefix_len no_blank bs) (no_blank b) refl (run_ends bs)

-- where a word ends, no byte of a word follows
pub end_none : (rest : List ℕ) → AtWordEnd rest → prefix_len no_blank rest ≡ 0
end_none [] h = refl
end_none (b ∷ bs) h = rw h refl

first_step : (b : ℕ) (n : ℕ) (t : Bool) → no_blank b ≡ t → cond t (1 + n) 0 ≡ 0 → is_separator b ≡ true
first_step b n true e none = absurd (omega (arith, none))
first_step b n false e none = not-false (is_separator b) e

-- if no word begins, a blank does
pub first_blank : (b : ℕ) (bs : List ℕ) → prefix_len no_blank (b ∷ bs) ≡ 0 → is_separator b ≡ true
first_blank b bs none = first_step b (prefix_len no_blank bs) (no_blank b) refl none
