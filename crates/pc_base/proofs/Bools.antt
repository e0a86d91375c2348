-- What follows from a test.
use Rattle.std.proofs.{Common.{◌≡◌, Bool, true, false, ◌&&◌, refl}, lemmas.Bool.{true≢false, false≢true}}

pub true_false : true ≡ false → ⊥
true_false e = true≢false e

pub false_true : false ≡ true → ⊥
false_true e = false≢true e

-- No test has both results.
pub no_both : (b : Bool) → b ≡ true → b ≡ false → ⊥
no_both true e f = true≢false f
no_both false e f = false≢true e

-- If two tests hold, the first holds.
pub first_true : (a b : Bool) → (a && b) ≡ true → a ≡ true
first_true true b e = refl
first_true false b e = absurd (false≢true e)

-- If two tests hold, the second holds.
pub second_true : (a b : Bool) → (a && b) ≡ true → b ≡ true
second_true true b e = e
second_true false b e = absurd (false≢true e)
