-- Whether there is something after a front.
use Rattle.std.proofs.Common.{◌≡◌, ℕ, true, false, Option, Some, None, refl, sym, true≢false}
use Rattle.std.specs.Prelude.{is_some, decimal, option_map}
use Rattle.pc_base.specs.Lists.{◌>>=◌, Text}
use Rattle.pc_lib_buffers.specs.Fronts.{after_word, after_numbers}

pub some_of_mapped : {A B : Type 0} → (f : A → B) (o : Option A) (p : Option B) → option_map f o ≡ p → is_some o ≡ is_some p
some_of_mapped f None p e = λ i. is_some (e i)
some_of_mapped f (Some x) p e = λ i. is_some (e i)

none_bound : {A B : Type 0} → (o : Option A) (f : A → Option B) → is_some o ≡ false → is_some (o >>= f) ≡ false
none_bound None f e = refl
none_bound (Some x) f e = absurd (true≢false e)

-- If the line's number does not come first, the two numbers do not.
pub no_line : (line column : ℕ) (numbers : Text) → is_some (after_word (decimal line) numbers) ≡ false → is_some (after_numbers line column numbers) ≡ false
unfolding after_numbers
no_line line column numbers e = none_bound (after_word (decimal line) numbers) _ e

pub some_is : {A : Type 0} → (o : Option A) → is_some o ≡ true → (x : A) × (o ≡ Some x)
some_is None e = absurd (true≢false (sym e))
some_is (Some x) e = (x, refl)
