-- Writing values past the end of a list.
use Rattle.std.proofs.Common.{◌≡◌, ℕ, zero, suc, ◌≤◌, List, [], ◌∷◌, length, refl, ap, arith}
use Rattle.std.specs.Prelude.{slice_set}

pub set_past : {T : Type 0} → (xs : List T) (i : ℕ) (y : T) → length xs ≤ i → slice_set xs i y ≡ xs
set_past [] i y l = refl
set_past (x ∷ xs) zero y l = absurd (omega (arith, l))
set_past (x ∷ xs) (suc i) y l = ap (λ zs. x ∷ zs) (set_past xs i y (omega (arith, l)))
