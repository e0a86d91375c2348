-- Lists with the same elements at each place.
use Rattle.std.specs.Prelude.{◌≡◌, ℕ, suc, ◌<◌, List, [], ◌∷◌, length, slice_get, refl}
use Rattle.std.proofs.{Common.{ap₂, arith}, lemmas.Option.same_Some}

pub same_lists : {T : Type 0} → (xs ys : List T) → length xs ≡ length ys → ((k : ℕ) → k < length xs → slice_get xs k ≡ slice_get ys k) → xs ≡ ys
same_lists [] [] l h = refl
same_lists [] (y ∷ ys) l h = absurd (omega (arith, l))
same_lists (x ∷ xs) [] l h = absurd (omega (arith, l))
same_lists (x ∷ xs) (y ∷ ys) l h =
    let few : length xs ≡ length ys = omega (arith, l) in
    let first : x ≡ y = same_Some x y (h 0 (omega arith)) in
    let rest : xs ≡ ys = same_lists xs ys few (λ k m. h (suc k) (omega (arith, m))) in
    ap₂ (λ a b. a ∷ b) first rest
