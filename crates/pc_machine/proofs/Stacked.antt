-- The frames of an actor, and what is on their stacks.
use Rattle.std.proofs.Common.{◌≡◌, ℕ, zero, suc, ◌-◌, ◌<◌, List, [], ◌∷◌, drop, refl, ap, ◌∙◌, arith}

drop_one_more : {T : Type 0} → (xs : List T) (n : ℕ) → drop 1 (drop n xs) ≡ drop (suc n) xs
drop_one_more [] zero = refl
drop_one_more [] (suc n) = refl
drop_one_more (x ∷ xs) zero = refl
drop_one_more (x ∷ xs) (suc n) = drop_one_more xs n

-- all but one go, and then that one
pub drop_last : {T : Type 0} → (xs : List T) (count : ℕ) → 0 < count → drop 1 (drop (count - 1) xs) ≡ drop count xs
drop_last xs count l =
    let one : suc (count - 1) ≡ count = omega (arith, l) in
    drop_one_more xs (count - 1) ∙ ap (λ n. drop n xs) one
