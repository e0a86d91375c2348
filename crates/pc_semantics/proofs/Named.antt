-- The place of an element whose name passes a test.
use Rattle.std.specs.{Prelude.{◌≡◌, ◌+◌, Bool, cond, not, List, [], ◌∷◌, map, position, refl}, List.prefix_len}
use Rattle.std.proofs.{Common.ap, lemmas.List.length-map}

len_named : {A B : Type 0} → (p : B → Bool) (f : A → B) (xs : List A) → prefix_len (λ x. not (p x)) (map f xs) ≡ prefix_len (λ x. not (p (f x))) xs
len_named p f [] = refl
len_named p f (x ∷ xs) = ap (λ n. cond (not (p (f x))) (1 + n) 0) (len_named p f xs)

pub position_named : {A B : Type 0} → (p : B → Bool) (f : A → B) (xs : List A) → position p (map f xs) ≡ position (λ x. p (f x)) xs
position_named p f xs = rw (len_named p f xs, length-map) refl
