-- The last value of a list, and those before it.
use Rattle.std.proofs.{Common.{◌≡◌, suc, ◌-◌, List, [], ◌∷◌, ◌++◌, Option, Some, None, length, take, refl, sym, ap, ◌∙◌, arith, length-append}, lemmas.Option.{none-some, same_Some}}
use Rattle.std.specs.Prelude.{slice_get, MatchOption}
use Rattle.pc_base.proofs.Gets.{get_within}

-- The place of the last value is the length of those before it.
last_place : {T : Type 0} (front : List T) (last : T) → length (front ++ last ∷ []) - 1 ≡ length front
last_place front last = omega (arith, length-append front (last ∷ []))

-- What comes after a prefix is at the place given by the length of the prefix.
after_front : {T : Type 0} (front : List T) (last : T) → slice_get (front ++ last ∷ []) (length front) ≡ Some last
after_front [] last = refl
after_front (x ∷ xs) last = after_front xs last

-- The values before it are the prefix.
front_taken : {T : Type 0} (front : List T) (last : T) → take (length front) (front ++ last ∷ []) ≡ front
front_taken [] last = refl
front_taken (x ∷ xs) last = ap (λ ys. x ∷ ys) (front_taken xs last)

-- Removing the last value of a list returns what was at the last place.
pub last_of : {T : Type 0} (old new : List T) (given : Option T) → MatchOption given ((old ≡ []) × (new ≡ [])) (λ last. old ≡ new ++ last ∷ []) → given ≡ slice_get old (length old - 1)
last_of old new None h = ap (λ xs. slice_get xs (length xs - 1)) (sym h.0)
last_of old new (Some last) h = sym (ap (λ xs. slice_get xs (length xs - 1)) h ∙ ap (slice_get (new ++ last ∷ [])) (last_place new last) ∙ after_front new last)

-- It keeps the values before that place.
pub before_last : {T : Type 0} (old new : List T) (given : Option T) → MatchOption given ((old ≡ []) × (new ≡ [])) (λ last. old ≡ new ++ last ∷ []) → new ≡ take (length old - 1) old
before_last old new None h = h.1 ∙ ap (λ xs. take (length xs - 1) xs) (sym h.0)
before_last old new (Some last) h = sym (ap (λ xs. take (length xs - 1) xs) h ∙ ap (λ n. take n (new ++ last ∷ [])) (last_place new last) ∙ front_taken new last)

-- A list with a value at the last place is the values before it, and then that one.
pub ends_with : {T : Type 0} (xs : List T) (last : T) → slice_get xs (length xs - 1) ≡ Some last → xs ≡ take (length xs - 1) xs ++ last ∷ []
ends_with [] last e = absurd (none-some last e)
ends_with (x ∷ []) last e = ap (λ y. y ∷ []) (same_Some x last e)
ends_with (x ∷ y ∷ ys) last e =
    let next : length (x ∷ y ∷ ys) - 1 ≡ suc (length (y ∷ ys) - 1) = omega arith in
    let found : slice_get (y ∷ ys) (length (y ∷ ys) - 1) ≡ Some last = sym (ap (slice_get (x ∷ y ∷ ys)) next) ∙ e in
    ap (λ zs. x ∷ zs) (ends_with (y ∷ ys) last found) ∙ sym (ap (λ n. take n (x ∷ y ∷ ys) ++ last ∷ []) next)

-- A list without one has no values.
pub ends_nowhere : {T : Type 0} (xs : List T) → slice_get xs (length xs - 1) ≡ None → xs ≡ []
ends_nowhere [] e = refl
ends_nowhere (x ∷ xs) e =
    let found = get_within (x ∷ xs) (length (x ∷ xs) - 1) (omega arith) in
    absurd (none-some found.0 (sym e ∙ found.1))
