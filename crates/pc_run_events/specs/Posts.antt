-- Lists of places, one for each actor.
use Rattle.std.specs.Prelude.{◌≡◌, ◌≢◌, ℕ, List, [], ◌∷◌, length, Some, slice_get}

-- The first place, or 0 if there is none.
abbrev pub first_of : List ℕ → ℕ
first_of [] = 0
first_of (n ∷ ns) = n

-- One of these rows has changed, and in this way.
pub record RowAt (old new : List (List ℕ)) (i : ℕ) (R : List ℕ → List ℕ → Type 0) : Type 0 where
  pub count : length new ≡ length old
  pub here : (s t : List ℕ) → slice_get old i ≡ Some s → slice_get new i ≡ Some t → R s t
  pub others : (a : ℕ) → a ≢ i → slice_get new a ≡ slice_get old a
