-- What the elements of lists are looked up by, and what is found.
use Rattle.std.specs.{Prelude.{ℕ, suc, List, [], ◌∷◌, Option, Some, None, slice_get, if◌then◌else◌}, Option.option_map, Str.bytes_eq}
use Rattle.pc_body_spec.specs.Bodies.{Constructor, KnownEntity, PlacedLocal, Visible}

abbrev pub constructor_pair : Constructor → List ℕ × ℕ
constructor_pair c = (c.name, c.method)

abbrev pub visible_pair : Visible → List ℕ × ℕ
visible_pair v = (v.name, v.slot)

abbrev pub placed_pair : PlacedLocal → ℕ × ℕ
placed_pair p = (p.start, p.slot)

-- The names of entities with their numbers, which start with this one.
abbrev pub known_pairs : ℕ → List KnownEntity → List (List ℕ × ℕ)
known_pairs at [] = []
known_pairs at (k ∷ ks) = (k.name, at) ∷ known_pairs (suc at) ks

-- The first entity with this name, with its number.
abbrev pub known_at : ℕ → List KnownEntity → List ℕ → Option (ℕ × KnownEntity)
known_at at [] name = None
known_at at (k ∷ ks) name = if bytes_eq k.name name then Some (at, k) else known_at (suc at) ks name

-- The entity with this number, and the number.
abbrev pub picked : List KnownEntity → Option ℕ → Option (ℕ × KnownEntity)
picked ks None = None
picked ks (Some n) = option_map (λ k. (n, k)) (slice_get ks n)
