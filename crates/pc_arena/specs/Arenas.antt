-- An arena as contracts see it, and the invariant inside it.
use Rattle.std.specs.{Prelude.{◌≡◌, ℕ, zero, suc, ◌+◌, ◌*◌, ◌<◌, ◌≤◌, List, [], ◌∷◌, ◌++◌, length, take, drop, replicate, refl}, Coded.{Coded, code_by, coded×, coded_list, coded_ℕ}}
use Rattle.pc_arena.specs.Chunks.{chunk_size}

-- the values, from the first, and how many more can be pushed
pub record ArenaData (X : Type 0) : Type 0 where
  pub items : List X
  pub spare : ℕ

-- an arena has fewer values than this
abbrev pub place_limit : ℕ
place_limit = 4294967296

module _ {X : Type 0} where
  abbrev pub arena : List X → ℕ → ArenaData X
  arena xs n = record { items = xs; spare = n }

  abbrev pub coded_arena : Coded X → Coded (ArenaData X)
  coded_arena c = code_by (List X × ℕ) (coded× (coded_list c) coded_ℕ) (λ a. (a.items, a.spare)) (λ p. arena p.0 p.1) (λ _. refl)

  -- the values of all chunks, in order
  abbrev pub joined : List (List X) → List X
  joined [] = []
  joined (xs ∷ xss) = xs ++ joined xss

  -- the values in n chunks of p places, filled in order
  abbrev pub chunked : ℕ → ℕ → List X → List (List X)
  chunked p zero xs = []
  chunked p (suc n) xs = take p xs ∷ chunked p n (drop p xs)

  -- some more chunks, without values
  abbrev pub Grown : List (List X) → List (List X) → Type 0
  Grown old new = (n : ℕ) × (new ≡ old ++ replicate n [])

  -- The chunks are filled in order, and have room for the pushes that were promised.
  pub record Sound (chunks : List (List X)) (count spare : ℕ) : Type 0 where
    pub laid : chunks ≡ chunked chunk_size (length chunks) (joined chunks)
    pub counted : count ≡ length (joined chunks)
    pub room : count + spare ≤ length chunks * chunk_size
    pub small : count + spare < place_limit
