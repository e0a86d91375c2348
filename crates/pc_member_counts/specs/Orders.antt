-- How the code orders the traits and interfaces of a file: by the number of entities above them.
use Rattle.std.specs.Prelude.{ℕ, zero, suc, ◌+◌, Bool, ◌&&◌, List, [], ◌∷◌, ◌++◌, length, nat_eq, if◌then◌else◌}
use Rattle.pc_tree.specs.Kinds.{is_abstract}
use Rattle.pc_members.specs.Rounds.{rank}
use Rattle.pc_tree.specs.Tree as t

abbrev pub is_of_rank : List (List ℕ) → (rank place : ℕ) → t.Entity → Bool
is_of_rank own r i e = is_abstract e.kind && nat_eq (rank own i) r

-- The places of those with `rank` entities above them; the first of these entities is at `place`.
abbrev pub of_rank : List (List ℕ) → (rank place : ℕ) → List t.Entity → List ℕ
of_rank own r i [] = []
of_rank own r i (e ∷ es) = if is_of_rank own r i e then i ∷ of_rank own r (i + 1) es else of_rank own r (i + 1) es

-- The same for `count` ranks, from this rank on.
abbrev pub of_ranks : List (List ℕ) → List t.Entity → (rank count : ℕ) → List ℕ
of_ranks own es r zero = []
of_ranks own es r (suc k) = of_rank own r 0 es ++ of_ranks own es (r + 1) k

abbrev pub ordered : List (List ℕ) → List t.Entity → List ℕ
ordered own es = of_ranks own es 0 (length es)
