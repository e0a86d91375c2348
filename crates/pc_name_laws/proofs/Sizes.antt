-- How many nodes the members up to a place have.
use Rattle.std.proofs.{Common.{◌≡◌, ℕ, zero, suc, ◌+◌, ◌≤◌, List, [], ◌∷◌, take, Some, ap, arith}, lemmas.Option.{same_Some, none-some}}
use Rattle.std.specs.Prelude.{slice_get}
use Rattle.pc_tree.specs.Tree as t
use Rattle.pc_file_spec.specs.Cores.{Owned}
use Rattle.pc_name_laws.specs.Turns.{owned_size, nodes_of}

pub nodes_next : (file : t.File) (os : List Owned) (k : ℕ) (o : Owned) → slice_get os k ≡ Some o → nodes_of file (take (suc k) os) ≡ nodes_of file (take k os) + owned_size file o
nodes_next file [] k o e = absurd (none-some o e)
nodes_next file (x ∷ os) zero o e = let same : owned_size file x ≡ owned_size file o = ap (owned_size file) (same_Some x o e) in omega (arith, same)
nodes_next file (x ∷ os) (suc k) o e = let rest = nodes_next file os k o e in omega (arith, rest)

pub nodes_grow : (file : t.File) (os : List Owned) (j k : ℕ) → j ≤ k → nodes_of file (take j os) ≤ nodes_of file (take k os)
nodes_grow file os zero k l = omega arith
nodes_grow file os (suc j) zero l = absurd (omega (arith, l))
nodes_grow file [] (suc j) (suc k) l = omega arith
nodes_grow file (x ∷ os) (suc j) (suc k) l = let rest = nodes_grow file os j k (omega (arith, l)) in omega (arith, rest)
