-- What comes after the initial values of a constructor.
use Rattle.std.proofs.Common.{◌≡◌, List, [], ◌++◌, append-nil}

-- Nothing, if it has no body.
pub nothing_behind : {A : Type 0} (xs : List A) → xs ++ [] ≡ xs
nothing_behind xs = append-nil xs
