-- How often a name occurs in a list that grows by one.
use Rattle.std.proofs.{Common.{◌≡◌, ◌≤◌, ◌<◌, ℕ, true, List, [], ◌∷◌, ◌++◌, arith, refl, cond}, lemmas.Slice.Eq.bytes_eq-Decides, lemmas.List.Sums.sum_by_push}
use Rattle.std.specs.Str.{bytes_eq}
use Rattle.pc_io.specs.Failed.{times}

pub equal_itself : (x : List ℕ) → bytes_eq x x ≡ true
equal_itself x = (bytes_eq-Decides x x).1 refl

pub rises : (name : List ℕ) (names : List (List ℕ)) → times name names < times name (names ++ name ∷ [])
rises name names = rw (sum_by_push (λ x. cond (bytes_eq x name) 1 0) names name, equal_itself name) (omega arith)

pub keeps : (n name : List ℕ) (names : List (List ℕ)) → times n names ≤ times n (names ++ name ∷ [])
keeps n name names = rw (sum_by_push (λ x. cond (bytes_eq x n) 1 0) names name) (omega arith)
