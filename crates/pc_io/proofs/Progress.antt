-- How far a piece was written.
use Rattle.std.proofs.{Common.{◌≡◌, ◌≤◌, ◌+◌, ℕ, List, ◌++◌, take, drop, length, length-drop, arith, Option, Some, None, subst}, KnownBytes.Appends-trans, Math.Seq.take-add, lemmas.Grind.common_steps}
use Rattle.std.specs.Io.KnownBytes.{Appends}

pub nothing_yet : (old : Option (List ℕ)) (piece : List ℕ) → Appends old old (take 0 piece)
nothing_yet None piece = tt
nothing_yet (Some xs) piece = grind (arith, common_steps)

-- a write continues from a place in the piece
pub further : (old mid now : Option (List ℕ)) (piece rest : List ℕ) (at count next : ℕ) → rest ≡ drop at piece → next ≡ at + count
    → at ≤ length piece → Appends old mid (take at piece) → count ≤ length rest → Appends mid now (take count rest)
    → (next ≤ length piece) × Appends old now (take next piece)
further old mid now piece rest at count next r e h a b w =
    let P : List ℕ → Type 0 = λ t. count ≤ length t in
    let within : count ≤ length (drop at piece) = subst P r b in
    let Q : List ℕ → Type 0 = λ t. Appends mid now (take count t) in
    let both = Appends-trans old mid now (take at piece) (take count (drop at piece)) a (subst Q r w) in
    let one : take (at + count) piece ≡ take at piece ++ take count (drop at piece) = take-add at count piece in
    (omega (arith, length-drop at piece), rw (e, one) both)
