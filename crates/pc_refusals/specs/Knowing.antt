-- Files that are known, and files whose reading did not fail.
use Rattle.std.specs.Prelude.{◌≡◌, List, [], ◌∷◌, Option, IsSome}
use Rattle.pc_base.specs.Lists.{Text}
use Rattle.pc_refusals.specs.Verdict.{Files}

-- The bytes of all of these are known.
abbrev pub AllKnown : (Text → Option Text) → List Text → Type 0
AllKnown known [] = Unit {0}
AllKnown known (n ∷ ns) = IsSome (known n) × AllKnown known ns

-- No reading of these failed.
abbrev pub NoneFailed : Files → List Text → Type 0
NoneFailed files [] = Unit {0}
NoneFailed files (n ∷ ns) = (files.now n ≡ files.before n) × NoneFailed files ns
