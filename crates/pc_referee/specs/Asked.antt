-- The nodes that a referee found right.
use Rattle.std.specs.Prelude.{ℕ, Bool, true, false, List, [], ◌∷◌, ◌++◌, Option, Some, None, Result, Ok, Err}
use Rattle.pc_ann.specs.declared.annotation.Note.{Note}

-- the numbers of nodes with their notes, the latest last
abbrev pub Pairs : Type 0
Pairs = List (ℕ × Note)

-- the list after an answer: a node that was found right is appended to it
abbrev pub pairs_after : {E : Type 0} → Pairs → ℕ → Note → Result Bool E → Pairs
pairs_after pairs n own (Ok true) = pairs ++ (n, own) ∷ []
pairs_after pairs n own (Ok false) = pairs
pairs_after pairs n own (Err e) = pairs

-- the same if the list is known
abbrev pub asked_after : {E : Type 0} → Option Pairs → ℕ → Note → Result Bool E → Option Pairs
asked_after None n own r = None
asked_after (Some pairs) n own r = Some (pairs_after pairs n own r)
