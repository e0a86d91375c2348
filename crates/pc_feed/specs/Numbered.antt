-- Notes with the numbers of their nodes, as a referee is asked about them.
use Rattle.std.specs.Prelude.{ℕ, ◌+◌, List, [], ◌∷◌}
use Rattle.pc_ann.specs.declared.annotation.Note.{Note}
use Rattle.pc_referee.specs.Asked.{Pairs}

-- notes with the numbers of their nodes, from this number on
abbrev pub numbered_notes : ℕ → List Note → Pairs
numbered_notes n [] = []
numbered_notes n (t ∷ ts) = (n, t) ∷ numbered_notes (n + 1) ts
