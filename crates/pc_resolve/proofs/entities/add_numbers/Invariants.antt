use Rattle.std.proofs.Common.{◌≡◌, drop}
use Rattle.std.specs.Str.{bytes_eq}
use Rattle.pc_resolve.specs.{Indexes.with_firsts, Pairs.known_pairs}
use Rattle.pc_resolve.proofs.entities.add_numbers.Given as goal

abbrev pub invariant-loop-at : goal.invariant-loop-at
invariant-loop-at l = with_firsts bytes_eq l.fn.numbers (known_pairs 0 l.row) ≡ with_firsts bytes_eq l.numbers (known_pairs l.at (drop l.at l.row))
