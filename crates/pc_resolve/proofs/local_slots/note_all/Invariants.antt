use Rattle.std.proofs.Common.{◌≡◌, drop, map, nat_eq}
use Rattle.pc_resolve.specs.{Indexes.with_firsts, Pairs.placed_pair}
use Rattle.pc_resolve.proofs.local_slots.note_all.Given as goal

abbrev pub invariant-loop-placed : goal.invariant-loop-placed
invariant-loop-placed l = with_firsts nat_eq l.fn.by_start.entries (map placed_pair l.row) ≡ with_firsts nat_eq l.by_start.entries (map placed_pair (drop l.placed-index l.row))
