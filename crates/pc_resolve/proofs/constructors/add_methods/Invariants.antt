use Rattle.std.proofs.Common.{◌≡◌, drop, map}
use Rattle.std.specs.Str.{bytes_eq}
use Rattle.pc_resolve.specs.{Indexes.with_firsts, Pairs.constructor_pair}
use Rattle.pc_resolve.proofs.constructors.add_methods.Given as goal

abbrev pub invariant-loop-constructor : goal.invariant-loop-constructor
invariant-loop-constructor l = with_firsts bytes_eq l.fn.methods (map constructor_pair l.row) ≡ with_firsts bytes_eq l.methods (map constructor_pair (drop l.constructor-index l.row))
