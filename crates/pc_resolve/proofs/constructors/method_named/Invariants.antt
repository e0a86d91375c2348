use Rattle.std.proofs.Common.{◌≡◌, drop}
use Rattle.pc_body_spec.specs.Bodies as spec
use Rattle.pc_resolve.proofs.constructors.method_named.Given as goal

abbrev pub invariant-loop-constructor : goal.invariant-loop-constructor
invariant-loop-constructor l = spec.constructor_named (drop l.constructor-index l.row) l.name ≡ spec.constructor_named l.row l.name
