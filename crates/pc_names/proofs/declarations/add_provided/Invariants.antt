use Rattle.std.proofs.Common.{◌≡◌, drop}
use Rattle.pc_names.specs.Faults as spec
use Rattle.pc_names.proofs.declarations.add_provided.Given as goal

abbrev pub invariant-loop-name : goal.invariant-loop-name
invariant-loop-name l =
    spec.provided_faults l.traits l.fn.known l.provides ≡ spec.provided_faults l.traits l.known (drop l.name-index l.provides)
