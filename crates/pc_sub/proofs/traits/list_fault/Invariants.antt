use Rattle.std.proofs.Common.{◌≡◌, drop}
use Rattle.std.specs.Prelude.{slice_get}
use Rattle.pc_sub.specs.DeclarationFaults as spec
use Rattle.pc_sub.proofs.traits.list_fault.Given as goal

abbrev pub invariant-loop-above : goal.invariant-loop-above
invariant-loop-above l = slice_get (spec.list_faults l.core l.entity (drop l.above-index l.traits)) 0 ≡ slice_get (spec.list_faults l.core l.entity l.traits) 0
