-- The faults of one node, and those of the code.
use Rattle.std.specs.Prelude.{◌≡◌, ℕ, ◌<◌, length, Some, slice_get}
use Rattle.pc_core.specs.{declared.declarations.Method.Method, CoreData.CoreData}
use Rattle.pc_ann.specs.declared.annotation.Ann.{Ann}
use Rattle.pc_valid.specs.Valid.{MeetsRule, SetsFields}
use Rattle.pc_judge.specs.{declared.faults.JudgeFault.JudgeFault, Faults.SetsAfter}
use Rattle.pc_judge.specs.declared.faults.JudgeFault.TheVariants as fault

-- The faults of the code.
abbrev pub AnnotationFault : Type 0
AnnotationFault = JudgeFault

-- There is no fault at node n.
abbrev pub NodePasses : CoreData → Ann → ℕ → Type 0
NodePasses core ann n = MeetsRule core ann n × SetsAfter core ann n

-- Node n has this fault.
abbrev pub FailsAt : CoreData → Ann → ℕ → JudgeFault → Type 0
FailsAt core ann n (fault.Node k) = (k ≡ n) × (n < length core.nodes) × (MeetsRule core ann n → ⊥)
FailsAt core ann n (fault.Unset m) = MeetsRule core ann n × ((x : Method) × (slice_get core.methods m ≡ Some x) × (x.body ≡ Some n) × (SetsFields core ann x → ⊥))
FailsAt core ann n f = ⊥
