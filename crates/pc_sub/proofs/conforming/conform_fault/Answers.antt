use Rattle.std.proofs.Common.{refl, sym}
use Rattle.std.specs.Prelude.{slice_get}
use Rattle.pc_sub.specs.Faults.{conformed}
use Rattle.pc_sub.proofs.conforming.conform_fault.Goals as goal

pub returns-then-conforms : goal.returns-then-conforms
returns-then-conforms c =
    let core = c.args.core.now in
    sym (conformed core c.args.entity c.args.above (slice_get core.entities c.args.above) c.formed.ensures refl (c.conforms.ensures.methods.0 c.if-conforms.true))
