use Rattle.std.proofs.Common.{Err, ap}
use Rattle.pc_check.specs.declared.fault.CheckFault.TheVariants as fault_of
use Rattle.pc_sub.proofs.FirstFaults.{one_fault}
use Rattle.pc_sub.specs.declared.faults.DeclFault.{DeclFault}
use Rattle.pc_check.proofs.checking.looked_through.Goals as goal

pub returns-in-Err-clause-declarations : goal.returns-in-Err-clause-declarations
returns-in-Err-clause-declarations c fault h = ap (λ (f : DeclFault). Err (fault_of.Decl f)) (one_fault c.args.core.now c.in-Err.fault fault c.formed.ensures c.in-Err.ensures.fault h)
