use Rattle.std.proofs.Common.{refl}
use Rattle.pc_refusals.specs.Derivation.Judging.{holds, fails}
use Rattle.pc_refusals.proofs.derivation.judge_annotation.Goals as goal

pub returns-in-Ok : goal.returns-in-Ok
returns-in-Ok c = holds (c.in-Ok.ensures.ok.0 refl)

pub returns-in_ok-make_fault_line-in-Err : goal.returns-in_ok-make_fault_line-in-Err
returns-in_ok-make_fault_line-in-Err c = rw c.in_ok-make_fault_line-in-Err.ensures (fails c.in-Err.fault ((c.in-Err.ensures.fault c.in-Err.fault).0 refl))
