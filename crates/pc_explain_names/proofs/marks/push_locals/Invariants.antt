use Rattle.std.proofs.Common.{◌≡◌, ◌++◌, drop}
use Rattle.pc_explain_names.specs.Marks.{locals}
use Rattle.pc_explain_names.proofs.marks.push_locals.Given as goal

abbrev pub invariant-marks : goal.invariant-marks
invariant-marks l = l.out.items ++ locals (drop l.mark-index l.marks) ≡ l.initial.out.items ++ locals l.marks
