use Rattle.std.proofs.Common.{◌≡◌, drop}
use Rattle.pc_explain_names.specs.Marks.{use_in}
use Rattle.pc_explain_names.proofs.marks.use_in.Given as goal

abbrev pub invariant-loop-mark : goal.invariant-loop-mark
invariant-loop-mark l = use_in (drop l.mark-index l.marks) ≡ use_in l.marks
