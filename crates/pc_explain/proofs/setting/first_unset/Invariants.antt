use Rattle.std.proofs.Common.{◌≡◌, drop}
use Rattle.pc_explain.specs.Setting.{first_unset}
use Rattle.pc_explain.proofs.setting.first_unset.Given as goal

abbrev pub invariant-loop-index : goal.invariant-loop-index
invariant-loop-index l = first_unset l.set l.index (drop l.index l.fields) ≡ first_unset l.set 0 l.fields
