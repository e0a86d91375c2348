use Rattle.std.proofs.Common.{◌≡◌, ◌++◌, drop}
use Rattle.pc_explain.specs.Setting.{unset_parts}
use Rattle.pc_explain.proofs.setting.push_unset_parts.Given as goal

abbrev pub invariant-loop-index : goal.invariant-loop-index
invariant-loop-index l = l.out.items ++ unset_parts l.scene l.method l.set l.index (drop l.index l.fields) ≡ l.initial.out.items ++ unset_parts l.scene l.method l.set 0 l.fields
