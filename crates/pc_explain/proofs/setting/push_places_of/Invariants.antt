use Rattle.std.proofs.Common.{◌≡◌, ◌++◌, drop, true}
use Rattle.pc_explain.specs.Setting.{places_of}
use Rattle.pc_explain.proofs.setting.push_places_of.Given as goal

abbrev pub invariant-starts : goal.invariant-starts
invariant-starts l = l.out.items ++ places_of l.bytes l.first (drop l.at-index l.starts) ≡ l.initial.out.items ++ places_of l.bytes true l.starts
