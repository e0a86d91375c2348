use Rattle.std.proofs.Common.{◌≡◌, ◌++◌, flat_map, take}
use Rattle.pc_explain_window.specs.Window.{under}
use Rattle.pc_explain_window.proofs.marks.push_all_under.Given as goal

abbrev pub invariant-bytes : goal.invariant-bytes
invariant-bytes l = l.out.items ≡ l.initial.out.items ++ flat_map under (take l.byte-index l.bytes)
