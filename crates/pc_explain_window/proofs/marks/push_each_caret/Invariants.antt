use Rattle.std.proofs.Common.{◌≡◌, ◌++◌, flat_map, take}
use Rattle.pc_explain_window.specs.Window.{caret}
use Rattle.pc_explain_window.proofs.marks.push_each_caret.Given as goal

abbrev pub invariant-bytes : goal.invariant-bytes
invariant-bytes l = l.out.items ≡ l.initial.out.items ++ flat_map caret (take l.byte-index l.bytes)
