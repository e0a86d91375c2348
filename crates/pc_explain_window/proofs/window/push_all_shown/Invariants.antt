use Rattle.std.proofs.Common.{◌≡◌, ◌++◌, map, take}
use Rattle.pc_explain_window.specs.Shown.{shown}
use Rattle.pc_explain_window.proofs.window.push_all_shown.Given as goal

abbrev pub invariant-bytes : goal.invariant-bytes
invariant-bytes l = l.out.items ≡ l.initial.out.items ++ map shown (take l.byte-index l.bytes)
