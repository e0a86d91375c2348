use Rattle.std.proofs.Common.{◌≡◌, ◌++◌, map, take}
use Rattle.pc_explain_window.specs.Window.{blank_for}
use Rattle.pc_explain_window.proofs.window.push_blank_each.Given as goal

abbrev pub invariant-digits : goal.invariant-digits
invariant-digits l = l.out.items ≡ l.initial.out.items ++ map blank_for (take l.digit-index l.digits)
