use Rattle.std.proofs.Common.{◌≡◌, ◌++◌, drop}
use Rattle.pc_explain_window.specs.Quoting.{line_from, one_line}
use Rattle.pc_explain_window.proofs.quoting.one_line.Given as goal

abbrev pub invariant-bytes : goal.invariant-bytes
invariant-bytes l = l.line.items ++ line_from l.after_blank (drop l.byte-index l.piece) ≡ one_line l.piece
