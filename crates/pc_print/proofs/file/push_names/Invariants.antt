use Rattle.std.proofs.Common.{◌≡◌, ◌++◌, cond, drop}
use Rattle.pc_print.specs.Parts as parts
use Rattle.pc_print.proofs.file.push_names.Given as goal

abbrev pub invariant-loop-name : goal.invariant-loop-name
invariant-loop-name l = l.out.items ++ cond l.first (parts.printed_names (drop l.name-index l.names)) (parts.more_names (drop l.name-index l.names)) ≡ l.initial.out.items ++ parts.printed_names l.names
