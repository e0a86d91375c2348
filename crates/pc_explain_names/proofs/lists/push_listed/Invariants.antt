use Rattle.std.proofs.Common.{◌≡◌, ◌++◌, drop, true}
use Rattle.pc_explain_names.specs.Lists.{listed}
use Rattle.pc_explain_names.proofs.lists.push_listed.Given as goal

abbrev pub invariant-spans : goal.invariant-spans
invariant-spans l = l.out.items ++ listed l.bytes l.first (drop l.span-index l.spans) ≡ l.initial.out.items ++ listed l.bytes true l.spans
