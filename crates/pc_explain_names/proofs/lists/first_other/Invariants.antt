use Rattle.std.proofs.Common.{◌≡◌, drop}
use Rattle.std.specs.List.{find}
use Rattle.pc_explain_names.specs.Lists.{is_other}
use Rattle.pc_explain_names.proofs.lists.first_other.Given as goal

abbrev pub invariant-loop-span : goal.invariant-loop-span
invariant-loop-span l = find (is_other l.bytes l.name l.at) (drop l.span-index l.spans) ≡ find (is_other l.bytes l.name l.at) l.spans
