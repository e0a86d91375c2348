use Rattle.std.proofs.Common.{◌≡◌, ◌≤◌, take}
use Rattle.std.specs.List.{count_by}
use Rattle.pc_explain_names.specs.Homes.{begins_by}
use Rattle.pc_explain_names.proofs.homes.count_before.Given as goal

abbrev pub invariant-loop-span : goal.invariant-loop-span
invariant-loop-span l = (l.count ≤ l.span-index) × (l.count ≡ count_by (begins_by l.at) (take l.span-index l.spans))
