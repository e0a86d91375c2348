use Rattle.std.proofs.Common.{◌≡◌, map, take}
use Rattle.pc_explain_names.specs.Lists.{name_span}
use Rattle.pc_explain_names.proofs.spans.name_spans.Given as goal

abbrev pub invariant-loop-name : goal.invariant-loop-name
invariant-loop-name l = l.spans.items ≡ map name_span (take l.name-index l.names)
