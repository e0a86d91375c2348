use Rattle.std.proofs.Common.{◌≡◌, map, take}
use Rattle.pc_explain_names.specs.Lists.{param_name_span}
use Rattle.pc_explain_names.proofs.spans.param_spans.Given as goal

abbrev pub invariant-loop-param : goal.invariant-loop-param
invariant-loop-param l = l.spans.items ≡ map param_name_span (take l.param-index l.params)
