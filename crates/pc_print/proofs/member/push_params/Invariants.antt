use Rattle.std.proofs.Common.{◌≡◌, ◌++◌, cond, drop}
use Rattle.pc_print.specs.Parts as parts
use Rattle.pc_print.proofs.member.push_params.Given as goal

abbrev pub invariant-loop-param : goal.invariant-loop-param
invariant-loop-param l = l.out.items ++ cond l.first (parts.printed_params (drop l.param-index l.params)) (parts.more_params (drop l.param-index l.params)) ≡ l.initial.out.items ++ parts.printed_params l.params
