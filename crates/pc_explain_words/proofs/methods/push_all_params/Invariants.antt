use Rattle.std.proofs.Common.{◌≡◌, ◌++◌, drop, true}
use Rattle.pc_explain_words.specs.Methods.{declared_params_from}
use Rattle.pc_explain_words.proofs.methods.push_all_params.Given as goal

abbrev pub invariant-loop-param : goal.invariant-loop-param
invariant-loop-param l =
    l.out.items ++ declared_params_from l.scene l.first (drop l.param-index l.params) ≡ l.initial.out.items ++ declared_params_from l.scene true l.params
