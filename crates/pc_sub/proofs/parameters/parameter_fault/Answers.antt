use Rattle.std.proofs.Common.{sym, ap, ◌∙◌, ◌+◌}
use Rattle.pc_sub.proofs.{Turns.{parameters_stop, parameters_pass}, Counts.few_params}
use Rattle.pc_sub.proofs.parameters.parameter_fault.Goals as goal

pub own_fault-requires : goal.own_fault-requires
own_fault-requires c = few_params c.args.core.now c.methods-method-items.result.now c.loop-method.method-index c.method-item.result c.formed.ensures c.methods-method-items.ensures c.loop-method-test.true c.method-item.is

pub returns-in-Some : goal.returns-in-Some
returns-in-Some c =
    sym (sym c.loop-method.invariant.rest
    ∙ parameters_stop c.args.core.now.methods c.methods-method-items.result.now c.loop-method.number c.loop-method.method-index c.method-item.result c.in-Some.fault c.methods-method-items.ensures c.loop-method-test.true c.method-item.is (sym c.own_fault.ensures ∙ c.in-Some.is))

pub loop-method-preserved : goal.loop-method-preserved
loop-method-preserved c =
    record {
      rest =
          parameters_pass c.args.core.now.methods c.methods-method-items.result.now c.loop-method.number c.loop-method.method-index c.method-item.result c.methods-method-items.ensures c.loop-method-test.true c.method-item.is (sym c.own_fault.ensures ∙ c.in-None.is)
          ∙ c.loop-method.invariant.rest;
      at = ap (λ n. n + 1) c.loop-method.invariant.at;
    }
