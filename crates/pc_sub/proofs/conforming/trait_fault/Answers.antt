use Rattle.std.proofs.Common.{sym, ◌∙◌, arith}
use Rattle.pc_sub.proofs.Turns.{methods_stop, methods_pass}
use Rattle.pc_sub.proofs.conforming.trait_fault.Goals as goal

pub returns-in-Some : goal.returns-in-Some
returns-in-Some c =
    sym (sym c.loop-wanted.invariant.rest
    ∙ methods_stop c.args.core.now c.args.entity c.args.methods.now c.loop-wanted.number c.loop-wanted.wanted-index c.wanted-item.result c.in-Some.fault c.loop-wanted-test.true c.wanted-item.is (sym c.method_fault.ensures ∙ c.in-Some.is))

pub loop-wanted-preserved : goal.loop-wanted-preserved
loop-wanted-preserved c =
    let at = c.loop-wanted.invariant.at in
    record {
      rest =
          methods_pass c.args.core.now c.args.entity c.args.methods.now c.loop-wanted.number c.loop-wanted.wanted-index c.wanted-item.result c.loop-wanted-test.true c.wanted-item.is (sym c.method_fault.ensures ∙ c.in-None.is)
          ∙ c.loop-wanted.invariant.rest;
      at = omega (arith, at);
    }
