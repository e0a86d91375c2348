use Rattle.std.proofs.Common.{sym, ap, ◌∙◌, ◌+◌}
use Rattle.pc_sub.proofs.Turns.{entities_stop, entities_pass}
use Rattle.pc_sub.proofs.traits.entity_fault.Goals as goal

pub returns-in-Some : goal.returns-in-Some
returns-in-Some c =
    sym (sym c.loop-entity.invariant.rest
    ∙ entities_stop c.args.core.now c.args.core.now.entities c.entities-entity-items.result.now c.loop-entity.number c.loop-entity.entity-index c.entity-item.result c.in-Some.fault c.as_slice.result.now c.entities-entity-items.ensures c.loop-entity-test.true c.entity-item.is c.as_slice.ensures (sym c.list_fault.ensures ∙ c.in-Some.is))

pub loop-entity-preserved : goal.loop-entity-preserved
loop-entity-preserved c =
    record {
      rest =
          entities_pass c.args.core.now c.args.core.now.entities c.entities-entity-items.result.now c.loop-entity.number c.loop-entity.entity-index c.entity-item.result c.as_slice.result.now c.entities-entity-items.ensures c.loop-entity-test.true c.entity-item.is c.as_slice.ensures (sym c.list_fault.ensures ∙ c.in-None.is)
          ∙ c.loop-entity.invariant.rest;
      at = ap (λ n. n + 1) c.loop-entity.invariant.at;
    }
