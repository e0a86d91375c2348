use Rattle.std.proofs.{Common.arith, lemmas.Result.err_from_is_err_and}
use Rattle.pc_names.proofs.Stops.{entity_stops}
use Rattle.pc_names.proofs.declarations.check_entities.Goals as goal

pub returns-in_err-check_entity : goal.returns-in_err-check_entity
returns-in_err-check_entity c =
    let p = err_from_is_err_and c.from_residual.result c.from_residual.ensures.1 in
    rw (p.1, p.2) (entity_stops c.args.entities.now c.args.traits.now c.args.all.now c.loop-entity.entity-index c.entity-item.result c.in_err-check_entity.field-0.0
    (omega (arith, c.loop-entity-test.true)) c.entity-item.is c.loop-entity.invariant c.in_err-check_entity.ensures)
