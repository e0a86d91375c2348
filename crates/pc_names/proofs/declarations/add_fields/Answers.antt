use Rattle.std.proofs.{Common.arith, lemmas.Result.err_from_is_err_and}
use Rattle.pc_names.proofs.Stops.{field_name_stops, field_type_stops}
use Rattle.pc_names.proofs.declarations.add_fields.Goals as goal

pub returns-in_err-check_field_name-clause-tells : goal.returns-in_err-check_field_name-clause-tells
returns-in_err-check_field_name-clause-tells c =
    let p = err_from_is_err_and c.from_residual.result c.from_residual.ensures.1 in
    rw (p.1, p.2) (field_name_stops c.args.entities.now c.args.known.now c.loop-field.known c.args.fields.now c.loop-field.field-index c.field-item.result c.in_err-check_field_name.field-0.0
    (omega (arith, c.loop-field-test.true)) c.field-item.is c.loop-field.invariant.0 c.in_err-check_field_name.ensures)

pub returns-in_err-check_type-clause-tells : goal.returns-in_err-check_type-clause-tells
returns-in_err-check_type-clause-tells c =
    let p = err_from_is_err_and c.from_residual-in_err-check_type.result c.from_residual-in_err-check_type.ensures.1 in
    rw (p.1, p.2) (field_type_stops c.args.entities.now c.args.known.now c.loop-field.known c.args.fields.now c.loop-field.field-index c.field-item.result c.in_err-check_type.field-0.0
    (omega (arith, c.loop-field-test.true)) c.field-item.is c.loop-field.invariant.0 c.in_ok-check_field_name.ensures c.in_err-check_type.ensures)
