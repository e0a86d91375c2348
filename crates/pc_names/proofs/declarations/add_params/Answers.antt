use Rattle.std.proofs.{Common.{sym, ◌∙◌, arith}, lemmas.Result.err_from_is_err_and}
use Rattle.pc_names.proofs.Stops.{param_stops}
use Rattle.pc_names.proofs.declarations.add_params.Goals as goal

pub returns-in_err-check_type : goal.returns-in_err-check_type
returns-in_err-check_type c =
    let p = err_from_is_err_and c.from_residual.result c.from_residual.ensures.1 in
    rw (p.1, p.2) (param_stops c.args.entities.now c.args.fields.now c.args.known.now c.loop-param.known c.args.params.now c.loop-param.param-index c.param-item.result c.in_err-check_type.field-0.0
    (omega (arith, c.loop-param-test.true)) c.param-item.is c.loop-param.invariant (sym c.is_in_either.ensures ∙ c.if-is_in_either.false) c.in_err-check_type.ensures)
