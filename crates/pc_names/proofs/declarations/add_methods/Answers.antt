use Rattle.std.proofs.{Common.{sym, ◌∙◌, arith}, lemmas.Result.err_from_is_err_and}
use Rattle.pc_names.proofs.Stops.{method_stops}
use Rattle.pc_names.proofs.declarations.add_methods.Goals as goal

pub returns-in_err-check_signature : goal.returns-in_err-check_signature
returns-in_err-check_signature c =
    let p = err_from_is_err_and c.from_residual.result c.from_residual.ensures.1 in
    rw (p.1, p.2) (method_stops c.args.entities.now c.args.fields.now c.args.known.now c.loop-method.known c.args.methods.now c.loop-method.method-index c.method-item.result c.in_err-check_signature.field-0.0
    (omega (arith, c.loop-method-test.true)) c.method-item.is c.loop-method.invariant (sym c.is_in_either.ensures ∙ c.if-is_in_either.false) c.in_err-check_signature.ensures)
