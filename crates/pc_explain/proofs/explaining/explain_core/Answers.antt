use Rattle.std.proofs.{Common.subst, lemmas.Result.IfOk-weaker}
use Rattle.pc_check.specs.Faults.{RefusesCore}
use Rattle.pc_explain.proofs.Made.{declaration_made}
use Rattle.pc_explain.proofs.explaining.explain_core.Goals as goal

pub explain_stop-requires : goal.explain_stop-requires
explain_stop-requires c = subst (RefusesCore c.args.core.now) c.in-NoRule.is c.requires

pub explain_left-requires : goal.explain_left-requires
explain_left-requires c = subst (RefusesCore c.args.core.now) c.in-Unset.is c.requires

pub returns-in-Decl : goal.returns-in-Decl
returns-in-Decl c =
    let refused = subst (RefusesCore c.args.core.now) c.in-Decl.is c.requires in
    IfOk-weaker c.explain_declaration.result _ _
    (λ text e. declaration_made c.args.name.now c.args.bytes.now c.args.tokens.now c.args.core.now c.in-Decl.fault text refused e)
    c.explain_declaration.ensures
