use Rattle.std.proofs.{Common.{sym, ◌∙◌, subst}, lemmas.Result.err_from_is_err_and}
use Rattle.pc_tree.specs.View.{file_view}
use Rattle.pc_members.specs.Members.{IsTransitiveClosure}
use Rattle.pc_members.proofs.Closings.{closes}
use Rattle.pc_names.specs.Faults.{IsFirstNameFault}
use Rattle.pc_names.proofs.Passes.{fault_of_names, fault_of_declarations, fault_of_above, want_of_memory, is_collected, own_faults}
use Rattle.pc_names.proofs.collecting.collect.Goals as goal

pub returns-in_err-entities-clause-err : goal.returns-in_err-entities-clause-err
returns-in_err-entities-clause-err c =
    let p = err_from_is_err_and c.from_residual.result c.from_residual.ensures.1 in
    rw (p.1, p.2) (fault_of_names (file_view c.args.file.now) c.in_err-entities.field-0.0 c.in_err-entities.ensures.tells)

pub returns-in_err-check_declarations-clause-err : goal.returns-in_err-check_declarations-clause-err
returns-in_err-check_declarations-clause-err c =
    let p = err_from_is_err_and c.from_residual-in_err-check_declarations.result c.from_residual-in_err-check_declarations.ensures.1 in
    rw (p.1, p.2) (fault_of_declarations (file_view c.args.file.now) c.in_err-check_declarations.field-0.0 c.in_ok-entities.ensures.tells c.in_err-check_declarations.ensures)

pub returns-in_err-above-clause-err : goal.returns-in_err-above-clause-err
returns-in_err-above-clause-err c =
    let p = err_from_is_err_and c.from_residual-in_err-above.result c.from_residual-in_err-above.ensures.1 in
    rw (p.1, p.2) (want_of_memory (file_view c.args.file.now))

pub check_above-requires-clause-closes : goal.check_above-requires-clause-closes
check_above-requires-clause-closes c = subst (IsTransitiveClosure (file_view c.args.file.now)) (sym (c.as_slice.ensures ∙ c.in_ok-above.ensures)) (closes (file_view c.args.file.now))

pub returns-in_err-check_above-clause-err : goal.returns-in_err-check_above-clause-err
returns-in_err-check_above-clause-err c =
    let p = err_from_is_err_and c.from_residual-in_err-check_above.result c.from_residual-in_err-check_above.ensures.1 in
    let f = c.in_err-check_above.field-0.0 in
    let same = own_faults (file_view c.args.file.now) c.as_slice.result.now (c.as_slice.ensures ∙ c.in_ok-above.ensures) in
    rw (p.1, p.2) (fault_of_above (file_view c.args.file.now) f c.in_ok-entities.ensures.tells c.in_ok-check_declarations.ensures (subst (IsFirstNameFault f) same c.in_err-check_above.ensures))

pub returns-in_err-texts-clause-err : goal.returns-in_err-texts-clause-err
returns-in_err-texts-clause-err c =
    let p = err_from_is_err_and c.from_residual-in_err-texts.result c.from_residual-in_err-texts.ensures.1 in
    rw (p.1, p.2) (want_of_memory (file_view c.args.file.now))

pub returns-clause-ok : goal.returns-clause-ok
returns-clause-ok c =
    let same = own_faults (file_view c.args.file.now) c.as_slice.result.now (c.as_slice.ensures ∙ c.in_ok-above.ensures) in
    rw c.of.ensures (is_collected (file_view c.args.file.now) (record { entities = c.in_ok-entities.entities; texts = c.in_ok-texts.texts; above = c.in_ok-above.above }) c.in_ok-entities.ensures.tells c.in_ok-check_declarations.ensures (sym same ∙ c.in_ok-check_above.ensures) c.in_ok-entities.ensures.names c.in_ok-above.ensures c.in_ok-texts.ensures)
