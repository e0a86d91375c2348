use Rattle.std.proofs.Common.{◌≡◌, ap, ◌∙◌, subst}
use Rattle.std.specs.Prelude.{IfOk}
use Rattle.pc_members.specs.Views.{table_view}
use Rattle.pc_tree.specs.View.{file_view}
use Rattle.pc_explain_names.proofs.Known.{rows_collected, rows_faulty}
use Rattle.pc_explain_names.proofs.rows.list_rows.Goals as goal

pub returns-in-Ok : goal.returns-in-Ok
returns-in-Ok c =
    subst (λ xs. IfOk c.members_of.result (λ l. table_view l ≡ xs)) (rows_collected (file_view c.args.file.now) c.in-Ok.names c.in-Ok.ensures.ok) c.members_of.ensures

pub returns-in_ok-unless_memory-in-Err : goal.returns-in_ok-unless_memory-in-Err
returns-in_ok-unless_memory-in-Err c =
    ap table_view c.new.ensures ∙ rows_faulty (file_view c.args.file.now) c.in-Err.fault c.in_ok-unless_memory-in-Err.ensures c.in-Err.ensures.err
