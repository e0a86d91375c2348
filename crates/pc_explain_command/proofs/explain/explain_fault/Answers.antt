use Rattle.std.proofs.Common.{sym, ◌∙◌}
use Rattle.pc_tree.specs.View.{file_view}
use Rattle.pc_explain_command.proofs.Explained.{fault_says, fault_stops}
use Rattle.pc_explain_command.proofs.explain.explain_fault.Goals as goal

pub returns-then-is_refused : goal.returns-then-is_refused
returns-then-is_refused c =
    let e = c.is_refused.ensures in
    let is = c.if-is_refused.true in
    fault_stops c.args.name.now c.args.bytes.now (file_view c.args.file.now) c.args.fault c.requires c.refuse_name.result (sym e ∙ is) c.refuse_name.ensures

pub returns : goal.returns
returns c =
    let e = c.is_refused.ensures in
    let is = c.if-is_refused.false in
    fault_says c.args.name.now c.args.bytes.now (file_view c.args.file.now) c.args.fault c.requires c.in_ok-explain_names.field-0 (sym e ∙ is) c.in_ok-explain_names.ensures
