use Rattle.std.proofs.Common.{sym, subst}
use Rattle.pc_names.specs.declared.fault.NameFault.{NameFault}
use Rattle.pc_refusals.specs.Inner.Refusals.{IsNameStop}
use Rattle.pc_refusal_lines.specs.Lines.{no_main_line}
use Rattle.pc_refusals.proofs.name_faults.refuse_name.Goals as goal

pub returns-in-NoMain : goal.returns-in-NoMain
returns-in-NoMain c =
    subst (λ (f : NameFault). IsNameStop c.args.name.now c.args.bytes.now f c.refuse.result) (sym c.in-NoMain.is) (c.refuse.ensures (no_main_line c.args.name.now) c.make_no_main_line.ensures)
