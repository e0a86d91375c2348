use Rattle.std.proofs.Common.{sym, subst}
use Rattle.pc_deriv.specs.{declared.line.LineFault.LineFault, Laws.as_read}
use Rattle.pc_refusals.specs.{Derivation.{text_line, text_status}, Inner.Refusals.IsRefusal}
use Rattle.pc_refusal_lines.specs.Lines.{bad_line, many_line}
use Rattle.pc_refusals.proofs.derivation.refuse_text.Goals as goal

pub returns-in-BadLine : goal.returns-in-BadLine
returns-in-BadLine c =
    subst (λ (f : LineFault). IsRefusal (text_status (as_read f)) (text_line c.args.name.now (as_read f)) c.refuse.result) (sym c.in-BadLine.is)
    (c.refuse.ensures (bad_line c.args.name.now c.in-BadLine.number) c.make_bad_line.ensures)

pub returns-in-TooMany : goal.returns-in-TooMany
returns-in-TooMany c =
    subst (λ (f : LineFault). IsRefusal (text_status (as_read f)) (text_line c.args.name.now (as_read f)) c.refuse-in-TooMany.result) (sym c.in-TooMany.is)
    (c.refuse-in-TooMany.ensures (many_line c.args.name.now) c.make_many_line.ensures)
