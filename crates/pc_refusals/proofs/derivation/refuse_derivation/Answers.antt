use Rattle.pc_deriv.specs.Text.{derivation_limit}
use Rattle.pc_refusals.specs.Derivation.{judge_line}
use Rattle.pc_refusal_lines.specs.Lines.{longer_line}
use Rattle.pc_refusals.proofs.Judged.{refused_by}
use Rattle.pc_refusals.proofs.derivation.refuse_derivation.Goals as goal

pub returns-in-TooLong : goal.returns-in-TooLong
returns-in-TooLong c =
    refused_by c.args.source_name.now c.args.name.now c.args.source.now c.args.fault _ c.refuse.result c.in-TooLong.is (c.refuse.ensures (longer_line c.args.name.now derivation_limit) c.make_longer_line.ensures)

pub returns-in-Text : goal.returns-in-Text
returns-in-Text c = refused_by c.args.source_name.now c.args.name.now c.args.source.now c.args.fault _ c.refuse_text.result c.in-Text.is c.refuse_text.ensures

pub returns-in-Invalid : goal.returns-in-Invalid
returns-in-Invalid c =
    refused_by c.args.source_name.now c.args.name.now c.args.source.now c.args.fault _ c.refuse-in-Invalid.result c.in-Invalid.is
    (c.refuse-in-Invalid.ensures (judge_line c.args.source_name.now c.args.name.now c.args.source.now c.in-Invalid.fault) c.make_fault_line.ensures)
