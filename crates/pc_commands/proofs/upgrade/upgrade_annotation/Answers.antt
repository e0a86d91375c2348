use Rattle.std.proofs.{Common.{Ok, ap}, lemmas.Result.err_from_is_err_and}
use Rattle.pc_deriv.specs.Text.{deriv_text}
use Rattle.pc_deriv.specs.declared.version.Version.TheVariants as version
use Rattle.pc_refusals.specs.{Derivation.Judging, Verdict.done}
use Rattle.pc_refusals.proofs.Ending.{last_stops}
use Rattle.pc_commands.proofs.upgrade.upgrade_annotation.Goals as goal

pub returns-in_err-judge_annotation : goal.returns-in_err-judge_annotation
returns-in_err-judge_annotation c =
    let p = err_from_is_err_and c.from_residual.result c.from_residual.ensures.1 in
    rw (p.1, p.2) (last_stops (λ _. deriv_text version.Two c.args.ann.now) (Judging c.args.source_name.now c.args.name.now c.args.source c.args.ann.now) (λ n. ⊥) _ c.in_err-judge_annotation.ensures)

pub returns : goal.returns
returns c = (Ok tt, c.in_ok-judge_annotation.ensures, ap done c.in_ok-text.ensures.text)
