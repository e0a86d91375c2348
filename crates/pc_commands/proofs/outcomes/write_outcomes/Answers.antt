use Rattle.std.proofs.Common.{Err, sym, subst}
use Rattle.pc_base.specs.Lists.{Text}
use Rattle.pc_refusals.specs.Verdict.{refused}
use Rattle.pc_commands.specs.{Outcomes.OutcomesTelling, Outcomes.OutcomesTelling.{many_bytes, many_steps, tells}}
use Rattle.pc_commands.proofs.outcomes.write_outcomes.Goals as goal

pub returns-in_ok-text_of-in-Ok : goal.returns-in_ok-text_of-in-Ok
returns-in_ok-text_of-in-Ok c = tells c.in-Ok.entries c.in_ok-text_of-in-Ok.field-0 c.in-Ok.ensures (rw (← c.as_slice.ensures) c.in_ok-text_of-in-Ok.ensures)

pub returns-in_ok-make_many_steps_line-in-Err-Steps : goal.returns-in_ok-make_many_steps_line-in-Err-Steps
returns-in_ok-make_many_steps_line-in-Err-Steps c =
    let past = rw c.in-Err-Steps.field-0-is at c.in-Err-Steps.ensures in
    subst (λ (line : Text). OutcomesTelling c.args.name.now c.args.core.now c.args.count (Err (refused 8 line))) (sym c.in_ok-make_many_steps_line-in-Err-Steps.ensures) (many_steps c.in-Err-Steps.seed past.0 past.1)

pub returns-in_ok-make_many_bytes_line-in-Err-Texts : goal.returns-in_ok-make_many_bytes_line-in-Err-Texts
returns-in_ok-make_many_bytes_line-in-Err-Texts c =
    let past = rw c.in-Err-Texts.field-0-is at c.in-Err-Texts.ensures in
    subst (λ (line : Text). OutcomesTelling c.args.name.now c.args.core.now c.args.count (Err (refused 8 line))) (sym c.in_ok-make_many_bytes_line-in-Err-Texts.ensures) (many_bytes c.in-Err-Texts.seed past.0 past.1)
