-- Any two verdicts on who sends what are equal.
use Rattle.std.proofs.Common.{◌≡◌, sym, ap, ◌∙◌}
use Rattle.pc_noted_receivers.specs.Noted.{noted_entities}
use Rattle.pc_refusals.specs.{Verdict.{Verdict, done}, declared.typing.Accepted.Accepted}
use Rattle.pc_commands.proofs.OneTable.{same_text}
use Rattle.pc_top.specs.Commands.Sends.{Sent}

pub one_sent : (a : Accepted) (v w : Verdict) → Sent a v → Sent a w → v ≡ w
one_sent a v w (text, (table, t, is), e) (other, (also, u, was), f) =
    e ∙ ap done (is ∙ same_text a.source.core (noted_entities a.ann) table also t u ∙ sym was) ∙ sym f
