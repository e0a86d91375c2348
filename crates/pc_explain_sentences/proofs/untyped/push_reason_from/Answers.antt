use Rattle.std.proofs.Common.{sym, ◌∙◌}
use Rattle.pc_explain_sentences.proofs.Reasons.{turned}
use Rattle.pc_explain_sentences.proofs.untyped.push_reason_from.Goals as goal

pub loop-step-preserved : goal.loop-step-preserved
loop-step-preserved c =
    turned _ _ _ _ _ _ _ _ _ _ c.loop-step-test.true (sym c.step_of.ensures ∙ c.in-Some.is) c.step_to-at.ensures c.step_words.ensures
    c.in_ok-push_bytes-in-Some.ensures c.loop-step.invariant
