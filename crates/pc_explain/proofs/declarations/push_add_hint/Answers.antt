use Rattle.pc_explain_words.proofs.Pushes.{ok_three}
use Rattle.pc_explain.specs.Declarations.{missing_hint}
use Rattle.pc_explain.proofs.declarations.push_add_hint.Goals as goal

pub returns : goal.returns
unfolding missing_hint
returns c =
    ok_three _ _ _ _ _ _ _ _
    c.in_ok-push_bytes.ensures
    c.in_ok-push_written.ensures
    c.push_bytes-2.ensures
