use Rattle.pc_explain_sentences.proofs.Pushed.{ok_seven}
use Rattle.pc_explain.specs.Declarations.{declare_hint}
use Rattle.pc_explain.proofs.declarations.push_declare_hint.Goals as goal

pub returns : goal.returns
unfolding declare_hint
returns c =
    ok_seven _ _ _ _ _ _ _ _ _ _ _ _ _ _ _ _
    c.in_ok-push_bytes.ensures
    c.in_ok-push_piece.ensures
    c.in_ok-push_bytes-2.ensures
    c.in_ok-push_piece-2.ensures
    c.in_ok-push_bytes-3.ensures
    c.in_ok-push_piece-3.ensures
    c.push_bytes-4.ensures
