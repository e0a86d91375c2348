use Rattle.std.proofs.Common.{◌++◌, ℕ, List, ap, ◌∙◌}
use Rattle.pc_explain_window.specs.Quoting.{piece}
use Rattle.pc_explain_sentences.proofs.Pushed.{ok_five}
use Rattle.pc_explain.specs.Declarations.{other_hint}
use Rattle.pc_explain.proofs.declarations.push_other_hint.Goals as goal

pub returns : goal.returns
unfolding other_hint
returns c =
    ok_five _ _ _ _ _ _ _ _ _ _ _ _
    c.in_ok-push_bytes.ensures
    c.in_ok-push_entity.ensures
    c.in_ok-push_bytes-2.ensures
    (c.in_ok-push_piece.ensures ∙ ap (λ (word : List ℕ). c.push_bytes-2.new.out.items ++ piece word) c.name_text.ensures)
    c.push_bytes-3.ensures
