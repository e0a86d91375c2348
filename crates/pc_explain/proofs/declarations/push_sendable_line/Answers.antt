use Rattle.std.proofs.Common.{◌++◌, ℕ, List, ap, ◌∙◌}
use Rattle.pc_explain_sentences.proofs.Pushed.{ok_five}
use Rattle.pc_explain.specs.Declarations.{sendable_line}
use Rattle.pc_explain.proofs.declarations.push_sendable_line.Goals as goal

pub returns : goal.returns
unfolding sendable_line
returns c =
    ok_five _ _ _ _ _ _ _ _ _ _ _ _
    c.in_ok-push_bytes.ensures
    (c.in_ok-push_bytes-2.ensures ∙ ap (λ (word : List ℕ). c.push_bytes.new.out.items ++ word) c.cap_word.ensures)
    c.in_ok-push_bytes-3.ensures
    c.in_ok-push_taker.ensures
    c.push_bytes-4.ensures
