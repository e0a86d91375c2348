use Rattle.std.proofs.Common.{◌≡◌, ◌++◌, ℕ, List, OnOk, ap, subst, ◌∙◌}
use Rattle.pc_caps.specs.Words.{form_name}
use Rattle.pc_explain_words.specs.Misfits.{param_cap}
use Rattle.pc_explain_words.proofs.Pushes.{ok_four}
use Rattle.pc_explain_words.proofs.misfits.push_param_cap.Goals as goal

pub returns : goal.returns
unfolding param_cap
returns c =
    ok_four _ _ _ _ _ _ _ _ _ _ c.in_ok-push_param_head.ensures
    (c.in_ok-push_bytes.ensures ∙ ap (λ (word : List ℕ). c.push_param_head.new.out.items ++ word) c.cap_word.ensures)
    c.in_ok-push_bytes-2.ensures
    (subst (λ (word : List ℕ). OnOk c.push_bytes-3.result (c.push_bytes-3.new.out.items ≡ c.push_bytes-2.new.out.items ++ word))
    (c.form_word.ensures ∙ ap form_name c.unalias.ensures) c.push_bytes-3.ensures)
