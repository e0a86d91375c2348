use Rattle.std.proofs.Common.{◌++◌, ℕ, List, ap, ◌∙◌}
use Rattle.pc_explain_words.specs.Forms.{with_article}
use Rattle.pc_explain_sentences.proofs.Pushed.{ok_seven}
use Rattle.pc_explain.specs.Declarations.{provider_line}
use Rattle.pc_explain.proofs.declarations.push_provider_line.Goals as goal

pub returns : goal.returns
unfolding provider_line
returns c =
    ok_seven _ _ _ _ _ _ _ _ _ _ _ _ _ _ _ _
    c.in_ok-push_bytes.ensures
    (c.in_ok-push_bytes-2.ensures ∙ ap (λ (word : List ℕ). c.push_bytes.new.out.items ++ word) c.kind_of.ensures)
    c.in_ok-push_bytes-3.ensures
    c.in_ok-push_entity.ensures
    c.in_ok-push_bytes-4.ensures
    (c.in_ok-push_with_article.ensures ∙ ap (λ (word : List ℕ). c.push_bytes-4.new.out.items ++ with_article word) c.entity_name.ensures)
    c.push_bytes-5.ensures
