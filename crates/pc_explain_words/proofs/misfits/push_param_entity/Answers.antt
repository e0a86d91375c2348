use Rattle.std.proofs.Common.{◌≡◌, ◌++◌, ℕ, List, OnOk, ap, subst, ◌∙◌}
use Rattle.pc_core.specs.CoreData.{CoreData}
use Rattle.pc_explain_words.specs.{Forms.{entity_name, with_article}, Misfits.param_entity}
use Rattle.pc_explain_words.proofs.Pushes.{ok_four}
use Rattle.pc_explain_words.proofs.misfits.push_param_entity.Goals as goal

pub returns : goal.returns
unfolding param_entity
returns c =
    let given = c.entity_name.ensures ∙ ap (λ (core : CoreData). entity_name core c.args.given.entity) c.core.ensures in
    let wanted = c.entity_name-2.ensures ∙ ap (λ (core : CoreData). entity_name core c.args.wanted.entity) c.core-2.ensures in
    ok_four _ _ _ _ _ _ _ _ _ _ c.in_ok-push_param_head.ensures
    (c.in_ok-push_with_article.ensures ∙ ap (λ (name : List ℕ). c.push_param_head.new.out.items ++ with_article name) given)
    c.in_ok-push_bytes.ensures
    (subst (λ (name : List ℕ). OnOk c.push_with_article-2.result (c.push_with_article-2.new.out.items ≡ c.push_bytes.new.out.items ++ with_article name))
    wanted c.push_with_article-2.ensures)
