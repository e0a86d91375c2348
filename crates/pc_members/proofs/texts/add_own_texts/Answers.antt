use Rattle.std.proofs.Common.{◌≡◌, ◌++◌, ◌∙◌, sym, ap, subst}
use Rattle.std.specs.Prelude.{OnOk}
use Rattle.pc_tree.specs.View.{entity_view}
use Rattle.pc_members.specs.{Members.{field_texts, method_texts, has_added}, Parts.added_text, MemberLists.with_names}
use Rattle.pc_members.proofs.Tables.{own_in_parts}
use Rattle.pc_members.proofs.texts.add_own_texts.Goals as goal

pub returns : goal.returns
returns c =
    let e = entity_view c.args.entity.now in
    subst (λ xs. OnOk c.add_created.result (c.add_created.new.table ≡ xs))
    (ap (λ ns. with_names ns (added_text (has_added e))) (c.in_ok-add_texts.ensures ∙ ap (λ ns. with_names ns (field_texts e.fields ++ method_texts e.methods)) c.requires)
    ∙ sym (own_in_parts e))
    c.add_created.ensures
