use Rattle.std.proofs.{Common.{sym, ap, ◌∙◌, subst}, lemmas.Option.{same_Some, none-some}}
use Rattle.std.specs.Prelude.{option_map}
use Rattle.pc_resolve.specs.Meanings.{meaning_view}
use Rattle.pc_emit.specs.{Giving.GivesNodes, Closing.name_closes}
use Rattle.pc_emit.proofs.name_nodes.write_name.Goals as goal

pub returns-in-Some : goal.returns-in-Some
returns-in-Some c = λ w means.
    let is = same_Some _ _ (sym (ap (option_map meaning_view) c.in-Some.is) ∙ means) in
    subst (λ z. GivesNodes c.write_meaning.result c.write_meaning.new.nodes (name_closes c.args.setting.now.context.now c.args.setting.now.number c.args.setting.now.depth c.args.span c.args.name.now z c.args.value c.args.nodes.now)) is c.write_meaning.ensures

pub returns-in-None : goal.returns-in-None
returns-in-None c = λ w means. absurd (none-some w (sym (ap (option_map meaning_view) c.in-None.is) ∙ means))
