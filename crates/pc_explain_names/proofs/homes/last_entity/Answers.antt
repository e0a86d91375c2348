use Rattle.std.proofs.Common.{ap, ◌∙◌}
use Rattle.std.specs.Option.{option_map}
use Rattle.pc_tree.specs.View.{entity_view}
use Rattle.pc_explain_names.proofs.Viewed.{last_view, viewed}
use Rattle.pc_explain_names.proofs.homes.last_entity.Goals as goal

pub returns-else-count-eq0 : goal.returns-else-count-eq0
returns-else-count-eq0 c =
    viewed entity_view c.get.result ∙ ap (option_map entity_view) c.get.ensures.found ∙ last_view entity_view c.args.entities.now c.args.count c.if-count-eq0.false
