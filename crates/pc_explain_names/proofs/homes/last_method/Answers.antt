use Rattle.std.proofs.Common.{ap, ◌∙◌}
use Rattle.std.specs.Option.{option_map}
use Rattle.pc_tree.specs.View.{method_view}
use Rattle.pc_explain_names.proofs.Viewed.{last_view, viewed}
use Rattle.pc_explain_names.proofs.homes.last_method.Goals as goal

pub returns-else-count-eq0 : goal.returns-else-count-eq0
returns-else-count-eq0 c =
    viewed method_view c.get.result ∙ ap (option_map method_view) c.get.ensures.found ∙ last_view method_view c.args.methods.now c.args.count c.if-count-eq0.false
