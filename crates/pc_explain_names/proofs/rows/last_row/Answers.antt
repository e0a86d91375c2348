use Rattle.std.proofs.Common.{ap, ◌∙◌}
use Rattle.std.specs.Option.{option_map}
use Rattle.pc_members.specs.Views.{members_view}
use Rattle.pc_explain_names.proofs.Viewed.{last_view, viewed}
use Rattle.pc_explain_names.proofs.rows.last_row.Goals as goal

pub returns-else-count-eq0 : goal.returns-else-count-eq0
returns-else-count-eq0 c =
    viewed members_view c.get.result ∙ ap (option_map members_view) c.get.ensures.found ∙ last_view members_view c.args.rows.now c.args.count c.if-count-eq0.false
