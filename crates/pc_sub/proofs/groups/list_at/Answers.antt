use Rattle.std.proofs.Common.{sym, ◌∙◌}
use Rattle.pc_sub.proofs.Grouping.{list_none, list_some}
use Rattle.pc_sub.proofs.groups.list_at.Goals as goal

pub returns-in-None : goal.returns-in-None
returns-in-None c = list_none c.args.lists.now c.args.place (sym c.in-None.ensures.found)

pub returns-in-Some : goal.returns-in-Some
returns-in-Some c = c.as_slice.ensures ∙ list_some c.args.lists.now c.args.place c.in-Some.list.now (sym c.in-Some.ensures.found)
