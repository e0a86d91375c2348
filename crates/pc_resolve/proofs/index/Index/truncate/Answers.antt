use Rattle.std.proofs.Common.{ap, map, ◌∙◌}
use Rattle.pc_resolve.proofs.Indexes.{shown, take_shown}
use Rattle.pc_resolve.proofs.index.Index.truncate.Goals as goal

pub returns : goal.returns
returns c = rw (← c.self.view_is) (ap (map shown) c.truncate.ensures.entries ∙ take_shown c.args.len c.self.inside.values.entries)
