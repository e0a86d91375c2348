use Rattle.std.proofs.Common.{sym, map}
use Rattle.pc_tree.specs.View.{entity_view}
use Rattle.pc_body_walks.proofs.Gathered.{entities_are}
use Rattle.pc_body_walks.proofs.dot_texts.add_texts.Goals as goal

pub returns : goal.returns
returns c = rw (sym (entities_are c.args.table.now (map entity_view c.args.entities.now))) c.members_of_all.ensures
