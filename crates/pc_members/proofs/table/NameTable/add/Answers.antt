use Rattle.std.proofs.Common.{rules}
use Rattle.pc_members.proofs.Views.{added}
use Rattle.pc_members.proofs.table.NameTable.add.Goals as goal

pub returns-clause-ok : goal.returns-clause-ok
returns-clause-ok c =
    rw (← c.self.view_is) (added c.self.inside.names.keys c.insert_full.new.self.keys c.in_ok-owned.owned c.args.name.now (search rules) c.in_ok-insert_full.ensures.keys)
