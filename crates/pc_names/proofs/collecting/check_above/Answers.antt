use Rattle.pc_tree.specs.View.{file_view}
use Rattle.pc_names.proofs.Founded.{founded}
use Rattle.pc_names.proofs.collecting.check_above.Goals as goal

pub check_members-requires-clause-founded : goal.check_members-requires-clause-founded
check_members-requires-clause-founded c =
    founded (file_view c.args.file.now) c.args.above.now c.requires.closes c.requires.differ c.requires.declared c.in_ok-check_own_cycles.ensures
