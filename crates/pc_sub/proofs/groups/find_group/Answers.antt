use Rattle.std.proofs.lemmas.Option.{slice_get-get_or}
use Rattle.pc_sub.proofs.groups.find_group.Goals as goal

pub returns-then-is_group_of : goal.returns-then-is_group_of
returns-then-is_group_of c = ((c.loop-group.group-index, slice_get-get_or c.args.among.now c.loop-group.group-index 0 c.loop-group-test.true), c.is_group_of.ensures.0 c.if-is_group_of.true)
