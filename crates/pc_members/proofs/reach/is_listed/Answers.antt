use Rattle.std.proofs.Common.{◌∙◌}
use Rattle.pc_members.proofs.Marking.{any_listed}
use Rattle.pc_members.proofs.reach.is_listed.Goals as goal

pub returns : goal.returns
returns c = c.contains.ensures.value ∙ any_listed c.args.numbers.now c.args.number
