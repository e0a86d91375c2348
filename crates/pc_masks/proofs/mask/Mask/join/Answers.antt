use Rattle.pc_masks.specs.MaskLaws.{join_bits}
use Rattle.pc_masks.proofs.mask.Mask.join.Goals as goal

pub returns-clause-bits : goal.returns-clause-bits
returns-clause-bits c = join_bits c.args.self c.args.other
