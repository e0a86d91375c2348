use Rattle.std.proofs.Common.{sym, arith}
use Rattle.pc_masks.specs.MaskLaws.{without_number_past}
use Rattle.pc_masks.proofs.mask.without_bit.Goals as goal

pub returns-else-number-lt64 : goal.returns-else-number-lt64
returns-else-number-lt64 c = sym (without_number_past (record { 0 = c.args.bits }) c.args.number (omega arith) (omega arith))
