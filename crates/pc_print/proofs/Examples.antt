-- The printing of one small file, computed.
use Rattle.std.proofs.Common.{refl}
use Rattle.pc_print.specs.{Printing.{printed, escaped}, Examples.MainIsPrinted}

pub main_is_printed : MainIsPrinted
unfolding printed escaped
main_is_printed = refl
