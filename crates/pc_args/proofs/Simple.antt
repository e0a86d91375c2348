-- The command line is one of those whose matches and faults are given by their definitions.
use Rattle.std.proofs.Common.{◌≡◌, true, refl}
use Rattle.clap.specs.Words.{is_simple, is_simple_and_free}
use Rattle.pc_args.specs.Line.{rcap}

pub simple : is_simple rcap ≡ true
simple = refl

pub simple_and_free : is_simple_and_free rcap ≡ true
simple_and_free = refl
