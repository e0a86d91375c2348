-- The small bodies, computed.
use Rattle.std.proofs.Common.{refl}
use Rattle.pc_body_spec.specs.{Fold.push, Example.{FirstStands, SecondStands, ThirdStands}}

pub first_stands : FirstStands
unfolding push
first_stands = (refl, refl, refl, refl)

pub second_stands : SecondStands
unfolding push
second_stands = (refl, refl, refl)

pub third_stands : ThirdStands
unfolding push
third_stands = (refl, refl, refl, refl)
