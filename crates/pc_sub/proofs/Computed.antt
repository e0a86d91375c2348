-- The small declarations, computed.
use Rattle.std.specs.Prelude.{refl}
use Rattle.pc_sub.specs.Example.{FaultsNamed, SubtypesShown}

pub faults_named : FaultsNamed
faults_named = (refl, refl, refl, refl, refl)

pub subtypes_shown : SubtypesShown
subtypes_shown = (refl, refl, refl, refl, refl, refl, refl)
