-- A file whose names have no fault has a core, or a fault of its members.
use Rattle.std.proofs.Common.{inl, inr}
use Rattle.pc_file_spec.specs.Laws.{CoreOrFault, NotBoth}
use Rattle.pc_core_relation.specs.Laws.{CoreStandsOrFault, StandingHasNoFault}
use Rattle.pc_core_relation.proofs.{Files.made_cores_stand, Ones.standing_cores_are_made}

pub core_or_fault : CoreOrFault → CoreStandsOrFault
core_or_fault law file names collected few = elim (law file names collected few) [ inl made ↦ inl (made.0, made_cores_stand file made.0 made.1) | inr fault ↦ inr fault ]

pub never_both : NotBoth → StandingHasNoFault
never_both law file core f stands fault = law file core f (standing_cores_are_made file core stands) fault
