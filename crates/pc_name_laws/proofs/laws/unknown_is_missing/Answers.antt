use Rattle.pc_name_laws.proofs.Unknowns.{unknown_is_missing, missing_is_told}
use Rattle.pc_name_laws.proofs.laws.unknown_is_missing.Goals as goal

pub returns : goal.returns
returns c = record { only = unknown_is_missing; told = missing_is_told }
