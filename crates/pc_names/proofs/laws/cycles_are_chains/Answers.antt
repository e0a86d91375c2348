use Rattle.pc_names.proofs.CycleFirsts.{cycle_is_first, no_cycle}
use Rattle.pc_names.proofs.laws.cycles_are_chains.Goals as goal

pub returns-clause-first : goal.returns-clause-first
returns-clause-first c = cycle_is_first

pub returns-clause-none : goal.returns-clause-none
returns-clause-none c = no_cycle
