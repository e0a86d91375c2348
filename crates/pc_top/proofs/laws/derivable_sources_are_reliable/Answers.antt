use Rattle.pc_top.proofs.Verdicts.{derivable_reliable}
use Rattle.pc_top.proofs.laws.derivable_sources_are_reliable.Goals as goal

pub returns : goal.returns
returns c =
    derivable_reliable c.cores_of_sources_are_formed.ensures c.valid_is_safe.ensures c.valid_keeps_val.ensures c.valid_reads_val.ensures c.valid_is_owned.ensures c.safe_progresses.ensures c.arrivals_decide.ensures
