use Rattle.pc_top.proofs.Rooms.Play.AsRun.{played_as_run}
use Rattle.pc_top.proofs.laws.plays_are_runs.Goals as goal

pub returns : goal.returns
returns c = played_as_run c.verdict_is_one.ensures c.cores_of_sources_are_formed.ensures c.accepted_never_lacks.ensures c.lines_fit.ensures
