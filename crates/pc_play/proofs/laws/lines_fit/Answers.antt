use Rattle.pc_play.proofs.Fitting.{lines_fit}
use Rattle.pc_play.proofs.laws.lines_fit.Goals as goal

pub returns : goal.returns
returns c = lines_fit
