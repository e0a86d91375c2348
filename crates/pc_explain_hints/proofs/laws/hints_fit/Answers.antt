use Rattle.pc_explain_hints.proofs.Fitting.{hint_enters, hint_fits, hint_is_below}
use Rattle.pc_explain_hints.proofs.laws.hints_fit.Goals as goal

pub returns-clause-fits : goal.returns-clause-fits
returns-clause-fits c = hint_fits

pub returns-clause-below : goal.returns-clause-below
returns-clause-below c = hint_is_below

pub returns-clause-enters : goal.returns-clause-enters
returns-clause-enters c = hint_enters
