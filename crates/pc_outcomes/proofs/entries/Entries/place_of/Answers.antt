use Rattle.pc_outcomes.specs.contracts.entry.OutcomePartialEq.TheImpl as outcome_eq
use Rattle.pc_outcomes.specs.{Shown.play_with, Tables.shows_outcome}
use Rattle.pc_outcomes.proofs.Finding.{found_same, outcome_same}
use Rattle.pc_outcomes.proofs.entries.Entries.place_of.Goals as goal

pub returns : goal.returns
returns c = rw (← c.self.view_is) (found_same (λ e. shows_outcome e (play_with c.args.outcome.now 0)) ((outcome_eq.ghosts).eq c.args.outcome.now) c.self.inside.seeds.entries c.get_index_of.result c.get_index_of.ensures.index (outcome_same c.args.outcome.now))
