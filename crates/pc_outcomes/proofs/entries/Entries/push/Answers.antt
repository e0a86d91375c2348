use Rattle.pc_outcomes.specs.contracts.entry.OutcomePartialEq.TheImpl as outcome_eq
use Rattle.pc_outcomes.specs.{Shown.play_with, Tables.shows_outcome}
use Rattle.pc_outcomes.proofs.Finding.{outcome_same, pushed}
use Rattle.pc_outcomes.proofs.entries.Entries.push.Goals as goal

pub returns : goal.returns
returns c =
    rw (← c.self.view_is)
    (pushed (λ e. shows_outcome e (play_with c.args.outcome 0)) ((outcome_eq.ghosts).eq) c.self.inside.seeds c.insert.new.self.entries c.args.outcome _ c.in_ok-insert.ensures.entries (rw (c.self.view_is) c.requires) (outcome_same c.args.outcome))
