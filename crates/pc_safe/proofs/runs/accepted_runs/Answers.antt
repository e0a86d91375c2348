use Rattle.std.specs.Prelude.{List, ℕ}
use Rattle.std.proofs.Common.{sym, subst}
use Rattle.pc_core.specs.CoreData.{CoreData}
use Rattle.pc_semantics.specs.{Step.after, Safety.LacksNothing}
use Rattle.pc_safe.proofs.runs.accepted_runs.Goals as goal

pub take_steps-requires-clause-never_lacks : goal.take_steps-requires-clause-never_lacks
take_steps-requires-clause-never_lacks c =
    subst (λ (core : CoreData). (list : List ℕ) → LacksNothing core (after core list)) (sym c.in_ok-machine.ensures.core)
    (c.accepted_never_lacks.ensures c.args.core.now c.args.ann.now c.formed.ensures c.requires.valid)

pub returns-clause-never_lacks : goal.returns-clause-never_lacks
returns-clause-never_lacks c = c.accepted_never_lacks.ensures c.args.core.now c.args.ann.now c.formed.ensures c.requires.valid
