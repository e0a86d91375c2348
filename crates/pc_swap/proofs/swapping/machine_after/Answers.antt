use Rattle.std.proofs.Common.{List, ℕ, sym, subst}
use Rattle.pc_core.specs.CoreData.{CoreData}
use Rattle.pc_semantics.specs.{Step.after, Safety.LacksNothing}
use Rattle.pc_swap.proofs.swapping.machine_after.Goals as goal

pub take_steps-requires-clause-never_lacks : goal.take_steps-requires-clause-never_lacks
take_steps-requires-clause-never_lacks c =
    subst (λ (core : CoreData). (list : List ℕ) → LacksNothing core (after core list)) (sym c.in_ok-machine.ensures.core)
    (λ list. (c.requires.safe list).lacks_nothing)
