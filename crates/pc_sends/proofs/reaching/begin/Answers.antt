use Rattle.std.proofs.Common.{ℕ, List, subst}
use Rattle.pc_sends.specs.Growth.{Grown}
use Rattle.pc_sends.proofs.Closing.{IsFirst, begun}
use Rattle.pc_sends.proofs.reaching.begin.Goals as goal

pub returns-clause-found : goal.returns-clause-found
returns-clause-found c =
    begun c.args.noted.now.core.now c.args.noted.now.entities.now c.find_first.new.found
    (subst (λ (xs : List ℕ). Grown (IsFirst c.args.noted.now.core.now) xs c.find_first.new.found) c.new-walk.ensures.found c.in_ok-find_first.ensures)
