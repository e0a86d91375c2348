use Rattle.std.proofs.Common.{ℕ, List, sym, subst}
use Rattle.std.specs.Prelude.{IsPermutation}
use Rattle.pc_sends.specs.Growth.{Sorts}
use Rattle.pc_sends.proofs.Sorted.{sorts}
use Rattle.pc_sends.proofs.sorting.ascending.Goals as goal

pub returns : goal.returns
returns c =
    let old = c.args.found.now in
    let new : List ℕ = c.sort_unstable.new.self.items in
    subst (Sorts old) (sym c.from_vec.ensures)
    (sorts old new c.requires (subst (λ (xs : List ℕ). IsPermutation xs new) c.in_ok-numbers.ensures c.sort_unstable.ensures.permutation) c.sort_unstable.ensures.sorted)
