use Rattle.std.proofs.Common.{◌≡◌, ℕ, ◌<◌, length}
use Rattle.pc_base.specs.Lists.{Each}
use Rattle.pc_core.specs.EntitySets.{Holds}
use Rattle.pc_sub.proofs.tables.all_sets.Given as goal

abbrev pub invariant-loop : goal.invariant-loop
invariant-loop l = record {
  long : length l.sets ≡ l.counter;
  all : Each (λ b set. (e : ℕ) → e < l.count → Holds set e) l.sets;
}
