use Rattle.std.proofs.Common.{◌↔◌, ℕ, [], length, get_or}
use Rattle.pc_core.specs.EntitySets.{HasRoom, Holds}
use Rattle.pc_sub.proofs.ServedBy.{ServesTo}
use Rattle.pc_sub.proofs.serving.entities_with.Given as goal

abbrev pub invariant-loop-group : goal.invariant-loop-group
invariant-loop-group l = record {
  room : HasRoom (length l.core.entities) l.set;
  has : (e : ℕ) → (Holds l.set e) ↔ (ServesTo l.core l.groups l.wanted (get_or l.groups.named l.wanted.name []) l.group-index e);
}
