use Rattle.std.proofs.Common.{◌≡◌, ◌⊎◌, ◌↔◌, ℕ, length}
use Rattle.pc_core.specs.EntitySets.{Holds}
use Rattle.pc_sub.proofs.Looked.{HasTo}
use Rattle.pc_sub.proofs.serving.add_all.Given as goal

abbrev pub invariant-loop-entity : goal.invariant-loop-entity
invariant-loop-entity l = record {
  room : length l.set ≡ length l.fn.set;
  has : (e : ℕ) → (Holds l.set e) ↔ (HasTo l.entities l.entity-index e ⊎ Holds l.fn.set e);
}
