use Rattle.std.proofs.Common.{◌≡◌, ◌↔◌, ℕ, ◌<◌, length}
use Rattle.pc_masks.specs.Masks.{IsInMask}
use Rattle.pc_core.specs.EntitySets.{mask_at}
use Rattle.pc_core.proofs.entity_set.meet_masks.Given as goal

abbrev pub invariant-loop-place : goal.invariant-loop-place
invariant-loop-place l = record {
  long : length l.masks ≡ l.place;
  met : (i j : ℕ) → i < l.place → (IsInMask (mask_at l.masks i) j) ↔ (IsInMask (mask_at l.first i) j × IsInMask (mask_at l.second i) j);
}
