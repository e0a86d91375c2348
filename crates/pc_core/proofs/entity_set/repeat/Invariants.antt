use Rattle.std.proofs.Common.{◌≡◌, replicate}
use Rattle.pc_core.proofs.entity_set.repeat.Given as goal

abbrev pub invariant-loop : goal.invariant-loop
invariant-loop l = l.masks ≡ replicate l.counter l.mask
