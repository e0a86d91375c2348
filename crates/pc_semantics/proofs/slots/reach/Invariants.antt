use Rattle.std.proofs.Common.{◌≡◌, ◌++◌, None, replicate}
use Rattle.pc_semantics.proofs.slots.reach.Given as goal

abbrev pub invariant-room : goal.invariant-room
invariant-room l = record { same : l.held.items ++ replicate l.empty None ≡ l.initial.held.items ++ replicate l.initial.empty None }

abbrev pub decreases-room : goal.decreases-room
decreases-room l = l.empty
