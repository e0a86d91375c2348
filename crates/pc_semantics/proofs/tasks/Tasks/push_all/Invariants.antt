use Rattle.std.proofs.Common.{◌≡◌, ◌≤◌, ◌++◌, drop, length, map}
use Rattle.pc_semantics.specs.Pending.{single}
use Rattle.pc_semantics.proofs.tasks.Tasks.push_all.Given as goal

abbrev pub invariant-tasks : goal.invariant-tasks
invariant-tasks l = record { so_far : l.self-inside.entries ≡ map single (drop l.left l.tasks) ++ l.initial.self-inside.entries; room : l.left ≤ length l.tasks }

abbrev pub decreases-tasks : goal.decreases-tasks
decreases-tasks l = l.left
