use Rattle.std.proofs.Common.{◌≡◌, ◌+◌, length}
use Rattle.pc_machine_tests.proofs.arenas.fill.Given as goal

abbrev pub invariant-loop-number : goal.invariant-loop-number
invariant-loop-number l = (l.arena.spare + l.number ≡ l.fn.arena.spare) × (length l.arena.items ≡ length l.fn.arena.items + l.number)
