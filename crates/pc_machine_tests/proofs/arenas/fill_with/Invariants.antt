use Rattle.std.proofs.Common.{◌≡◌, ◌+◌, length}
use Rattle.pc_machine_tests.proofs.arenas.fill_with.Given as goal

abbrev pub invariant-loop : goal.invariant-loop
invariant-loop l = (l.arena.spare + l.counter ≡ l.fn.arena.spare) × (length l.arena.items ≡ length l.fn.arena.items + l.counter)
