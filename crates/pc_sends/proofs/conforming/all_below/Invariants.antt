use Rattle.pc_sends.specs.Tables.{MayBe}
use Rattle.pc_sends.proofs.Filtered.{Filtered}
use Rattle.pc_sends.proofs.conforming.all_below.Given as goal

abbrev pub invariant-loop-entity : goal.invariant-loop-entity
invariant-loop-entity l = Filtered (λ d. MayBe l.core d l.known) l.entity l.entities
