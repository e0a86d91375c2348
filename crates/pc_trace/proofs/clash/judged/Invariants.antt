use Rattle.pc_trace.specs.{Clashes.KnownUpTo, Covers.Covers}
use Rattle.pc_trace.proofs.clash.judged.Given as goal

abbrev pub invariant-loop-at : goal.invariant-loop-at
invariant-loop-at l = record { known : KnownUpTo l.touches l.at; covers : Covers l.touches l.at l.lasts }
