use Rattle.std.proofs.Common.{◌≡◌, take}
use Rattle.pc_choose.specs.Marks.{marks_of}
use Rattle.pc_choose.proofs.able.marks.Given as goal

abbrev pub invariant-actors : goal.invariant-actors
invariant-actors l = l.marks ≡ take l.actor (marks_of l.machine.configuration)
