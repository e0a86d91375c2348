use Rattle.std.proofs.Common.{◌≡◌, map, take}
use Rattle.pc_noted_receivers.specs.Parts.{noted_in}
use Rattle.pc_noted_receivers.proofs.noted.all_noted.Given as goal

abbrev pub invariant-loop-note : goal.invariant-loop-note
invariant-loop-note l = l.entities ≡ map noted_in (take l.note-index l.notes)
