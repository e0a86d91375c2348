use Rattle.std.proofs.Common.{length, ◌-◌, ◌≤◌}
use Rattle.pc_deriv.specs.Text.{note_line, NoteFits, BeginsLine}
use Rattle.pc_deriv.proofs.reading.read_notes.Given as goal

abbrev pub invariant-notes : goal.invariant-notes
invariant-notes l = (length l.notes ≤ l.count) × BeginsLine (note_line l.version) NoteFits l.text l.notes l.rest

abbrev pub decreases-notes : goal.decreases-notes
decreases-notes l = l.count - length l.notes
