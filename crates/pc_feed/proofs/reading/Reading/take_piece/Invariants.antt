use Rattle.std.proofs.Common.{◌≡◌, ℕ, ◌-◌, ◌≤◌, List, Some, length}
use Rattle.pc_deriv.specs.declared.line.LineFault.{LineFault}
use Rattle.pc_feed.specs.Streams.{ReadSo}
use Rattle.pc_feed.proofs.Piecewise.{Underway}
use Rattle.pc_feed.proofs.reading.Reading.take_piece.Given as goal

abbrev pub invariant-lines : goal.invariant-lines
invariant-lines g l = (l.at ≤ length l.piece) × ((bytes : List ℕ) → ReadSo l.core bytes l.initial.self → Underway l.core bytes l.piece l.at l.initial.self l.self (g.R.Referee.asked l.initial.referee) (g.R.Referee.asked l.referee))
    × ((f : LineFault) → l.initial.self.lines.fault ≡ Some f → l.self.lines.fault ≡ Some f)

abbrev pub decreases-lines : goal.decreases-lines
decreases-lines g l = length l.piece - l.at
