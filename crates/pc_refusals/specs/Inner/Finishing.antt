-- How writing the line of an ended command ended.
use Rattle.std.specs.{Prelude.{ℕ, ◌≡◌, ◌⊎◌, Result, MatchResult}, Io.KnownBytes.{Appends, Keeps}}
use Rattle.pc_io.specs.Sink.{Change, HasRisen, GrowsByPrefix}
use Rattle.pc_base.specs.Lists.{Text}
use Rattle.pc_refusal_lines.specs.Lines.{unread_line}
use Rattle.pc_refusals.specs.{declared.stop.Stop.Stop, declared.stop.Stop.TheVariants.{Refused, File, Sink, Memory}}

-- How the writing of a line ended.
abbrev pub LineEnds : Change → (status wanted : ℕ) → Text → Type 0
LineEnds err status wanted line =
    ((status ≡ wanted) × Appends err.before err.now line)
    ⊎ ((status ≡ 10) × HasRisen err.faults_before err.faults_now × GrowsByPrefix err.before err.now line)
    ⊎ ((status ≡ 11) × Keeps err.before err.now)

abbrev pub StopFinishes : Change → ℕ → Stop → Type 0
StopFinishes err status (Refused wanted line) = LineEnds err status wanted line
StopFinishes err status (File name) = LineEnds err status 9 (unread_line name)
StopFinishes err status Sink = (status ≡ 10) × Keeps err.before err.now
StopFinishes err status Memory = (status ≡ 11) × Keeps err.before err.now

abbrev pub Finishes : Change → ℕ → Result (Unit {0}) Stop → Type 0
Finishes err status ended =
    MatchResult ended (λ _. (status ≡ 0) × Keeps err.before err.now) (StopFinishes err status)
