-- How the writing of a text ended.
use Rattle.std.specs.{Prelude.{List, ℕ, Result, MatchResult}, Io.KnownBytes.Appends}
use Rattle.pc_io.specs.Sink.{Change, HasRisen, GrowsByPrefix}
use Rattle.pc_run.specs.{declared.report.RunFault.RunFault, declared.report.RunFault.TheVariants.{Sink, TooLong, Memory}}

-- The writing of a text stopped: the sink failed, or memory ran out. A prefix of the text was written.
abbrev pub WriteStops : List ℕ → Change → RunFault → Type 0
WriteStops text out Sink = HasRisen out.faults_before out.faults_now × GrowsByPrefix out.before out.now text
WriteStops text out (TooLong n) = ⊥
WriteStops text out Memory = GrowsByPrefix out.before out.now text

-- How the writing of a text ended.
abbrev pub Wrote : List ℕ → Change → Result (Unit {0}) RunFault → Type 0
Wrote text out result = MatchResult result (λ _. Appends out.before out.now text) (WriteStops text out)
