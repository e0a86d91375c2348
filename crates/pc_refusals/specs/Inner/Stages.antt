-- The results of the parts of a command.
use Rattle.std.specs.{Prelude.{ℕ, Result, Ok, Err, MatchResult}, Io.KnownBytes.{Appends, Keeps}}
use Rattle.pc_io.specs.Sink.{HasRisen, GrowsByPrefix, Change}
use Rattle.pc_base.specs.Lists.{Text}
use Rattle.pc_refusals.specs.{Verdict.{Reading, Named, IsReadingOf, FailedAt, Verdict, refused}, declared.stop.Stop.Stop, declared.stop.Stop.TheVariants.{Refused, File, Sink, Memory}}

-- Why a part that reads one file and goes through its stages gave no value: a stage refused, the file's faults rose, or
-- memory ran out.
abbrev pub PartStops : {T : Type 0} → ℕ → (Reading → Result T Verdict → Type 0) → Named → Stop → Type 0
PartStops limit Stage file (Refused status line) = (r : Reading) × IsReadingOf file limit r × Stage r (Err (refused status line))
PartStops limit Stage file (File name) = FailedAt file name
PartStops limit Stage file Sink = ⊥
PartStops limit Stage file Memory = Unit {0}

-- The part gave this value.
abbrev pub PartGives : {T : Type 0} → ℕ → (Reading → Result T Verdict → Type 0) → Named → T → Type 0
PartGives limit Stage file x = (r : Reading) × IsReadingOf file limit r × Stage r (Ok x)

-- How a part ended.
abbrev pub PartEnds : {T : Type 0} → ℕ → (Reading → Result T Verdict → Type 0) → Named → Result T Stop → Type 0
PartEnds limit Stage file result = MatchResult result (PartGives limit Stage file) (PartStops limit Stage file)

-- How stages that read no file ended: with a value, with a refusal, or because memory ran out.
abbrev pub StageStops : {T : Type 0} → (Result T Verdict → Type 0) → Stop → Type 0
StageStops Stage (Refused status line) = Stage (Err (refused status line))
StageStops Stage (File name) = ⊥
StageStops Stage Sink = ⊥
StageStops Stage Memory = Unit {0}

abbrev pub StageEnds : {T : Type 0} → (Result T Verdict → Type 0) → Result T Stop → Type 0
StageEnds Stage result = MatchResult result (λ x. Stage (Ok x)) (StageStops Stage)

-- The same for a stage whose value is seen in another way.
abbrev pub StageEndsAs : {S T : Type 0} → (S → T) → (Result T Verdict → Type 0) → Result S Stop → Type 0
StageEndsAs view Stage result = MatchResult result (λ x. Stage (Ok (view x))) (StageStops Stage)

-- How the writing of a text ended.
abbrev pub StageWriteStops : Text → Change → Stop → Type 0
StageWriteStops text out (Refused status line) = ⊥
StageWriteStops text out (File name) = ⊥
StageWriteStops text out Sink = HasRisen out.faults_before out.faults_now × GrowsByPrefix out.before out.now text
StageWriteStops text out Memory = Keeps out.before out.now

abbrev pub StageWrote : Text → Change → Result (Unit {0}) Stop → Type 0
StageWrote text out result = MatchResult result (λ _. Appends out.before out.now text) (StageWriteStops text out)
