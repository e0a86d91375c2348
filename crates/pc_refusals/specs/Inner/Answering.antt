-- How a command ended: with its text, or with what happened to out.
use Rattle.std.specs.{Prelude.{ℕ, ◌≡◌, ◌⊎◌, [], Result, Err, MatchResult}, Io.KnownBytes.{Appends, Keeps}}
use Rattle.pc_io.specs.Sink.{Change, HasRisen}
use Rattle.pc_base.specs.Lists.{Text}
use Rattle.pc_refusals.specs.{Verdict.{TellsPart, Verdict, done, refused}, Inner.Stages.StageWrote, declared.stop.Stop.Stop, declared.stop.Stop.TheVariants.{Refused, File, Sink, Memory}}

-- ---- a command that returns a text

-- Why it returned none: the verdict is a refusal, the faults of a name rose, or memory ran out.
abbrev pub AnswerStops : (Verdict → Type 0) → (Text → Type 0) → Stop → Type 0
AnswerStops V Failed (Refused status line) = V (refused status line)
AnswerStops V Failed (File name) = Failed name
AnswerStops V Failed Sink = ⊥
AnswerStops V Failed Memory = Unit {0}

-- The verdict is done, with this text, or the command stopped.
abbrev pub AnswersText : (Verdict → Type 0) → (Text → Type 0) → Result Text Stop → Type 0
AnswersText V Failed answer = MatchResult answer (λ text. V (done text)) (AnswerStops V Failed)

-- ---- a command that writes

-- The verdict's text went to out, and these are its status and line.
abbrev pub WritesVerdict : (Verdict → Type 0) → Change → ℕ → Text → Type 0
WritesVerdict V out status line = (v : Verdict) × V v × (v.status ≡ status) × (v.err ≡ line) × Appends out.before out.now v.out

abbrev pub CommandStops : (Verdict → Type 0) → (Text → Type 0) → Change → Stop → Type 0
CommandStops V Failed out (Refused status line) = WritesVerdict V out status line
CommandStops V Failed out (File name) = Failed name × Keeps out.before out.now
CommandStops V Failed out Sink = HasRisen out.faults_before out.faults_now × TellsPart V out
CommandStops V Failed out Memory = Keeps out.before out.now ⊎ TellsPart V out

abbrev pub EndsCommand : (Verdict → Type 0) → (Text → Type 0) → Change → Result (Unit {0}) Stop → Type 0
EndsCommand V Failed out result = MatchResult result (λ _. WritesVerdict V out 0 []) (CommandStops V Failed out)

-- ---- from the one to the other

-- The answer's text was written; or there is none, and then the result is the answer's stop, and out is unchanged.
abbrev pub Puts : Result Text Stop → Change → Result (Unit {0}) Stop → Type 0
Puts answer out result =
    MatchResult answer (λ text. StageWrote text out result) (λ s. (result ≡ Err s) × (out.now ≡ out.before))
