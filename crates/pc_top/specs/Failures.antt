-- No verdict has the status of a failure or of running out of memory.
use Rattle.std.specs.{Prelude.{ℕ, ◌≡◌, ◌≤◌, ◌⊎◌, List}, Io.KnownBytes.{Appends, Keeps}}
use Rattle.pc_base.specs.Lists.{Text}
use Rattle.pc_io.specs.Sink.{Change, HasRisen, GrowsByPrefix}
use Rattle.pc_refusals.specs.Verdict.{Answer, TellsPart, Files, Verdict}
use Rattle.pc_top.specs.Asked.{FailedIn, IsVerdict}
use Rattle.pc_refusal_lines.specs.Lines.{unread_line}

-- A verdict's status is at most 8, or it is 12 or 15.
abbrev pub NoVerdictIsAFailure : Type 0
NoVerdictIsAFailure = (files : Files) (words : List Text) (v : Verdict) → IsVerdict files words v → (v.status ≤ 8) ⊎ (v.status ≡ 12) ⊎ (v.status ≡ 15)

-- What an answer means for the words and the files.
abbrev pub AnswersVerdict : Files → List Text → Change → Change → ℕ → Type 0
AnswersVerdict files words out err status = Answer (IsVerdict files words) (FailedIn files words) out err status

-- 9: out is unchanged, and err grew by the line of one of the command's names whose failures rose.
abbrev pub Unread : Files → List Text → Change → Change → Type 0
Unread files words out err = (name : Text) × FailedIn files words name × Keeps out.before out.now × Appends err.before err.now (unread_line name)

-- 10: out failed after a part of a verdict's text, and err is unchanged; or err failed after a part of its line.
abbrev pub OutFailed : Files → List Text → Change → Change → Type 0
OutFailed files words out err = HasRisen out.faults_before out.faults_now × TellsPart (IsVerdict files words) out × Keeps err.before err.now

abbrev pub ErrFailed : Files → List Text → Change → Change → Type 0
ErrFailed files words out err = HasRisen err.faults_before err.faults_now
    × (((v : Verdict) × IsVerdict files words v × Appends out.before out.now v.out × GrowsByPrefix err.before err.now v.err)
    ⊎ ((name : Text) × FailedIn files words name × Keeps out.before out.now × GrowsByPrefix err.before err.now (unread_line name)))

-- 11: out is unchanged or grew by a part of a verdict's text, and err is unchanged.
abbrev pub WantsMemory : Files → List Text → Change → Change → Type 0
WantsMemory files words out err = (Keeps out.before out.now ⊎ TellsPart (IsVerdict files words) out) × Keeps err.before err.now

-- What was written to out and err if the answer is the status of a failure.
pub record FailuresAreTold : Type 0 where
  pub unread : (files : Files) (words : List Text) (out err : Change) → AnswersVerdict files words out err 9 → Unread files words out err
  pub sink : (files : Files) (words : List Text) (out err : Change) → AnswersVerdict files words out err 10 → OutFailed files words out err ⊎ ErrFailed files words out err
  pub memory : (files : Files) (words : List Text) (out err : Change) → AnswersVerdict files words out err 11 → WantsMemory files words out err
