-- Running out of memory is the only answer that is always allowed.
use Rattle.std.specs.{Prelude.{ℕ, ◌≡◌, ◌⊎◌, List}, Io.KnownBytes.Appends}
use Rattle.pc_args.specs.Asked.{command_of}
use Rattle.pc_io.specs.Sink.{Change, HasRisen}
use Rattle.pc_base.specs.Lists.{Text}
use Rattle.pc_refusals.specs.Verdict.{Completes, Files, Verdict}
use Rattle.pc_top.specs.{Asked.{FailedIn, IsVerdict}, One.{TellsOf, UnfailedOf}}
use Rattle.pc_verdicts.specs.There.{read_through}

-- The answer has this verdict's status, text and line.
abbrev pub IsAnswerOf : Verdict → Change → Change → ℕ → Type 0
IsAnswerOf v out err status = (status ≡ v.status) × Appends out.before out.now v.out × Appends err.before err.now v.err

-- Whatever a call answers in which no file of the command and no stream failed: it is 11, or it is the verdict on the
-- words and on the bytes of the files.
abbrev pub ElevenIsFree : Type 0
ElevenIsFree =
    (files : Files) (words : List Text) (out err : Change) (status : ℕ) (v : Verdict) → UnfailedOf files (command_of words) → TellsOf files.known (command_of words)
    → (HasRisen out.faults_before out.faults_now → ⊥) → (HasRisen err.faults_before err.faults_now → ⊥) → Completes (IsVerdict files words) (FailedIn files words) out err status
    → IsVerdict (read_through files.known) words v → (status ≡ 11) ⊎ IsAnswerOf v out err status
