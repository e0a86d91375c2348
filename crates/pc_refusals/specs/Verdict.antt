-- What a command answers: its verdict, what out has of it if the command did not finish, and the answer of the program.
use Rattle.std.specs.{Prelude.{ℕ, ◌≡◌, ◌<◌, ◌≤◌, List, [], length, Option, Some, IfSome, ◌⊎◌, ◌++◌, Result, Ok, Err}, Io.KnownBytes.{Appends, Keeps}}
use Rattle.pc_base.specs.Lists.{Text}
use Rattle.pc_io.specs.Sink.{Change, GrowsByPrefix, HasRisen}
use Rattle.pc_refusal_lines.specs.Lines.{unread_line}

-- ---- the files of a command, and the result of reading one

-- A file by its name: its bytes if they are known, and how often reading it had failed before and after a call.
pub record Named : Type 0 where
  pub name : Text
  pub known : Option Text
  pub before : ℕ
  pub now : ℕ
  -- the number of bytes that the call's last reading took
  pub taken : ℕ

-- the file with this name, given the meanings of the files before and after a call
abbrev pub file_at : (Text → Option Text) → (Text → ℕ) → (Text → ℕ) → ℕ → Text → Named
file_at known before now taken name =
    record { name = name; known = known name; before = before name; now = now name; taken = taken }

-- A text that is in no file, seen as a file with this name whose bytes are known and whose reading does not fail.
abbrev pub text_as : Text → Text → Named
text_as name text = record { name = name; known = Some text; before = 0; now = 0; taken = length text }

-- The result of reading up to a limit: all bytes of the file, or that there are more.
pub data Reading : Type 0 where
  whole : List ℕ → Reading
  longer : Reading

-- Reading a file with these bytes, if they are known, gives this result. If its failures rose, `longer` may be wrong.
abbrev pub IsReading : (limit : ℕ) → Option (List ℕ) → (before now taken : ℕ) → Reading → Type 0
IsReading limit known before now taken (whole bytes) = (length bytes ≤ limit) × IfSome known (λ b. bytes ≡ b)
IsReading limit known before now taken longer = (limit < taken) × (now ≡ before → IfSome known (λ b. limit < length b))

-- Reading the file up to a limit gives this.
abbrev pub IsReadingOf : Named → ℕ → Reading → Type 0
IsReadingOf f limit reading = IsReading limit f.known f.before f.now f.taken reading

-- This is the file's name, and its failures rose.
abbrev pub FailedAt : Named → Text → Type 0
FailedAt f name = (name ≡ f.name) × (f.before < f.now)

-- The known bytes of files, how often reading each name had failed before and after a call, and how many bytes the last
-- reading took.
pub record Files : Type 0 where
  pub known : Text → Option Text
  pub before : Text → ℕ
  pub now : Text → ℕ
  pub taken : ℕ

abbrev pub files_change : (Text → Option Text) → (Text → ℕ) → (Text → ℕ) → ℕ → Files
files_change known before now taken = record { known = known; before = before; now = now; taken = taken }

abbrev pub named : Files → Text → Named
named files name = file_at files.known files.before files.now files.taken name

-- ---- what a command answers if no file or sink fails and memory suffices

-- The exit status, the text on out and the line on err.
pub record Verdict : Type 0 where
  pub status : ℕ
  pub out : Text
  pub err : Text

-- Done, with this text on out.
abbrev pub done : Text → Verdict
done text = record { status = 0; out = text; err = [] }

-- Refused, with this line on err and nothing on out.
abbrev pub refused : ℕ → Text → Verdict
refused status line = record { status = status; out = []; err = line }

-- Stopped, with this text on out and this line on err.
abbrev pub stopped : ℕ → Text → Text → Verdict
stopped status text line = record { status = status; out = text; err = line }

-- The same, with this text first on out.
abbrev pub headed : Text → Verdict → Verdict
headed text v = record { status = v.status; out = text ++ v.out; err = v.err }

-- The status of a command that passed all its stages: 0, or 12 if a text ended the run.
abbrev pub IsAccepting : ℕ → Type 0
IsAccepting status = (status ≡ 0) ⊎ (status ≡ 12)

-- ---- a command's last stage

-- Done with the text of the stage's value, or the verdict of its refusal.
abbrev pub ended : {T : Type 0} → (T → Text) → Result T Verdict → Verdict
ended text (Ok x) = done (text x)
ended text (Err v) = v

-- The verdict is that of a result of the stage.
abbrev pub EndsAs : {T : Type 0} → (T → Text) → (Result T Verdict → Type 0) → Verdict → Type 0
EndsAs {T} text Stage v = (end : Result T Verdict) × Stage end × (v ≡ ended text end)

-- The same for a stage whose value is the text.
abbrev pub EndsWith : (Result Text Verdict → Type 0) → Verdict → Type 0
EndsWith Stage = EndsAs (λ text. text) Stage

-- Part of the verdict's text went to out.
abbrev pub TellsPart : (Verdict → Type 0) → Change → Type 0
TellsPart V out = (v : Verdict) × V v × GrowsByPrefix out.before out.now v.out

-- If none of the command's names failed, and neither out nor err did, the status is that of a verdict, its text is on
-- out and its line on err; or memory ran out.
abbrev pub Completes : (Verdict → Type 0) → (Text → Type 0) → Change → Change → ℕ → Type 0
Completes V Failed out err status =
    ((name : Text) → Failed name → ⊥) → (HasRisen out.faults_before out.faults_now → ⊥) → (HasRisen err.faults_before err.faults_now → ⊥)
    → (status ≡ 11) ⊎ ((v : Verdict) × V v × (status ≡ v.status) × Appends out.before out.now v.out × Appends err.before err.now v.err)

-- The answer of the program, with the cause of each case.
pub data Answer (V : Verdict → Type 0) (Failed : Text → Type 0) (out err : Change) (status : ℕ) : Type 0 where
  -- the verdict's status, its text on out, its line on err
  given : (v : Verdict) → V v → status ≡ v.status → Appends out.before out.now v.out → Appends err.before err.now v.err
      → Answer V Failed out err status
  -- 9: the faults of a name of the command rose, and the line names it
  file : (name : Text) → Failed name → status ≡ 9 → Keeps out.before out.now → Appends err.before err.now (unread_line name)
      → Answer V Failed out err status
  -- 10: out failed, after a part of the text
  out_failed : status ≡ 10 → HasRisen out.faults_before out.faults_now → TellsPart V out → Keeps err.before err.now
      → Answer V Failed out err status
  -- 10: err failed, after a part of its line
  err_failed : (v : Verdict) → V v → status ≡ 10 → HasRisen err.faults_before err.faults_now → Appends out.before out.now v.out
      → GrowsByPrefix err.before err.now v.err → Answer V Failed out err status
  -- 10: err failed, in the line that names a file
  file_err_failed : (name : Text) → Failed name → status ≡ 10 → HasRisen err.faults_before err.faults_now → Keeps out.before out.now
      → GrowsByPrefix err.before err.now (unread_line name) → Answer V Failed out err status
  -- 11: out of memory
  no_memory : status ≡ 11 → Keeps out.before out.now ⊎ TellsPart V out → Keeps err.before err.now → Answer V Failed out err status
