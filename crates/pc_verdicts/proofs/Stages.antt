-- Stages that have an end, one after another.
use Rattle.std.proofs.{Common.{◌<◌, ℕ, length, Option, Some, None, Ok, Err, inl, inr, refl}, lemmas.Bool.{cases_lt, false≢true}}
use Rattle.std.specs.Prelude.{IfSome, IsSome, Result}
use Rattle.pc_base.specs.Lists.{Text}
use Rattle.pc_refusals.specs.{Source.{After, FromFile, Length}, Source.After.{stops, goes}, Source.FromFile.{refuses, goes_on}, Verdict.{Named, Reading, IsReading, IsReadingOf, longer, whole, EndsAs, Verdict, ended, refused}, Source.Length.{fits, is_longer}}
use Rattle.pc_refusal_lines.specs.Lines.{longer_line}

-- The stage ends with a value or a refusal.
abbrev pub HasEnd : {T : Type 0} → (Result T Verdict → Type 0) → Type 0
HasEnd {T} Stage = (end : Result T Verdict) × Stage end

-- The last part has a verdict.
abbrev pub Answers : (Verdict → Type 0) → Type 0
Answers V = (v : Verdict) × V v

pub after_ends : {T U : Type 0} → (First : Result T Verdict → Type 0) (Next : T → Result U Verdict → Type 0) → HasEnd First
    → ((x : T) → First (Ok x) → HasEnd (Next x)) → HasEnd (After First Next)
after_ends First Next (Ok x, h) next = let n = next x h in (n.0, goes h n.1)
after_ends First Next (Err v, h) next = (Err v, stops h)

-- a last part that is one stage
pub ends_answer : {T : Type 0} → (text : T → Text) (Stage : Result T Verdict → Type 0) → HasEnd Stage → Answers (EndsAs text Stage)
ends_answer text Stage h = (ended text h.0, (h.0, h.1, refl))

-- ---- files

-- If the file is longer than its limit, its reading took more than that.
abbrev pub ReadOn : (limit : ℕ) → Named → Type 0
ReadOn limit file = IfSome file.known (λ bytes. limit < length bytes → limit < file.taken)

reads : (limit : ℕ) (name : Text) (known : Option Text) (before now taken : ℕ) → IfSome known (λ bytes. limit < length bytes → limit < taken) → IsSome known
    → (r : Reading) × IsReading limit known before now taken r × HasEnd (Length limit name r)
reads limit name None before now taken on h = absurd (false≢true h)
reads limit name (Some b) before now taken on h = elim (cases_lt limit (length b)) [
  | inl long ↦ (longer, (on long, λ same. long), (Err (refused 8 (longer_line name limit)), is_longer))
  | inr short ↦ (whole b, (short, refl), (Ok b, fits short))
]

-- A file whose bytes are known has a reading, and its length stage ends.
pub read_file : (file : Named) (limit : ℕ) → ReadOn limit file → IsSome file.known → (r : Reading) × IsReadingOf file limit r × HasEnd (Length limit file.name r)
read_file file limit on known = reads limit file.name file.known file.before file.now file.taken on known

-- one that was read far enough
pub far_on : (limit : ℕ) (file : Named) → limit < file.taken → ReadOn limit file
far_on limit file far = by file.known
  where
    by : (known : Option Text) → IfSome known (λ bytes. limit < length bytes → limit < file.taken)
    by None = tt
    by (Some b) = λ long. far

pub file_answers : {T : Type 0} → (file : Named) (limit : ℕ) (Stages : Reading → Result T Verdict → Type 0) (Last : T → Verdict → Type 0) (r : Reading) → IsReadingOf file limit r
    → HasEnd (Stages r) → ((x : T) → Stages r (Ok x) → Answers (Last x)) → Answers (FromFile file limit Stages Last)
file_answers file limit Stages Last r g (Ok x, h) last = let l = last x h in (l.0, goes_on r x g h l.1)
file_answers file limit Stages Last r g (Err v, h) last = (v, refuses r g h)
