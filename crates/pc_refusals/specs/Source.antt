-- The stages of a source, which come first in every command that reads one.
use Rattle.std.specs.Prelude.{◌≡◌, Result, Ok, Err, ℕ, ◌≤◌, ◌∷◌, List, length, codes, ◌⊎◌}
use Rattle.pc_refusals.specs.{Verdict.{Verdict, Reading, whole, longer, refused, FailedAt, Named, IsReadingOf}, FaultLines.{fault_status, fault_line, name_status, name_line, decl_offset, decl_text}, declared.source.Source.Source, declared.typing.Accepted.Accepted}
use Rattle.pc_token.specs.declared.kinds.Token.{Token}
use Rattle.pc_grammar.specs.FileAnswers.{IsFileAnswer, spelled, unexpected, too_deep}
use Rattle.pc_lex.specs.{Pieces.{TokenList, bytes_limit}, Faults.FirstLexFault, declared.fault.LexFault.LexFault}
use Rattle.pc_core.specs.CoreData.{CoreData}
use Rattle.pc_names.specs.{Faults.{IsNotMemory, IsNameFault}, declared.fault.NameFault.NameFault}
use Rattle.pc_core_relation.specs.{Files.IsCoreOf, MemberFaults.IsMemberFault}
use Rattle.pc_base.specs.Lists.{Text}
use Rattle.pc_refusal_lines.specs.Lines.{offset_line, longer_line}
use Rattle.pc_sched.specs.{Schedules.{schedule_limit, TurnList, FirstScheduleFault}, declared.fault.SchedFault.TheVariants.{BadWord, TooMany}, declared.turns.Turn.Turn}
use Rattle.pc_ann.specs.declared.annotation.Ann.{Ann}
use Rattle.pc_sub.specs.{FirstFault.IsFirstDeclarationFault, declared.faults.DeclFault.DeclFault}
use Rattle.pc_valid.specs.{Valid.Valid, NoRule.{NoRule, Unset}}
use Rattle.pc_tree.specs.Tree as t

-- Each gives a value for the next, or the verdict of its refusal. The first refusal ends them.
-- One stage, and then another on the value that it gave.
pub data After {T U : Type 0} (First : Result T Verdict → Type 0) (Next : T → Result U Verdict → Type 0) : Result U Verdict → Type 0 where
  stops : {v : Verdict} → First (Err v) → After First Next (Err v)
  goes : {x : T} {y : Result U Verdict} → First (Ok x) → Next x y → After First Next y

-- ---- the stages of a source

-- the greatest number of bytes of a source: as many as a text may have that is read as tokens
abbrev pub source_limit : ℕ
source_limit = bytes_limit

-- The length of a file: 8 if it has more bytes than its limit.
pub data Length (limit : ℕ) (name : Text) : Reading → Result Text Verdict → Type 0 where
  fits : {bytes : Text} → length bytes ≤ limit → Length limit name (whole bytes) (Ok bytes)
  is_longer : Length limit name longer (Err (refused 8 (longer_line name limit)))

-- Its tokens: 3 at the first fault, or 8 if there are too many.
pub data Lexing (name : Text) (bytes : Text) : Result (List Token) Verdict → Type 0 where
  lexed : {ts : List Token} → TokenList bytes ts → Lexing name bytes (Ok ts)
  faulty : (f : LexFault) → FirstLexFault bytes f → Lexing name bytes (Err (refused (fault_status f) (fault_line name bytes f)))

-- Its tree: 3 at the first token that cannot continue a file, and 8 at the first that opens a level too many.
pub data Parsing (name bytes : Text) (ts : List Token) : Result t.File Verdict → Type 0 where
  parsed : {file : t.File} → IsFileAnswer ts (spelled file) → Parsing name bytes ts (Ok file)
  astray : {x : Token} {rest : List Token} → IsFileAnswer ts (unexpected (x ∷ rest))
      → Parsing name bytes ts (Err (refused 3 (offset_line name bytes x.span.start (codes "unexpected"))))
  nested : {x : Token} {rest : List Token} → IsFileAnswer ts (too_deep (x ∷ rest))
      → Parsing name bytes ts (Err (refused 8 (offset_line name bytes x.span.start (codes "nested too deep"))))

-- Its core: 4, or 8 if a limit is passed, at the first fault of its names, or else at the first fault of its methods.
pub data Elaborating (name bytes : Text) (file : t.File) : Result CoreData Verdict → Type 0 where
  elaborated : {core : CoreData} → IsCoreOf file core → Elaborating name bytes file (Ok core)
  misnamed : (f : NameFault) → IsNotMemory f → IsNameFault file f → Elaborating name bytes file (Err (refused (name_status f) (name_line name bytes f)))
  misused : (f : NameFault) → IsNotMemory f → IsMemberFault file f → Elaborating name bytes file (Err (refused (name_status f) (name_line name bytes f)))

-- From its tokens to its core.
abbrev pub TreeStage : Text → Text → List Token → Result CoreData Verdict → Type 0
TreeStage name bytes ts = After (Parsing name bytes ts) (Elaborating name bytes)

-- From its bytes to its core.
abbrev pub CoreStage : Text → Text → Result CoreData Verdict → Type 0
CoreStage name bytes = After (Lexing name bytes) (TreeStage name bytes)

-- The same, with the bytes, in which refusals name places.
pub data TextStage (name bytes : Text) : Result Source Verdict → Type 0 where
  has_core : {core : CoreData} → CoreStage name bytes (Ok core) → TextStage name bytes (Ok (record { bytes = bytes; core = core }))
  has_none : {v : Verdict} → CoreStage name bytes (Err v) → TextStage name bytes (Err v)

-- All stages, one after another: the source with its core, or the refusal.
abbrev pub SourceStage : Text → Reading → Result Source Verdict → Type 0
SourceStage name reading = After (Length source_limit name reading) (TextStage name)

-- From the bytes of a source to its tree.
abbrev pub SyntaxStage : Text → Text → Result t.File Verdict → Type 0
SyntaxStage name bytes = After (Lexing name bytes) (Parsing name bytes)

-- Its length, its tokens and its tree. There are no further stages.
abbrev pub FileStage : Text → Reading → Result t.File Verdict → Type 0
FileStage name reading = After (Length source_limit name reading) (SyntaxStage name)

-- ---- the verdict of a command that reads a file, and then continues with the result

-- The file goes through its stages. The verdict is that of the stage that refuses it, or otherwise that of the last
-- part, on the value of the stages.
pub data FromFile {T : Type 0} (file : Named) (limit : ℕ) (Stages : Reading → Result T Verdict → Type 0) (Last : T → Verdict → Type 0) (v : Verdict) : Type 0 where
  refuses : (r : Reading) → IsReadingOf file limit r → Stages r (Err v) → FromFile file limit Stages Last v
  goes_on : (r : Reading) (x : T) → IsReadingOf file limit r → Stages r (Ok x) → Last x v → FromFile file limit Stages Last v

-- The file passes its stages, with some value.
abbrev pub FilePasses : {T : Type 0} → Named → (limit : ℕ) → (Reading → Result T Verdict → Type 0) → Type 0
FilePasses {T} file limit Stages = (r : Reading) × (x : T) × IsReadingOf file limit r × Stages r (Ok x)

-- This is the one of two files that could not be read, where one comes after the other: the first, or the second if the
-- first passes its stages.
abbrev pub FailedInTurn : {T : Type 0} → (first : Named) → (limit : ℕ) → (Reading → Result T Verdict → Type 0) → (second : Named) → Text → Type 0
FailedInTurn first limit Stages second name = FailedAt first name ⊎ (FilePasses first limit Stages × FailedAt second name)

-- Its turns: 7 at the first word that is not a turn, and 8 at the first turn too many.
pub data Scheduling (name bytes : Text) : Result (List Turn) Verdict → Type 0 where
  scheduled : {turns : List Turn} → TurnList bytes turns → Scheduling name bytes (Ok turns)
  bad_word : (at : ℕ) → FirstScheduleFault bytes (BadWord at) → Scheduling name bytes (Err (refused 7 (offset_line name bytes at (codes "bad word"))))
  too_many : (at : ℕ) → FirstScheduleFault bytes (TooMany at)
      → Scheduling name bytes (Err (refused 8 (offset_line name bytes at (codes "too many steps"))))

-- Its length, and then its turns.
abbrev pub ScheduleStage : Text → Reading → Result (List Turn) Verdict → Type 0
ScheduleStage name reading = After (Length schedule_limit name reading) (Scheduling name)

-- The core: its valid annotation; or else 1, with the place of the first declaration that fails, of the node at which
-- no rule holds, or of a constructor that leaves a field unset.
pub data Typing (name : Text) (source : Source) : Result Accepted Verdict → Type 0 where
  typed : (ann : Ann) → Valid source.core ann → Typing name source (Ok (record { source = source; ann = ann }))
  declared : (f : DeclFault) → IsFirstDeclarationFault source.core f
      → Typing name source (Err (refused 1 (offset_line name source.bytes (decl_offset source.core f) (decl_text f))))
  no_rule : (ann : Ann) (n : ℕ) (stop : NoRule source.core ann n)
      → Typing name source (Err (refused 1 (offset_line name source.bytes stop.at.span.start (codes "no rule"))))
  unset : (ann : Ann) (m : ℕ) (left : Unset source.core ann m)
      → Typing name source (Err (refused 1 (offset_line name source.bytes left.method.span.start (codes "field not set"))))

-- The stages of the source, and then the stage of its core.
abbrev pub AcceptedStage : Text → Reading → Result Accepted Verdict → Type 0
AcceptedStage name reading = After (SourceStage name reading) (Typing name)
