-- Commands that go through the stages of files have a verdict if their last part has one.
use Rattle.std.proofs.Common.{List, Ok, Err, inl, inr}
use Rattle.std.specs.Prelude.{IsSome, Result, codes}
use Rattle.pc_ann.specs.declared.annotation.Ann.{Ann}
use Rattle.pc_deriv.proofs.Whole.{read_whole}
use Rattle.pc_deriv.specs.{Laws.{IsRead, as_read}, Text.derivation_limit, Lines.{ended_so, fed, nothing_taken}, declared.line.Line.Line, declared.line.LineFault.LineFault}
use Rattle.pc_base.specs.Lists.{Text}
use Rattle.pc_run.specs.Spreading.{spread}
use Rattle.pc_sched.proofs.Together.{told}
use Rattle.pc_sched.specs.{Schedules.{schedule_limit, FirstScheduleFault}, declared.fault.SchedFault.SchedFault, declared.fault.SchedFault.TheVariants.{BadWord, Memory, TooMany}, declared.turns.Turn.Turn}
use Rattle.pc_refusals.specs.{Source.{AcceptedStage, Typing, ScheduleStage, Scheduling, Length, SourceStage, source_limit}, Derivation.{DerivationStage, Deriving, Judging, text_line, text_status}, Derivation.Deriving.{garbled, reads}, Verdict.{Named, Reading, EndsAs, Verdict, refused}, Source.Scheduling.{bad_word, scheduled, too_many}, declared.source.Source.Source, declared.typing.Accepted.Accepted}
use Rattle.pc_refusal_lines.specs.Lines.{offset_line}
use Rattle.pc_top.specs.{Shapes.{LastOfTurns, OfAccepted, OfDerivation, OfJudged, OfScheduled, OfTurns}, CoresFormed.CoresAreFormed}
use Rattle.pc_top.proofs.Deriving.{source_formed}
use Rattle.pc_verdicts.proofs.{Elaborated.source_ends, Judged.judging_ends, Stages.{Answers, HasEnd, ReadOn, after_ends, ends_answer, file_answers, read_file}, Typed.{checked, typing_ends}}

-- ---- a schedule

fault_ends : (name bytes : Text) (f : SchedFault) → FirstScheduleFault bytes f → HasEnd (Scheduling name bytes)
fault_ends name bytes (BadWord at) h = (Err (refused 7 (offset_line name bytes at (codes "bad word"))), bad_word at h)
fault_ends name bytes (TooMany at) h = (Err (refused 8 (offset_line name bytes at (codes "too many steps"))), too_many at h)
fault_ends name bytes Memory h = absurd h

scheduling_ends : (name bytes : Text) → HasEnd (Scheduling name bytes)
scheduling_ends name bytes = elim (told bytes) [ inl turns ↦ (Ok turns.0, scheduled turns.1) | inr first ↦ fault_ends name bytes first.0 first.1 ]

schedule_ends : (name : Text) (r : Reading) → HasEnd (Length schedule_limit name r) → HasEnd (ScheduleStage name r)
schedule_ends name r h = after_ends (Length schedule_limit name r) (Scheduling name) h (λ bytes l. scheduling_ends name bytes)

-- ---- a derivation

by_lines : (name bytes : Text) (lines : List Line) (end : Result (Unit {0}) LineFault) → IsRead bytes lines end → HasEnd (Deriving name bytes)
by_lines name bytes lines (Ok u) h = (Ok h.0, reads h.1)
by_lines name bytes lines (Err f) h = (Err (refused (text_status (as_read f)) (text_line name (as_read f))), garbled (as_read f) h)

deriving_ends : (name bytes : Text) → HasEnd (Deriving name bytes)
deriving_ends name bytes = by_lines name bytes (fed nothing_taken bytes).0 (ended_so (fed nothing_taken bytes).1) (read_whole bytes)

derivation_ends : (name : Text) (r : Reading) → HasEnd (Length derivation_limit name r) → HasEnd (DerivationStage name r)
derivation_ends name r h = after_ends (Length derivation_limit name r) (Deriving name) h (λ bytes l. deriving_ends name bytes)

-- ---- the shapes

module _ (law : CoresAreFormed) where
  accepted_ends : (name : Text) (r : Reading) → HasEnd (Length source_limit name r) → HasEnd (AcceptedStage name r)
  accepted_ends name r h = after_ends (SourceStage name r) (Typing name) (source_ends name r h) (λ s is. typing_ends name s (checked s.core (source_formed law is).0))

  pub accepted_answers : (Last : Accepted → Verdict → Type 0) (file : Named) → ReadOn source_limit file → IsSome file.known
      → ((r : Reading) (a : Accepted) → AcceptedStage file.name r (Ok a) → Answers (Last a)) → Answers (OfAccepted Last file)
  accepted_answers Last file on known last =
      let r = read_file file source_limit on known in
      file_answers file source_limit (AcceptedStage file.name) Last r.0 r.1 (accepted_ends file.name r.0 r.2) (last r.0)

  turns_answers : (Last : LastOfTurns) (schedule : Named) (a : Accepted) → ReadOn schedule_limit schedule → IsSome schedule.known
      → ((r : Reading) (turns : List Turn) → ScheduleStage schedule.name r (Ok turns) → Answers (Last schedule.name a.source.core (spread turns))) → Answers (OfTurns Last schedule a)
  turns_answers Last schedule a on known last =
      let r = read_file schedule schedule_limit on known in
      file_answers schedule schedule_limit (ScheduleStage schedule.name) (λ turns. Last schedule.name a.source.core (spread turns)) r.0 r.1 (schedule_ends schedule.name r.0 r.2) (last r.0)

  pub scheduled_answers : (Last : LastOfTurns) (source schedule : Named) → ReadOn source_limit source → IsSome source.known → ReadOn schedule_limit schedule → IsSome schedule.known
      → ((r : Reading) (a : Accepted) → AcceptedStage source.name r (Ok a) → (q : Reading) (turns : List Turn) → ScheduleStage schedule.name q (Ok turns) → Answers (Last schedule.name a.source.core (spread turns)))
      → Answers (OfScheduled Last source schedule)
  scheduled_answers Last source schedule on known also too last =
      accepted_answers (OfTurns Last schedule) source on known (λ r a h. turns_answers Last schedule a also too (last r a h))

  judged_answers : (text : Ann → Text) (source derivation : Named) (s : Source) (r : Reading) → SourceStage source.name r (Ok s) → ReadOn derivation_limit derivation → IsSome derivation.known
      → Answers (OfJudged text source derivation s)
  judged_answers text source derivation s q h on known =
      let r = read_file derivation derivation_limit on known in
      file_answers derivation derivation_limit (DerivationStage derivation.name) (λ ann. EndsAs (λ _. text ann) (Judging source.name derivation.name s ann)) r.0 r.1
      (derivation_ends derivation.name r.0 r.2)
      (λ ann is. ends_answer (λ _. text ann) (Judging source.name derivation.name s ann) (judging_ends source.name derivation.name s ann (source_formed law h).0))

  pub derivation_answers : (text : Ann → Text) (source derivation : Named) → ReadOn source_limit source → IsSome source.known → ReadOn derivation_limit derivation → IsSome derivation.known
      → Answers (OfDerivation text source derivation)
  derivation_answers text source derivation on known also too =
      let r = read_file source source_limit on known in
      file_answers source source_limit (SourceStage source.name) (OfJudged text source derivation) r.0 r.1 (source_ends source.name r.0 r.2)
      (λ s h. judged_answers text source derivation s r.0 h also too)
