-- The stages of a derivation: its length, its text, and whether it is valid for a source.
use Rattle.std.specs.Prelude.{ℕ, ◌+◌, Result, Ok, Err, codes, ◌≡◌, ◌++◌, Option, Some, None, IfSome}
use Rattle.pc_ann.specs.declared.annotation.Ann.{Ann}
use Rattle.pc_deriv.specs.{Text.{derivation_limit, IsText, IsFault}, declared.fault.DerivFault.DerivFault}
use Rattle.pc_valid.specs.Valid.{Valid}
use Rattle.pc_judge.specs.{Faults.FirstAnnotationFault, declared.faults.JudgeFault.JudgeFault}
use Rattle.pc_base.specs.Lists.{Text}
use Rattle.pc_refusals.specs.{Source.{After, Length}, FaultLines.{decl_offset, decl_text}, Verdict.{Named, Reading, Verdict, refused}, declared.source.Source.Source}
use Rattle.pc_refusal_lines.specs.Lines.{bad_line, many_line, shape_line, slot_refusal_line, node_refusal_line, unset_line, offset_line}
use Rattle.pc_core.specs.CoreData.{CoreData}
use Rattle.pc_referee.specs.Asked.{Pairs}
use Rattle.pc_feed.specs.Numbered.{numbered_notes}
use Rattle.pc_deriv.specs.declared.fault.DerivFault.TheVariants as deriv
use Rattle.pc_judge.specs.declared.faults.JudgeFault.TheVariants as fault

-- A derivation is read in parts, and only the last part is counted in `taken`. If the file is longer, this part begins
-- after all bytes that a derivation may have.
abbrev pub in_parts : Named → Named
in_parts file = record file { taken = derivation_limit + file.taken }

-- The text of the derivation: 5 at the first line that does not have its form, and 8 if its first line asks for too
-- many lines. Running out of memory is not a fault of a text; its status is 11, and it has no line.
abbrev pub text_status : DerivFault → ℕ
text_status (deriv.BadLine n) = 5
text_status deriv.TooMany = 8
text_status deriv.Memory = 11

abbrev pub text_line : Text → DerivFault → Text
text_line name (deriv.BadLine n) = bad_line name n
text_line name deriv.TooMany = many_line name
text_line name deriv.Memory = codes ""

pub data Deriving (name bytes : Text) : Result Ann Verdict → Type 0 where
  reads : {ann : Ann} → IsText bytes ann → Deriving name bytes (Ok ann)
  garbled : (f : DerivFault) → IsFault bytes f → Deriving name bytes (Err (refused (text_status f) (text_line name f)))

-- The stages of the derivation: the annotation of its text.
abbrev pub DerivationStage : Text → Reading → Result Ann Verdict → Type 0
DerivationStage name reading = After (Length derivation_limit name reading) (Deriving name)

-- The annotation: 6 at its first fault. If that is in a declaration, the line names a place in the source.
abbrev pub judge_line : Text → Text → Source → JudgeFault → Text
judge_line source_name name source (fault.Decl f) = offset_line source_name source.bytes (decl_offset source.core f) (decl_text f)
judge_line source_name name source fault.Shape = shape_line name
judge_line source_name name source (fault.Slot n) = slot_refusal_line name n
judge_line source_name name source (fault.Node n) = node_refusal_line name n
judge_line source_name name source (fault.Unset m) = unset_line name m

pub data Judging (source_name name : Text) (source : Source) (ann : Ann) : Result (Unit {0}) Verdict → Type 0 where
  holds : Valid source.core ann → Judging source_name name source ann (Ok tt)
  fails : (f : JudgeFault) → FirstAnnotationFault source.core ann f
      → Judging source_name name source ann (Err (refused 6 (judge_line source_name name source f)))

-- Its list, if it is known, grew by each node with its note, in order.
abbrev pub AsksEach : Ann → Option Pairs → Option Pairs → Type 0
AsksEach ann None after = after ≡ None
AsksEach ann (Some pairs) after = after ≡ Some (pairs ++ numbered_notes 0 ann.notes)

-- A derivation of the core: it has the bytes of the file, if they are known, and each of its nodes was asked.
pub record JudgedFile (core : CoreData) (derivation : Option Text) (before after : Option Pairs) : Type 0 where
  pub text : Text
  pub of_file : IfSome derivation (λ t. text ≡ t)
  pub ann : Ann
  pub is_text : IsText text ann
  pub valid : Valid core ann
  pub asks : AsksEach ann before after
