-- The results of feeding a piece, and of the end.
use Rattle.std.specs.Prelude.{◌≡◌, ℕ, List, ◌++◌, Option, Some, None, Result, Ok, Err}
use Rattle.pc_core.specs.CoreData.{CoreData}
use Rattle.pc_ann.specs.declared.annotation.Ann.{Ann}
use Rattle.pc_valid.specs.Valid.{Valid}
use Rattle.pc_deriv.specs.{Text.{IsText, IsFault}, Laws.as_read}
use Rattle.pc_judge.specs.Faults.{FirstAnnotationFault}
use Rattle.pc_referee.specs.Asked.{Pairs}
use Rattle.pc_feed.specs.{declared.fault.StreamFault.StreamFault, Lines.{lines_in, fault_in}, Asked.{Grew, GrewPart}, Streams.{StreamData, IsFed, IsSpent}}
use Rattle.pc_feed.specs.declared.fault.StreamFault.TheVariants as fault

abbrev pub FeedAnswer : Type 0
FeedAnswer = Result (Unit {0}) StreamFault

-- A piece after these bytes. A fault of the annotation is reported at the end, a fault of a line at once.
abbrev pub Feeds : CoreData → (bytes piece : List ℕ) → StreamData → Option Pairs → Option Pairs → FeedAnswer → Type 0
Feeds core bytes piece new before after (Ok _) =
    IsFed core (bytes ++ piece) new × (fault_in (bytes ++ piece) ≡ None) × Grew core (lines_in bytes) (lines_in (bytes ++ piece)) before after
Feeds core bytes piece new before after (Err (fault.Text f)) =
    IsFed core (bytes ++ piece) new × (fault_in (bytes ++ piece) ≡ Some f) × Grew core (lines_in bytes) (lines_in (bytes ++ piece)) before after
Feeds core bytes piece new before after (Err (fault.Invalid f)) = ⊥
Feeds core bytes piece new before after (Err fault.Memory) = IsSpent new × GrewPart core (lines_in bytes) (lines_in (bytes ++ piece)) before after

-- The end, if these bytes were fed: they are the text of a valid annotation, or they have this fault, or they are the
-- text of an annotation with this fault.
abbrev pub EndsSo : CoreData → List ℕ → FeedAnswer → Type 0
EndsSo core bytes (Ok _) = (ann : Ann) × IsText bytes ann × Valid core ann
EndsSo core bytes (Err (fault.Text f)) = IsFault bytes (as_read f)
EndsSo core bytes (Err (fault.Invalid f)) = (ann : Ann) × IsText bytes ann × FirstAnnotationFault core ann f
EndsSo core bytes (Err fault.Memory) = ⊥
