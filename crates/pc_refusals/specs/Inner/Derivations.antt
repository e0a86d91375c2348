-- How the judging of a derivation's file ended.
use Rattle.std.specs.Prelude.{◌≡◌, ◌⊎◌, Option, Result, Ok, Err}
use Rattle.pc_ann.specs.declared.annotation.Ann.{Ann}
use Rattle.pc_core.specs.CoreData.{CoreData}
use Rattle.pc_deriv.specs.Text.{derivation_limit}
use Rattle.pc_referee.specs.Asked.{Pairs}
use Rattle.pc_base.specs.Lists.{Text}
use Rattle.pc_refusals.specs.{Derivation.{DerivationStage, Judging, JudgedFile}, Inner.Stages.{PartGives, PartStops, StageStops}, Verdict.Named, declared.source.Source.Source, declared.stop.Stop.Stop, declared.stop.Stop.TheVariants.{Refused, File, Sink, Memory}}

-- Its stages gave a valid annotation, or they refused it, or the annotation is refused.
abbrev pub DerivationJudged : Text → Source → Named → Result (Unit {0}) Stop → Type 0
DerivationJudged source_name source file (Ok _) =
    (ann : Ann) × PartGives derivation_limit (DerivationStage file.name) file ann × Judging source_name file.name source ann (Ok tt)
DerivationJudged source_name source file (Err s) =
    PartStops derivation_limit (DerivationStage file.name) file s
    ⊎ ((ann : Ann) × PartGives derivation_limit (DerivationStage file.name) file ann × StageStops (Judging source_name file.name source ann) s)

-- No command that ends so is done.
abbrev pub NotDone : Stop → Type 0
NotDone (Refused status line) = status ≡ 0 → ⊥
NotDone (File name) = Unit {0}
NotDone Sink = Unit {0}
NotDone Memory = Unit {0}

-- What the referee was asked if the derivation is accepted.
abbrev pub FileAsks : CoreData → Option Text → Option Pairs → Option Pairs → Result (Unit {0}) Stop → Type 0
FileAsks core derivation before after (Ok _) = JudgedFile core derivation before after
FileAsks core derivation before after (Err s) = NotDone s
