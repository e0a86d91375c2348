-- `check` has a verdict: a valid annotation has a text.
use Rattle.std.proofs.Common.{Ok, refl, subst}
use Rattle.std.specs.Prelude.{IsSome}
use Rattle.pc_ann.specs.declared.annotation.Ann.{Ann}
use Rattle.pc_check.proofs.Agreement.{none_with_fault, none_with_unset, none_without_rule}
use Rattle.pc_core.specs.{CoreData.CoreData, Formed.Formed}
use Rattle.pc_deriv.specs.Text.{deriv_text}
use Rattle.pc_deriv.specs.declared.version.Version.TheVariants as version
use Rattle.pc_base.specs.Lists.{Text}
use Rattle.pc_rules.proofs.Unique.{one_valid}
use Rattle.pc_valid.specs.Valid.{Valid}
use Rattle.pc_refusals.specs.{Source.{AcceptedStage, source_limit}, Verdict.{Named, Reading, done}, declared.typing.Accepted.Accepted}
use Rattle.pc_top.specs.{Commands.Check.{Derived, IsCheck}, CoresFormed.CoresAreFormed}
use Rattle.pc_top.proofs.Deriving.{accepted_source, small_notes, source_formed}
use Rattle.pc_verdicts.proofs.{Fitting.{NotesFit, SlotsAreSmall}, Shapes.accepted_answers, Stages.{Answers, ReadOn}, Typed.{Checked, checked, fails, is_valid, left, stopped}}

-- The valid annotation is the one that the walk makes, and its numbers are small.
valid_fits : (core : CoreData) (ann : Ann) → Formed core → Valid core ann → Checked core → SlotsAreSmall ann.slots × NotesFit ann.notes
valid_fits core ann formed v (is_valid a w small fit) = subst (λ (b : Ann). SlotsAreSmall b.slots × NotesFit b.notes) (one_valid core a ann formed w v) (small, fit)
valid_fits core ann formed v (fails f e) = absurd (none_with_fault core f formed e (ann, v))
valid_fits core ann formed v (stopped a n m h) = absurd (none_without_rule core a n formed h.0 (ann, v))
valid_fits core ann formed v (left a m h) = absurd (none_with_unset core a m formed h.0 (ann, v))

derived : CoresAreFormed → {name : Text} {r : Reading} (a : Accepted) → AcceptedStage name r (Ok a) → Answers (Derived a)
derived law a h =
    let s = accepted_source h in
    let formed = source_formed law s.0 in
    let fits = valid_fits a.source.core a.ann formed.0 s.1 (checked a.source.core formed.0) in
    let text = deriv_text version.One a.ann in (
      done text,
      (text, record { version = version.One; slots = fits.0; notes = fits.1; within = small_notes a.source.core a.ann formed.1 s.1; same = refl }, refl, refl),
    )

pub check_answers : CoresAreFormed → (source : Named) → ReadOn source_limit source → IsSome source.known → Answers (IsCheck source)
check_answers law source on known = accepted_answers law Derived source on known (λ r a h. derived law a h)
