-- `judge` accepts what `check` writes, and what `upgrade` writes.
use Rattle.std.proofs.Common.{◌≡◌, ◌≤◌, ℕ, length, Option, Some, Ok, inl, refl, sym, ap, subst}
use Rattle.std.specs.Prelude.{IfSome}
use Rattle.pc_ann.specs.declared.annotation.Ann.{Ann}
use Rattle.pc_deriv.specs.Text.{derivation_limit, IsText, deriv_text}
use Rattle.pc_base.specs.Lists.{Text}
use Rattle.pc_args.specs.Asked.{Asked}
use Rattle.pc_deriv.specs.declared.version.Version.TheVariants as version
use Rattle.pc_refusals.specs.{Source.{AcceptedStage, SourceStage, source_limit}, Source.After.goes, Derivation.in_parts, Derivation.Deriving.reads, Derivation.Judging.holds, Source.FromFile.goes_on, Verdict.{Files, Reading, whole, IsReadingOf, file_at, named, Verdict, done}, Source.Length.fits}
use Rattle.pc_refusals.proofs.{LastStages.passed, Lengths.text_within, Statuses.accepted_refuses}
use Rattle.pc_top.specs.{Commands.IsVerdictOf, Commands.Check.{Derived, IsCheck}, Commands.Judge.IsJudge, Commands.Upgrade.IsUpgrade, Laws.{UpgradedIsAccepted, WrittenIsAccepted}, Shapes.OfDerivation}
use Rattle.pc_commands.specs.Judge.{accepted_text}
use Rattle.pc_top.proofs.{Accepted.source_whole, Deriving.{source_says, accepted_source}, Shapes.{Derives, derivation_derives}}

told_same : (limit : ℕ) (given other : Option Text) (bytes : Text) → other ≡ given → (length bytes ≤ limit) × IfSome given (λ b. bytes ≡ b) → (length bytes ≤ limit) × IfSome other (λ b. bytes ≡ b)
told_same limit given other bytes e g = (g.0, subst (λ (o : Option Text). IfSome o (λ b. bytes ≡ b)) (sym e) g.1)

out_same : (text other : Text) → done text ≡ done other → text ≡ other
out_same text other e = ap (λ (w : Verdict). w.out) e

source_accepted : (files later : Files) (source derivation text : Text) → later.known source ≡ files.known source → later.known derivation ≡ Some text
    → IsCheck (named files source) (done text) → IsJudge (named later source) (named later derivation) (done accepted_text)
source_accepted files later source derivation text same given is =
    let p = passed (named files source) source_limit (AcceptedStage source) Derived (done text) (λ r h. accepted_refuses h (inl refl)) is in
    let s = accepted_source p.3 in
    let read = source_whole (named files source) p.0 p.1.source p.2 s.0 in
    let again : IsReadingOf (named later source) source_limit (whole p.1.source.bytes) = told_same source_limit (files.known source) (later.known source) p.1.source.bytes same read in
    let passes : SourceStage source (whole p.1.source.bytes) (Ok p.1.source) = subst (λ (q : Reading). SourceStage source q (Ok p.1.source)) (source_says s.0).0 s.0 in
    let is_text = subst (λ (t : Text). IsText t p.1.ann) (sym (out_same text p.4.0 p.4.3)) p.4.1 in
    let short = text_within text p.1.ann is_text in
    goes_on (whole p.1.source.bytes) p.1.source again passes
    (goes_on (whole text) p.1.ann (told_same derivation_limit (Some text) (later.known derivation) text given (short, refl)) (goes (fits short) (reads is_text))
    (Ok tt, holds s.1, refl))

pub written_accepted : WrittenIsAccepted
written_accepted files later words later_words source derivation text checks judges same given c =
    let done_by : IsCheck (named files source) (done text) = subst (λ (o : Option Asked). IsVerdictOf files o (done text)) checks c in
    subst (λ (o : Option Asked). IsVerdictOf later o (done accepted_text)) (sym judges)
    (source_accepted files later source derivation text same given done_by)

-- ---- what `upgrade` writes

module _ (files later : Files) (source derivation other text : Text) (same : later.known source ≡ files.known source) (given : later.known other ≡ Some text)
    (is : IsUpgrade (named files source) (named files derivation) (done text)) where
  found : Derives (deriv_text version.Two) (named files source) (named files derivation) (done text)
  found = derivation_derives (deriv_text version.Two) (named files source) (named files derivation) (done text) (inl refl) is

  same_text : text ≡ deriv_text version.Two found.ann
  same_text = out_same text (deriv_text version.Two found.ann) found.done_with

  in_two : IsText text found.ann
  in_two = record { version = version.Two; slots = found.is_text.slots; notes = found.is_text.notes; within = found.is_text.within; same = same_text }

  -- it is read again with the same source, whatever is written of it
  read_again : (shown : Ann → Text) (taken : ℕ) → OfDerivation shown (named later source) (file_at later.known later.before later.now taken other) (done (shown found.ann))
  read_again shown taken =
      let s = found.source in
      let read = source_whole (named files source) found.reading s found.is_reading found.passes in
      let again : IsReadingOf (named later source) source_limit (whole s.bytes) = told_same source_limit (files.known source) (later.known source) s.bytes same read in
      let passes : SourceStage source (whole s.bytes) (Ok s) = subst (λ (q : Reading). SourceStage source q (Ok s)) (source_says found.passes).0 found.passes in
      let short = text_within text found.ann in_two in
      goes_on (whole s.bytes) s again passes
      (goes_on (whole text) found.ann (told_same derivation_limit (Some text) (later.known other) text given (short, refl)) (goes (fits short) (reads in_two))
      (Ok tt, holds found.valid, refl))

pub upgraded_accepted : UpgradedIsAccepted
upgraded_accepted = record {
  judged = λ files later words later_words source derivation other text asks judges same given c.
      let is : IsUpgrade (named files source) (named files derivation) (done text) = subst (λ (o : Option Asked). IsVerdictOf files o (done text)) asks c in
      subst (λ (o : Option Asked). IsVerdictOf later o (done accepted_text)) (sym judges)
      (read_again files later source derivation other text same given is (λ ann. accepted_text) (in_parts (named later other)).taken);
  again = λ files later words later_words source derivation other text asks upgrades same given c.
      let is : IsUpgrade (named files source) (named files derivation) (done text) = subst (λ (o : Option Asked). IsVerdictOf files o (done text)) asks c in
      subst (λ (o : Option Asked). IsVerdictOf later o (done text)) (sym upgrades)
      (subst (λ (t : Text). IsUpgrade (named later source) (named later other) (done t)) (sym (same_text files later source derivation other text same given is))
      (read_again files later source derivation other text same given is (deriv_text version.Two) later.taken));
}
