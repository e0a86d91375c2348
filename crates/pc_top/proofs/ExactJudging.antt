-- When the status of `judge` and `upgrade` is 0.
use Rattle.std.proofs.Common.{◌≡◌, List, [], ◌∷◌, Option, Some, Ok, inl, refl, sym, ap, subst}
use Rattle.std.specs.Prelude.{IfSome, IsSome}
use Rattle.pc_ann.specs.declared.annotation.Ann.{Ann}
use Rattle.pc_deriv.specs.Text.{derivation_limit, deriv_text}
use Rattle.pc_deriv.specs.declared.version.Version.TheVariants as version
use Rattle.pc_base.specs.Lists.{Text}
use Rattle.pc_args.specs.Asked.{Asked, judge, upgrade, command_of}
use Rattle.pc_refusals.specs.{Source.After.goes, Derivation.in_parts, Derivation.Deriving.reads, Derivation.Judging.holds, Source.FromFile.goes_on, Verdict.{Files, Named, IsReadingOf, named, whole, Verdict, done}, Knowing.{AllKnown, NoneFailed}, Source.source_limit, Source.Length.fits}
use Rattle.pc_refusals.proofs.Lengths.{text_within}
use Rattle.pc_top.specs.{Commands.IsVerdictOf, Words.files_of, Exact.{IsDerivationOf, JudgedAreExact, ReadsBoth}, One.{TellsOf, UnfailedOf, VerdictIsOne}, Shapes.OfDerivation}
use Rattle.pc_commands.specs.Judge.{accepted_text}
use Rattle.pc_top.proofs.{Accepted.{of_source, of_told}, Deriving.{core_passes, source_says}, Shapes.derivation_derives}

-- Of two files that tell these bytes.
module _ (shown : Ann → Text) (file derivation : Named) (bytes text : Text) (tells : file.known ≡ Some bytes) (tells_text : derivation.known ≡ Some text) where
  -- done, so the text is that of a valid annotation
  pub done_says : (v : Verdict) → v.status ≡ 0 → OfDerivation shown file derivation v → IsDerivationOf bytes text
  done_says v e is =
      let d = derivation_derives shown file derivation v (inl e) is in
      let both : IfSome file.known (λ b. IfSome derivation.known (IsDerivationOf b)) =
      of_source (λ b. IfSome derivation.known (IsDerivationOf b)) file d.reading d.source d.is_reading d.passes
      (of_told (IsDerivationOf d.source.bytes) derivation.known d.bytes (d.source.core, (source_says d.passes).1, d.ann, d.is_text, d.valid) d.of_file) in
      let one : IfSome derivation.known (IsDerivationOf bytes) = subst (λ (o : Option Text). IfSome o (λ b. IfSome derivation.known (IsDerivationOf b))) tells both in
      subst (λ (o : Option Text). IfSome o (IsDerivationOf bytes)) tells_text one

  -- a valid annotation's text, so done is a verdict
  pub says_done : (d : IsDerivationOf bytes text) → OfDerivation shown file derivation (done (shown d.2))
  says_done d =
      let core = d.0 in
      let of_bytes = d.1 in
      let ann = d.2 in
      let first : IsReadingOf file source_limit (whole bytes) = (of_bytes.short, subst (λ (o : Option Text). IfSome o (λ b. bytes ≡ b)) (sym tells) refl) in
      let short = text_within text ann d.3 in
      let second : IsReadingOf derivation derivation_limit (whole text) = (short, subst (λ (o : Option Text). IfSome o (λ b. text ≡ b)) (sym tells_text) refl) in
      goes_on (whole bytes) (record { bytes = bytes; core = core }) first (core_passes file.name bytes core of_bytes)
      (goes_on (whole text) ann second (goes (fits short) (reads d.3)) (Ok tt, holds d.4, refl))

some_told : (o : Option Text) (x : Text) → o ≡ Some x → IsSome o
some_told o x e = subst IsSome (sym e) refl

module _ (one : VerdictIsOne) (files : Files) (words : List Text) (asked : Asked) (source derivation bytes text : Text) (v : Verdict) (reads_both : ReadsBoth files words asked source derivation bytes text v)
    (is_files : files_of asked ≡ source ∷ derivation ∷ []) where
  -- the one verdict is this, if this is one
  the_one : (w : Verdict) → IsVerdictOf files (Some asked) w → v ≡ w
  the_one w is =
      let unfailed : UnfailedOf files (command_of words) = subst (λ (o : Option Asked). UnfailedOf files o) (sym reads_both.asks) (subst (λ (l : List Text). NoneFailed files l) (sym is_files) reads_both.unfailed) in
      let some = some_told (files.known source) bytes reads_both.tells in
      let some_text = some_told (files.known derivation) text reads_both.tells_text in
      let known : TellsOf files.known (command_of words) = subst (λ (o : Option Asked). TellsOf files.known o) (sym reads_both.asks) (subst (λ (l : List Text). AllKnown files.known l) (sym is_files) (some, (some_text, tt))) in
      one files words v w unfailed known reads_both.verdict (subst (λ (o : Option Asked). IsVerdictOf files o w) (sym reads_both.asks) is)

  own : IsVerdictOf files (Some asked) v
  own = subst (λ (o : Option Asked). IsVerdictOf files o v) reads_both.asks reads_both.verdict

pub judged_exact : VerdictIsOne → JudgedAreExact
judged_exact one = record {
  judged = λ files words source derivation bytes text v r.
      let file = named files source in
      let parts = in_parts (named files derivation) in (
        λ e. done_says (λ ann. accepted_text) file parts bytes text r.tells r.tells_text v e (own one files words (judge source derivation) source derivation bytes text v r refl),
        λ d. ap (λ (x : Verdict). x.status) (the_one one files words (judge source derivation) source derivation bytes text v r refl (done accepted_text) (says_done (λ ann. accepted_text) file parts bytes text r.tells r.tells_text d)),
      );
  upgraded = λ files words source derivation bytes text v r.
      let file = named files source in
      let other = named files derivation in
      let shown = deriv_text version.Two in (
        λ e. done_says shown file other bytes text r.tells r.tells_text v e (own one files words (upgrade source derivation) source derivation bytes text v r refl),
        λ d. ap (λ (x : Verdict). x.status) (the_one one files words (upgrade source derivation) source derivation bytes text v r refl (done (shown d.2)) (says_done shown file other bytes text r.tells r.tells_text d)),
      );
}
