-- `upgrade SRC DERIV`.
use Rattle.std.specs.{Prelude.{false, [], ◌∷◌, Some, IfSome}, Io.KnownBytes.Appends}
use Rattle.pc_io.specs.Sink.{Change}
use Rattle.pc_ann.specs.declared.annotation.Ann.{Ann}
use Rattle.pc_base.specs.Lists.{Text}
use Rattle.pc_core.specs.CoreData.{CoreData}
use Rattle.pc_deriv.specs.Text.{IsText, deriv_text}
use Rattle.pc_valid.specs.Valid.{Valid}
use Rattle.pc_refusals.specs.Verdict.{Named, Verdict, named}
use Rattle.pc_top.specs.{CoreOf.CoreOf, Shapes.{OfDerivation, UnreadDerivation}, Meaning.CommandMeaning}
use Rattle.pc_deriv.specs.declared.version.Version.TheVariants as version

-- The verdict of `upgrade` on this source and this derivation: the annotation's text in version 2, or the verdict on
-- the first fault. Whatever `judge` refuses is refused here too, with the same line. The derivation is read as a whole.
abbrev pub IsUpgrade : Named → Named → Verdict → Type 0
IsUpgrade = OfDerivation (deriv_text version.Two)

-- Out grew by the text in version 2 of the annotation that the derivation is a text of, in either version. It is valid
-- for the source's core.
abbrev pub WritesUpgraded : Change → Text → Text → Type 0
WritesUpgraded out source derivation =
    (core : CoreData) × CoreOf source core × (ann : Ann) × Valid core ann × IsText derivation ann × Appends out.before out.now (deriv_text version.Two ann)

-- What `upgrade` means.
abbrev pub upgrade_meaning : Text → Text → CommandMeaning
upgrade_meaning source derivation = record {
  verdict = λ files. IsUpgrade (named files source) (named files derivation);
  failed = λ files. UnreadDerivation (named files source) (named files derivation);
  source = Some source;
  infers = false;
  on_out = λ known out. IfSome (known source) (λ bytes. IfSome (known derivation) (WritesUpgraded out bytes));
  files = source ∷ derivation ∷ [];
  has_number = Unit {0};
}
