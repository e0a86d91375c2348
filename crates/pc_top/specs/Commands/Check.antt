-- `check SRC`.
use Rattle.std.specs.{Prelude.{◌≡◌, true, [], ◌∷◌, Some, IfSome}, Io.KnownBytes.Appends}
use Rattle.pc_io.specs.Sink.{Change}
use Rattle.pc_ann.specs.declared.annotation.Ann.{Ann}
use Rattle.pc_base.specs.Lists.{Text}
use Rattle.pc_core.specs.CoreData.{CoreData}
use Rattle.pc_deriv.specs.Text.{IsText}
use Rattle.pc_valid.specs.Valid.{Valid}
use Rattle.pc_refusals.specs.{Verdict.{Named, Verdict, done, named, FailedAt}, declared.typing.Accepted.Accepted}
use Rattle.pc_top.specs.{CoreOf.CoreOf, Shapes.OfAccepted, Meaning.CommandMeaning}
use Rattle.pc_deriv.specs.declared.version.Version.TheVariants as version

-- Done, with the text in version 1 of its core's valid annotation.
abbrev pub Derived : Accepted → Verdict → Type 0
Derived accepted v = (text : Text) × (is : IsText text accepted.ann) × (is.version ≡ version.One) × (v ≡ done text)

-- The verdict of `check` on this source.
abbrev pub IsCheck : Named → Verdict → Type 0
IsCheck = OfAccepted Derived

-- Out grew by the text in version 1 of a valid annotation of the source's core.
abbrev pub WritesDerivation : Change → Text → Type 0
WritesDerivation out bytes =
    (core : CoreData) × CoreOf bytes core × (ann : Ann) × Valid core ann × (text : Text) × (is : IsText text ann) × (is.version ≡ version.One) × Appends out.before out.now text

-- What `check` means.
abbrev pub check_meaning : Text → CommandMeaning
check_meaning source = record {
  verdict = λ files. IsCheck (named files source);
  failed = λ files. FailedAt (named files source);
  source = Some source;
  infers = true;
  on_out = λ known out. IfSome (known source) (WritesDerivation out);
  files = source ∷ [];
  has_number = Unit {0};
}
