-- `places SRC`.
use Rattle.std.specs.{Prelude.{◌≡◌, false, [], ◌∷◌, None, IfSome}, Io.KnownBytes.Appends}
use Rattle.pc_io.specs.Sink.{Change}
use Rattle.pc_base.specs.Lists.{Text}
use Rattle.pc_core.specs.CoreData.{CoreData}
use Rattle.pc_places.specs.Text.{IsPlacesText}
use Rattle.pc_refusals.specs.{Source.{FromFile, SourceStage, source_limit}, Verdict.{Named, Verdict, done, named, FailedAt}, declared.source.Source.Source}
use Rattle.pc_top.specs.{CoreOf.CoreOf, Meaning.CommandMeaning}

-- Done, with the text of the places of the source's core.
abbrev pub Placed : Source → Verdict → Type 0
Placed source v = (text : Text) × IsPlacesText source.bytes source.core text × (v ≡ done text)

-- The verdict of `places` on this source, whose core need not have a derivation.
abbrev pub IsPlaces : Named → Verdict → Type 0
IsPlaces source = FromFile source source_limit (SourceStage source.name) Placed

-- Out grew by the text of the places of the source's core.
abbrev pub WritesPlaces : Change → Text → Type 0
WritesPlaces out bytes = (core : CoreData) × CoreOf bytes core × (text : Text) × IsPlacesText bytes core text × Appends out.before out.now text

-- What `places` means.
abbrev pub places_meaning : Text → CommandMeaning
places_meaning source = record {
  verdict = λ files. IsPlaces (named files source);
  failed = λ files. FailedAt (named files source);
  source = None;
  infers = false;
  on_out = λ known out. IfSome (known source) (WritesPlaces out);
  files = source ∷ [];
  has_number = Unit {0};
}
