-- `judge SRC DERIV`.
use Rattle.std.specs.{Prelude.{false, [], ◌∷◌, Some}, Io.KnownBytes.Appends}
use Rattle.pc_base.specs.Lists.{Text}
use Rattle.pc_refusals.specs.{Derivation.in_parts, Verdict.{Named, Verdict, named}}
use Rattle.pc_commands.specs.Judge.{accepted_text}
use Rattle.pc_top.specs.{Shapes.{OfDerivation, UnreadDerivation}, Meaning.CommandMeaning}

-- The verdict of `judge` on this source and this derivation, which is read in parts: `accepted`, or the verdict on the
-- first fault.
abbrev pub IsJudge : Named → Named → Verdict → Type 0
IsJudge source derivation = OfDerivation (λ ann. accepted_text) source (in_parts derivation)

-- What `judge` means.
abbrev pub judge_meaning : Text → Text → CommandMeaning
judge_meaning source derivation = record {
  verdict = λ files. IsJudge (named files source) (named files derivation);
  failed = λ files. UnreadDerivation (named files source) (named files derivation);
  source = Some source;
  infers = false;
  on_out = λ known out. Appends out.before out.now accepted_text;
  files = source ∷ derivation ∷ [];
  has_number = Unit {0};
}
