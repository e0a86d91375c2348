-- `play SRC SEED`.
use Rattle.std.specs.{Prelude.{ℕ, true, List, [], ◌∷◌, Some, IfSome}, Io.KnownBytes.Appends}
use Rattle.pc_io.specs.Sink.{Change}
use Rattle.pc_args.specs.Line.{IsSeed}
use Rattle.pc_choose.specs.Lists.{Chosen}
use Rattle.pc_core.specs.CoreData.{CoreData}
use Rattle.pc_base.specs.Lists.{Text}
use Rattle.pc_semantics.specs.Text.{run_text}
use Rattle.pc_refusals.specs.{Verdict.{Named, Verdict, named}, declared.typing.Accepted.Accepted}
use Rattle.pc_commands.specs.Play.{RanChosen}
use Rattle.pc_top.specs.{CoreOf.CoreOf, Shapes.{ByNumber, OfAccepted, UnreadNumbered}, Meaning.CommandMeaning}

-- The run of the list that the seed chooses, for an accepted source. A line on err names it by this name.
abbrev pub Played : Text → (seed : ℕ) → Accepted → Verdict → Type 0
Played name seed accepted = RanChosen name seed accepted.source.core

-- The verdict of `play` on this source and this word: the one for the seed that it denotes, or 2 if it denotes none.
abbrev pub IsPlay : Named → Text → Verdict → Type 0
IsPlay source seed = ByNumber (IsSeed seed) (λ n. OfAccepted (Played source.name n) source)

-- Out grew by the text of the run of the list that the seed chooses for the source's core.
abbrev pub WritesPlay : Change → (seed : ℕ) → Text → Type 0
WritesPlay out seed bytes = (core : CoreData) × CoreOf bytes core × (list : List ℕ) × Chosen core seed list × Appends out.before out.now (run_text core list)

-- What `play` means.
abbrev pub play_meaning : Text → Text → CommandMeaning
play_meaning source seed = record {
  verdict = λ files. IsPlay (named files source) seed;
  failed = λ files. UnreadNumbered (IsSeed seed) (named files source);
  source = Some source;
  infers = true;
  on_out = λ known out. IfSome (known source) (λ bytes. (n : ℕ) × IsSeed seed n × WritesPlay out n bytes);
  files = source ∷ [];
  has_number = (n : ℕ) × IsSeed seed n;
}
