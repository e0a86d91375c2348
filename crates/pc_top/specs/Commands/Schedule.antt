-- `schedule SRC SEED`.
use Rattle.std.specs.{Prelude.{ℕ, ◌≡◌, true, [], ◌∷◌, Some, IfSome}, Io.KnownBytes.Appends}
use Rattle.pc_io.specs.Sink.{Change}
use Rattle.pc_args.specs.Line.{IsSeed}
use Rattle.pc_core.specs.CoreData.{CoreData}
use Rattle.pc_base.specs.Lists.{Text}
use Rattle.pc_refusals.specs.{Verdict.{Named, Verdict, done, named}, declared.typing.Accepted.Accepted}
use Rattle.pc_commands.specs.Schedule.{IsChosenLine}
use Rattle.pc_top.specs.{CoreOf.CoreOf, Shapes.{ByNumber, OfAccepted, UnreadNumbered}, Meaning.CommandMeaning}

-- Done, with this line.
abbrev pub Scheduled : (seed : ℕ) → Accepted → Verdict → Type 0
Scheduled seed accepted v = (text : Text) × IsChosenLine seed accepted.source.core text × (v ≡ done text)

-- The verdict of `schedule` on this source and this word: the one for the seed that it denotes, or 2 if it denotes
-- none.
abbrev pub IsSchedule : Named → Text → Verdict → Type 0
IsSchedule source seed = ByNumber (IsSeed seed) (λ n. OfAccepted (Scheduled n) source)

-- Out grew by the line of the list that the seed chooses for the source's core.
abbrev pub WritesSchedule : Change → (seed : ℕ) → Text → Type 0
WritesSchedule out seed bytes = (core : CoreData) × CoreOf bytes core × (text : Text) × IsChosenLine seed core text × Appends out.before out.now text

-- What `schedule` means.
abbrev pub schedule_meaning : Text → Text → CommandMeaning
schedule_meaning source seed = record {
  verdict = λ files. IsSchedule (named files source) seed;
  failed = λ files. UnreadNumbered (IsSeed seed) (named files source);
  source = Some source;
  infers = true;
  on_out = λ known out. IfSome (known source) (λ bytes. (n : ℕ) × IsSeed seed n × WritesSchedule out n bytes);
  files = source ∷ [];
  has_number = (n : ℕ) × IsSeed seed n;
}
