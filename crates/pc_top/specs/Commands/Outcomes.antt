-- `outcomes SRC COUNT`.
use Rattle.std.specs.{Prelude.{ℕ, true, List, [], ◌∷◌, Some, IfSome}, Io.KnownBytes.Appends}
use Rattle.pc_io.specs.Sink.{Change}
use Rattle.pc_core.specs.CoreData.{CoreData}
use Rattle.pc_base.specs.Lists.{Text}
use Rattle.pc_outcomes.specs.{Tables.IsOutcomesTable, Texts.outcomes_text, declared.entry.Entry.Entry}
use Rattle.pc_refusals.specs.{Verdict.{Named, EndsWith, Verdict, named}, declared.typing.Accepted.Accepted}
use Rattle.pc_commands.specs.Outcomes.{IsCount, OutcomesTelling}
use Rattle.pc_top.specs.{CoreOf.CoreOf, Shapes.{ByNumber, OfAccepted, UnreadNumbered}, Meaning.CommandMeaning}

-- Done with this text, or refused. A line on err names the source by this name.
abbrev pub Tabled : Text → (count : ℕ) → Accepted → Verdict → Type 0
Tabled name count accepted = EndsWith (OutcomesTelling name accepted.source.core count)

-- The verdict of `outcomes` on this source and this word: the one for the count that it denotes, or 2 if it denotes
-- none.
abbrev pub IsOutcomes : Named → Text → Verdict → Type 0
IsOutcomes source count = ByNumber (IsCount count) (λ n. OfAccepted (Tabled source.name n) source)

-- Out grew by the text of the table of the seeds below a count: each different outcome of the plays of the source's
-- core.
abbrev pub WritesOutcomes : Change → (count : ℕ) → Text → Type 0
WritesOutcomes out count bytes = (core : CoreData) × CoreOf bytes core × (entries : List Entry) × IsOutcomesTable core count entries × Appends out.before out.now (outcomes_text count entries)

-- What `outcomes` means.
abbrev pub outcomes_meaning : Text → Text → CommandMeaning
outcomes_meaning source count = record {
  verdict = λ files. IsOutcomes (named files source) count;
  failed = λ files. UnreadNumbered (IsCount count) (named files source);
  source = Some source;
  infers = true;
  on_out = λ known out. IfSome (known source) (λ bytes. (n : ℕ) × IsCount count n × WritesOutcomes out n bytes);
  files = source ∷ [];
  has_number = (n : ℕ) × IsCount count n;
}
