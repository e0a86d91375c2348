-- `make SEED SIZE`.
use Rattle.std.specs.{Prelude.{ℕ, ◌≡◌, ◌++◌, true, [], length, None}, Io.KnownBytes.Appends}
use Rattle.pc_io.specs.Sink.{Change}
use Rattle.pc_core.specs.CoreData.{CoreData}
use Rattle.pc_args.specs.Line.{IsSeed, IsSize}
use Rattle.pc_gen.specs.Generated.{generated_text, schedule}
use Rattle.pc_run.specs.Spreading.{spread}
use Rattle.pc_semantics.specs.Text.{run_text}
use Rattle.pc_base.specs.Lists.{Text}
use Rattle.pc_refusal_lines.specs.Lines.{counts_line, usage_line}
use Rattle.pc_refusals.specs.{Verdict.{text_as, Verdict, refused}, declared.typing.Accepted.Accepted}
use Rattle.pc_commands.specs.Make.{RanMade, SpellsNone, made_name}
use Rattle.pc_top.specs.{CoreOf.CoreOf, Shapes.OfAccepted, Meaning.CommandMeaning}

-- The run of its core by its own schedule, after the line of its numbers.
abbrev pub MadeRun : (seed size : ℕ) → Accepted → Verdict → Type 0
MadeRun seed size accepted = RanMade seed size accepted.source.core

-- The generated text passes every stage of a source that is accepted, and then the program is run.
abbrev pub IsMade : (seed size : ℕ) → Verdict → Type 0
IsMade seed size = OfAccepted (MadeRun seed size) (text_as made_name (generated_text seed size))

-- The verdict of `make` on these words: the one for the seed and the size that they denote, or 2 if they do not denote
-- both.
pub data IsMake (seed size : Text) (v : Verdict) : Type 0 where
  made : (a b : ℕ) → IsSeed seed a → IsSize size b → IsMade a b v → IsMake seed size v
  no_numbers : SpellsNone seed size → v ≡ refused 2 usage_line → IsMake seed size v

-- Out grew by the line of the generated program's numbers and the text of its run.
abbrev pub WritesMade : Change → (seed size : ℕ) → Type 0
WritesMade out seed size =
    (core : CoreData) × CoreOf (generated_text seed size) core
    × Appends out.before out.now (counts_line seed size (length core.nodes) ++ run_text core (spread (schedule size)))

-- What `make` means.
abbrev pub make_meaning : Text → Text → CommandMeaning
make_meaning seed size = record {
  verdict = λ files. IsMake seed size;
  failed = λ files name. ⊥;
  source = None;
  infers = true;
  on_out = λ known out. (a b : ℕ) × IsSeed seed a × IsSize size b × WritesMade out a b;
  files = [];
  has_number = Unit {0};
}
