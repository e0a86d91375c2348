-- `sends SRC`.
use Rattle.std.specs.{Prelude.{◌≡◌, true, [], ◌∷◌, Some, IfSome}, Io.KnownBytes.Appends}
use Rattle.pc_io.specs.Sink.{Change}
use Rattle.pc_ann.specs.declared.annotation.Ann.{Ann}
use Rattle.pc_core.specs.CoreData.{CoreData}
use Rattle.pc_noted_receivers.specs.Noted.{noted_entities}
use Rattle.pc_valid.specs.Valid.{Valid}
use Rattle.pc_sends.specs.{Tables.IsTable, declared.table.Table.Table}
use Rattle.pc_base.specs.Lists.{Text}
use Rattle.pc_top.specs.{CoreOf.CoreOf, Shapes.OfAccepted, Meaning.CommandMeaning}
use Rattle.pc_refusals.specs.{Verdict.{Named, Verdict, done, named, FailedAt}, declared.typing.Accepted.Accepted}
use Rattle.pc_commands.specs.Sends.{IsSendsText, NamesAreThere, TellsEveryRun, table_text}

-- Done, with this text of its core's valid annotation.
abbrev pub Sent : Accepted → Verdict → Type 0
Sent accepted v = (text : Text) × IsSendsText accepted.source.core accepted.ann text × (v ≡ done text)

-- The verdict of `sends` on this source.
abbrev pub IsSends : Named → Verdict → Type 0
IsSends = OfAccepted Sent

-- Out grew by the lines of the table of who sends what, made with a valid annotation of the source's core. Everything
-- that it names exists, and it is right about every run.
abbrev pub WritesSends : Change → Text → Type 0
WritesSends out bytes =
    (core : CoreData) × CoreOf bytes core × (ann : Ann) × Valid core ann × (table : Table) × IsTable core (noted_entities ann) table
    × Appends out.before out.now (table_text core table) × NamesAreThere core table × TellsEveryRun core table

-- What `sends` means.
abbrev pub sends_meaning : Text → CommandMeaning
sends_meaning source = record {
  verdict = λ files. IsSends (named files source);
  failed = λ files. FailedAt (named files source);
  source = Some source;
  infers = true;
  on_out = λ known out. IfSome (known source) (WritesSends out);
  files = source ∷ [];
  has_number = Unit {0};
}
