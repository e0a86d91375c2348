-- What `sends` reports is right about every run.
use Rattle.pc_noted_receivers.specs.{Laws.AcceptedHeld, Noted.noted_entities}
use Rattle.pc_semantics.specs.Step.{after}
use Rattle.pc_sends.specs.Covering.{HeldCovers}
use Rattle.pc_sends.proofs.Tabled.{table_tells}
use Rattle.pc_commands.proofs.Tables.{names_there}
use Rattle.pc_top.specs.{CoresFormed.CoresAreFormed, Laws.TablesTell}

-- What is noted is held, and so the table tells the truth of every run.
pub tables_tell : CoresAreFormed → AcceptedHeld → HeldCovers → TablesTell
tables_tell formed held covers bytes core ann table of_bytes v is =
    let fits = (formed bytes core of_bytes).0 in (
      names_there core (noted_entities ann) fits table is,
      λ list. table_tells core (noted_entities ann) table (after core list) is (covers core (noted_entities ann) fits (held core ann fits v) list),
    )
