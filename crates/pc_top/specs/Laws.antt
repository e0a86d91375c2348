-- Laws of verdicts and of what derivations are for.
use Rattle.std.specs.Prelude.{ℕ, ◌≡◌, List, Some}
use Rattle.pc_ann.specs.declared.annotation.Ann.{Ann}
use Rattle.pc_core.specs.CoreData.{CoreData}
use Rattle.pc_noted_receivers.specs.Noted.{noted_entities}
use Rattle.pc_valid.specs.Valid.{Valid}
use Rattle.pc_sends.specs.{Tables.IsTable, declared.table.Table.Table}
use Rattle.pc_base.specs.Lists.{Text}
use Rattle.pc_args.specs.Asked.{check, judge, upgrade, command_of}
use Rattle.pc_refusals.specs.Verdict.{Files, Verdict, done}
use Rattle.pc_commands.specs.{Judge.accepted_text, Sends.{NamesAreThere, TellsEveryRun}}
use Rattle.pc_top.specs.{CoreOf.{CoreOf, IsDerivable, HasSafeCore}, Guarantees.{HasDecidedCore, HasFrozenCore, HasOwnedCore, HasProgressingCore}, IsolatedCore.HasIsolatedCore, Asked.{IsVerdict, HasNoDerivation}}

-- What the table of a source names exists, and it is right about every run, if it is made with a valid annotation of the
-- source's core.
abbrev pub TablesTell : Type 0
TablesTell =
    (bytes : Text) (core : CoreData) (ann : Ann) (table : Table) → CoreOf bytes core → Valid core ann → IsTable core (noted_entities ann) table
    → NamesAreThere core table × TellsEveryRun core table

-- A source whose core has a derivation is safe.
abbrev pub DerivableIsSafe : Type 0
DerivableIsSafe = (bytes : List ℕ) → IsDerivable bytes → HasSafeCore bytes

-- A source whose core has a derivation has a core in which what waits in messages is isolated in depth.
abbrev pub DerivableIsIsolated : Type 0
DerivableIsIsolated = (bytes : List ℕ) → IsDerivable bytes → HasIsolatedCore bytes

-- A source whose core has a derivation has a core on which a compiler may rely: what is `val` is immutable for good,
-- objects have single owners, each actor that has work can step, and arrivals decide where a schedule leads.
pub record DerivableIsReliable : Type 0 where
  pub frozen : (bytes : List ℕ) → IsDerivable bytes → HasFrozenCore bytes
  pub owned : (bytes : List ℕ) → IsDerivable bytes → HasOwnedCore bytes
  pub progresses : (bytes : List ℕ) → IsDerivable bytes → HasProgressingCore bytes
  pub decided : (bytes : List ℕ) → IsDerivable bytes → HasDecidedCore bytes

-- With status 1 the command looked for a derivation of the source, which has a core without one.
abbrev pub RefusedIsUnderivable : Type 0
RefusedIsUnderivable = (files : Files) (words : List Text) (v : Verdict) → IsVerdict files words v → v.status ≡ 1 → HasNoDerivation files.known words

-- If `check` is done with a text for a source, `judge` accepts that text for the same source, wherever it is read from.
-- Which words ask for `check` and for `judge` does not matter.
abbrev pub WrittenIsAccepted : Type 0
WrittenIsAccepted =
    (files later : Files) (words later_words : List Text) (source derivation text : Text) → command_of words ≡ Some (check source)
    → command_of later_words ≡ Some (judge source derivation) → later.known source ≡ files.known source → later.known derivation ≡ Some text
    → IsVerdict files words (done text) → IsVerdict later later_words (done accepted_text)

-- If `upgrade` is done with a text for a source, `judge` accepts it for the same source, and `upgrade` is done with the
-- same text again.
pub record UpgradedIsAccepted : Type 0 where
  pub judged : (files later : Files) (words later_words : List Text) (source derivation other text : Text) → command_of words ≡ Some (upgrade source derivation)
      → command_of later_words ≡ Some (judge source other) → later.known source ≡ files.known source → later.known other ≡ Some text
      → IsVerdict files words (done text) → IsVerdict later later_words (done accepted_text)
  pub again : (files later : Files) (words later_words : List Text) (source derivation other text : Text) → command_of words ≡ Some (upgrade source derivation)
      → command_of later_words ≡ Some (upgrade source other) → later.known source ≡ files.known source → later.known other ≡ Some text
      → IsVerdict files words (done text) → IsVerdict later later_words (done text)
