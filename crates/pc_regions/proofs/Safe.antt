-- From a valid annotation to every step of every schedule: no two actors race, and what waits is let alone.
use Rattle.pc_semantics.specs.{Configurations.start, Step.after}
use Rattle.pc_rules.proofs.Derivations.{to_valid}
use Rattle.pc_regions.specs.Laws.{ValidIsSafe}
use Rattle.pc_types.proofs.{Needs.Needs, Needed.needed, Steps.run_ok, AllTasks.keeps, Takes.takes, Starts.start_typed, Typed.WellTyped, Sound.accepted_never_lacks}
use Rattle.pc_regions.proofs.{Fitting.HasRegions, NoRace.{quiet, races_not}, StartFits.start_in_regions, Schedules.run_in_regions, TakesMessage.takes_regions, AllKeep.keeps_regions}

pub valid_is_safe : ValidIsSafe
valid_is_safe core ann formed valid list =
    let checks = to_valid core formed ann valid in
    let needs : Needs core ann = needed core formed ann checks in
    let first = start_typed core ann formed checks in
    let typed : WellTyped core ann (after core list) = run_ok keeps takes core ann needs list (start core) first in
    let in_them : HasRegions core ann (after core list) = run_in_regions keeps_regions takes_regions core ann needs list (start core) first (start_in_regions core ann formed) in
    record {
      no_race = races_not core ann needs (after core list) typed in_them.0 in_them.1;
      quiet = quiet core ann needs (after core list) typed in_them.0 in_them.1;
      lacks_nothing = accepted_never_lacks core ann formed valid list;
    }
