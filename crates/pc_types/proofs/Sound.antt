-- From a valid annotation to every step of every schedule: nothing is lacking.
use Rattle.pc_semantics.specs.{Configurations.start, Step.after}
use Rattle.pc_rules.proofs.Derivations.{to_valid}
use Rattle.pc_types.specs.Laws.{AcceptedNeverLacks}
use Rattle.pc_types.proofs.{Needs.Needs, Needed.needed, Steps.{step_ok, run_ok}, AllTasks.keeps, Takes.takes, Starts.start_typed}

pub accepted_never_lacks : AcceptedNeverLacks
accepted_never_lacks core ann formed valid list i l =
    let checks = to_valid core formed ann valid in
    let needs : Needs core ann = needed core formed ann checks in
    (step_ok keeps takes core ann needs (after core list) (run_ok keeps takes core ann needs list (start core) (start_typed core ann formed checks)) i).1 l
