use Rattle.std.proofs.Common.{sym, subst}
use Rattle.pc_machine.specs.States.{IsSound}
use Rattle.pc_machine.proofs.{Entitled.start_fielded, Starting.start_peopled}
use Rattle.pc_machine.proofs.machine.start.Goals as goal

pub invariant_of-result : goal.invariant_of-result
invariant_of-result c =
    let core = c.args.core.now in
    subst (IsSound core) (sym c.in_ok-state.ensures) (record { peopled = start_peopled core; fielded = start_fielded core })
