use Rattle.pc_machine.specs.States.{configuration_of}
use Rattle.pc_machine.proofs.Planned.{changed_planned}
use Rattle.pc_machine.proofs.moves.change_only.Goals as goal

pub returns-clause-ok : goal.returns-clause-ok
returns-clause-ok c =
    changed_planned (configuration_of c.args.state.now) c.args.actor c.args.change c.change_actor.new.actors c.requires.running c.in_ok-change_actor.ensures.ok
