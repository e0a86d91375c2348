use Rattle.std.proofs.Common.{◌≡◌, ◌<◌, ap, sym, subst}
use Rattle.std.specs.FinMap.{len}
use Rattle.pc_heap.specs.Heaps.{object_limit}
use Rattle.pc_semantics.specs.Configurations.{Configuration}
use Rattle.pc_machine.specs.{Machines.MachineData, States.configuration_of}
use Rattle.pc_machine.proofs.Kept.{machine_kept}
use Rattle.pc_machine.proofs.machine.Machine.step.Goals as goal

pub invariant_of-self : goal.invariant_of-self
invariant_of-self c =
    let before = configuration_of c.self.inside.state in
    let same : before ≡ c.args.self.now.configuration = ap (λ (m : MachineData). m.configuration) c.self.view_is in
    let few = subst (λ (d : Configuration). len d.objects < object_limit) (sym same) c.requires.objects in
    machine_kept c.self.inside.core.now before (configuration_of c.advance.new.state) c.args.actor c.advance.result c.self.invariant few c.advance.ensures.ok c.advance.ensures.err

pub advance-requires-clause-peopled : goal.advance-requires-clause-peopled
advance-requires-clause-peopled c = c.self.invariant.peopled
