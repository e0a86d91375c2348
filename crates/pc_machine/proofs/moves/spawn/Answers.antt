use Rattle.std.proofs.Common.{◌≡◌, ◌∙◌, ap, sym, length}
use Rattle.std.specs.{Prelude.{[], ◌∷◌, ◌++◌}, FinMap.insert}
use Rattle.pc_heap.specs.{Objects.{ObjectMap, new_object, next_address}, declared.value.Address.Address}
use Rattle.pc_semantics.specs.{declared.actors.Actor.Actor, declared.outcome.Outcome.Outcome, declared.outcome.Outcome.TheVariants.Moved, Configurations.{Configuration, own_address}}
use Rattle.pc_machine.specs.States.{configuration_of}
use Rattle.pc_machine.proofs.{Peopling.next_own, Planned.{amended, spawned}}
use Rattle.pc_machine.proofs.moves.spawn.Goals as goal

pub returns-in-Ok-clause-ok : goal.returns-in-Ok-clause-ok
returns-in-Ok-clause-ok c =
    let now = configuration_of c.args.state.now in
    let number = c.len-number.result in
    let same = c.in_ok-reserve.ensures.objects in
    let own : next_address c.reserve.new.self.objects number ≡ own_address (length now.actors) =
    ap (λ (m : ObjectMap). next_address m number) same ∙ ap (next_address now.objects) c.len-number.ensures ∙ next_own now.objects (length now.actors) c.requires.peopled in
    let reserved : c.reserved.result ≡ next_address c.reserve.new.self.objects number = rw c.in_ok-reserve.ensures.ok at c.reserved.ensures in
    let made : c.make.result ≡ c.reserved.result = c.make.ensures.address ∙ sym reserved in
    let objects : c.make.new.self.objects ≡ insert now.objects c.reserved.result (new_object c.args.entity c.args.fields) =
    c.make.ensures.objects ∙ ap (λ (m : ObjectMap). insert m c.make.result (new_object c.args.entity c.args.fields)) same
    ∙ ap (λ (a : Address). insert now.objects a (new_object c.args.entity c.args.fields)) made in
    ap (λ (m : ObjectMap). let o : Outcome × Configuration = (Moved, amended now m c.change_actor.new.actors) in o) objects
    ∙ spawned now c.args.actor c.args.count c.args.entity c.args.fields c.args.message c.reserved.result c.add.new.self c.change_actor.new.actors c.requires.running (reserved ∙ own) (c.in_ok-add.ensures.ok ∙ ap (λ (a : Actor). now.actors ++ a ∷ []) c.in_ok-waiting_actor.ensures) c.in-Ok.ensures.ok
