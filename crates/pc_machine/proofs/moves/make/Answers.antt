use Rattle.std.proofs.Common.{◌≡◌, ◌∙◌, ap, Option}
use Rattle.std.specs.{Prelude.List, FinMap.insert}
use Rattle.pc_heap.specs.{Objects.{ObjectMap, new_object, next_address}, declared.value.Value.Value}
use Rattle.pc_semantics.specs.{declared.frames.Frame.Frame, declared.outcome.Outcome.Outcome, declared.outcome.Outcome.TheVariants.Moved, Configurations.Configuration}
use Rattle.pc_machine.specs.States.{configuration_of}
use Rattle.pc_machine.proofs.Planned.{amended, made_object}
use Rattle.pc_machine.proofs.moves.make.Goals as goal

pub returns-clause-ok : goal.returns-clause-ok
returns-clause-ok c =
    let now = configuration_of c.args.state.now in
    let frame = c.args.frame in
    let same = c.in_ok-reserve.ensures.objects in
    let next : next_address c.reserve.new.self.objects c.args.actor ≡ next_address now.objects c.args.actor = ap (λ (m : ObjectMap). next_address m c.args.actor) same in
    let reserved : c.reserved.result ≡ next_address c.reserve.new.self.objects c.args.actor = rw c.in_ok-reserve.ensures.ok at c.reserved.ensures in
    let objects : c.make.new.self.objects ≡ insert now.objects c.make.result (new_object c.args.entity c.args.fields) =
    c.make.ensures.objects ∙ ap (λ (m : ObjectMap). insert m c.make.result (new_object c.args.entity c.args.fields)) same in
    let callee : Frame = record { method = frame.method; slots = c.put.new.self; stack = frame.stack; tasks = frame.tasks } in
    ap (λ (m : ObjectMap). let o : Outcome × Configuration = (Moved, amended now m c.change_actor.new.actors) in o) objects
    ∙ made_object now c.args.actor c.args.count c.args.entity c.args.fields frame callee c.reserved.result c.make.result c.change_actor.new.actors c.requires.running (reserved ∙ next) (c.make.ensures.address ∙ next)
    (ap (λ (ss : List (Option Value)). let f : Frame = record { method = frame.method; slots = ss; stack = frame.stack; tasks = frame.tasks } in f) c.in_ok-put.ensures.ok) c.in_ok-change_actor.ensures.ok
