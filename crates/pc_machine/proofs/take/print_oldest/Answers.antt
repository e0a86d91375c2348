use Rattle.std.proofs.Common.{◌≡◌, ◌∙◌, [], sym, subst}
use Rattle.std.specs.Prelude.{Option, IsSomeAnd}
use Rattle.pc_semantics.specs.declared.actors.Actor.{Actor}
use Rattle.pc_machine.specs.States.{configuration_of}
use Rattle.pc_machine.proofs.Stepped.{print_step}
use Rattle.pc_machine.proofs.take.print_oldest.Goals as goal

pub returns-clause-ok : goal.returns-clause-ok
returns-clause-ok c = λ core.
    let now = configuration_of c.args.state.now in
    let idle = subst (λ (o : Option Actor). IsSomeAnd o (λ b. b.frames ≡ [])) (sym c.in-Some.ensures) c.requires in
    print_step core now c.in-Some.stream.now c.in-Some-oldest.message.now c.in-Some-2.text c.take.new.self c.push.new.self
    (sym c.in-Some.ensures) idle (sym c.in-Some-oldest.ensures) (sym c.in_ok-text.ensures ∙ c.in-Some-2.is) c.take.ensures c.in_ok-push.ensures.ok
