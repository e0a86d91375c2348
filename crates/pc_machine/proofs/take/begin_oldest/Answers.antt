use Rattle.std.proofs.Common.{◌≡◌, ◌∙◌, [], ap, sym, subst}
use Rattle.std.specs.Prelude.{List, ◌∷◌, Option, IsSomeAnd}
use Rattle.pc_semantics.specs.{declared.frames.Frame.Frame, declared.actors.Actor.Actor}
use Rattle.pc_base.proofs.Gets.{get_below}
use Rattle.pc_machine.specs.{Changed.unmailed, States.configuration_of}
use Rattle.pc_machine.proofs.{Changes.still_there, Stepped.begin_step}
use Rattle.pc_machine.proofs.take.begin_oldest.Goals as goal

pub swap_frames-requires : goal.swap_frames-requires
swap_frames-requires c =
    let now = c.args.state.now.actors in
    still_there now c.take.new.self c.args.actor unmailed c.take.ensures (get_below now c.args.actor c.in-Some.taker.now (sym c.in-Some.ensures))

pub returns-clause-ok : goal.returns-clause-ok
returns-clause-ok c =
    let now = configuration_of c.args.state.now in
    let a = c.in-Some.taker.now in
    let idle = subst (λ (o : Option Actor). IsSomeAnd o (λ b. b.frames ≡ [])) (sym c.in-Some.ensures) c.requires.idle in
    begin_step c.args.core.now now c.args.actor a c.in-Some-oldest.message.now c.in-Some-2.frame c.take.new.self c.swap_frames.new.self c.push.new.self c.requires.other
    (sym c.in-Some.ensures) idle (sym c.in-Some-oldest.ensures) (sym c.in_ok-frame.ensures ∙ c.in-Some-2.is) c.take.ensures c.swap_frames.ensures.new (c.in_ok-push.ensures.ok ∙ ap (λ (fs : List Frame). c.in-Some-2.frame ∷ fs) c.new-frames.ensures)
