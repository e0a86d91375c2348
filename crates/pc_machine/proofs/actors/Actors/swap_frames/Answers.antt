use Rattle.std.proofs.Common.{◌∙◌, ap, sym, refl, subst, ◌<◌, length}
use Rattle.std.specs.Prelude.{List}
use Rattle.pc_semantics.specs.declared.actors.Actor.{Actor}
use Rattle.pc_machine.specs.Changed.{framed, messages_in}
use Rattle.pc_machine.proofs.Changes.{messages_same}
use Rattle.pc_machine.proofs.actors.Actors.swap_frames.Goals as goal

pub invariant_of-self : goal.invariant_of-self
invariant_of-self c =
    let all = c.self.inside.all.items in
    let there = subst (λ (xs : List Actor). c.args.actor < length xs) (sym c.self.view_is) c.requires in
    c.self.invariant ∙ sym (messages_same all c.args.actor (framed c.args.frames) there (λ a. refl)) ∙ ap messages_in (sym c.swap_frames_of.ensures.new)
