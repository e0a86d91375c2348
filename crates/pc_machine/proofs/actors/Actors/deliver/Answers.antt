use Rattle.std.proofs.Common.{◌∙◌, ◌+◌, ap, sym, subst, ◌<◌, length}
use Rattle.std.specs.Prelude.{List}
use Rattle.pc_semantics.specs.declared.actors.Actor.{Actor}
use Rattle.pc_machine.specs.Changed.{messages_in}
use Rattle.pc_machine.proofs.Changes.{messages_more}
use Rattle.pc_machine.proofs.actors.Actors.deliver.Goals as goal

pub invariant_of-self-2 : goal.invariant_of-self-2
invariant_of-self-2 c =
    let all = c.self.inside.all.items in
    let there = subst (λ (xs : List Actor). c.args.actor < length xs) (sym c.self.view_is) c.requires.there in
    ap (λ n. n + 1) c.self.invariant ∙ sym (messages_more all c.args.actor c.args.message there) ∙ ap messages_in (sym c.in_ok-deliver_to.ensures.ok)
