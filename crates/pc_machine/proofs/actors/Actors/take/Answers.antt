use Rattle.std.proofs.Common.{◌≡◌, ◌∙◌, ◌+◌, ap, ◌<◌, length, arith}
use Rattle.std.specs.Prelude.{List, IsSomeAnd, slice_get}
use Rattle.pc_semantics.specs.declared.actors.Actor.{Actor}
use Rattle.pc_machine.specs.Changed.{changed, unmailed, messages_in}
use Rattle.pc_machine.proofs.Changes.{messages_less, there_with}
use Rattle.pc_machine.proofs.actors.Actors.take.Goals as goal

less : (all now : List Actor) (i : _) → all ≡ now → IsSomeAnd (slice_get now i) (λ a. 0 < length a.mailbox) → messages_in all ≡ messages_in (changed all i unmailed) + 1
less all now i e h =
    let there = there_with (slice_get now i) (λ (a : Actor). 0 < length a.mailbox) h in
    messages_less all i there.0 (ap (λ (xs : List Actor). slice_get xs i) e ∙ there.1) there.2

pub overflow_sub-self : goal.overflow_sub-self
overflow_sub-self c = omega (arith, c.self.invariant, less c.self.inside.all.items c.args.self.now c.args.actor c.self.view_is c.requires)

pub invariant_of-self : goal.invariant_of-self
invariant_of-self c = omega (arith, c.self.invariant, less c.self.inside.all.items c.args.self.now c.args.actor c.self.view_is c.requires, ap messages_in c.take_from.ensures)
