use Rattle.std.proofs.Common.{◌∙◌, sym, subst}
use Rattle.std.specs.Prelude.{List, IsSomeAnd, slice_get}
use Rattle.pc_semantics.specs.declared.actors.Actor.{Actor}
use Rattle.pc_tasks.specs.Inside.{IsInside}
use Rattle.pc_machine.specs.Changed.{frames_of}
use Rattle.pc_machine.proofs.Stepped.{ran_messages, runs_there}
use Rattle.pc_machine.proofs.actors.Actors.run_frame.Goals as goal

pub invariant_of-self : goal.invariant_of-self
invariant_of-self c =
    let all = c.self.inside.all.items in
    let inside = subst (λ (xs : List Actor). IsSomeAnd (slice_get (frames_of xs c.args.actor) 0) (λ f. IsInside (slice_get f.tasks 0))) (sym c.self.view_is) c.requires in
    c.self.invariant
    ∙ sym (ran_messages c.args.core.now c.args.heap.now.objects c.run_in.new.heap.objects all c.run_in.new.all.items c.args.actor c.run_in.result (runs_there all c.args.actor inside) c.run_in.ensures.ok c.run_in.ensures.actors)
