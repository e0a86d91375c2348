use Rattle.std.proofs.Common.{◌≡◌, [], sym, subst}
use Rattle.std.specs.Prelude.{Option, IsSomeAnd, slice_get}
use Rattle.pc_semantics.specs.declared.actors.Actor.{Actor}
use Rattle.pc_tasks.specs.Inside.{amid}
use Rattle.pc_machine.specs.Plans.{ReachesActor}
use Rattle.pc_machine.proofs.{Allowed.reached, Stepped.none_first}
use Rattle.pc_machine.proofs.step.advance.Goals as goal

pub take-requires : goal.take-requires
take-requires c =
    subst (λ (o : Option Actor). IsSomeAnd o (λ a. a.frames ≡ [])) c.in-Some.ensures (none_first c.in-Some.found.now.frames (sym c.in_default-top.ensures))

pub make_move-requires-clause-reaches : goal.make_move-requires-clause-reaches
make_move-requires-clause-reaches c =
    let frame = c.in-Some-top.frame.now in
    subst (λ n. ReachesActor c.in_ok-plan.plan n) c.len.ensures
    (reached c.args.core.now (amid c.args.state.now.heap.objects c.args.actor c.len.result) frame (slice_get frame.tasks 0) c.in_ok-plan.plan (c.in_ok-plan.ensures.means c.args.actor))
