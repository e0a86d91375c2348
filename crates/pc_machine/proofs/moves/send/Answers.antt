use Rattle.std.proofs.Common.{◌≡◌, ◌<◌, ◌≤◌, ◌∙◌, ap, sym, length, subst}
use Rattle.std.specs.Prelude.{List, IfSome, slice_get}
use Rattle.pc_semantics.specs.{declared.actors.Actor.Actor, declared.frames.Frame.Frame}
use Rattle.pc_machine.specs.{Changed.frames_of, States.configuration_of}
use Rattle.pc_machine.proofs.{Changes.frames_mailed, Planned.sent, moves.send.Goals.In_ok-deliver}
use Rattle.pc_machine.proofs.moves.send.Goals as goal

-- the frames of the actor stay
same_frames : (c : In_ok-deliver) → frames_of c.deliver.new.self c.args.actor ≡ frames_of c.args.state.now.actors c.args.actor
same_frames c = ap (λ (xs : List Actor). frames_of xs c.args.actor) c.in_ok-deliver.ensures.ok ∙ frames_mailed c.args.state.now.actors c.args.actor c.args.receiver c.args.message

pub place_for-requires-clause-running : goal.place_for-requires-clause-running
place_for-requires-clause-running c =
    subst (λ (fs : List Frame). 0 < length fs) (sym (same_frames (goal.at.place_for-requires-clause-running c).In_ok-deliver)) c.requires.running

pub place_for-requires-clause-enough : goal.place_for-requires-clause-enough
place_for-requires-clause-enough c =
    subst (λ (fs : List Frame). IfSome (slice_get fs 0) (λ f. c.args.count ≤ length f.stack)) (sym (same_frames (goal.at.place_for-requires-clause-enough c).In_ok-deliver)) c.requires.enough

pub returns-clause-ok : goal.returns-clause-ok
returns-clause-ok c =
    sent (configuration_of c.args.state.now) c.args.actor c.args.count c.args.receiver c.args.message c.deliver.new.self c.place_for.new.actors c.requires.running c.requires.there c.in_ok-deliver.ensures.ok c.place_for.ensures
