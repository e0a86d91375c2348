use Rattle.std.proofs.Common.{◌∙◌, ap}
use Rattle.pc_machine.specs.{Changed.{framed, frames_of}, Plans.frames_changed}
use Rattle.pc_machine.proofs.Changes.{is_there, still_there, swapped, swapped_back}
use Rattle.pc_machine.proofs.moves.change_actor.Goals as goal

pub swap_frames-frames-requires : goal.swap_frames-frames-requires
swap_frames-frames-requires c = is_there c.args.actors.now c.args.actor c.requires.running

pub swap_frames-requires : goal.swap_frames-requires
swap_frames-requires c = still_there c.args.actors.now c.swap_frames-frames.new.self c.args.actor (framed c.new.result) c.swap_frames-frames.ensures.new (is_there c.args.actors.now c.args.actor c.requires.running)

pub swap_frames-requires-in-Err : goal.swap_frames-requires-in-Err
swap_frames-requires-in-Err c = still_there c.args.actors.now c.swap_frames-frames.new.self c.args.actor (framed c.new.result) c.swap_frames-frames.ensures.new (is_there c.args.actors.now c.args.actor c.requires.running)

pub returns-in-Ok-clause-ok : goal.returns-in-Ok-clause-ok
returns-in-Ok-clause-ok c =
    let now = c.args.actors.now in
    let fs = c.change_frames.new.frames in
    swapped now c.swap_frames-frames.new.self c.swap_frames.new.self c.args.actor c.new.result fs (frames_changed c.args.change (frames_of now c.args.actor)) c.swap_frames-frames.ensures.new c.swap_frames.ensures.new (c.in-Ok.ensures.ok ∙ ap (frames_changed c.args.change) c.swap_frames-frames.ensures.before)

pub returns-in-Err-clause-err : goal.returns-in-Err-clause-err
returns-in-Err-clause-err c =
    let now = c.args.actors.now in
    swapped_back now c.swap_frames-frames.new.self c.swap_frames-in-Err.new.self c.args.actor c.new.result c.change_frames.new.frames c.swap_frames-frames.ensures.new c.swap_frames-in-Err.ensures.new (c.in-Err.ensures.err ∙ c.swap_frames-frames.ensures.before)
