use Rattle.std.proofs.Common.{◌∙◌, ap}
use Rattle.pc_machine.specs.{Changed.{framed, frames_of}, Plans.given}
use Rattle.pc_machine.proofs.Changes.{is_there, still_there, swapped}
use Rattle.pc_machine.proofs.moves.place_for.Goals as goal

pub swap_frames-requires : goal.swap_frames-requires
swap_frames-requires c = still_there c.args.actors.now c.swap_frames-frames.new.self c.args.actor (framed c.new.result) c.swap_frames-frames.ensures.new (is_there c.args.actors.now c.args.actor c.requires.running)

pub returns : goal.returns
returns c =
    let now = c.args.actors.now in
    swapped now c.swap_frames-frames.new.self c.swap_frames.new.self c.args.actor c.new.result c.place_top.new.frames (given c.args.count c.args.value (frames_of now c.args.actor)) c.swap_frames-frames.ensures.new c.swap_frames.ensures.new (c.place_top.ensures ∙ ap (given c.args.count c.args.value) c.swap_frames-frames.ensures.before)
