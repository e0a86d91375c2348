use Rattle.std.proofs.Common.{◌∙◌, ap, sym, set}
use Rattle.std.specs.Prelude.{List}
use Rattle.pc_semantics.specs.declared.frames.Frame.{Frame}
use Rattle.pc_machine.specs.Changed.{framed, frames_in}
use Rattle.pc_machine.proofs.Changes.{get_there, set_changed}
use Rattle.pc_machine.proofs.actors.swap_frames_of.Goals as goal

pub returns-clause-new : goal.returns-clause-new
returns-clause-new c =
    let a = c.index_mut-of.result.now in
    ap (λ (fs : List Frame). set c.args.all.now.items c.args.actor (record { mailbox = a.mailbox; frames = fs })) c.replace.ensures.after
    ∙ set_changed c.args.all.now.items c.args.actor a (framed c.args.frames) c.requires c.index_mut-of.ensures.value

pub returns-clause-before : goal.returns-clause-before
returns-clause-before c =
    c.replace.ensures.value ∙ ap frames_in (sym (get_there c.args.all.now.items c.args.actor c.index_mut-of.result.now c.requires c.index_mut-of.ensures.value))
