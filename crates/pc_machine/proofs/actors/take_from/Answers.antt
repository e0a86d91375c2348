use Rattle.std.proofs.Common.{◌∙◌, ap, set}
use Rattle.std.specs.Prelude.{List}
use Rattle.pc_semantics.specs.declared.mailbox.Message.{Message}
use Rattle.pc_machine.specs.Changed.{unmailed}
use Rattle.pc_machine.proofs.Changes.{set_changed}
use Rattle.pc_machine.proofs.actors.take_from.Goals as goal

pub returns : goal.returns
returns c =
    let a = c.index_mut-from.result.now in
    ap (λ (ms : List Message). set c.args.all.now.items c.args.actor (record { mailbox = ms; frames = a.frames })) c.take.ensures.rest
    ∙ set_changed c.args.all.now.items c.args.actor a unmailed c.requires c.index_mut-from.ensures.value
