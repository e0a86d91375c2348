use Rattle.std.proofs.Common.{◌∙◌, ap, set}
use Rattle.std.specs.Prelude.{List}
use Rattle.pc_semantics.specs.declared.mailbox.Message.{Message}
use Rattle.pc_machine.specs.Changed.{mailed}
use Rattle.pc_machine.proofs.Changes.{set_changed}
use Rattle.pc_machine.proofs.actors.deliver_to.Goals as goal

pub returns-clause-ok : goal.returns-clause-ok
returns-clause-ok c =
    let a = c.index_mut-to.result.now in
    ap (λ (ms : List Message). set c.args.all.now.items c.args.actor (record { mailbox = ms; frames = a.frames })) c.in_ok-deliver.ensures.ok
    ∙ set_changed c.args.all.now.items c.args.actor a (mailed c.args.message) c.requires c.index_mut-to.ensures.value
