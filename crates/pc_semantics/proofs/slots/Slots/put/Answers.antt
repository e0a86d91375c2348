use Rattle.std.proofs.Common.{None, Some, ◌++◌, ◌∙◌, replicate, set, ap}
use Rattle.std.specs.Prelude.{slice_get}
use Rattle.pc_semantics.specs.Parts.{held}
use Rattle.pc_semantics.proofs.Held.{got_front, put_front}
use Rattle.pc_semantics.proofs.slots.Slots.put.Goals as goal

pub returns-in-Ok-clause-before : goal.returns-in-Ok-clause-before
returns-in-Ok-clause-before c =
    c.put_held.ensures.old
    ∙ got_front c.reach.new.held.items c.reach.new.empty c.args.slot c.in-Ok.ensures.room
    ∙ ap (λ z. held (slice_get z c.args.slot)) (c.reach.ensures.same ∙ c.self.view_is)

pub returns-in-Ok-clause-ok : goal.returns-in-Ok-clause-ok
returns-in-Ok-clause-ok c =
    ap (λ z. z ++ replicate c.reach.new.empty None) c.put_held.ensures.new
    ∙ put_front c.reach.new.held.items c.reach.new.empty c.args.slot (Some c.args.value) c.in-Ok.ensures.room
    ∙ ap (λ z. set z c.args.slot (Some c.args.value)) (c.reach.ensures.same ∙ c.self.view_is)
