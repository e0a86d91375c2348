use Rattle.std.proofs.Common.{◌∙◌}
use Rattle.pc_rules.proofs.Found.{got}
use Rattle.pc_rules.proofs.children.note_at.Goals as goal

pub returns : goal.returns
returns c = c.copied.ensures ∙ got c.args.notes.now c.args.number c.get.result c.get.ensures.lookup
