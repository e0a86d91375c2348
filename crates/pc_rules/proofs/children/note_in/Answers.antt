use Rattle.std.proofs.Common.{◌∙◌, ap, sym, slice_get}
use Rattle.pc_rules.specs.Children.{all_or_gathered}
use Rattle.pc_rules.proofs.{Found.got, Gathered.either_get}
use Rattle.pc_rules.proofs.children.note_in.Goals as goal

pub returns-then-held : goal.returns-then-held
returns-then-held c = c.copied.ensures ∙ got c.args.notes.now c.args.index c.get.result c.get.ensures.lookup ∙ sym (ap (λ h. slice_get (all_or_gathered h c.args.notes.now c.args.numbers.now) c.args.index) c.if-held.true)

pub returns-else-held : goal.returns-else-held
returns-else-held c = c.note_of.ensures ∙ sym (either_get c.args.held c.args.notes.now c.args.numbers.now c.args.index c.if-held.false c.requires)
