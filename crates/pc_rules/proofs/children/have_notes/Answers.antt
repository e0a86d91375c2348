use Rattle.std.proofs.Common.{◌∙◌}
use Rattle.pc_rules.proofs.Further.{one_more_has, this_lacks, all_have}
use Rattle.pc_rules.proofs.children.have_notes.Goals as goal

pub loop-number-preserved : goal.loop-number-preserved
loop-number-preserved c = one_more_has c.args.notes.now c.args.numbers.now c.loop-number.number-index c.has_note.result c.loop-number-test.true c.has_note.ensures c.if-not-has_note.false ∙ c.loop-number.invariant

pub returns-then-not-has_note : goal.returns-then-not-has_note
returns-then-not-has_note c = this_lacks c.args.notes.now c.args.numbers.now c.loop-number.number-index c.has_note.result c.loop-number-test.true c.has_note.ensures c.if-not-has_note.true ∙ c.loop-number.invariant

pub returns : goal.returns
returns c = all_have c.args.notes.now c.args.numbers.now c.loop-number.number-index c.loop-number-test.false ∙ c.loop-number.invariant
