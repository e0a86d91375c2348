use Rattle.std.proofs.Common.{sym, ◌∙◌}
use Rattle.pc_lib_buffers.proofs.Walk.{first, found, next, nowhere}
use Rattle.pc_lib_buffers.proofs.finding.find_numbers.Goals as goal

pub loop-byte-init : goal.loop-byte-init
loop-byte-init c = first c.args.numbers.now c.args.text.now c.first_mark-mark.result c.first_mark-mark.ensures

pub returns-then-is_named : goal.returns-then-is_named
returns-then-is_named c =
    found c.args.numbers.now c.args.text.now c.loop-byte.byte-index c.loop-byte.mark c.args.number c.start_of.result c.loop-byte.invariant (sym c.is_named.ensures ∙ c.if-is_named.true) c.start_of.ensures

pub loop-byte-preserved : goal.loop-byte-preserved
loop-byte-preserved c =
    next c.args.numbers.now c.args.text.now c.loop-byte.byte-index c.loop-byte.mark c.next_mark-mark.result c.loop-byte-test.true c.loop-byte.invariant (sym c.is_named.ensures ∙ c.if-is_named.false)
    c.next_mark-mark.ensures.offset c.next_mark-mark.ensures.line c.next_mark-mark.ensures.column c.next_mark-mark.ensures.in_line

pub returns-then-is_named-2 : goal.returns-then-is_named-2
returns-then-is_named-2 c =
    found c.args.numbers.now c.args.text.now c.loop-byte.byte-index c.loop-byte.mark c.args.number c.start_of-then-is_named-2.result c.loop-byte.invariant (sym c.is_named-2.ensures ∙ c.if-is_named-2.true) c.start_of-then-is_named-2.ensures

pub returns : goal.returns
returns c = nowhere c.args.numbers.now c.args.text.now c.loop-byte.byte-index c.loop-byte.mark c.loop-byte-test.false c.loop-byte.invariant (sym c.is_named-2.ensures ∙ c.if-is_named-2.false)
