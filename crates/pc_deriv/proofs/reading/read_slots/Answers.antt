use Rattle.std.proofs.Common.{[], ◌∷◌, length, ap, sym, subst, arith, length-append}
use Rattle.pc_deriv.specs.Text.{slot_line, SlotFits, BeginsLine}
use Rattle.pc_deriv.proofs.Reached.{slot_more}
use Rattle.pc_deriv.proofs.reading.read_slots.Goals as goal

pub loop-rest-preserved : goal.loop-rest-preserved
loop-rest-preserved c =
    let text = c.args.text.now in
    let read = c.loop-rest.slots in
    let next = c.in-Some.read in
    let more = slot_more text read c.loop-rest.rest.now next.0 next.1.now c.loop-rest.invariant.1 (sym c.in-Some.ensures) in
    let pushed = c.in_ok-push.ensures.ok in
    (omega (arith, c.loop-rest-test.true, ap length pushed, length-append read (next.0 ∷ [])), subst (λ l. BeginsLine slot_line SlotFits text l next.1.now) (sym pushed) more)
