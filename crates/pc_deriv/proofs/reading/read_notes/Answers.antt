use Rattle.std.proofs.Common.{[], ◌∷◌, length, ap, sym, subst, arith, length-append}
use Rattle.pc_deriv.specs.Text.{note_line, NoteFits, BeginsLine}
use Rattle.pc_deriv.proofs.Reached.{note_more}
use Rattle.pc_deriv.proofs.reading.read_notes.Goals as goal

pub notes-preserved : goal.notes-preserved
notes-preserved c =
    let text = c.args.text.now in
    let read = c.notes.notes in
    let next = c.in-Some.read in
    let more = note_more c.args.version text read c.notes.rest.now next.0 next.1.now c.notes.invariant.1 (sym c.in-Some.ensures) in
    let pushed = c.in_ok-push.ensures.ok in
    (omega (arith, c.notes-test.true, ap length pushed, length-append read (next.0 ∷ [])), subst (λ l. BeginsLine (note_line c.args.version) NoteFits text l next.1.now) (sym pushed) more)
