use Rattle.std.proofs.Common.{◌++◌}
use Rattle.pc_deriv.specs.{Text.{note_line, NoteFits}, Parts.each_line}
use Rattle.pc_deriv.proofs.{Fitting.{fits_more, lines_more}, MaskTexts.masks_stay}
use Rattle.pc_deriv.proofs.writing.push_notes.Goals as goal

pub loop-note-preserved : goal.loop-note-preserved
loop-note-preserved c =
    let line = note_line c.args.version in
    let notes = c.args.notes.now in
    let i = c.loop-note.note-index in (
      fits_more NoteFits notes i _ c.loop-note-test.true c.in_ok-push_note.ensures.fits c.loop-note.invariant.0,
      lines_more line notes i _ c.loop-note.out.items c.push_note.new.out.items (c.args.out.now.items ++ each_line line notes) c.loop-note-test.true c.in_ok-push_note.ensures.puts c.loop-note.invariant.1,
      λ other e. masks_stay c.args.version _ other c.renew_masks.new.masks.items c.in_ok-renew_masks.ensures e,
    )
