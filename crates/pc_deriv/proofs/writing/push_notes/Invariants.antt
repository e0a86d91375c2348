use Rattle.std.proofs.Common.{◌≡◌, ◌++◌, drop, take, Some}
use Rattle.std.specs.List.{AllByRecursion}
use Rattle.pc_ann.specs.declared.annotation.Note.{Note}
use Rattle.pc_deriv.specs.{Text.{masks_text, note_line, NoteFits}, Parts.each_line}
use Rattle.pc_deriv.proofs.writing.push_notes.Given as goal

abbrev pub invariant-loop-note : goal.invariant-loop-note
invariant-loop-note l =
    AllByRecursion NoteFits (take l.note-index l.notes) × (l.out.items ++ each_line (note_line l.version) (drop l.note-index l.notes) ≡ l.initial.out.items ++ each_line (note_line l.version) l.notes)
    × ((other : Note) → l.before ≡ Some other → l.masks.items ≡ masks_text l.version other)
