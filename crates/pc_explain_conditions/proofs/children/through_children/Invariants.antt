use Rattle.std.proofs.Common.{◌≡◌, drop}
use Rattle.pc_rules.specs.Parts as parts
use Rattle.pc_explain_conditions.proofs.children.through_children.Given as goal

abbrev pub invariant-loop-note : goal.invariant-loop-note
invariant-loop-note l = parts.through_notes (drop l.note-index l.children) l.reached ≡ parts.through_notes l.children l.fn.masks
