use Rattle.std.proofs.Common.{◌≡◌, ◌++◌, drop}
use Rattle.pc_places.specs.Text.{fields_text}
use Rattle.pc_places.proofs.text.push_fields.Given as goal

abbrev pub invariant-loop-field : goal.invariant-loop-field
invariant-loop-field l = l.text.items ++ fields_text l.core (drop l.field-index l.fields) ≡ l.initial.text.items ++ fields_text l.core l.fields
