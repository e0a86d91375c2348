use Rattle.std.proofs.Common.{◌≡◌, drop}
use Rattle.pc_core.specs.Parts as parts
use Rattle.pc_core.proofs.lookup.place_of_field.Given as goal
use Rattle.pc_base.specs.Lists.{place_of}

abbrev pub invariant-loop-field : goal.invariant-loop-field
invariant-loop-field l = record { rest : place_of parts.field_name l.name (drop l.field-index l.fields) l.at ≡ place_of parts.field_name l.name l.fields 0; at : l.at ≡ l.field-index }
