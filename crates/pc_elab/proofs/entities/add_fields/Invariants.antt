use Rattle.std.proofs.Common.{◌≡◌, ◌++◌, drop, map}
use Rattle.pc_tree.specs.View.{field_view}
use Rattle.pc_file_spec.specs.Cores.{core_field}
use Rattle.pc_elab.proofs.entities.add_fields.Given as goal

abbrev pub invariant-loop-field : goal.invariant-loop-field
invariant-loop-field l =
    l.fn.list ++ map (core_field l.context.texts l.context.entities) (map field_view l.fields) ≡ l.list ++ map (core_field l.context.texts l.context.entities) (map field_view (drop l.field-index l.fields))
