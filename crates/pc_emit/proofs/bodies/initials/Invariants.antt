use Rattle.std.proofs.Common.{◌≡◌, drop, map}
use Rattle.pc_tree.specs.View.{field_view}
use Rattle.pc_body_spec.specs.{Bodies.{Roses, initials_then}, Fold.puts}
use Rattle.pc_emit.specs.Closing.{behind_tops}
use Rattle.pc_emit.proofs.bodies.initials.Given as goal

abbrev pub invariant-loop-field : goal.invariant-loop-field
invariant-loop-field l = (rest : Roses) → puts l.number (initials_then l.context (map field_view l.fields) rest) l.fn.nodes ≡ behind_tops l.tops (puts l.number (initials_then l.context (map field_view (drop l.field-index l.fields)) rest) l.nodes)
