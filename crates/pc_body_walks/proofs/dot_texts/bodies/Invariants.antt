use Rattle.std.proofs.Common.{◌≡◌, drop, map}
use Rattle.pc_tree.specs.View.{method_view}
use Rattle.pc_body_walks.specs.Gathering as spec
use Rattle.pc_body_walks.proofs.dot_texts.bodies.Given as goal

abbrev pub invariant-loop-method : goal.invariant-loop-method
invariant-loop-method l = spec.with_bodies l.fn.table (map method_view l.methods) ≡ spec.with_bodies l.table (map method_view (drop l.method-index l.methods))
