use Rattle.std.proofs.Common.{◌≡◌, false, drop}
use Rattle.pc_tree.specs.View.{suffixes_view}
use Rattle.pc_grammar.specs.Spells.{ends_in_dot}
use Rattle.pc_expr.proofs.asking.ends_in_dot.Given as goal

abbrev pub invariant-loop-suffix : goal.invariant-loop-suffix
invariant-loop-suffix l = ends_in_dot l.dot (suffixes_view (drop l.suffix-index l.suffixes)) ≡ ends_in_dot false (suffixes_view l.suffixes)
