use Rattle.std.proofs.Common.{◌-◌, ◌≤◌, length, drop, map}
use Rattle.pc_tree.specs.View.{method_view}
use Rattle.pc_grammar.specs.Reading as r
use Rattle.pc_grammar.specs.ReadingFile as f
use Rattle.pc_expr.specs.Gives.{StandsAtToken}
use Rattle.pc_expr.proofs.Loops.{Loop}
use Rattle.pc_parse.specs.Parts as parts
use Rattle.pc_parse.proofs.methods.methods.Given as goal

abbrev pub invariant-more : goal.invariant-more
invariant-more l = record {
  past : l.at ≤ l.to;
  there : StandsAtToken l.tokens l.to;
  reads : Loop (r.at (f.begins_method l.kind)) (f.some_method 199 l.kind) (parts.all_methods l.kind (drop l.at l.tokens)) (drop l.to l.tokens) (map method_view l.methods);
}

abbrev pub decreases-more : goal.decreases-more
decreases-more l = length l.tokens - l.to
