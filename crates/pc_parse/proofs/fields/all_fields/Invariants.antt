use Rattle.std.proofs.Common.{◌-◌, ◌≤◌, length, drop, map}
use Rattle.pc_tree.specs.View.{field_view}
use Rattle.pc_grammar.specs.Reading as r
use Rattle.pc_grammar.specs.ReadingFile as f
use Rattle.pc_expr.specs.Gives.{StandsAtToken}
use Rattle.pc_expr.proofs.Loops.{Loop}
use Rattle.pc_parse.specs.Parts as parts
use Rattle.pc_parse.proofs.fields.all_fields.Given as goal

abbrev pub invariant-more : goal.invariant-more
invariant-more l = record {
  past : l.at ≤ l.to;
  there : StandsAtToken l.tokens l.to;
  reads : Loop (r.at f.begins_field) (f.some_field 199) (parts.all_fields (drop l.at l.tokens)) (drop l.to l.tokens) (map field_view l.fields);
}

abbrev pub decreases-more : goal.decreases-more
decreases-more l = length l.tokens - l.to
