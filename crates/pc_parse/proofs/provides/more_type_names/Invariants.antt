use Rattle.std.proofs.Common.{◌-◌, ◌≤◌, length, drop}
use Rattle.pc_token.specs.declared.signs.Sign.TheVariants as s
use Rattle.pc_token.specs.Words.{is_sign}
use Rattle.pc_grammar.specs.Reading as r
use Rattle.pc_expr.specs.Gives.{StandsAtToken}
use Rattle.pc_expr.proofs.Loops.{Loop}
use Rattle.pc_parse.specs.Parts as parts
use Rattle.pc_parse.proofs.provides.more_type_names.Given as goal

abbrev pub invariant-more : goal.invariant-more
invariant-more l = record {
  past : l.at ≤ l.to;
  there : StandsAtToken l.tokens l.to;
  reads : Loop (r.after (is_sign s.Ampersand)) r.type_name (parts.more_type_names l.fn.so_far (drop l.at l.tokens)) (drop l.to l.tokens) l.names;
}

abbrev pub decreases-more : goal.decreases-more
decreases-more l = length l.tokens - l.to
