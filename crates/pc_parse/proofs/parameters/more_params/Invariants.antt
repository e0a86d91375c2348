use Rattle.std.proofs.Common.{◌-◌, ◌≤◌, length, drop}
use Rattle.pc_token.specs.declared.signs.Sign.TheVariants as s
use Rattle.pc_token.specs.Words.{is_sign}
use Rattle.pc_grammar.specs.Reading as r
use Rattle.pc_grammar.specs.ReadingFile as f
use Rattle.pc_expr.specs.Gives.{StandsAtToken}
use Rattle.pc_expr.proofs.Loops.{Loop}
use Rattle.pc_parse.specs.Parts as parts
use Rattle.pc_parse.proofs.parameters.more_params.Given as goal

abbrev pub invariant-more : goal.invariant-more
invariant-more l = record {
  past : l.at ≤ l.to;
  there : StandsAtToken l.tokens l.to;
  reads : Loop (r.after (is_sign s.Comma)) f.param (parts.more_params l.fn.so_far (drop l.at l.tokens)) (drop l.to l.tokens) l.params;
}

abbrev pub decreases-more : goal.decreases-more
decreases-more l = length l.tokens - l.to
