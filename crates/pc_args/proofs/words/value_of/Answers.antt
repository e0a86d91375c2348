use Rattle.std.proofs.Common.{◌∙◌, ap, [], Option}
use Rattle.std.specs.Prelude.{unwrap_or}
use Rattle.clap.specs.Words.{Text, found_of}
use Rattle.clap.proofs.WalkLemmas.{first_value-rows}
use Rattle.pc_args.proofs.words.value_of.Goals as goal

pub returns : goal.returns
returns c = c.first_text.ensures ∙ ap (λ (o : Option Text). unwrap_or o []) (first_value-rows (found_of c.args.matches.now) c.args.id.now)
