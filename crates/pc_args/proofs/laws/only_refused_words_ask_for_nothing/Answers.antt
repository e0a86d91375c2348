use Rattle.pc_args.proofs.Refusals.{only_refused}
use Rattle.pc_args.proofs.laws.only_refused_words_ask_for_nothing.Goals as goal

pub returns : goal.returns
returns c = only_refused
