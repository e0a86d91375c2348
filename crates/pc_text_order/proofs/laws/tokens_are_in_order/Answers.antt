use Rattle.pc_text_order.proofs.Tokens.{tokens_ascend, tokens_end}
use Rattle.pc_text_order.proofs.laws.tokens_are_in_order.Goals as goal

pub returns : goal.returns
returns c = record { ascend = tokens_ascend; end = tokens_end }
