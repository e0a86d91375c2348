use Rattle.pc_test_inputs.proofs.texts.tokens_of.Goals as goal

pub returns-clause-end : goal.returns-clause-end
returns-clause-end c = c.tokens_are_in_order.ensures.end c.args.text.now c.in_ok-tokens.tokens c.in_ok-tokens.ensures.ok.0

pub returns-clause-ascend : goal.returns-clause-ascend
returns-clause-ascend c = c.tokens_are_in_order.ensures.ascend c.args.text.now c.in_ok-tokens.tokens c.in_ok-tokens.ensures.ok.0
