use Rattle.std.proofs.lemmas.Result.{IfOk-weaker}
use Rattle.pc_lib_buffers.specs.Refused.IsRefusedAt.{lexed}
use Rattle.pc_lib_buffers.proofs.Stages.{lex_refused}
use Rattle.pc_lib_buffers.proofs.refused.refused_text.Goals as goal

pub refused_tokens-requires-clause-ends : goal.refused_tokens-requires-clause-ends
refused_tokens-requires-clause-ends c = c.tokens_are_in_order.ensures.end c.args.text.now c.in-Ok.tokens c.in-Ok.ensures.ok.0

pub refused_tokens-requires-clause-ascend : goal.refused_tokens-requires-clause-ascend
refused_tokens-requires-clause-ascend c = c.tokens_are_in_order.ensures.ascend c.args.text.now c.in-Ok.tokens c.in-Ok.ensures.ok.0

pub returns-in-Ok : goal.returns-in-Ok
returns-in-Ok c = IfOk-weaker c.refused_tokens.result _ _ (λ span is. lexed c.requires c.in-Ok.ensures.ok is) c.refused_tokens.ensures

pub returns-in-Err : goal.returns-in-Err
returns-in-Err c = IfOk-weaker c.lex_span.result _ _ (λ span is. lex_refused c.args.text.now c.requires span c.in-Err.fault c.in-Err.ensures.err is) c.lex_span.ensures
