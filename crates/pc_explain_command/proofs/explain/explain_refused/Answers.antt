use Rattle.std.proofs.lemmas.Result.{IfOk-weaker}
use Rattle.pc_lex.specs.Pieces.{TokenList}
use Rattle.pc_explain_command.specs.Explain.CoreText.{explained}
use Rattle.pc_explain_command.proofs.explain.explain_refused.Goals as goal

pub returns : goal.returns
returns c =
    let lexed : TokenList c.args.bytes.now c.as_slice.result.now = rw c.as_slice.ensures c.in_ok-tokens.ensures in
    IfOk-weaker c.explain_core.result _ _ (λ text is. (c.as_slice.result.now, lexed, explained is)) c.explain_core.ensures
