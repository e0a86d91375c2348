use Rattle.std.proofs.lemmas.Result.{IfOk-weaker}
use Rattle.pc_explain_command.specs.Explain.CoreText.{accepted}
use Rattle.pc_explain_command.proofs.explain.write_core.Goals as goal

pub returns-in-Ok : goal.returns-in-Ok
returns-in-Ok c =
    let lexed = c.requires.lexed in
    IfOk-weaker c.from_slice.result _ _ (λ text e. rw e (lexed.0, lexed.1, accepted (c.in-Ok.field-0, c.in-Ok.ensures.ok))) c.from_slice.ensures
