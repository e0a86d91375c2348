use Rattle.std.proofs.{Common.{List, subst}, lemmas.Result.IfOk-weaker}
use Rattle.pc_grammar.specs.FileAnswers.{IsFileAnswer, spelled}
use Rattle.pc_parse.specs.Answers.{RefusesFile}
use Rattle.pc_token.specs.declared.kinds.Token.{Token}
use Rattle.pc_tree.specs.View.{file_view}
use Rattle.pc_lib_buffers.specs.{Refused.AreRefusedAt.spell, Spans.IsTokenSpan}
use Rattle.pc_lib_buffers.proofs.Stages.{tokens_refused}
use Rattle.pc_lib_buffers.proofs.refused.refused_tokens.Goals as goal

pub file-requires : goal.file-requires
file-requires c = record { ends = rw c.as_slice.ensures c.requires.ends }

pub refused_file-requires : goal.refused_file-requires
refused_file-requires c =
    let read = subst (λ (ts : List Token). IsFileAnswer ts (spelled (file_view c.in-Ok.tree))) c.as_slice.ensures c.in-Ok.ensures.read in
    (c.args.tokens, read.0, c.requires.ascend)

pub returns-in-Ok : goal.returns-in-Ok
returns-in-Ok c =
    let read = subst (λ (ts : List Token). IsFileAnswer ts (spelled (file_view c.in-Ok.tree))) c.as_slice.ensures c.in-Ok.ensures.read in
    IfOk-weaker c.refused_file.result _ _ (λ span is. spell read is) c.refused_file.ensures

pub returns-in-Err : goal.returns-in-Err
returns-in-Err c =
    let refused = subst (λ (ts : List Token). RefusesFile ts c.in-Err.fault) c.as_slice.ensures c.in-Err.ensures.refused in
    IfOk-weaker c.fault_span.result _ _
    (λ span is. tokens_refused c.args.tokens c.requires.ascend c.in-Err.fault span refused (subst (λ (ts : List Token). IsTokenSpan ts c.in-Err.fault span) c.as_slice-in-Err.ensures is))
    c.fault_span.ensures
