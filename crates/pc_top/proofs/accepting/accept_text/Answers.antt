use Rattle.std.proofs.lemmas.Result.{err_from_is_err_and}
use Rattle.pc_refusals.specs.{Source.{Typing, SourceStage, source_limit}, Verdict.text_as}
use Rattle.pc_refusals.proofs.Parts.{ends_behind, stops_behind}
use Rattle.pc_top.proofs.accepting.accept_text.Goals as goal

pub returns-in_err-source : goal.returns-in_err-source
returns-in_err-source c =
    let p = err_from_is_err_and c.from_residual.result c.from_residual.ensures.1 in
    let name = c.args.name.now in
    rw (p.1, p.2) (stops_behind source_limit (SourceStage name) (Typing name) (text_as name c.args.bytes) _ c.in_err-source.ensures)

pub returns : goal.returns
returns c =
    let name = c.args.name.now in
    ends_behind source_limit (SourceStage name) (Typing name) (text_as name c.args.bytes) c.in_ok-source.source c.type_source.result c.in_ok-source.ensures c.type_source.ensures
