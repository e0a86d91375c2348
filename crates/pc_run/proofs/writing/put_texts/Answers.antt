use Rattle.std.proofs.Common.{◌≡◌, ℕ, ◌+◌, ◌<◌, List, ◌++◌, length, take, drop, ap, ◌∙◌, subst, arith}
use Rattle.pc_base.specs.Lists.{line_end}
use Rattle.pc_semantics.specs.Text.{lines}
use Rattle.pc_run.specs.{declared.report.RunFault.TheVariants.Memory, Writing.WriteStops}
use Rattle.pc_io.specs.Sink.{change}
use Rattle.pc_run.proofs.Written.{ended_by, grows_whole, lines_next, lines_parts, stops_more, stops_on}
use Rattle.pc_run.proofs.writing.put_texts.Goals as goal

pub returns-in_err-line-clause-wrote : goal.returns-in_err-line-clause-wrote
returns-in_err-line-clause-wrote g c =
    let texts = c.args.texts.now in
    let i = c.loop-text.text-index in
    let out = change (g.O.Sink.written c.args.out.now) (g.O.Sink.written c.loop-text.out) (g.O.Sink.faults c.args.out.now) (g.O.Sink.faults c.loop-text.out) in
    ended_by (lines texts) out Memory _ c.from_residual.ensures.1
    (subst (λ t. WriteStops t out Memory) (lines_parts texts i) (grows_whole out.before out.now (lines (take i texts)) (lines (drop i texts)) c.loop-text.invariant.0))

pub returns-in_err-put_piece-clause-wrote : goal.returns-in_err-put_piece-clause-wrote
returns-in_err-put_piece-clause-wrote g c =
    let texts = c.args.texts.now in
    let i = c.loop-text.text-index in
    let text : List ℕ = c.text-item.result in
    let out = change (g.O.Sink.written c.args.out.now) (g.O.Sink.written c.put_piece.new.out) (g.O.Sink.faults c.args.out.now) (g.O.Sink.faults c.put_piece.new.out) in
    let fault = c.in_err-put_piece.field-0.0 in
    let bytes : c.deref.result.now ≡ text ++ line_end = c.deref.ensures.value ∙ c.in_ok-line.ensures ∙ ap (λ t. t ++ line_end) c.as_slice.ensures in
    let within : i < length texts = omega arith in
    let stop = subst (λ t. WriteStops t (change (g.O.Sink.written c.loop-text.out) out.now (g.O.Sink.faults c.loop-text.out) out.faults_now) fault) bytes c.in_err-put_piece.ensures.wrote in
    let all = stops_more _ (lines (drop (i + 1) texts)) out fault
    (stops_on _ (g.O.Sink.written c.loop-text.out) _ _ (g.O.Sink.faults c.loop-text.out) _ (lines (take i texts)) (text ++ line_end) c.loop-text.invariant.0 c.loop-text.invariant.1 fault stop) in
    ended_by (lines texts) out fault _ c.from_residual-in_err-put_piece.ensures.1 (subst (λ t. WriteStops t out fault) (lines_next texts i text within c.text-item.is) all)
