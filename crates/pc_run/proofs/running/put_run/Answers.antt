use Rattle.std.proofs.Common.{◌∙◌, ◌++◌, [], ap, subst}
use Rattle.pc_semantics.specs.Text.{lines}
use Rattle.pc_io.specs.Sink.{change}
use Rattle.pc_run.specs.{declared.counts.Progress.Progress, declared.counts.Progress.TheVariants.{Going, TooLong}, Underway.ReachedSoFar}
use Rattle.pc_run.proofs.Whole.{answers_stopped, cut_writes, going_answers, going_writes, summary_stopped, texts_stopped}
use Rattle.pc_run.proofs.running.put_run.Goals as goal

pub returns-in_err-put_texts-clause-answers : goal.returns-in_err-put_texts-clause-answers
returns-in_err-put_texts-clause-answers g c list h =
    answers_stopped c.args.machine.now.core list (lines c.as_slice.result.now)
    (change (g.O.Sink.written c.args.out.now) (g.O.Sink.written c.put_texts.new.out) (g.O.Sink.faults c.args.out.now) (g.O.Sink.faults c.put_texts.new.out))
    c.in_err-put_texts.field-0.0 _ c.from_residual.ensures.1 c.in_err-put_texts.ensures.wrote

pub returns-in_err-put_texts-clause-writes : goal.returns-in_err-put_texts-clause-writes
returns-in_err-put_texts-clause-writes g c list h =
    texts_stopped c.args.machine.now.core list c.args.machine.now.configuration c.args.progress h
    c.as_slice.result.now (c.as_slice.ensures ∙ c.printed.ensures) c.in_err-put_texts.field-0.0 _ c.from_residual.ensures.1
    (change (g.O.Sink.written c.args.out.now) (g.O.Sink.written c.put_texts.new.out) (g.O.Sink.faults c.args.out.now) (g.O.Sink.faults c.put_texts.new.out)) c.in_err-put_texts.ensures.wrote

pub returns-in_err-put_summary-in-Going-clause-writes : goal.returns-in_err-put_summary-in-Going-clause-writes
returns-in_err-put_summary-in-Going-clause-writes g c list h =
    let machine = c.args.machine.now in
    let all : ReachedSoFar machine.core list machine.configuration [] (Going c.in-Going.counts) = subst (ReachedSoFar machine.core list machine.configuration []) c.in-Going.is h in
    summary_stopped machine.core list machine.configuration c.in-Going.counts all
    c.as_slice.result.now (c.as_slice.ensures ∙ c.printed.ensures) (g.O.Sink.written c.args.out.now) (g.O.Sink.written c.put_texts.new.out) (g.O.Sink.written c.put_summary.new.out)
    (g.O.Sink.faults c.args.out.now) (g.O.Sink.faults c.put_texts.new.out) (g.O.Sink.faults c.put_summary.new.out) c.in_ok-put_texts.ensures.wrote c.in_ok-put_texts.ensures.later
    c.report_of-report.result c.report_of-report.ensures c.in_err-put_summary-in-Going.field-0.0 _ c.from_residual-in_err-put_summary-in-Going.ensures.1 c.in_err-put_summary-in-Going.ensures.wrote
