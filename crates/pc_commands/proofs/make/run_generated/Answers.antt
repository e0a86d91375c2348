use Rattle.std.proofs.{Common.{◌≡◌, ◌∙◌, List, ap, length, subst}, lemmas.Result.err_from_is_err_and}
use Rattle.std.specs.Io.KnownBytes.{Appends}
use Rattle.pc_core.specs.declared.nodes.Node.{Node}
use Rattle.pc_gen.specs.Generated.{schedule}
use Rattle.pc_io.specs.Sink.{change}
use Rattle.pc_run.specs.Spreading.{spread}
use Rattle.pc_sched.specs.declared.turns.Turn.{Turn}
use Rattle.pc_base.specs.Lists.{Text}
use Rattle.pc_refusals.specs.Inner.Answering.{EndsCommand}
use Rattle.pc_refusal_lines.specs.Lines.{counts_line}
use Rattle.pc_commands.specs.{Make.{made_line, made_name}, Run.Ran}
use Rattle.pc_commands.proofs.MadeEnds.{line_stops, run_ends}
use Rattle.pc_commands.proofs.make.run_generated.Goals as goal

pub returns-in_err-put_text-clause-ends : goal.returns-in_err-put_text-clause-ends
returns-in_err-put_text-clause-ends g c =
    let p = err_from_is_err_and c.from_residual-in_err-put_text.result c.from_residual-in_err-put_text.ensures.1 in
    let seed = c.args.seed in
    let size = c.args.size in
    let core = c.args.core.now in
    let out = change (g.O.Sink.written c.args.out.now) (g.O.Sink.written c.put_text.new.out) (g.O.Sink.faults c.args.out.now) (g.O.Sink.faults c.put_text.new.out) in
    let line : c.as_slice.result.now ≡ made_line seed size core =
    c.as_slice.ensures ∙ (c.in_ok-line.ensures ∙ ap (λ (nodes : List Node). counts_line seed size (length nodes)) c.nodes.ensures) in
    rw (p.1, p.2) (line_stops seed size core c.requires.never_lacks out c.as_slice.result.now _ line c.in_err-put_text.ensures.wrote)

pub returns-clause-ends : goal.returns-clause-ends
returns-clause-ends g c =
    let seed = c.args.seed in
    let size = c.args.size in
    let core = c.args.core.now in
    let mid = g.O.Sink.written c.put_text.new.out in
    let faults = g.O.Sink.faults c.put_text.new.out in
    let now = g.O.Sink.written c.run_turns.new.out in
    let out = change (g.O.Sink.written c.args.out.now) now (g.O.Sink.faults c.args.out.now) (g.O.Sink.faults c.run_turns.new.out) in
    let line : c.as_slice.result.now ≡ made_line seed size core =
    c.as_slice.ensures ∙ (c.in_ok-line.ensures ∙ ap (λ (nodes : List Node). counts_line seed size (length nodes)) c.nodes.ensures) in
    let written = subst (λ (t : Text). Appends (g.O.Sink.written c.args.out.now) mid t) line c.in_ok-put_text.ensures.wrote in
    let turns : c.as_slice-2.result.now ≡ schedule size = c.as_slice-2.ensures ∙ c.in_ok-turns.ensures.turns in
    let ran = subst (λ (ts : List Turn). EndsCommand (Ran made_name core (spread ts)) (λ n. ⊥) (change mid now faults (g.O.Sink.faults c.run_turns.new.out)) c.run_turns.result) turns c.run_turns.ensures.ends in
    run_ends seed size core c.requires.never_lacks out mid faults c.in_ok-put_text.ensures.later written c.run_turns.result ran
