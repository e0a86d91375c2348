use Rattle.std.proofs.{Common.{[], inr, sym, subst}, lemmas.Result.err_from_is_err_and}
use Rattle.pc_core.specs.CoreData.{CoreData}
use Rattle.pc_run.specs.{Ends.NeverLacks, Spreading.spread}
use Rattle.pc_io.specs.Sink.{change}
use Rattle.pc_refusals.specs.{Verdict.TellsPart, Inner.Answering.WritesVerdict}
use Rattle.pc_commands.specs.Run.{Ran}
use Rattle.pc_commands.proofs.RanEnds.{cut_part, cut_told, run_part, run_told}
use Rattle.pc_commands.proofs.run.run_turns.Goals as goal

pub run-requires-clause-never_lacks : goal.run-requires-clause-never_lacks
run-requires-clause-never_lacks g c = subst NeverLacks (sym c.in_ok-machine.ensures.core) c.requires.never_lacks

pub returns-in-Ok-clause-ends : goal.returns-in-Ok-clause-ends
returns-in-Ok-clause-ends g c =
    let list = spread c.args.turns.now in
    let out = change (g.O.Sink.written c.args.out.now) (g.O.Sink.written c.run.new.out) (g.O.Sink.faults c.args.out.now) (g.O.Sink.faults c.run.new.out) in
    subst (λ (x : CoreData). WritesVerdict (Ran c.args.name.now x list) out 0 []) c.in_ok-machine.ensures.core
    (run_told c.args.name.now c.in_ok-machine.machine.core list out c.in-Ok.field-0 c.in-Ok.ensures.answers c.in-Ok.ensures.writes)

pub returns-in_err-make_too_long_line-in-Err-TooLong-clause-ends :
    goal.returns-in_err-make_too_long_line-in-Err-TooLong-clause-ends
returns-in_err-make_too_long_line-in-Err-TooLong-clause-ends g c =
    let p = err_from_is_err_and c.from_residual-in_err-make_too_long_line-in-Err-TooLong.result c.from_residual-in_err-make_too_long_line-in-Err-TooLong.ensures.1 in
    let list = spread c.args.turns.now in
    let out = change (g.O.Sink.written c.args.out.now) (g.O.Sink.written c.run.new.out) (g.O.Sink.faults c.args.out.now) (g.O.Sink.faults c.run.new.out) in
    let answers = rw c.in-Err-TooLong.field-0-is at c.in-Err-TooLong.ensures.answers in
    let writes = rw c.in-Err-TooLong.field-0-is at c.in-Err-TooLong.ensures.writes in
    rw (p.1, p.2)
    (inr (subst (λ (x : CoreData). TellsPart (Ran c.args.name.now x list) out) c.in_ok-machine.ensures.core
    (cut_part c.args.name.now c.in_ok-machine.machine.core list out c.in-Err-TooLong.step answers writes)))

pub returns-in-Err-TooLong-clause-ends : goal.returns-in-Err-TooLong-clause-ends
returns-in-Err-TooLong-clause-ends g c =
    let list = spread c.args.turns.now in
    let line = c.in_ok-make_too_long_line-in-Err-TooLong.field-0 in
    let out = change (g.O.Sink.written c.args.out.now) (g.O.Sink.written c.run.new.out) (g.O.Sink.faults c.args.out.now) (g.O.Sink.faults c.run.new.out) in
    let answers = rw c.in-Err-TooLong.field-0-is at c.in-Err-TooLong.ensures.answers in
    let writes = rw c.in-Err-TooLong.field-0-is at c.in-Err-TooLong.ensures.writes in
    subst (λ (x : CoreData). WritesVerdict (Ran c.args.name.now x list) out 12 line) c.in_ok-machine.ensures.core
    (cut_told c.args.name.now c.in_ok-machine.machine.core list out c.in-Err-TooLong.step line answers c.in_ok-make_too_long_line-in-Err-TooLong.ensures writes)

pub returns-in-Err-Sink-clause-ends : goal.returns-in-Err-Sink-clause-ends
returns-in-Err-Sink-clause-ends g c =
    let list = spread c.args.turns.now in
    let out = change (g.O.Sink.written c.args.out.now) (g.O.Sink.written c.run.new.out) (g.O.Sink.faults c.args.out.now) (g.O.Sink.faults c.run.new.out) in
    let answers = rw c.in-Err-Sink.field-0-is at c.in-Err-Sink.ensures.answers in
    let writes = rw c.in-Err-Sink.field-0-is at c.in-Err-Sink.ensures.writes in
    let safe = subst NeverLacks (sym c.in_ok-machine.ensures.core) c.requires.never_lacks in (
      answers,
      subst (λ (x : CoreData). TellsPart (Ran c.args.name.now x list) out) c.in_ok-machine.ensures.core
          (run_part c.args.name.now c.in_ok-machine.machine.core list out safe writes),
    )

pub returns-clause-ends : goal.returns-clause-ends
returns-clause-ends g c =
    let list = spread c.args.turns.now in
    let out = change (g.O.Sink.written c.args.out.now) (g.O.Sink.written c.run.new.out) (g.O.Sink.faults c.args.out.now) (g.O.Sink.faults c.run.new.out) in
    let writes = rw c.in-Err-Memory.field-0-is at c.in-Err-Memory.ensures.writes in
    let safe = subst NeverLacks (sym c.in_ok-machine.ensures.core) c.requires.never_lacks in
    inr (subst (λ (x : CoreData). TellsPart (Ran c.args.name.now x list) out) c.in_ok-machine.ensures.core
    (run_part c.args.name.now c.in_ok-machine.machine.core list out safe writes))
