use Rattle.std.proofs.Common.{[], sym, subst}
use Rattle.pc_core.specs.CoreData.{CoreData}
use Rattle.pc_run.specs.{Ends.{IsAnswer, WritesText}, Spreading.spread, Underway.ReachedSoFar}
use Rattle.pc_run.proofs.Whole.{leaves_all}
use Rattle.pc_run.proofs.running.run.Goals as goal

pub returns-clause-answers : goal.returns-clause-answers
returns-clause-answers g c =
    let list = spread c.args.turns.now in
    let d = c.take_turns.new.machine.configuration in
    let same = c.in_ok-progress.ensures.core in
    subst (λ (k : CoreData). IsAnswer k list (g.O.Sink.faults c.args.out.now) (g.O.Sink.faults c.put_run.new.out) c.put_run.result) same
    (c.put_run.ensures.answers list (subst (λ (k : CoreData). ReachedSoFar k list d [] c.in_ok-progress.progress) (sym same) c.in_ok-progress.ensures.ok))

pub returns-clause-writes : goal.returns-clause-writes
returns-clause-writes g c =
    let list = spread c.args.turns.now in
    let d = c.take_turns.new.machine.configuration in
    let same = c.in_ok-progress.ensures.core in
    subst (λ (k : CoreData). WritesText k list (g.O.Sink.written c.args.out.now) (g.O.Sink.written c.put_run.new.out) c.put_run.result) same
    (c.put_run.ensures.writes list (subst (λ (k : CoreData). ReachedSoFar k list d [] c.in_ok-progress.progress) (sym same) c.in_ok-progress.ensures.ok))

pub returns-clause-leaves : goal.returns-clause-leaves
returns-clause-leaves g c =
    leaves_all c.args.machine.now.core (spread c.args.turns.now) c.take_turns.new.machine.configuration c.in_ok-progress.progress c.in_ok-progress.ensures.ok _
