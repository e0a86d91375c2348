use Rattle.pc_args.specs.Asked.{command_of, texts}
use Rattle.pc_io.specs.Sink.{change}
use Rattle.pc_refusals.specs.Verdict.{files_change}
use Rattle.pc_refusals.proofs.Answers.{answer_of, completes}
use Rattle.pc_top.specs.{Asked.{IsVerdict, FailedIn}, CoreOf.HasSafeCore, Guarantees.{HasDecidedCore, HasFrozenCore, HasOwnedCore, HasProgressingCore}, IsolatedCore.HasIsolatedCore}
use Rattle.pc_top.proofs.{Asking.asks_answer, Verdicts.{accepted_holds, answer_accepts, answer_refuses, answer_swaps, answer_traces, answer_writes}}
use Rattle.pc_top.proofs.top.rcap.Goals as goal

pub returns-clause-answers : goal.returns-clause-answers
returns-clause-answers g c =
    let files = files_change (g.F.Files.bytes c.args.files.now) (g.F.Files.faults c.args.files.now) (g.F.Files.faults c.run_words-ended.new.files) (g.F.Files.taken c.run_words-ended.new.files) in
    let words = texts c.args.words.now in
    let out = change (g.O.Sink.written c.args.out.now) (g.O.Sink.written c.run_words-ended.new.out) (g.O.Sink.faults c.args.out.now) (g.O.Sink.faults c.run_words-ended.new.out) in
    let err = change (g.E.Sink.written c.args.err.now) (g.E.Sink.written c.finish.new.err) (g.E.Sink.faults c.args.err.now) (g.E.Sink.faults c.finish.new.err) in
    answer_of (IsVerdict files words) (FailedIn files words) out err c.finish.result c.run_words-ended.result c.run_words-ended.ensures.ends c.finish.ensures.finishes

pub returns-clause-accepted : goal.returns-clause-accepted
returns-clause-accepted g c =
    let files = files_change (g.F.Files.bytes c.args.files.now) (g.F.Files.faults c.args.files.now) (g.F.Files.faults c.run_words-ended.new.files) (g.F.Files.taken c.run_words-ended.new.files) in
    let out = change (g.O.Sink.written c.args.out.now) (g.O.Sink.written c.run_words-ended.new.out) (g.O.Sink.faults c.args.out.now) (g.O.Sink.faults c.run_words-ended.new.out) in
    let err = change (g.E.Sink.written c.args.err.now) (g.E.Sink.written c.finish.new.err) (g.E.Sink.faults c.args.err.now) (g.E.Sink.faults c.finish.new.err) in
    answer_accepts files (texts c.args.words.now) out err c.finish.result (returns-clause-answers g c)

pub returns-clause-safe : goal.returns-clause-safe
returns-clause-safe g c e =
    accepted_holds HasSafeCore c.derivable_sources_are_safe.ensures (g.F.Files.bytes c.args.files.now) (texts c.args.words.now) (returns-clause-accepted g c e)

pub returns-clause-isolated : goal.returns-clause-isolated
returns-clause-isolated g c e =
    accepted_holds HasIsolatedCore c.derivable_sources_are_isolated.ensures (g.F.Files.bytes c.args.files.now) (texts c.args.words.now) (returns-clause-accepted g c e)

pub returns-clause-frozen : goal.returns-clause-frozen
returns-clause-frozen g c e =
    accepted_holds HasFrozenCore c.derivable_sources_are_reliable.ensures.frozen (g.F.Files.bytes c.args.files.now) (texts c.args.words.now) (returns-clause-accepted g c e)

pub returns-clause-owned : goal.returns-clause-owned
returns-clause-owned g c e =
    accepted_holds HasOwnedCore c.derivable_sources_are_reliable.ensures.owned (g.F.Files.bytes c.args.files.now) (texts c.args.words.now) (returns-clause-accepted g c e)

pub returns-clause-progresses : goal.returns-clause-progresses
returns-clause-progresses g c e =
    accepted_holds HasProgressingCore c.derivable_sources_are_reliable.ensures.progresses (g.F.Files.bytes c.args.files.now) (texts c.args.words.now) (returns-clause-accepted g c e)

pub returns-clause-decided : goal.returns-clause-decided
returns-clause-decided g c e =
    accepted_holds HasDecidedCore c.derivable_sources_are_reliable.ensures.decided (g.F.Files.bytes c.args.files.now) (texts c.args.words.now) (returns-clause-accepted g c e)

pub returns-clause-completes : goal.returns-clause-completes
returns-clause-completes g c =
    let files = files_change (g.F.Files.bytes c.args.files.now) (g.F.Files.faults c.args.files.now) (g.F.Files.faults c.run_words-ended.new.files) (g.F.Files.taken c.run_words-ended.new.files) in
    let words = texts c.args.words.now in
    let out = change (g.O.Sink.written c.args.out.now) (g.O.Sink.written c.run_words-ended.new.out) (g.O.Sink.faults c.args.out.now) (g.O.Sink.faults c.run_words-ended.new.out) in
    let err = change (g.E.Sink.written c.args.err.now) (g.E.Sink.written c.finish.new.err) (g.E.Sink.faults c.args.err.now) (g.E.Sink.faults c.finish.new.err) in
    completes (IsVerdict files words) (FailedIn files words) out err c.finish.result (returns-clause-answers g c)

pub returns-clause-writes : goal.returns-clause-writes
returns-clause-writes g c =
    let files = files_change (g.F.Files.bytes c.args.files.now) (g.F.Files.faults c.args.files.now) (g.F.Files.faults c.run_words-ended.new.files) (g.F.Files.taken c.run_words-ended.new.files) in
    let out = change (g.O.Sink.written c.args.out.now) (g.O.Sink.written c.run_words-ended.new.out) (g.O.Sink.faults c.args.out.now) (g.O.Sink.faults c.run_words-ended.new.out) in
    let err = change (g.E.Sink.written c.args.err.now) (g.E.Sink.written c.finish.new.err) (g.E.Sink.faults c.args.err.now) (g.E.Sink.faults c.finish.new.err) in
    answer_writes files (texts c.args.words.now) out err c.finish.result (returns-clause-answers g c) c.tables_tell_of_every_run.ensures

pub returns-clause-swaps : goal.returns-clause-swaps
returns-clause-swaps g c =
    let files = files_change (g.F.Files.bytes c.args.files.now) (g.F.Files.faults c.args.files.now) (g.F.Files.faults c.run_words-ended.new.files) (g.F.Files.taken c.run_words-ended.new.files) in
    let out = change (g.O.Sink.written c.args.out.now) (g.O.Sink.written c.run_words-ended.new.out) (g.O.Sink.faults c.args.out.now) (g.O.Sink.faults c.run_words-ended.new.out) in
    let err = change (g.E.Sink.written c.args.err.now) (g.E.Sink.written c.finish.new.err) (g.E.Sink.faults c.args.err.now) (g.E.Sink.faults c.finish.new.err) in
    answer_swaps files (texts c.args.words.now) out err c.finish.result (returns-clause-answers g c)

pub returns-clause-traces : goal.returns-clause-traces
returns-clause-traces g c =
    let files = files_change (g.F.Files.bytes c.args.files.now) (g.F.Files.faults c.args.files.now) (g.F.Files.faults c.run_words-ended.new.files) (g.F.Files.taken c.run_words-ended.new.files) in
    let out = change (g.O.Sink.written c.args.out.now) (g.O.Sink.written c.run_words-ended.new.out) (g.O.Sink.faults c.args.out.now) (g.O.Sink.faults c.run_words-ended.new.out) in
    let err = change (g.E.Sink.written c.args.err.now) (g.E.Sink.written c.finish.new.err) (g.E.Sink.faults c.args.err.now) (g.E.Sink.faults c.finish.new.err) in
    answer_traces files (texts c.args.words.now) out err c.finish.result (returns-clause-answers g c)

pub returns-clause-refused : goal.returns-clause-refused
returns-clause-refused g c =
    let files = files_change (g.F.Files.bytes c.args.files.now) (g.F.Files.faults c.args.files.now) (g.F.Files.faults c.run_words-ended.new.files) (g.F.Files.taken c.run_words-ended.new.files) in
    let out = change (g.O.Sink.written c.args.out.now) (g.O.Sink.written c.run_words-ended.new.out) (g.O.Sink.faults c.args.out.now) (g.O.Sink.faults c.run_words-ended.new.out) in
    let err = change (g.E.Sink.written c.args.err.now) (g.E.Sink.written c.finish.new.err) (g.E.Sink.faults c.args.err.now) (g.E.Sink.faults c.finish.new.err) in
    answer_refuses c.refused_sources_have_no_derivation.ensures files (texts c.args.words.now) out err c.finish.result (returns-clause-answers g c)

pub returns-clause-asks : goal.returns-clause-asks
returns-clause-asks g c =
    let err = change (g.E.Sink.written c.args.err.now) (g.E.Sink.written c.finish.new.err) (g.E.Sink.faults c.args.err.now) (g.E.Sink.faults c.finish.new.err) in
    asks_answer (g.F.Files.bytes c.args.files.now) (command_of (texts c.args.words.now)) (g.R.Referee.asked c.args.referee.now) (g.R.Referee.asked c.run_words-ended.new.referee) err c.finish.result c.run_words-ended.result c.run_words-ended.ensures.asks c.finish.ensures.finishes
