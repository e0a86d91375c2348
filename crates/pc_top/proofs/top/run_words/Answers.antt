use Rattle.std.proofs.Common.{Err, inl, refl}
use Rattle.pc_args.specs.{Asked.{command_of, texts}, Commands.asked_by}
use Rattle.pc_args.proofs.Refusals.{asks_nothing}
use Rattle.pc_io.specs.Sink.{change}
use Rattle.pc_refusals.specs.Verdict.{files_change}
use Rattle.pc_refusals.proofs.Ending.{kept}
use Rattle.pc_top.proofs.{Asking.{asks_end, asks_nobody, asks_no_memory}, Ending.{words_end, words_refused}}
use Rattle.pc_top.proofs.top.run_words.Goals as goal

pub returns-in-Ok-clause-ends : goal.returns-in-Ok-clause-ends
returns-in-Ok-clause-ends g c =
    let files = files_change (g.F.Files.bytes c.args.files.now) (g.F.Files.faults c.args.files.now) (g.F.Files.faults c.run_command.new.files) (g.F.Files.taken c.run_command.new.files) in
    let out = change (g.O.Sink.written c.args.out.now) (g.O.Sink.written c.run_command.new.out) (g.O.Sink.faults c.args.out.now) (g.O.Sink.faults c.run_command.new.out) in
    words_end files out (texts c.args.words.now) (asked_by c.in-Ok.command) c.run_command.result c.in-Ok.ensures c.run_command.ensures.ends

pub returns-in-Ok-clause-asks : goal.returns-in-Ok-clause-asks
returns-in-Ok-clause-asks g c =
    asks_end (g.F.Files.bytes c.args.files.now) (asked_by c.in-Ok.command) (command_of (texts c.args.words.now)) (g.R.Referee.asked c.args.referee.now) (g.R.Referee.asked c.run_command.new.referee) c.run_command.result c.in-Ok.ensures c.run_command.ensures.asks

pub returns-in-Err-Refused-clause-ends : goal.returns-in-Err-Refused-clause-ends
returns-in-Err-Refused-clause-ends g c =
    let files = files_change (g.F.Files.bytes c.args.files.now) (g.F.Files.faults c.args.files.now) (g.F.Files.faults c.args.files.now) (g.F.Files.taken c.args.files.now) in
    let out = change (g.O.Sink.written c.args.out.now) (g.O.Sink.written c.args.out.now) (g.O.Sink.faults c.args.out.now) (g.O.Sink.faults c.args.out.now) in
    words_refused files out (texts c.args.words.now) c.refuse_words.result (asks_nothing (texts c.args.words.now) (rw c.in-Err-Refused.field-0-is at c.in-Err-Refused.ensures)) c.refuse_words.ensures refl

pub returns-in-Err-Memory-clause-ends : goal.returns-in-Err-Memory-clause-ends
returns-in-Err-Memory-clause-ends g c = inl (kept (g.O.Sink.written c.args.out.now))

pub returns-in-Err-Refused-clause-asks : goal.returns-in-Err-Refused-clause-asks
returns-in-Err-Refused-clause-asks g c =
    asks_nobody (g.F.Files.bytes c.args.files.now) (command_of (texts c.args.words.now)) (g.R.Referee.asked c.args.referee.now) (Err c.refuse_words.result) (asks_nothing (texts c.args.words.now) (rw c.in-Err-Refused.field-0-is at c.in-Err-Refused.ensures))

pub returns-in-Err-Memory-clause-asks : goal.returns-in-Err-Memory-clause-asks
returns-in-Err-Memory-clause-asks g c = asks_no_memory (g.F.Files.bytes c.args.files.now) (command_of (texts c.args.words.now)) (g.R.Referee.asked c.args.referee.now)
