use Rattle.std.proofs.Common.{ap}
use Rattle.pc_args.specs.{Asked.{check, events, explain, judge, make, outcomes, places, play, run, schedule_of, sends, show, swap, trace, upgrade}, Commands.asked_by}
use Rattle.pc_io.specs.Sink.{change}
use Rattle.pc_refusals.specs.Verdict.{files_change}
use Rattle.pc_top.proofs.{Asking.{asks_judge, asks_other}, Ending.{command_ends, command_puts}, Rooms.Judge.asks_put}
use Rattle.pc_top.proofs.commands.run_command.Goals as goal

pub returns-in-Check-clause-ends : goal.returns-in-Check-clause-ends
returns-in-Check-clause-ends g c =
    let files = files_change (g.F.Files.bytes c.args.files.now) (g.F.Files.faults c.args.files.now) (g.F.Files.faults c.check_source.new.files) (g.F.Files.taken c.check_source.new.files) in
    let out = change (g.O.Sink.written c.args.out.now) (g.O.Sink.written c.put_answer.new.out) (g.O.Sink.faults c.args.out.now) (g.O.Sink.faults c.put_answer.new.out) in
    command_puts files out (asked_by c.args.command) (check c.in-Check.source.now) c.check_source.result c.put_answer.result (ap asked_by c.in-Check.is) c.check_source.ensures.answers c.put_answer.ensures.puts

pub returns-in-Check-clause-asks : goal.returns-in-Check-clause-asks
returns-in-Check-clause-asks g c = asks_other (g.F.Files.bytes c.args.files.now) (asked_by c.args.command) (check c.in-Check.source.now) (g.R.Referee.asked c.args.referee.now) c.put_answer.result (ap asked_by c.in-Check.is) (λ s d e. cc)

pub returns-in-Judge-clause-ends : goal.returns-in-Judge-clause-ends
returns-in-Judge-clause-ends g c =
    let files = files_change (g.F.Files.bytes c.args.files.now) (g.F.Files.faults c.args.files.now) (g.F.Files.faults c.judge_source.new.files) (g.F.Files.taken c.judge_source.new.files) in
    let out = change (g.O.Sink.written c.args.out.now) (g.O.Sink.written c.put_answer-in-Judge.new.out) (g.O.Sink.faults c.args.out.now) (g.O.Sink.faults c.put_answer-in-Judge.new.out) in
    command_puts files out (asked_by c.args.command) (judge c.in-Judge.source.now c.in-Judge.derivation.now) c.judge_source.result c.put_answer-in-Judge.result (ap asked_by c.in-Judge.is) c.judge_source.ensures.answers c.put_answer-in-Judge.ensures.puts

pub returns-in-Judge-clause-asks : goal.returns-in-Judge-clause-asks
returns-in-Judge-clause-asks g c =
    let known = g.F.Files.bytes c.args.files.now in
    let before = g.R.Referee.asked c.args.referee.now in
    let after = g.R.Referee.asked c.judge_source.new.referee in
    let out = change (g.O.Sink.written c.args.out.now) (g.O.Sink.written c.put_answer-in-Judge.new.out) (g.O.Sink.faults c.args.out.now) (g.O.Sink.faults c.put_answer-in-Judge.new.out) in
    asks_judge known (asked_by c.args.command) c.in-Judge.source.now c.in-Judge.derivation.now before after c.put_answer-in-Judge.result (ap asked_by c.in-Judge.is)
    (asks_put (known c.in-Judge.source.now) (known c.in-Judge.derivation.now) before after out c.judge_source.result c.put_answer-in-Judge.result c.judge_source.ensures.asks c.put_answer-in-Judge.ensures.puts)

pub returns-in-Show-clause-ends : goal.returns-in-Show-clause-ends
returns-in-Show-clause-ends g c =
    let files = files_change (g.F.Files.bytes c.args.files.now) (g.F.Files.faults c.args.files.now) (g.F.Files.faults c.show_source.new.files) (g.F.Files.taken c.show_source.new.files) in
    let out = change (g.O.Sink.written c.args.out.now) (g.O.Sink.written c.put_answer-in-Show.new.out) (g.O.Sink.faults c.args.out.now) (g.O.Sink.faults c.put_answer-in-Show.new.out) in
    command_puts files out (asked_by c.args.command) (show c.in-Show.source.now) c.show_source.result c.put_answer-in-Show.result (ap asked_by c.in-Show.is) c.show_source.ensures.answers c.put_answer-in-Show.ensures.puts

pub returns-in-Show-clause-asks : goal.returns-in-Show-clause-asks
returns-in-Show-clause-asks g c = asks_other (g.F.Files.bytes c.args.files.now) (asked_by c.args.command) (show c.in-Show.source.now) (g.R.Referee.asked c.args.referee.now) c.put_answer-in-Show.result (ap asked_by c.in-Show.is) (λ s d e. cc)

pub returns-in-Swap-clause-ends : goal.returns-in-Swap-clause-ends
returns-in-Swap-clause-ends g c =
    let files = files_change (g.F.Files.bytes c.args.files.now) (g.F.Files.faults c.args.files.now) (g.F.Files.faults c.swap_turns.new.files) (g.F.Files.taken c.swap_turns.new.files) in
    let out = change (g.O.Sink.written c.args.out.now) (g.O.Sink.written c.put_answer-in-Swap.new.out) (g.O.Sink.faults c.args.out.now) (g.O.Sink.faults c.put_answer-in-Swap.new.out) in
    command_puts files out (asked_by c.args.command) (swap c.in-Swap.source.now c.in-Swap.schedule.now c.in-Swap.place.now) c.swap_turns.result c.put_answer-in-Swap.result (ap asked_by c.in-Swap.is) c.swap_turns.ensures.answers c.put_answer-in-Swap.ensures.puts

pub returns-in-Swap-clause-asks : goal.returns-in-Swap-clause-asks
returns-in-Swap-clause-asks g c = asks_other (g.F.Files.bytes c.args.files.now) (asked_by c.args.command) (swap c.in-Swap.source.now c.in-Swap.schedule.now c.in-Swap.place.now) (g.R.Referee.asked c.args.referee.now) c.put_answer-in-Swap.result (ap asked_by c.in-Swap.is) (λ s d e. cc)

pub returns-in-Trace-clause-ends : goal.returns-in-Trace-clause-ends
returns-in-Trace-clause-ends g c =
    let files = files_change (g.F.Files.bytes c.args.files.now) (g.F.Files.faults c.args.files.now) (g.F.Files.faults c.trace_run.new.files) (g.F.Files.taken c.trace_run.new.files) in
    let out = change (g.O.Sink.written c.args.out.now) (g.O.Sink.written c.put_answer-in-Trace.new.out) (g.O.Sink.faults c.args.out.now) (g.O.Sink.faults c.put_answer-in-Trace.new.out) in
    command_puts files out (asked_by c.args.command) (trace c.in-Trace.source.now c.in-Trace.schedule.now) c.trace_run.result c.put_answer-in-Trace.result (ap asked_by c.in-Trace.is) c.trace_run.ensures.answers c.put_answer-in-Trace.ensures.puts

pub returns-in-Trace-clause-asks : goal.returns-in-Trace-clause-asks
returns-in-Trace-clause-asks g c = asks_other (g.F.Files.bytes c.args.files.now) (asked_by c.args.command) (trace c.in-Trace.source.now c.in-Trace.schedule.now) (g.R.Referee.asked c.args.referee.now) c.put_answer-in-Trace.result (ap asked_by c.in-Trace.is) (λ s d e. cc)

pub returns-in-Events-clause-ends : goal.returns-in-Events-clause-ends
returns-in-Events-clause-ends g c =
    let files = files_change (g.F.Files.bytes c.args.files.now) (g.F.Files.faults c.args.files.now) (g.F.Files.faults c.tell_events.new.files) (g.F.Files.taken c.tell_events.new.files) in
    let out = change (g.O.Sink.written c.args.out.now) (g.O.Sink.written c.put_answer-in-Events.new.out) (g.O.Sink.faults c.args.out.now) (g.O.Sink.faults c.put_answer-in-Events.new.out) in
    command_puts files out _ (events c.in-Events.source.now c.in-Events.schedule.now) _ _ (ap asked_by c.in-Events.is) c.tell_events.ensures.answers c.put_answer-in-Events.ensures.puts

pub returns-in-Events-clause-asks : goal.returns-in-Events-clause-asks
returns-in-Events-clause-asks g c = asks_other _ _ (events c.in-Events.source.now c.in-Events.schedule.now) _ _ (ap asked_by c.in-Events.is) (λ s d e. cc)

pub returns-in-Places-clause-ends : goal.returns-in-Places-clause-ends
returns-in-Places-clause-ends g c =
    let files = files_change (g.F.Files.bytes c.args.files.now) (g.F.Files.faults c.args.files.now) (g.F.Files.faults c.tell_places.new.files) (g.F.Files.taken c.tell_places.new.files) in
    let out = change (g.O.Sink.written c.args.out.now) (g.O.Sink.written c.put_answer-in-Places.new.out) (g.O.Sink.faults c.args.out.now) (g.O.Sink.faults c.put_answer-in-Places.new.out) in
    command_puts files out _ (places c.in-Places.source.now) _ _ (ap asked_by c.in-Places.is) c.tell_places.ensures.answers c.put_answer-in-Places.ensures.puts

pub returns-in-Places-clause-asks : goal.returns-in-Places-clause-asks
returns-in-Places-clause-asks g c = asks_other _ _ (places c.in-Places.source.now) _ _ (ap asked_by c.in-Places.is) (λ s d e. cc)

pub returns-in-Explain-clause-ends : goal.returns-in-Explain-clause-ends
returns-in-Explain-clause-ends g c =
    let files = files_change (g.F.Files.bytes c.args.files.now) (g.F.Files.faults c.args.files.now) (g.F.Files.faults c.explain_source.new.files) (g.F.Files.taken c.explain_source.new.files) in
    let out = change (g.O.Sink.written c.args.out.now) (g.O.Sink.written c.put_answer-in-Explain.new.out) (g.O.Sink.faults c.args.out.now) (g.O.Sink.faults c.put_answer-in-Explain.new.out) in
    command_puts files out _ (explain c.in-Explain.source.now) _ _ (ap asked_by c.in-Explain.is) c.explain_source.ensures.answers c.put_answer-in-Explain.ensures.puts

pub returns-in-Explain-clause-asks : goal.returns-in-Explain-clause-asks
returns-in-Explain-clause-asks g c = asks_other _ _ (explain c.in-Explain.source.now) _ _ (ap asked_by c.in-Explain.is) (λ s d e. cc)

pub returns-in-Sends-clause-ends : goal.returns-in-Sends-clause-ends
returns-in-Sends-clause-ends g c =
    let files = files_change (g.F.Files.bytes c.args.files.now) (g.F.Files.faults c.args.files.now) (g.F.Files.faults c.tell_sends.new.files) (g.F.Files.taken c.tell_sends.new.files) in
    let out = change (g.O.Sink.written c.args.out.now) (g.O.Sink.written c.put_answer-in-Sends.new.out) (g.O.Sink.faults c.args.out.now) (g.O.Sink.faults c.put_answer-in-Sends.new.out) in
    command_puts files out (asked_by c.args.command) (sends c.in-Sends.source.now) c.tell_sends.result c.put_answer-in-Sends.result (ap asked_by c.in-Sends.is) c.tell_sends.ensures.answers c.put_answer-in-Sends.ensures.puts

pub returns-in-Sends-clause-asks : goal.returns-in-Sends-clause-asks
returns-in-Sends-clause-asks g c = asks_other (g.F.Files.bytes c.args.files.now) (asked_by c.args.command) (sends c.in-Sends.source.now) (g.R.Referee.asked c.args.referee.now) c.put_answer-in-Sends.result (ap asked_by c.in-Sends.is) (λ s d e. cc)

pub returns-in-Upgrade-clause-ends : goal.returns-in-Upgrade-clause-ends
returns-in-Upgrade-clause-ends g c =
    let files = files_change (g.F.Files.bytes c.args.files.now) (g.F.Files.faults c.args.files.now) (g.F.Files.faults c.upgrade_derivation.new.files) (g.F.Files.taken c.upgrade_derivation.new.files) in
    let out = change (g.O.Sink.written c.args.out.now) (g.O.Sink.written c.put_answer-in-Upgrade.new.out) (g.O.Sink.faults c.args.out.now) (g.O.Sink.faults c.put_answer-in-Upgrade.new.out) in
    command_puts files out (asked_by c.args.command) (upgrade c.in-Upgrade.source.now c.in-Upgrade.derivation.now) c.upgrade_derivation.result c.put_answer-in-Upgrade.result (ap asked_by c.in-Upgrade.is) c.upgrade_derivation.ensures.answers c.put_answer-in-Upgrade.ensures.puts

pub returns-in-Upgrade-clause-asks : goal.returns-in-Upgrade-clause-asks
returns-in-Upgrade-clause-asks g c = asks_other (g.F.Files.bytes c.args.files.now) (asked_by c.args.command) (upgrade c.in-Upgrade.source.now c.in-Upgrade.derivation.now) (g.R.Referee.asked c.args.referee.now) c.put_answer-in-Upgrade.result (ap asked_by c.in-Upgrade.is) (λ s d e. cc)

pub returns-in-Schedule-clause-ends : goal.returns-in-Schedule-clause-ends
returns-in-Schedule-clause-ends g c =
    let files = files_change (g.F.Files.bytes c.args.files.now) (g.F.Files.faults c.args.files.now) (g.F.Files.faults c.choose_schedule.new.files) (g.F.Files.taken c.choose_schedule.new.files) in
    let out = change (g.O.Sink.written c.args.out.now) (g.O.Sink.written c.put_answer-in-Schedule.new.out) (g.O.Sink.faults c.args.out.now) (g.O.Sink.faults c.put_answer-in-Schedule.new.out) in
    command_puts files out _ (schedule_of c.in-Schedule.source.now c.in-Schedule.seed.now) _ _ (ap asked_by c.in-Schedule.is) c.choose_schedule.ensures.answers c.put_answer-in-Schedule.ensures.puts

pub returns-in-Schedule-clause-asks : goal.returns-in-Schedule-clause-asks
returns-in-Schedule-clause-asks g c = asks_other _ _ (schedule_of c.in-Schedule.source.now c.in-Schedule.seed.now) _ _ (ap asked_by c.in-Schedule.is) (λ s d e. cc)

pub returns-in-Outcomes-clause-ends : goal.returns-in-Outcomes-clause-ends
returns-in-Outcomes-clause-ends g c =
    let files = files_change (g.F.Files.bytes c.args.files.now) (g.F.Files.faults c.args.files.now) (g.F.Files.faults c.tell_outcomes.new.files) (g.F.Files.taken c.tell_outcomes.new.files) in
    let out = change (g.O.Sink.written c.args.out.now) (g.O.Sink.written c.put_answer-in-Outcomes.new.out) (g.O.Sink.faults c.args.out.now) (g.O.Sink.faults c.put_answer-in-Outcomes.new.out) in
    command_puts files out _ (outcomes c.in-Outcomes.source.now c.in-Outcomes.count.now) _ _ (ap asked_by c.in-Outcomes.is) c.tell_outcomes.ensures.answers c.put_answer-in-Outcomes.ensures.puts

pub returns-in-Outcomes-clause-asks : goal.returns-in-Outcomes-clause-asks
returns-in-Outcomes-clause-asks g c = asks_other _ _ (outcomes c.in-Outcomes.source.now c.in-Outcomes.count.now) _ _ (ap asked_by c.in-Outcomes.is) (λ s d e. cc)

pub returns-in-Play-clause-ends : goal.returns-in-Play-clause-ends
returns-in-Play-clause-ends g c =
    let files = files_change (g.F.Files.bytes c.args.files.now) (g.F.Files.faults c.args.files.now) (g.F.Files.faults c.play_source.new.files) (g.F.Files.taken c.play_source.new.files) in
    let out = change (g.O.Sink.written c.args.out.now) (g.O.Sink.written c.play_source.new.out) (g.O.Sink.faults c.args.out.now) (g.O.Sink.faults c.play_source.new.out) in
    command_ends files out _ (play c.in-Play.source.now c.in-Play.seed.now) _ (ap asked_by c.in-Play.is) c.play_source.ensures.ends

pub returns-in-Play-clause-asks : goal.returns-in-Play-clause-asks
returns-in-Play-clause-asks g c = asks_other _ _ (play c.in-Play.source.now c.in-Play.seed.now) _ _ (ap asked_by c.in-Play.is) (λ s d e. cc)

pub returns-in-Run-clause-ends : goal.returns-in-Run-clause-ends
returns-in-Run-clause-ends g c =
    let files = files_change (g.F.Files.bytes c.args.files.now) (g.F.Files.faults c.args.files.now) (g.F.Files.faults c.run_source.new.files) (g.F.Files.taken c.run_source.new.files) in
    let out = change (g.O.Sink.written c.args.out.now) (g.O.Sink.written c.run_source.new.out) (g.O.Sink.faults c.args.out.now) (g.O.Sink.faults c.run_source.new.out) in
    command_ends files out (asked_by c.args.command) (run c.in-Run.source.now c.in-Run.schedule.now) c.run_source.result (ap asked_by c.in-Run.is) c.run_source.ensures.ends

pub returns-in-Run-clause-asks : goal.returns-in-Run-clause-asks
returns-in-Run-clause-asks g c = asks_other (g.F.Files.bytes c.args.files.now) (asked_by c.args.command) (run c.in-Run.source.now c.in-Run.schedule.now) (g.R.Referee.asked c.args.referee.now) c.run_source.result (ap asked_by c.in-Run.is) (λ s d e. cc)

pub returns-in-Make-clause-ends : goal.returns-in-Make-clause-ends
returns-in-Make-clause-ends g c =
    let files = files_change (g.F.Files.bytes c.args.files.now) (g.F.Files.faults c.args.files.now) (g.F.Files.faults c.args.files.now) (g.F.Files.taken c.args.files.now) in
    let out = change (g.O.Sink.written c.args.out.now) (g.O.Sink.written c.make_program.new.out) (g.O.Sink.faults c.args.out.now) (g.O.Sink.faults c.make_program.new.out) in
    command_ends files out (asked_by c.args.command) (make c.in-Make.seed.now c.in-Make.size.now) c.make_program.result (ap asked_by c.in-Make.is) c.make_program.ensures.ends

pub returns-in-Make-clause-asks : goal.returns-in-Make-clause-asks
returns-in-Make-clause-asks g c = asks_other (g.F.Files.bytes c.args.files.now) (asked_by c.args.command) (make c.in-Make.seed.now c.in-Make.size.now) (g.R.Referee.asked c.args.referee.now) c.make_program.result (ap asked_by c.in-Make.is) (λ s d e. cc)
