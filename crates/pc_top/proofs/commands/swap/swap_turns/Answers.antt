use Rattle.std.proofs.Common.{refl}
use Rattle.pc_refusal_lines.specs.Lines.{usage_line}
use Rattle.pc_refusals.specs.Verdict.{files_change, named}
use Rattle.pc_refusals.proofs.Ending.{answers_by, words_stop}
use Rattle.pc_top.specs.{Commands.Swap.{IsSwap, IsSwapAt, UnreadSwap}, Commands.Swap.IsSwap.{no_number, placed}, Shapes.UnreadScheduled}
use Rattle.pc_top.proofs.commands.swap.swap_turns.Goals as goal

pub returns-in-Some-clause-answers : goal.returns-in-Some-clause-answers
returns-in-Some-clause-answers g c =
    let files = files_change (g.F.Files.bytes c.args.files.now) (g.F.Files.faults c.args.files.now) (g.F.Files.faults c.swap_at.new.files) (g.F.Files.taken c.swap_at.new.files) in
    let source = named files c.args.source.now in
    let schedule = named files c.args.schedule.now in
    let place = c.in-Some.place in
    answers_by (IsSwapAt source schedule place) (IsSwap source schedule c.args.place.now) (UnreadScheduled source schedule) (UnreadSwap source schedule c.args.place.now)
    (λ v m. placed place c.in-Some.ensures m) (λ n f. ((place, c.in-Some.ensures), f)) c.swap_at.result c.swap_at.ensures.answers

pub returns-in-None-clause-answers : goal.returns-in-None-clause-answers
returns-in-None-clause-answers g c =
    let files = files_change (g.F.Files.bytes c.args.files.now) (g.F.Files.faults c.args.files.now) (g.F.Files.faults c.args.files.now) (g.F.Files.taken c.args.files.now) in
    let source = named files c.args.source.now in
    let schedule = named files c.args.schedule.now in
    words_stop (IsSwap source schedule c.args.place.now) (UnreadSwap source schedule c.args.place.now) 2 usage_line c.refuse_words.result (no_number c.in-None.ensures refl) c.refuse_words.ensures
