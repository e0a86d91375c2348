use Rattle.std.proofs.Common.{refl}
use Rattle.pc_io.specs.Sink.{change}
use Rattle.pc_refusal_lines.specs.Lines.{usage_line}
use Rattle.pc_refusals.proofs.Ending.{ends_by, stop_ends, words_stop}
use Rattle.pc_top.specs.{Commands.Make.{IsMade, IsMake}, Commands.Make.IsMake.{made, no_numbers}}
use Rattle.pc_top.proofs.commands.make.make_program.Goals as goal

pub returns-in-Some-clause-ends : goal.returns-in-Some-clause-ends
returns-in-Some-clause-ends g c =
    let a = c.in-Some.seed in
    let b = c.in-Some.size in
    let out = change (g.O.Sink.written c.args.out.now) (g.O.Sink.written c.run_made.new.out) (g.O.Sink.faults c.args.out.now) (g.O.Sink.faults c.run_made.new.out) in
    ends_by (IsMade a b) (IsMake c.args.seed.now c.args.size.now) (λ n. ⊥) (λ n. ⊥) (λ v m. made a b c.in-Some.ensures.0 c.in-Some.ensures.1 m) (λ n f. f) out c.run_made.result c.run_made.ensures.ends

pub returns-in-None-clause-ends : goal.returns-in-None-clause-ends
returns-in-None-clause-ends g c =
    let made = IsMake c.args.seed.now c.args.size.now in
    let out = change (g.O.Sink.written c.args.out.now) (g.O.Sink.written c.args.out.now) (g.O.Sink.faults c.args.out.now) (g.O.Sink.faults c.args.out.now) in
    stop_ends made (λ n. ⊥) out c.refuse_words.result (words_stop made (λ n. ⊥) 2 usage_line c.refuse_words.result (no_numbers c.in-None.ensures refl) c.refuse_words.ensures) refl
