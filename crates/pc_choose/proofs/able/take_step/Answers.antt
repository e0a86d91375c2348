use Rattle.std.proofs.Common.{◌∙◌, ap, sym}
use Rattle.pc_semantics.specs.declared.outcome.Outcome.{Outcome}
use Rattle.pc_choose.proofs.{Places.are_known, Marking.{counts, kept, kept_at_lack}}
use Rattle.pc_choose.proofs.able.take_step.Goals as goal

pub note-requires-clause-marks : goal.note-requires-clause-marks
note-requires-clause-marks c = are_known c.args.machine.now.configuration c.args.marks.now c.requires.known

pub note-requires-clause-count : goal.note-requires-clause-count
note-requires-clause-count c =
    counts c.args.machine.now.core c.args.machine.now.configuration c.step.new.self.configuration c.args.actor c.args.marks.now c.args.ahead c.requires.known c.requires.ahead
    (ap (λ (o : Outcome). (o, c.step.new.self.configuration)) (sym c.in-Moved.is) ∙ c.in_ok-step.ensures.ok)

pub returns-in_ok-next-in-Moved-clause-known : goal.returns-in_ok-next-in-Moved-clause-known
returns-in_ok-next-in-Moved-clause-known c =
    kept c.args.machine.now.core c.args.machine.now.configuration c.step.new.self.configuration c.args.actor c.args.marks.now c.args.ahead c.requires.known c.requires.ahead
    (ap (λ (o : Outcome). (o, c.step.new.self.configuration)) (sym c.in-Moved.is) ∙ c.in_ok-step.ensures.ok) c.note.new.marks c.in_ok-next-in-Moved.ensures.marks

pub returns-in-Lacks-clause-known : goal.returns-in-Lacks-clause-known
returns-in-Lacks-clause-known c =
    kept_at_lack c.args.machine.now.core c.args.machine.now.configuration c.step.new.self.configuration c.args.actor c.args.marks.now c.args.ahead c.requires.known c.requires.ahead c.in-Lacks.lack
    (ap (λ (o : Outcome). (o, c.step.new.self.configuration)) (sym c.in-Lacks.is) ∙ c.in_ok-step.ensures.ok)
