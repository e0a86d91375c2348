use Rattle.pc_deriv.proofs.Outcome.{answers_text, answers_fault}
use Rattle.pc_deriv.proofs.reading.read.Goals as goal

pub returns-clause-texts : goal.returns-clause-texts
returns-clause-texts c ann is = answers_text c.args.bytes.now c.read_lines.result ann c.read_lines.ensures.ok c.read_lines.ensures.err is

pub returns-clause-faults : goal.returns-clause-faults
returns-clause-faults c fault is = answers_fault c.args.bytes.now c.read_lines.result fault c.read_lines.ensures.ok c.read_lines.ensures.err is
