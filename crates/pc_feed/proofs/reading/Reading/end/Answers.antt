use Rattle.pc_feed.proofs.Fed.{text_fault, judged_ends}
use Rattle.pc_feed.proofs.reading.Reading.end.Goals as goal

pub returns-in-Err-clause-fed : goal.returns-in-Err-clause-fed
returns-in-Err-clause-fed c = λ bytes read. text_fault bytes c.args.self.now.lines c.in-Err.fault read.taken c.in-Err.ensures

pub returns-in-Ok-clause-fed : goal.returns-in-Ok-clause-fed
returns-in-Ok-clause-fed c = λ bytes read. judged_ends c.args.core.now bytes c.args.self.now c.in-Ok.field-0 c.end.result read c.in-Ok.ensures c.end.ensures
