use Rattle.pc_trace.proofs.Whole.{told_safe, never_lacks}
use Rattle.pc_trace.proofs.tracing.accepted_trace.Goals as goal

pub unreachable-requires : goal.unreachable-requires
unreachable-requires c = never_lacks c.args.core.now c.requires.safe c.args.list.now c.in-Err-Lacks.field-0-0 c.in-Err-Lacks.field-0 c.in-Err-Lacks.field-0-is c.in-Err-Lacks.ensures

pub returns-in-Ok : goal.returns-in-Ok
returns-in-Ok c = let known = c.in-Ok.ensures in told_safe c.args.core.now c.args.list.now c.in-Ok.touches known.1 c.requires.safe known.0
