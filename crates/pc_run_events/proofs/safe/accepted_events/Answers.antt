use Rattle.pc_run_events.specs.Events.{touches_in}
use Rattle.pc_run_events.proofs.{Naming.all_named, Turning.all_events}
use Rattle.pc_run_events.proofs.safe.accepted_events.Goals as goal
use Rattle.pc_trace.proofs.Whole.{never_lacks, told_safe}

pub unreachable-requires : goal.unreachable-requires
unreachable-requires c = never_lacks c.args.core.now c.requires.safe c.args.list.now c.in-Err-Lacks.field-0-0 c.in-Err-Lacks.field-0 c.in-Err-Lacks.field-0-is c.in-Err-Lacks.ensures

pub returns-in-Ok : goal.returns-in-Ok
returns-in-Ok c =
    let known = c.in-Ok.ensures in
    let told = told_safe c.args.core.now c.args.list.now (touches_in c.in-Ok.events) known.1 c.requires.safe known.0 in
    let all = all_events c.args.core.now c.args.list.now c.in-Ok.events known.2 in
    (known.0, all, told.1, told.2, all_named c.args.core.now c.formed.ensures c.requires.safe c.args.list.now c.in-Ok.events all)
