use Rattle.pc_commands.specs.Events.EventsTelling.{tells}
use Rattle.pc_commands.proofs.EventsTold.{long_told, many_told}
use Rattle.pc_commands.proofs.events.tell_list.Goals as goal

pub returns-in_ok-write_events-in-Ok : goal.returns-in_ok-write_events-in-Ok
returns-in_ok-write_events-in-Ok c = tells c.in-Ok.events c.in_ok-write_events-in-Ok.field-0 c.in-Ok.ensures (rw (← c.as_slice.ensures) c.in_ok-write_events-in-Ok.ensures)

pub returns-in_ok-make_too_long_line-in-Err-TooLong : goal.returns-in_ok-make_too_long_line-in-Err-TooLong
returns-in_ok-make_too_long_line-in-Err-TooLong c =
    let stops = rw c.in-Err-TooLong.field-0-is at c.in-Err-TooLong.ensures in
    long_told c.args.name.now c.args.core.now c.args.list.now c.in-Err-TooLong.step c.in_ok-make_too_long_line-in-Err-TooLong.field-0 stops c.in_ok-make_too_long_line-in-Err-TooLong.ensures

pub returns-in_ok-make_many_actors_line-in-Err-TooMany : goal.returns-in_ok-make_many_actors_line-in-Err-TooMany
returns-in_ok-make_many_actors_line-in-Err-TooMany c =
    let stops = rw c.in-Err-TooMany.field-0-is at c.in-Err-TooMany.ensures in
    many_told c.args.name.now c.args.core.now c.args.list.now c.in-Err-TooMany.step c.in_ok-make_many_actors_line-in-Err-TooMany.field-0 stops c.in_ok-make_many_actors_line-in-Err-TooMany.ensures
