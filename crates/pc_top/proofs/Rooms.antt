-- The rooms, one for each command.
use Rattle.pc_args.specs.Asked.{Asked, check, events, explain, judge, make, outcomes, places, play, run, schedule_of, sends, show, swap, trace, upgrade}
use Rattle.pc_refusals.specs.Verdict.{Files}
use Rattle.pc_top.proofs.{Room.Room, Rooms.Check.check_room, Rooms.Events.events_room, Rooms.Explain.explain_room, Rooms.Judge.judge_room, Rooms.Make.make_room, Rooms.Outcomes.outcomes_room, Rooms.Places.places_room, Rooms.Play.play_room, Rooms.Run.run_room, Rooms.Schedule.schedule_room, Rooms.Sends.sends_room, Rooms.Show.show_room, Rooms.Swap.swap_room, Rooms.Trace.trace_room, Rooms.Upgrade.upgrade_room}
pub mod Check
pub mod Events
pub mod Explain
pub mod Judge
pub mod Make
pub mod Outcomes
pub mod Places
pub mod Play
pub mod Run
pub mod Schedule
pub mod Sends
pub mod Show
pub mod Swap
pub mod Trace
pub mod Upgrade

pub room_of : (files : Files) (asked : Asked) → Room files asked
room_of files (check source) = check_room files source
room_of files (judge source derivation) = judge_room files source derivation
room_of files (run source schedule) = run_room files source schedule
room_of files (show source) = show_room files source
room_of files (make seed size) = make_room files seed size
room_of files (swap source schedule place) = swap_room files source schedule place
room_of files (trace source schedule) = trace_room files source schedule
room_of files (events source schedule) = events_room files source schedule
room_of files (places source) = places_room files source
room_of files (explain source) = explain_room files source
room_of files (sends source) = sends_room files source
room_of files (upgrade source derivation) = upgrade_room files source derivation
room_of files (schedule_of source seed) = schedule_room files source seed
room_of files (play source seed) = play_room files source seed
room_of files (outcomes source count) = outcomes_room files source count
