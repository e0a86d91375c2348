-- What the commands that are read from words ask for.
use Rattle.pc_args.specs.{declared.words.Command.Command, declared.words.Command.TheVariants.{Check, Judge, Run, Show, Make, Swap, Trace, Sends, Upgrade, Schedule, Play, Outcomes, Places, Events, Explain}, Asked.{Asked, check, judge, run, show, make, swap, trace, events, places, explain, sends, upgrade, schedule_of, play, outcomes}}

abbrev pub asked_by : Command → Asked
asked_by (Check source) = check source.now
asked_by (Judge source derivation) = judge source.now derivation.now
asked_by (Run source schedule) = run source.now schedule.now
asked_by (Show source) = show source.now
asked_by (Make seed size) = make seed.now size.now
asked_by (Swap source schedule place) = swap source.now schedule.now place.now
asked_by (Trace source schedule) = trace source.now schedule.now
asked_by (Events source schedule) = events source.now schedule.now
asked_by (Places source) = places source.now
asked_by (Explain source) = explain source.now
asked_by (Sends source) = sends source.now
asked_by (Upgrade source derivation) = upgrade source.now derivation.now
asked_by (Schedule source seed) = schedule_of source.now seed.now
asked_by (Play source seed) = play source.now seed.now
asked_by (Outcomes source count) = outcomes source.now count.now
