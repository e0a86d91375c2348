-- The room of `events`.
use Rattle.std.proofs.Common.{◌≡◌, ◌⊎◌, ℕ, List, [], Ok, Err, inl, inr, refl, subst}
use Rattle.std.specs.{Prelude.IfSome, Io.KnownBytes.Appends}
use Rattle.pc_base.specs.Lists.{Text}
use Rattle.pc_args.specs.Asked.{events}
use Rattle.pc_core.specs.CoreData.{CoreData}
use Rattle.pc_io.specs.Sink.{Change}
use Rattle.pc_run.specs.Spreading.{spread}
use Rattle.pc_run_events.specs.{Lines.events_text_of_run, declared.events.RunEvent.RunEvent}
use Rattle.pc_refusals.specs.Verdict.{Files, Named, named, EndsWith, Verdict, IsAccepting, done}
use Rattle.pc_refusals.proofs.{LastStages.{ends_cases, ends_one, ends_status}, Statuses.IsLate}
use Rattle.pc_commands.specs.Events.{EventsTelling, AreEventsOfRun}
use Rattle.pc_top.specs.{Commands.Events.{IsEvents, WritesEvents}, Shapes.{LastOfTurns, OfTurns}}
use Rattle.pc_top.proofs.{Accepted.both_by, Begins.begins, Room.{Room, inferring}, Shapes.{scheduled_one, scheduled_says, turns_late}}
use Rattle.pc_commands.proofs.{EventsTold.{events_cut, events_say, telling_late}, OneEvents.one_telling}

abbrev Last : LastOfTurns
Last name core list = EndsWith (EventsTelling name core list)

-- ---- its statuses

told_late : (name : Text) (core : CoreData) (list : List ℕ) (v : Verdict) → Last name core list v → IsLate v.status
told_late name core list = ends_status (λ text. text) (EventsTelling name core list) IsLate (inl refl) (λ w h. telling_late h)

-- ---- what is on out

-- Out grew by the report on the run, or by nothing, and then the status is 12.
abbrev Wrote : Change → ℕ → Text → Text → Type 0
Wrote out status source schedule = WritesEvents out source schedule ⊎ ((status ≡ 12) × Appends out.before out.now [])

wrote_by : (out : Change) (v : Verdict) (name : Text) (core : CoreData) (list : List ℕ) (source schedule : Text) → IsAccepting v.status → Appends out.before out.now v.out
    → ((events : List RunEvent) → AreEventsOfRun core list events → Appends out.before out.now (events_text_of_run core events)
    → WritesEvents out source schedule)
    → ((text : Text) × EventsTelling name core list (Ok text) × (v ≡ done text)) ⊎ EventsTelling name core list (Err v)
    → Wrote out v.status source schedule
wrote_by out v name core list source schedule e o by (inl (text, h, is)) =
    let t = events_say h in
    let grew : Appends out.before out.now text = subst (λ (w : Verdict). Appends out.before out.now w.out) is o in
    inl (by t.0 t.1 (subst (λ (x : Text). Appends out.before out.now x) t.2 grew))
wrote_by out v name core list source schedule e o by (inr h) =
    let c = events_cut h e in
    inr (c.0, subst (λ (t : Text). Appends out.before out.now t) c.1 o)

wrote_on_out : (file schedule : Named) (v : Verdict) (out : Change) → IsEvents file schedule v → IsAccepting v.status → Appends out.before out.now v.out
    → IfSome file.known (λ bytes. IfSome schedule.known (Wrote out v.status bytes))
wrote_on_out file schedule v out is e o =
    scheduled_says Last file schedule (Wrote out v.status) v e
    (λ bytes text core turns of_bytes is_list l.
    wrote_by out v schedule.name core (spread turns) bytes text e o (λ events h g. (core, of_bytes, turns, is_list, events, h, g))
    (ends_cases (λ (x : Text). x) (EventsTelling schedule.name core (spread turns)) v l)) is

-- what `events` wrote, or nothing
abbrev Grew : Change → Text → Text → Type 0
Grew out source schedule = WritesEvents out source schedule ⊎ Appends out.before out.now []

grew_by : (out : Change) (status : ℕ) (source schedule : Text) → Wrote out status source schedule → Grew out source schedule
grew_by out status source schedule (inl w) = inl w
grew_by out status source schedule (inr w) = inr w.1

pub events_room : (files : Files) (source schedule : Text) → Room files (events source schedule)
events_room files source schedule =
    let file = named files source in
    let turns = named files schedule in
    inferring files (events source schedule) source refl refl
    (λ v is. inl (begins (OfTurns Last turns) file (turns_late Last file turns told_late) v is))
    (λ laws unfailed known. scheduled_one Last file turns laws known.0 unfailed.0 known.1.0 unfailed.1.0
    (λ name core list. ends_one (λ text. text) (EventsTelling name core list) (one_telling core list name)))
    (λ tells v out is e o. both_by (Wrote out v.status) (Grew out) file.known turns.known (λ x y. grew_by out v.status x y) (wrote_on_out file turns v out is e o))
