-- The room of `trace`.
use Rattle.std.proofs.Common.{◌≡◌, ◌⊎◌, ℕ, List, [], Ok, Err, inl, inr, refl, subst, arith}
use Rattle.std.specs.{Prelude.IfSome, Io.KnownBytes.Appends}
use Rattle.pc_base.specs.Lists.{Text}
use Rattle.pc_args.specs.Asked.{trace}
use Rattle.pc_core.specs.CoreData.{CoreData}
use Rattle.pc_io.specs.Sink.{Change}
use Rattle.pc_run.specs.Spreading.{spread}
use Rattle.pc_trace.specs.declared.touch.Touch.{Touch}
use Rattle.pc_refusals.specs.Verdict.{Files, Named, named, EndsWith, Verdict, IsAccepting, done}
use Rattle.pc_refusals.proofs.{LastStages.{ends_cases, ends_one, ends_status}, Statuses.IsLate}
use Rattle.pc_run_events.specs.Lines.{trace_text}
use Rattle.pc_commands.specs.Trace.{Traced, Tracing}
use Rattle.pc_top.specs.{Commands.Trace.{IsTrace, WritesTrace}, Shapes.{LastOfTurns, OfTurns}}
use Rattle.pc_top.proofs.{Accepted.both_by, Begins.begins, Room.{Room, inferring}, Shapes.{scheduled_one, scheduled_says, turns_late}}
use Rattle.pc_commands.proofs.{OneTrace.one_tracing, TraceTold.{trace_cut, trace_says, tracing_late}}

abbrev Last : LastOfTurns
Last name core list = EndsWith (Tracing name core list)

-- ---- its statuses

traced_late : (name : Text) (core : CoreData) (list : List ℕ) (v : Verdict) → Last name core list v → IsLate v.status
traced_late name core list = ends_status (λ text. text) (Tracing name core list) IsLate (inl refl) (λ w h. tracing_late h)

-- ---- what is on out

-- Out grew by the report on the run, or by nothing, and then the status is 12.
abbrev Wrote : Change → ℕ → Text → Text → Type 0
Wrote out status source schedule = WritesTrace out source schedule ⊎ ((status ≡ 12) × Appends out.before out.now [])

wrote_by : (out : Change) (v : Verdict) (name : Text) (core : CoreData) (list : List ℕ) (source schedule : Text) → IsAccepting v.status → Appends out.before out.now v.out
    → ((touches : List Touch) → Traced core list touches → Appends out.before out.now (trace_text touches) → WritesTrace out source schedule)
    → ((text : Text) × Tracing name core list (Ok text) × (v ≡ done text)) ⊎ Tracing name core list (Err v) → Wrote out v.status source schedule
wrote_by out v name core list source schedule e o by (inl (text, h, is)) =
    let t = trace_says h in
    let grew : Appends out.before out.now text = subst (λ (w : Verdict). Appends out.before out.now w.out) is o in
    inl (by t.0 t.1 (subst (λ (x : Text). Appends out.before out.now x) t.2 grew))
wrote_by out v name core list source schedule e o by (inr h) =
    let c = trace_cut h e in
    inr (c.0, subst (λ (t : Text). Appends out.before out.now t) c.1 o)

wrote_on_out : (file schedule : Named) (v : Verdict) (out : Change) → IsTrace file schedule v → IsAccepting v.status → Appends out.before out.now v.out
    → IfSome file.known (λ bytes. IfSome schedule.known (Wrote out v.status bytes))
wrote_on_out file schedule v out is e o =
    scheduled_says Last file schedule (Wrote out v.status) v e
    (λ bytes text core turns of_bytes is_list l.
    wrote_by out v schedule.name core (spread turns) bytes text e o (λ touches h g. (core, of_bytes, turns, is_list, touches, h, g))
    (ends_cases (λ (x : Text). x) (Tracing schedule.name core (spread turns)) v l)) is

-- what `trace` wrote, or nothing
abbrev Grew : Change → Text → Text → Type 0
Grew out source schedule = WritesTrace out source schedule ⊎ Appends out.before out.now []

grew_by : (out : Change) (status : ℕ) (source schedule : Text) → Wrote out status source schedule → Grew out source schedule
grew_by out status source schedule (inl w) = inl w
grew_by out status source schedule (inr w) = inr w.1

-- the same if it is done
done_by : (out : Change) (status : ℕ) (source schedule : Text) → status ≡ 0 → Wrote out status source schedule → WritesTrace out source schedule
done_by out status source schedule zero (inl w) = w
done_by out status source schedule zero (inr w) = let twelve = w.0 in absurd (omega (arith, zero, twelve))

pub trace_done : (file schedule : Named) (v : Verdict) (out : Change) → IsTrace file schedule v → v.status ≡ 0 → Appends out.before out.now v.out
    → IfSome file.known (λ bytes. IfSome schedule.known (WritesTrace out bytes))
trace_done file schedule v out is e o =
    both_by (Wrote out v.status) (WritesTrace out) file.known schedule.known (λ x y. done_by out v.status x y e) (wrote_on_out file schedule v out is (inl e) o)

pub trace_room : (files : Files) (source schedule : Text) → Room files (trace source schedule)
trace_room files source schedule =
    let file = named files source in
    let turns = named files schedule in
    inferring files (trace source schedule) source refl refl
    (λ v is. inl (begins (OfTurns Last turns) file (turns_late Last file turns traced_late) v is))
    (λ laws unfailed known. scheduled_one Last file turns laws known.0 unfailed.0 known.1.0 unfailed.1.0
    (λ name core list. ends_one (λ text. text) (Tracing name core list) (one_tracing core list name)))
    (λ tells v out is e o. both_by (Wrote out v.status) (Grew out) file.known turns.known (λ x y. grew_by out v.status x y) (wrote_on_out file turns v out is e o))
