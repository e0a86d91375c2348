-- From a refusal to the stage that stops, whatever the stage.
use Rattle.std.proofs.Common.{◌≡◌, ℕ, Err, sym, subst}
use Rattle.std.specs.Prelude.{Result}
use Rattle.pc_names.specs.{Faults.IsNotMemory, declared.fault.NameFault.NameFault}
use Rattle.pc_names.specs.declared.fault.NameFault.TheVariants as names
use Rattle.pc_base.specs.Lists.{Text}
use Rattle.pc_refusals.specs.{Inner.Refusals.{IsNameStop, IsRefusal}, Inner.Stages.StageStops, FaultLines.{name_line, name_status}, Verdict.{Verdict, refused}, declared.stop.Stop.Stop, declared.stop.Stop.TheVariants.{Refused, File, Sink, Memory}}

-- by its own refusal
pub refusal_stops : {T : Type 0} (Stage : Result T Verdict → Type 0) (wanted : ℕ) (text : Text) (s : Stop) → Stage (Err (refused wanted text)) → IsRefusal wanted text s → StageStops Stage s
refusal_stops Stage wanted text (Refused status line) h r = rw (r.0, r.1) h
refusal_stops Stage wanted text (File n) h r = absurd r
refusal_stops Stage wanted text Sink h r = absurd r
refusal_stops Stage wanted text Memory h r = tt

-- for lack of memory
pub memory_stops : {T : Type 0} (Stage : Result T Verdict → Type 0) (s : Stop) → s ≡ Memory → StageStops Stage s
memory_stops Stage s e = subst (λ (x : Stop). StageStops Stage x) (sym e) tt

-- as another stage does, whose refusals are its own
pub stops_as : {T U : Type 0} (One : Result T Verdict → Type 0) (Two : Result U Verdict → Type 0) → ((v : Verdict) → One (Err v) → Two (Err v)) → (s : Stop) → StageStops One s → StageStops Two s
stops_as One Two by (Refused status line) h = by (refused status line) h
stops_as One Two by (File n) h = absurd h
stops_as One Two by Sink h = absurd h
stops_as One Two by Memory h = tt

-- by a fault of names, if it is the file's
pub name_stops : {T : Type 0} (Stage : Result T Verdict → Type 0) (name bytes : Text) (f : NameFault) (s : Stop) → (IsNotMemory f → Stage (Err (refused (name_status f) (name_line name bytes f)))) → IsNameStop name bytes f s
    → StageStops Stage s
name_stops Stage name bytes (names.Double x) s make h = refusal_stops Stage _ _ s (make (λ (e : names.Double x ≡ names.Memory). cc)) h
name_stops Stage name bytes (names.Unknown x) s make h = refusal_stops Stage _ _ s (make (λ (e : names.Unknown x ≡ names.Memory). cc)) h
name_stops Stage name bytes names.NoMain s make h = refusal_stops Stage _ _ s (make (λ (e : names.NoMain ≡ names.Memory). cc)) h
name_stops Stage name bytes (names.BadMain x) s make h = refusal_stops Stage _ _ s (make (λ (e : names.BadMain x ≡ names.Memory). cc)) h
name_stops Stage name bytes (names.Cycle x) s make h = refusal_stops Stage _ _ s (make (λ (e : names.Cycle x ≡ names.Memory). cc)) h
name_stops Stage name bytes (names.TooMany w x) s make h = refusal_stops Stage _ _ s (make (λ (e : names.TooMany w x ≡ names.Memory). cc)) h
name_stops Stage name bytes names.Memory s make h = memory_stops Stage s h
