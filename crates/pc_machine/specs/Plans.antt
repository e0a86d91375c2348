-- What a plan means, as the move of a task.
use Rattle.std.specs.Prelude.{ℕ, ◌<◌, ◌≤◌, List, [], ◌∷◌, length, drop, Option, Some, None, nat_eq, nat_lt, ◌&&◌, if◌then◌else◌, slice_get}
use Rattle.pc_heap.specs.{Objects.{new_object, next_address}, Heaps.field_limit, declared.value.Value.Value, declared.value.Value.TheVariants.At}
use Rattle.pc_semantics.specs.{declared.actors.Actor.Actor, declared.frames.Frame.Frame, declared.outcome.Outcome.Outcome, Configurations.{Configuration, own_address, Around, Move, pushed, with_slot, none}, Step.{around, left, made}}
use Rattle.pc_machine.specs.{declared.plan.Change.Change, declared.plan.Change.TheVariants.{Gives, Enters, Leaves}, declared.plan.Plan.Plan, declared.plan.Plan.TheVariants.{Lacks, Changes, Makes, Spawns, Sends}}
use Rattle.pc_semantics.specs.declared.outcome.Outcome.TheVariants as outcome
use Rattle.pc_semantics.specs.Configurations as move

-- The frame without its first task and without its topmost values.
abbrev pub after_call : ℕ → Frame → Frame
after_call count f = record { method = f.method; slots = f.slots; stack = drop count f.stack; tasks = drop 1 f.tasks }

-- ---- changes

abbrev pub given : ℕ → Value → List Frame → List Frame
given count v [] = []
given count v (f ∷ fs) = pushed (after_call count f) v ∷ fs

abbrev pub entered : ℕ → Frame → List Frame → List Frame
entered count g [] = []
entered count g (f ∷ fs) = g ∷ after_call count f ∷ fs

abbrev pub ended : Option Value → List Frame → List Frame
ended v [] = []
ended v (f ∷ fs) = left v fs

-- What the change makes of the frames.
abbrev pub frames_changed : Change → List Frame → List Frame
frames_changed (Gives count v) frames = given count v frames
frames_changed (Enters count g) frames = entered count g frames
frames_changed (Leaves v) frames = ended v frames

-- The change takes no more values than there are.
abbrev pub Suits : Change → ℕ → Type 0
Suits (Gives count v) n = count ≤ n
Suits (Enters count g) n = Unit {0}
Suits (Leaves v) n = Unit {0}

-- ---- plans

abbrev pub change_move : Change → Frame → Move
change_move (Gives count v) f = move.Goes (pushed (after_call count f) v)
change_move (Enters count g) f = move.Enters g (after_call count f)
change_move (Leaves v) f = move.Leaves v

-- The move of a running frame that is planned.
abbrev pub move_of : Around → Plan → Frame → Move
move_of around (Lacks l) f = move.Stuck l
move_of around (Changes c) f = change_move c f
move_of around (Makes count entity fields g) f =
    let a = next_address around.objects around.actor in
    move.Makes a (new_object entity fields) (with_slot g 0 (Some (At a))) (after_call count f)
move_of around (Spawns count entity fields m) f = move.Spawns (new_object entity fields) m (pushed (after_call count f) (At (own_address around.actors)))
move_of around (Sends count receiver m) f = move.Sends receiver m (pushed (after_call count f) none)

-- The plan takes no more values than there are, and can be done.
abbrev pub PlanFits : Plan → ℕ → Type 0
PlanFits (Lacks l) n = Unit {0}
PlanFits (Changes c) n = Suits c n
PlanFits (Makes count entity fields g) n = (fields ≤ field_limit) × (0 < length g.slots)
PlanFits (Spawns count entity fields m) n = (fields ≤ field_limit) × (count ≤ n)
PlanFits (Sends count receiver m) n = (0 < count) × (count ≤ n)

-- If the plan sends a message, it is to one of this number of actors.
abbrev pub ReachesActor : Plan → ℕ → Type 0
ReachesActor (Sends count receiver m) actors = receiver < actors
ReachesActor p actors = Unit {0}

-- The actor whose own object a value is, if it is one of this number of actors.
abbrev pub receiver_in : Value → ℕ → Option ℕ
receiver_in (At a) actors = if nat_eq a.serial 0 && nat_lt a.maker actors then Some a.maker else None
receiver_in v actors = None

-- How the plan of actor i ends, and the configuration after it.
abbrev pub planned_frames : Configuration → ℕ → Actor → Plan → List Frame → Outcome × Configuration
planned_frames c i a p [] = (outcome.Skipped, c)
planned_frames c i a p (f ∷ fs) = made c i a fs (move_of (around c i) p f)

abbrev pub planned_by : Configuration → ℕ → Plan → Option Actor → Outcome × Configuration
planned_by c i p None = (outcome.Skipped, c)
planned_by c i p (Some a) = planned_frames c i a p a.frames

abbrev pub planned : Configuration → ℕ → Plan → Outcome × Configuration
planned c i p = planned_by c i p (slice_get c.actors i)
