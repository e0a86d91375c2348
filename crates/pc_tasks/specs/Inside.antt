-- Tasks that stay within one frame and the objects.
use Rattle.std.specs.Prelude.{◌≡◌, ℕ, Option, Some, None, drop, slice_get}
use Rattle.pc_heap.specs.Objects.{ObjectMap, with_value}
use Rattle.pc_core.specs.CoreData.{CoreData}
use Rattle.pc_semantics.specs.{declared.frames.Frame.Frame, declared.frames.Task.Task, declared.outcome.Outcome.Outcome, declared.outcome.Outcome.TheVariants.{Moved, Lacks, TooLong}, Configurations.{Around, Move, Stuck, Overflows, Goes, Writes, with_tasks}, Step.task_move}
use Rattle.pc_semantics.specs.declared.frames.Task.TheVariants as task
use Rattle.pc_semantics.specs.declared.outcome.Lack.TheVariants as lack

-- There is a first task, and it is not Make, Spawn, Invoke or Return.
abbrev pub IsInside : Option Task → Type 0
IsInside None = ⊥
IsInside (Some (task.Make n)) = ⊥
IsInside (Some (task.Spawn n)) = ⊥
IsInside (Some (task.Invoke n)) = ⊥
IsInside (Some task.Return) = ⊥
IsInside (Some t) = Unit {0}

-- The frame without its first task.
abbrev pub relieved : Frame → Frame
relieved f = with_tasks f (drop 1 f.tasks)

-- The move of a frame's first task.
abbrev pub first_move : CoreData → Around → Frame → Option Task → Move
first_move core around f None = Stuck lack.Value
first_move core around f (Some t) = task_move core around (relieved f) t

-- How a move of one frame alone ends: the outcome, and the frame. Nothing is said about other moves.
abbrev pub within : Frame → Move → Option (Outcome × Frame)
within f (Stuck l) = Some (Lacks l, f)
within f Overflows = Some (TooLong, f)
within f (Goes g) = Some (Moved, g)
within f m = None

-- How a move of one frame and the objects alone ends: the outcome, the objects and the frame.
abbrev pub ended : ObjectMap → Frame → Move → Option (Outcome × ObjectMap × Frame)
ended objects f (Stuck l) = Some (Lacks l, objects, f)
ended objects f Overflows = Some (TooLong, objects, f)
ended objects f (Goes g) = Some (Moved, objects, g)
ended objects f (Writes a i v g) = Some (Moved, with_value objects a i v, g)
ended objects f m = None

-- What a task of actor i of k sees, with these objects around it.
abbrev pub amid : ObjectMap → (actor actors : ℕ) → Around
amid objects i k = record { objects = objects; actor = i; actors = k }

-- What a task sees that only looks at the objects.
abbrev pub seeing : ObjectMap → Around
seeing objects = amid objects 0 0

-- The first task of frame f concerns only the frame and the objects, whichever actor does it. It ends with this
-- outcome, these objects and this frame.
abbrev pub StaysInside : CoreData → ObjectMap → Frame → Outcome → ObjectMap → Frame → Type 0
StaysInside core objects f o objects' f' =
    (i k : ℕ) → ended objects f (first_move core (amid objects i k) f (slice_get f.tasks 0)) ≡ Some (o, objects', f')
