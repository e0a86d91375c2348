-- One step of an actor, and runs: the steps of a list of actors.
use Rattle.std.specs.{Prelude.{Option, Some, option_map, slice_get, ℕ, zero, List, [], ◌∷◌, ◌++◌, drop, length}, FinMap.insert, Option.option_map_or}
use Rattle.pc_heap.specs.{Objects.{with_value, Object}, declared.value.Value.Value, declared.value.Value.TheVariants.{Text, At}}
use Rattle.pc_core.specs.CoreData.{CoreData}
use Rattle.pc_base.specs.Lists.{◌>>=◌}
use Rattle.pc_semantics.specs.{declared.actors.Actor.Actor, declared.frames.Frame.Frame, declared.frames.Task.Task, declared.mailbox.Message.Message, declared.outcome.Lack.Lack, declared.outcome.Outcome.Outcome, declared.outcome.Outcome.TheVariants.{Moved, Skipped, Lacks, TooLong}, Configurations.{Configuration, with_actor, with_frames, own_address, start, Around, Move, Stuck, Overflows, Goes, Writes, Makes, Spawns, Enters, Sends, Leaves, given, pop, pushed, with_tasks, first_frame}, Evaluation.{evaluate, apply_task, truth, test_task, branch, loop_turn}, Calls.{get_task, put_task, store_task, make_task, spawn_task, invoke_task, leave}}
use Rattle.pc_semantics.specs.declared.frames.Task.TheVariants as task
use Rattle.pc_semantics.specs.declared.outcome.Lack.TheVariants as lack

-- The move of a frame's task, which has been removed from the frame's tasks.
abbrev pub task_move : CoreData → Around → Frame → Task → Move
task_move core around f (task.Eval n) = given lack.Value (slice_get core.nodes n) λ x. evaluate f n x.children x.kind
task_move core around f (task.Get n) = given lack.Value (slice_get core.nodes n) λ x. get_task core around f x.kind
task_move core around f (task.Put n) = given lack.Value (slice_get core.nodes n) λ x. put_task core around f x.kind
task_move core around f (task.Store n) = given lack.Value (slice_get core.nodes n) λ x. store_task f x.kind
task_move core around f (task.Make n) = given lack.Value (slice_get core.nodes n) λ x. make_task core around f x.children x.kind
task_move core around f (task.Spawn n) = given lack.Value (slice_get core.nodes n) λ x. spawn_task core around f x.children x.kind
task_move core around f (task.Invoke n) = given lack.Value (slice_get core.nodes n) λ x. invoke_task core around f x.children x.kind
task_move core around f (task.Apply n) = given lack.Value (slice_get core.nodes n) λ x. apply_task f x.kind
task_move core around f (task.Test n) = given lack.Value (slice_get core.nodes n) λ x. test_task f x.children x.kind
task_move core around f (task.Branch n) = given lack.Value (slice_get core.nodes n) λ x. pop f (truth (branch x.children))
task_move core around f (task.Loop n) = given lack.Value (slice_get core.nodes n) λ x. pop f (truth (loop_turn n x.children))
task_move core around f task.Discard = pop f λ v g. Goes g
task_move core around f task.Return = given lack.Method (slice_get core.methods f.method) λ x. leave f x.kind

-- The move of a frame: that of its first task.
abbrev pub frame_move : CoreData → Around → Frame → Move
frame_move core around f = given lack.Value (slice_get f.tasks 0) (task_move core around (with_tasks f (drop 1 f.tasks)))

-- ---- a move is carried out

-- The step leads to this configuration. If there is none, it lacks something, and nothing changes.
abbrev pub leads_to : Configuration → Lack → Option Configuration → Outcome × Configuration
leads_to c l o = option_map_or (λ d. (Moved, d)) o (Lacks l, c)

-- The new actor is appended, with its object.
abbrev pub with_spawned : Configuration → Object → Message → Configuration
with_spawned c o m = record {
  objects = insert c.objects (own_address (length c.actors)) o;
  actors = c.actors ++ record { mailbox = m ∷ []; frames = [] } ∷ [];
  printed = c.printed;
}

-- The message is appended to those that wait for actor j, if there is such an actor.
abbrev pub with_sent : Configuration → ℕ → Message → Option Configuration
with_sent c j m = option_map (λ (a : Actor). with_actor c j (record a { mailbox = a.mailbox ++ m ∷ [] })) (slice_get c.actors j)

-- The value is left on the stack of the frame below.
abbrev pub left : Option Value → List Frame → List Frame
left (Some v) (f ∷ fs) = pushed f v ∷ fs
left v fs = fs

-- Actor i carries out a move; the frames are those below the one that makes it.
abbrev pub made : Configuration → ℕ → Actor → List Frame → Move → Outcome × Configuration
made c i a fs (Stuck l) = (Lacks l, c)
made c i a fs Overflows = (TooLong, c)
made c i a fs (Goes f) = (Moved, with_frames c i a (f ∷ fs))
made c i a fs (Writes at k v f) = (Moved, with_frames (record c { objects = with_value c.objects at k v }) i a (f ∷ fs))
made c i a fs (Makes at o g f) = (Moved, with_frames (record c { objects = insert c.objects at o }) i a (g ∷ f ∷ fs))
made c i a fs (Spawns o m f) = (Moved, with_spawned (with_frames c i a (f ∷ fs)) o m)
made c i a fs (Enters g f) = (Moved, with_frames c i a (g ∷ f ∷ fs))
made c i a fs (Sends j m f) = leads_to c lack.Object (with_sent (with_frames c i a (f ∷ fs)) j m)
made c i a fs (Leaves v) = (Moved, with_frames c i a (left v fs))

-- ---- the first message

-- Actor 0 prints the argument of its message, which must be one text.
abbrev pub printed_text : Configuration → Actor → List Value → Outcome × Configuration
printed_text c a (Text t ∷ []) = (Moved, record { objects = c.objects; actors = (with_actor c 0 a).actors; printed = c.printed ++ t ∷ [] })
printed_text c a arguments = (Lacks lack.Value, c)

-- Actor 0 prints; any other actor begins a method.
abbrev pub take : CoreData → Configuration → ℕ → Actor → Message → Outcome × Configuration
take core c zero a m = printed_text c a m.arguments
take core c i a m = leads_to c lack.Method do
  x ← slice_get core.methods m.method
  body ← x.body
  Some (with_frames c i a (first_frame m.method x (At (own_address i)) m.arguments body ∷ []))

abbrev pub take_first : CoreData → Configuration → ℕ → List Message → Outcome × Configuration
take_first core c i [] = (Skipped, c)
take_first core c i (m ∷ ms) = take core c i (record { mailbox = ms; frames = [] }) m

-- ---- the step

abbrev pub around : Configuration → ℕ → Around
around c i = record { objects = c.objects; actor = i; actors = length c.actors }

-- The first frame makes its move; without frames, the oldest message is taken.
abbrev pub run_frames : CoreData → Configuration → ℕ → Actor → List Frame → Outcome × Configuration
run_frames core c i a [] = take_first core c i a.mailbox
run_frames core c i a (f ∷ fs) = made c i a fs (frame_move core (around c i) f)

-- A step of actor i: how it ends, and the configuration after it, which is the same unless it moved.
abbrev pub step : CoreData → Configuration → ℕ → Outcome × Configuration
step core c i = option_map_or (λ (a : Actor). run_frames core c i a a.frames) (slice_get c.actors i) (Skipped, c)

-- ---- runs: the steps of a list of actors, one after another

-- What comes after a step at c with this result: the rest, from the next configuration, or from c if the step was
-- skipped; or the end of the run.
abbrev pub followed : {A : Type 0} → (Configuration → A) → A → Configuration → Outcome × Configuration → A
followed rest end c (Moved, next) = rest next
followed rest end c (Skipped, next) = rest c
followed rest end c (Lacks l, next) = end
followed rest end c (TooLong, next) = end

-- The configuration after the steps of these actors, from c on. A step that lacks something, or that would make too
-- long a text, ends the run, and the actors after it change nothing.
abbrev pub run_from : CoreData → Configuration → List ℕ → Configuration
run_from core c [] = c
run_from core c (i ∷ is) = followed (λ next. run_from core next is) c c (step core c i)

-- The configuration after the steps of these actors, from the start.
abbrev pub after : CoreData → List ℕ → Configuration
after core list = run_from core (start core) list

-- How the steps end, up to the one that ends the run.
abbrev pub outcomes_from : CoreData → Configuration → List ℕ → List Outcome
outcomes_from core c [] = []
outcomes_from core c (i ∷ is) = (step core c i).0 ∷ followed (λ next. outcomes_from core next is) [] c (step core c i)

abbrev pub outcomes : CoreData → List ℕ → List Outcome
outcomes core list = outcomes_from core (start core) list
