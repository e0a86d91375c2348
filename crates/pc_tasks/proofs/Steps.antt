-- From a task inside a frame to the step of its actor.
use Rattle.std.specs.Prelude.{◌≡◌, ℕ, List, [], ◌∷◌, Some, drop, length, slice_get, refl}
use Rattle.std.proofs.{Common.{ap, sym, ◌∙◌}, lemmas.Option.{same_Some, none-some}}
use Rattle.pc_base.proofs.Gets.{set_read}
use Rattle.pc_heap.specs.Objects.{ObjectMap}
use Rattle.pc_core.specs.CoreData.{CoreData}
use Rattle.pc_semantics.specs.{declared.actors.Actor.Actor, declared.frames.Frame.Frame, declared.frames.Task.Task, declared.outcome.Outcome.Outcome, declared.outcome.Outcome.TheVariants.{Lacks, TooLong}, Configurations.{Configuration, with_frames, Move, Stuck, Overflows, Goes, Writes, Makes, Spawns, Enters, Sends, Leaves, with_tasks}, Parts.{with_objects, run_task, step_of}, Step.{task_move, around, made, run_frames, step}}
use Rattle.pc_tasks.specs.Inside.{IsInside, StaysInside, ended, first_move}

-- Nothing changes if the objects and the frames are unchanged.
unmoved : (c : Configuration) (i : ℕ) (a : Actor) (f : Frame) (fs : List Frame) → slice_get c.actors i ≡ Some a → a.frames ≡ f ∷ fs → with_frames (with_objects c c.objects) i a (f ∷ fs) ≡ c
unmoved c i a f fs here e =
    ap (λ frames. with_frames c i a frames) (sym e)
    ∙ ap (λ actors. let d : Configuration = record { objects = c.objects; actors = actors; printed = c.printed } in d) (set_read c.actors i a here)

-- The outcome, and the configuration with these objects and this frame.
abbrev pub stepped : Configuration → ℕ → Actor → List Frame → Outcome × ObjectMap × Frame → Outcome × Configuration
stepped c i a fs r = (r.0, with_frames (with_objects c r.1) i a (r.2 ∷ fs))

-- A move of the frame and the objects alone is made: they are put in their places, even if nothing moved.
pub made_inside : (c : Configuration) (i : ℕ) (a : Actor) (f : Frame) (fs : List Frame) (m : Move) (r : Outcome × ObjectMap × Frame) → slice_get c.actors i ≡ Some a → a.frames ≡ f ∷ fs → ended c.objects f m ≡ Some r → made c i a fs m ≡ stepped c i a fs r
made_inside c i a f fs (Stuck l) r here e s = ap (λ d. (Lacks l, d)) (sym (unmoved c i a f fs here e)) ∙ ap (stepped c i a fs) (same_Some _ _ s)
made_inside c i a f fs Overflows r here e s = ap (λ d. (TooLong, d)) (sym (unmoved c i a f fs here e)) ∙ ap (stepped c i a fs) (same_Some _ _ s)
made_inside c i a f fs (Goes g) r here e s = ap (stepped c i a fs) (same_Some _ _ s)
made_inside c i a f fs (Writes at k v g) r here e s = ap (stepped c i a fs) (same_Some _ _ s)
made_inside c i a f fs (Makes at o g h) r here e s = absurd (none-some r s)
made_inside c i a f fs (Spawns o m h) r here e s = absurd (none-some r s)
made_inside c i a f fs (Enters g h) r here e s = absurd (none-some r s)
made_inside c i a f fs (Sends j m h) r here e s = absurd (none-some r s)
made_inside c i a f fs (Leaves v) r here e s = absurd (none-some r s)

-- The first task is run.
run_first : (core : CoreData) (c : Configuration) (i : ℕ) (a : Actor) (f : Frame) (fs : List Frame) (ts : List Task) → f.tasks ≡ ts → IsInside (slice_get ts 0) → run_task core c i a f fs ts ≡ made c i a fs (first_move core (around c i) f (slice_get ts 0))
run_first core c i a f fs [] e h = absurd h
run_first core c i a f fs (t ∷ ts) e h = ap (λ xs. made c i a fs (task_move core (around c i) (with_tasks f (drop 1 xs)) t)) (sym e)

-- The step of an actor whose innermost frame has a task that stays inside it.
pub inside_step : (core : CoreData) (c : Configuration) (i : ℕ) (a : Actor) (f g : Frame) (fs : List Frame) (o : Outcome) (objects : ObjectMap) → slice_get c.actors i ≡ Some a → a.frames ≡ f ∷ fs → IsInside (slice_get f.tasks 0) → StaysInside core c.objects f o objects g → step core c i ≡ (o, with_frames (with_objects c objects) i a (g ∷ fs))
inside_step core c i a f g fs o objects here e h s =
    ap (step_of core c i) here ∙ ap (run_frames core c i a) e
    ∙ run_first core c i a f fs f.tasks refl h
    ∙ made_inside c i a f fs (first_move core (around c i) f (slice_get f.tasks 0)) (o, objects, g) here e (s i (length c.actors))
