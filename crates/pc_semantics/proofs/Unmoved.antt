-- A step that does not move leaves the configuration as it was.
use Rattle.std.specs.Prelude.{◌≡◌, ◌≢◌, ℕ, zero, suc, List, [], ◌∷◌, Option, Some, None, slice_get, refl}
use Rattle.pc_heap.specs.{declared.value.Value.Value, declared.value.Value.TheVariants.{Num, Truth, Text, Prim, At}}
use Rattle.pc_core.specs.{CoreData.CoreData, declared.declarations.Method.Method}
use Rattle.pc_semantics.specs.{declared.actors.Actor.Actor, declared.frames.Frame.Frame, declared.frames.Task.Task, declared.mailbox.Message.Message, declared.outcome.Outcome.Outcome, declared.outcome.Outcome.TheVariants.Moved, Configurations.{Configuration, with_frames, Move, Stuck, Overflows, Goes, Writes, Makes, Spawns, Enters, Sends, Leaves}, Parts.{begin_method, begun, delivered, run_task, step_of}, Step.{made, printed_text, run_frames, step, take, take_first}}

-- The configuration is unchanged if the step did not move.
abbrev Stays : Configuration → Outcome × Configuration → Type 0
Stays c r = r.0 ≢ Moved → r.1 ≡ c

module _ (c : Configuration) where
  -- ---- the first message

  delivery_stays : (d : Configuration) (j : ℕ) (m : Message) (o : Option Actor) → Stays c (delivered c d j m o)
  delivery_stays d j m None other = refl
  delivery_stays d j m (Some b) other = absurd (other refl)

  print_stays : (b : Actor) (vs : List Value) → Stays c (printed_text c b vs)
  print_stays b [] other = refl
  print_stays b (Text t ∷ []) other = absurd (other refl)
  print_stays b (Text t ∷ v ∷ vs) other = refl
  print_stays b (Num n ∷ vs) other = refl
  print_stays b (Truth t ∷ vs) other = refl
  print_stays b (Prim n ∷ vs) other = refl
  print_stays b (At a ∷ vs) other = refl

  beginning_stays : (i : ℕ) (b : Actor) (m : Message) (x : Method) (o : Option ℕ) → Stays c (begun c i b m x o)
  beginning_stays i b m x None other = refl
  beginning_stays i b m x (Some body) other = absurd (other refl)

  method_stays : (i : ℕ) (b : Actor) (m : Message) (o : Option Method) → Stays c (begin_method c i b m o)
  method_stays i b m None other = refl
  method_stays i b m (Some x) other = beginning_stays i b m x x.body other

  take_stays : (core : CoreData) (i : ℕ) (b : Actor) (m : Message) → Stays c (take core c i b m)
  take_stays core zero b m other = print_stays b m.arguments other
  take_stays core (suc k) b m other = method_stays (suc k) b m (slice_get core.methods m.method) other

  first_stays : (core : CoreData) (i : ℕ) (ms : List Message) → Stays c (take_first core c i ms)
  first_stays core i [] other = refl
  first_stays core i (m ∷ ms) other = take_stays core i (record { mailbox = ms; frames = [] }) m other

  -- ---- the first task

  move_stays : (i : ℕ) (a : Actor) (fs : List Frame) (m : Move) → Stays c (made c i a fs m)
  move_stays i a fs (Stuck l) other = refl
  move_stays i a fs Overflows other = refl
  move_stays i a fs (Goes f) other = absurd (other refl)
  move_stays i a fs (Writes at k v f) other = absurd (other refl)
  move_stays i a fs (Makes at o g f) other = absurd (other refl)
  move_stays i a fs (Spawns o m f) other = absurd (other refl)
  move_stays i a fs (Enters g f) other = absurd (other refl)
  move_stays i a fs (Sends j m f) other = delivery_stays (with_frames c i a (f ∷ fs)) j m (slice_get (with_frames c i a (f ∷ fs)).actors j) other
  move_stays i a fs (Leaves v) other = absurd (other refl)

  task_stays : (core : CoreData) (i : ℕ) (a : Actor) (f : Frame) (fs : List Frame) (ts : List Task) → Stays c (run_task core c i a f fs ts)
  task_stays core i a f fs [] other = refl
  task_stays core i a f fs (t ∷ ts) other = move_stays i a fs _ other

  frames_stay : (core : CoreData) (i : ℕ) (a : Actor) (fs : List Frame) → Stays c (run_frames core c i a fs)
  frames_stay core i a [] other = first_stays core i a.mailbox other
  frames_stay core i a (f ∷ fs) other = task_stays core i a f fs f.tasks other

  actor_stays : (core : CoreData) (i : ℕ) (o : Option Actor) → Stays c (step_of core c i o)
  actor_stays core i None other = refl
  actor_stays core i (Some a) other = frames_stay core i a a.frames other

-- Only a step that moves changes the configuration.
pub only_moves_change : (core : CoreData) (c : Configuration) (i : ℕ) → (step core c i).0 ≢ Moved → (step core c i).1 ≡ c
only_moves_change core c i other = actor_stays c core i (slice_get c.actors i) other
