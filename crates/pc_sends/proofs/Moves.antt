-- What is kept of a frame and of the moves of its tasks.
use Rattle.std.specs.Prelude.{◌≡◌, ℕ, suc, Bool, true, false, cond, List, [], ◌∷◌, ◌++◌, Option, Some, None, slice_get, refl}
use Rattle.pc_heap.specs.declared.value.Value.{Value}
use Rattle.pc_core.specs.{declared.declarations.Method.Method, CoreData.CoreData}
use Rattle.pc_base.specs.Lists.{Each}
use Rattle.pc_semantics.specs.{declared.frames.Frame.Frame, declared.frames.Task.Task, Configurations.{Move, Stuck, Overflows, Goes, Writes, Makes, Spawns, Enters, Sends, Leaves, with_stack}, Parts.{with_top, with_popped}, Children.evaluations, Evaluation.item_tasks}
use Rattle.pc_semantics.specs.declared.frames.Task.TheVariants as task
use Rattle.pc_sends.specs.Tables.{UsesMethod, Posts}
use Rattle.pc_sends.proofs.Homes.{NodeIn}

-- ---- frames

-- The task's node is of method m.
abbrev pub TaskIn : CoreData → ℕ → Task → Type 0
TaskIn core m (task.Eval n) = NodeIn core m n
TaskIn core m (task.Get n) = NodeIn core m n
TaskIn core m (task.Put n) = NodeIn core m n
TaskIn core m (task.Store n) = NodeIn core m n
TaskIn core m (task.Make n) = NodeIn core m n
TaskIn core m (task.Spawn n) = NodeIn core m n
TaskIn core m (task.Invoke n) = NodeIn core m n
TaskIn core m (task.Apply n) = NodeIn core m n
TaskIn core m (task.Test n) = NodeIn core m n
TaskIn core m (task.Branch n) = NodeIn core m n
TaskIn core m (task.Loop n) = NodeIn core m n
TaskIn core m task.Discard = Unit {0}
TaskIn core m task.Return = Unit {0}

abbrev pub TasksIn : CoreData → ℕ → List Task → Type 0
TasksIn core m [] = Unit {0}
TasksIn core m (t ∷ ts) = TaskIn core m t × TasksIn core m ts

-- A frame of method m.
abbrev pub FrameOf : CoreData → ℕ → Frame → Type 0
FrameOf core m f = (f.method ≡ m) × TasksIn core m f.tasks

abbrev pub IsThere : CoreData → ℕ → Type 0
IsThere core m = (x : Method) × (slice_get core.methods m ≡ Some x)

-- A frame that method m begins.
abbrev pub Begun : CoreData → List (Option ℕ) → ℕ → Frame → Type 0
Begun core ents m g = UsesMethod core ents m g.method × IsThere core g.method × TasksIn core g.method g.tasks

-- A move of a frame of method m.
abbrev pub MoveIn : CoreData → List (Option ℕ) → ℕ → Move → Type 0
MoveIn core ents m (Stuck l) = Unit {0}
MoveIn core ents m Overflows = Unit {0}
MoveIn core ents m (Goes f) = FrameOf core m f
MoveIn core ents m (Writes a k v f) = FrameOf core m f
MoveIn core ents m (Makes a o g f) = Begun core ents m g × FrameOf core m f
MoveIn core ents m (Spawns o s f) = Posts core ents m s.method × FrameOf core m f
MoveIn core ents m (Enters g f) = Begun core ents m g × FrameOf core m f
MoveIn core ents m (Sends j s f) = Posts core ents m s.method × FrameOf core m f
MoveIn core ents m (Leaves v) = Unit {0}

-- ---- lists of tasks

module _ (core : CoreData) (m : ℕ) where
  pub tasks_in : (ts us : List Task) → TasksIn core m ts → TasksIn core m us → TasksIn core m (ts ++ us)
  tasks_in [] us k l = l
  tasks_in (t ∷ ts) us k l = (k.0, tasks_in ts us k.1 l)

  rest_in : (c : ℕ) (cs : List ℕ) → Each (λ i d. NodeIn core m d) (c ∷ cs) → Each (λ i d. NodeIn core m d) cs
  rest_in c cs k i d e = k (suc i) d e

  pub evaluations_in : (cs : List ℕ) → Each (λ i c. NodeIn core m c) cs → TasksIn core m (evaluations cs)
  evaluations_in [] k = tt
  evaluations_in (c ∷ cs) k = (k 0 c refl, evaluations_in cs (rest_in c cs k))

  pub items_in : (cs : List ℕ) → Each (λ i c. NodeIn core m c) cs → TasksIn core m (item_tasks cs)
  items_in [] k = tt
  items_in (c ∷ []) k = (k 0 c refl, tt)
  items_in (c ∷ d ∷ cs) k = (k 0 c refl, (tt, items_in (d ∷ cs) (rest_in c (d ∷ cs) k)))

-- ---- the top of the stack

module _ (core : CoreData) (ents : List (Option ℕ)) (m : ℕ) where
  pub cond_in : (b : Bool) (x y : Move) → MoveIn core ents m x → MoveIn core ents m y → MoveIn core ents m (cond b x y)
  cond_in true x y k l = k
  cond_in false x y k l = l

  pub top_in : (f : Frame) (vs : List Value) (next : Value → Frame → Move) → FrameOf core m f → ((v : Value) (g : Frame) → FrameOf core m g → MoveIn core ents m (next v g)) → MoveIn core ents m (with_top f vs next)
  top_in f [] next k h = tt
  top_in f (v ∷ below) next k h = h v (with_stack f below) k

  pub popped_in : (f : Frame) (o : Option (List Value × List Value)) (next : List Value → Frame → Move) → FrameOf core m f → ((vs : List Value) (g : Frame) → FrameOf core m g → MoveIn core ents m (next vs g)) → MoveIn core ents m (with_popped f o next)
  popped_in f None next k h = tt
  popped_in f (Some p) next k h = h p.0 (with_stack f p.1) k
