-- The forms and depths of what is on a stack while a frame's tasks are done. The value of a node goes up to the node as
-- whose value it counts: through branches that are joined, and out of recovers that end.
use Rattle.std.specs.Prelude.{◌≡◌, ◌⊎◌, ℕ, ◌+◌, ◌-◌, ◌<◌, ◌≤◌, Bool, true, false, List, [], ◌∷◌, Option, Some, None, slice_get}
use Rattle.pc_caps.specs.{Computed.is_below, declared.capability.Cap.Cap, declared.capability.Form.Form}
use Rattle.pc_caps.specs.declared.capability.Form.TheVariants as form
use Rattle.pc_core.specs.{declared.declarations.Method.Method, declared.nodes.Node.Node, declared.nodes.NodeKind.NodeKind, declared.nodes.Slot.Slot, CoreData.CoreData}
use Rattle.pc_core.specs.declared.declarations.MethodKind.TheVariants as method
use Rattle.pc_core.specs.declared.nodes.NodeKind.TheVariants as nodes
use Rattle.pc_base.specs.Lists.{◌>>=◌}
use Rattle.pc_masks.specs.{declared.mask.Mask.Mask, Masks.IsInMask}
use Rattle.pc_ann.specs.{declared.annotation.Note.Note, declared.annotation.Ann.Ann}
use Rattle.pc_semantics.specs.declared.frames.Task.{Task}
use Rattle.pc_semantics.specs.declared.frames.Task.TheVariants as task
use Rattle.pc_rules.specs.{Parts.{through, type_of}, Control.recovered}
use Rattle.pc_valid.specs.Words.{Ty, Masks, before}
use Rattle.pc_types.proofs.{Under.Under, Tasks.{Within, reads, writes, stores, makes, spawns, invokes, applies, is_lazy}}

-- ---- what a place of the stack holds

-- A value of this type, or any if there is none, of a node of this depth.
pub record Entry : Type 0 where
  pub ty : Option Ty
  pub depth : ℕ

-- What is on the stack is no deeper than this.
abbrev pub Shallow : List Entry → ℕ → Type 0
Shallow [] d = Unit {0}
Shallow (e ∷ es) d = (e.depth ≤ d) × Shallow es d

-- A type is below another in form, and its entity is under that of the other.
abbrev pub Below : CoreData → Ty → Ty → Type 0
Below core a b = Under core a.0 b.0 × (is_below a.1 b.1 ≡ true)

-- ---- the way up

-- A value becomes that of a branch that is joined with another, at this type or none; that of the right side of an `and` or an
-- `or`; or that of a recover, which ends.
pub data Ascent : Type 0 where
  Joins : Option Ty → Ascent
  Decides : Ascent
  Recovers : Option Cap → Ascent

abbrev pub recovered_type : Option Cap → Option Ty → Option Ty
recovered_type k t = do
  v ← t
  f ← recovered k v.1
  Some (v.0, f)

abbrev pub ascend : Ascent → Entry → Entry
ascend (Joins t) e = record { ty = t; depth = e.depth }
ascend Decides e = record { ty = Some (2, form.Val); depth = e.depth }
ascend (Recovers k) e = record { ty = recovered_type k e.ty; depth = e.depth - 1 }

-- What is required for each: a type that is below the joint one, a truth value, or, in a recover, a value of a form
-- that it lets out.
abbrev pub MayAscend : CoreData → Ascent → Entry → Type 0
MayAscend core (Joins None) e = Unit {0}
MayAscend core (Joins (Some g)) e = (t : Ty) × (e.ty ≡ Some t) × Below core t g
MayAscend core Decides e = (t : Ty) × (e.ty ≡ Some t) × (t.0 ≡ 2)
MayAscend core (Recovers k) e = (t : Ty) × (f : Form) × (e.ty ≡ Some t) × (recovered k t.1 ≡ Some f) × (0 < e.depth)

abbrev pub top_of : List Ascent → Entry → Entry
top_of [] e = e
top_of (a ∷ way) e = top_of way (ascend a e)

abbrev pub Climbs : CoreData → List Ascent → Entry → Type 0
Climbs core [] e = Unit {0}
Climbs core (a ∷ way) e = MayAscend core a e × Climbs core way (ascend a e)

-- ---- what follows a value

-- The live slots of the method are no deeper than this.
abbrev pub SlotsShallow : CoreData → ℕ → Mask → ℕ → Type 0
SlotsShallow core m live d = (s : ℕ) (x : Method) (y : Slot) → IsInMask live s → slice_get core.methods m ≡ Some x → slice_get core.slots (x.first_slot + s) ≡ Some y → y.depth ≤ d

-- The live slots before and after a node are no deeper than the node; after a body there is nothing to say.
abbrev pub LiveShallow : CoreData → Ann → Type 0
LiveShallow core ann =
    (n : ℕ) (x : Node) (t : Note) → slice_get core.nodes n ≡ Some x → slice_get ann.notes n ≡ Some t → SlotsShallow core x.method t.live_before x.depth × ((x.kind ≡ nodes.Body → ⊥) → SlotsShallow core x.method t.live_after x.depth)

-- What follows value e, which goes its way up, relies on no more than these live slots. When a recover ends, nothing is
-- left of what was in it.
pub record Rises (core : CoreData) (m : ℕ) (after : Mask) (e : Entry) (below : List Entry) (go : ℕ → Mask → List Entry → Type 0) : Type 0 where
  pub live : Mask
  pub left : Within live after
  pub way : List Ascent
  pub climbs : Climbs core way e
  pub shallow : Shallow below (top_of way e).depth
  pub slots : SlotsShallow core m live (top_of way e).depth
  pub next : go (top_of way e).depth live (top_of way e ∷ below)

-- The value of a node of this note.
abbrev pub entry_of : Node → Note → Entry
entry_of x t = record { ty = t.ty; depth = x.depth }

-- The stack after these nodes of depth d, evaluated one after another.
abbrev pub piled : Ann → ℕ → List ℕ → List Entry → List Entry
piled ann d [] below = below
piled ann d (c ∷ cs) below = piled ann d cs (record { ty = type_of ann c; depth = d } ∷ below)

-- ---- tasks that use what was pushed last

-- A field is read or written, a method is called, or the method ends: the top is the origin, the receiver or the result.
abbrev pub uses_top : List Task → Bool
uses_top (task.Get n ∷ ts) = true
uses_top (task.Put n ∷ ts) = true
uses_top (task.Invoke n ∷ ts) = true
uses_top (task.Return ∷ ts) = true
uses_top ts = false

-- ---- each task, at depth d

pub record EvalRises (core : CoreData) (ann : Ann) (m d : ℕ) (l : Mask) (below : List Entry) (n : ℕ) (go : ℕ → Mask → List Entry → Type 0) : Type 0 where
  pub node : Node
  pub is_node : slice_get core.nodes n ≡ Some node
  pub note : Note
  pub is_note : slice_get ann.notes n ≡ Some note
  pub own : node.method ≡ m
  pub inner : node.kind ≡ nodes.Body → ⊥
  pub depth : node.depth ≡ d
  pub live : Within note.live_before l
  pub follows : Rises core m note.live_after (entry_of node note) below go

-- The body is evaluated on an empty stack.
pub record BodyRises (core : CoreData) (ann : Ann) (m d : ℕ) (l : Mask) (below : List Entry) (n : ℕ) : Type 0 where
  pub node : Node
  pub is_node : slice_get core.nodes n ≡ Some node
  pub note : Note
  pub is_note : slice_get ann.notes n ≡ Some note
  pub own : node.method ≡ m
  pub is_body : node.kind ≡ nodes.Body
  pub outer : d ≡ 0
  pub empty : below ≡ []
  pub live : Within note.live_before l

pub record FinishRises (core : CoreData) (ann : Ann) (m d : ℕ) (l : Mask) (g : List Entry) (does : NodeKind → Bool) (n : ℕ) (go : ℕ → Mask → List Entry → Type 0) : Type 0 where
  pub node : Node
  pub is_node : slice_get core.nodes n ≡ Some node
  pub note : Note
  pub is_note : slice_get ann.notes n ≡ Some note
  pub own : node.method ≡ m
  pub kind : does node.kind ≡ true
  pub depth : node.depth ≡ d
  pub behind : Masks
  pub is_behind : through ann node.children (before note) ≡ Some behind
  pub live : Within behind.0 l
  pub below : List Entry
  pub stack : g ≡ piled ann d node.children below
  pub follows : Rises core m note.live_after (entry_of node note) below go

pub record TestRises (core : CoreData) (ann : Ann) (m d : ℕ) (l : Mask) (g : List Entry) (n : ℕ) (go : ℕ → Mask → List Entry → Type 0) : Type 0 where
  pub node : Node
  pub is_node : slice_get core.nodes n ≡ Some node
  pub kind : is_lazy node.kind ≡ true
  pub note : Note
  pub is_note : slice_get ann.notes n ≡ Some note
  pub ty : note.ty ≡ Some (2, form.Val)
  pub depth : node.depth ≡ d
  pub left : ℕ
  pub right : ℕ
  pub children : node.children ≡ left ∷ right ∷ []
  pub top : Entry
  pub below : List Entry
  pub stack : g ≡ top ∷ below
  pub live : Within note.live_after l
  pub decided : Rises core m note.live_after (entry_of node note) below go
  pub undecided : EvalRises core ann m d l below right go

pub record BranchRises (core : CoreData) (ann : Ann) (m d : ℕ) (l : Mask) (g : List Entry) (n : ℕ) (go : ℕ → Mask → List Entry → Type 0) : Type 0 where
  pub node : Node
  pub is_node : slice_get core.nodes n ≡ Some node
  pub condition : ℕ
  pub then_branch : ℕ
  pub else_branch : ℕ
  pub children : node.children ≡ condition ∷ then_branch ∷ else_branch ∷ []
  pub top : Entry
  pub below : List Entry
  pub stack : g ≡ top ∷ below
  pub one : EvalRises core ann m d l below then_branch go
  pub other : EvalRises core ann m d l below else_branch go

-- What follows, which uses what was pushed last or not, does not.
pub record DiscardRises (g : List Entry) (uses : Bool) (go : List Entry → Type 0) : Type 0 where
  pub calm : uses ≡ false
  pub top : Entry
  pub below : List Entry
  pub stack : g ≡ top ∷ below
  pub next : go below

pub record LoopRises (core : CoreData) (ann : Ann) (m d : ℕ) (l : Mask) (g : List Entry) (n : ℕ) (go : ℕ → Mask → List Entry → Type 0) : Type 0 where
  pub node : Node
  pub is_node : slice_get core.nodes n ≡ Some node
  pub note : Note
  pub is_note : slice_get ann.notes n ≡ Some note
  pub ty : note.ty ≡ Some (0, form.Val)
  pub depth : node.depth ≡ d
  pub condition : ℕ
  pub body : ℕ
  pub children : node.children ≡ condition ∷ body ∷ []
  pub top : Entry
  pub below : List Entry
  pub stack : g ≡ top ∷ below
  pub live : Within note.live_after l
  pub ended : Rises core m note.live_after (entry_of node note) below go
  pub turn : EvalRises core ann m d l below body (λ d' l' g'. DiscardRises g' false (λ g''. EvalRises core ann m d' l' g'' n go ⊎ BodyRises core ann m d' l' g'' n))

-- The method ends. A function's result is what its sequence gave, and that is all that is on the stack.
pub record ReturnRises (core : CoreData) (m d : ℕ) (g : List Entry) : Type 0 where
  pub own : Method
  pub is_own : slice_get core.methods m ≡ Some own
  pub outer : d ≡ 0
  pub result : own.kind ≡ method.Fun → (t : Ty) × (below : List Entry) × (g ≡ record { ty = Some t; depth = 0 } ∷ below) × Below core t own.result

-- ---- the tasks of a frame of method m, the first at depth d

abbrev pub TasksRise : CoreData → Ann → ℕ → List Task → ℕ → Mask → List Entry → Type 0
TasksRise core ann m [] d l g = ⊥
TasksRise core ann m (task.Eval n ∷ ts) d l g = EvalRises core ann m d l g n (λ d' l' g'. TasksRise core ann m ts d' l' g') ⊎ BodyRises core ann m d l g n
TasksRise core ann m (task.Get n ∷ ts) d l g = FinishRises core ann m d l g reads n (λ d' l' g'. TasksRise core ann m ts d' l' g')
TasksRise core ann m (task.Put n ∷ ts) d l g = FinishRises core ann m d l g writes n (λ d' l' g'. TasksRise core ann m ts d' l' g')
TasksRise core ann m (task.Store n ∷ ts) d l g = FinishRises core ann m d l g stores n (λ d' l' g'. TasksRise core ann m ts d' l' g')
TasksRise core ann m (task.Make n ∷ ts) d l g = FinishRises core ann m d l g makes n (λ d' l' g'. TasksRise core ann m ts d' l' g')
TasksRise core ann m (task.Spawn n ∷ ts) d l g = FinishRises core ann m d l g spawns n (λ d' l' g'. TasksRise core ann m ts d' l' g')
TasksRise core ann m (task.Invoke n ∷ ts) d l g = FinishRises core ann m d l g invokes n (λ d' l' g'. TasksRise core ann m ts d' l' g')
TasksRise core ann m (task.Apply n ∷ ts) d l g = FinishRises core ann m d l g applies n (λ d' l' g'. TasksRise core ann m ts d' l' g')
TasksRise core ann m (task.Test n ∷ ts) d l g = TestRises core ann m d l g n (λ d' l' g'. TasksRise core ann m ts d' l' g')
TasksRise core ann m (task.Branch n ∷ ts) d l g = BranchRises core ann m d l g n (λ d' l' g'. TasksRise core ann m ts d' l' g')
TasksRise core ann m (task.Loop n ∷ ts) d l g = LoopRises core ann m d l g n (λ d' l' g'. TasksRise core ann m ts d' l' g')
TasksRise core ann m (task.Discard ∷ ts) d l g = DiscardRises g (uses_top ts) (λ g'. TasksRise core ann m ts d l g')
TasksRise core ann m (task.Return ∷ ts) d l g = ReturnRises core m d g
