-- When a frame's tasks can be done: with at least these slots live and these fields of its object set, and with a stack
-- that holds at least this. Each task determines what it leaves, and what follows can be done from there.
use Rattle.std.specs.Prelude.{◌≡◌, ◌⊎◌, ℕ, Bool, true, false, List, [], ◌∷◌, Option, Some, None, is_some, slice_get}
use Rattle.pc_caps.specs.declared.capability.Form.{Form}
use Rattle.pc_caps.specs.declared.capability.Form.TheVariants as form
use Rattle.pc_core.specs.{declared.declarations.Method.Method, declared.nodes.Node.Node, declared.nodes.NodeKind.NodeKind, CoreData.CoreData, Kinds.{field_read, field_written, stored_slot, called_name, applied_operation, connective}}
use Rattle.pc_core.specs.declared.declarations.MethodKind.TheVariants as method
use Rattle.pc_core.specs.declared.nodes.NodeKind.TheVariants as nodes
use Rattle.pc_masks.specs.{declared.mask.Mask.Mask, Masks.IsInMask}
use Rattle.pc_ann.specs.{declared.annotation.Note.Note, declared.annotation.Ann.Ann}
use Rattle.pc_semantics.specs.declared.frames.Task.{Task}
use Rattle.pc_semantics.specs.declared.frames.Task.TheVariants as task
use Rattle.pc_rules.specs.{Parts.{constructs, all_fields, through, type_of}, Fields.is_this}
use Rattle.pc_valid.specs.Words.{Masks, before}
use Rattle.pc_types.proofs.Types.{Lower, Want, wanted}

-- ---- masks

-- Each number of the first mask is in the second.
abbrev pub Within : Mask → Mask → Type 0
Within a b = (i : ℕ) → IsInMask a i → IsInMask b i

-- ---- what nodes leave on the stack

abbrev pub gives_this : Option Node → Bool
gives_this None = false
gives_this (Some x) = is_this x.kind

-- The value of a node is one of its type, and that of `this` is the object of the frame.
abbrev pub want_of : CoreData → Ann → ℕ → Want
want_of core ann n = record { ty = type_of ann n; own = gives_this (slice_get core.nodes n) }

-- The stack after these nodes, evaluated one after another.
abbrev pub stacked : CoreData → Ann → List ℕ → List Want → List Want
stacked core ann [] below = below
stacked core ann (c ∷ cs) below = stacked core ann cs (want_of core ann c ∷ below)

-- ---- what follows a node

-- What follows node x relies on no more than the note states after it, and takes its value for what it is, or for less.
pub record Follows (core : CoreData) (x : Node) (t : Note) (below : List Want) (go : Mask → Mask → List Want → Type 0) : Type 0 where
  pub live : Mask
  pub set : Mask
  pub live_left : Within live t.live_after
  pub set_left : Within set t.set_after
  pub goal : Want
  pub fits : Lower core t.ty goal.ty
  pub this : goal.own ≡ true → is_this x.kind ≡ true
  pub next : go live set (goal ∷ below)

-- ---- each task

-- Node n is evaluated.
pub record EvalOk (core : CoreData) (ann : Ann) (m : ℕ) (l s : Mask) (below : List Want) (n : ℕ) (go : Mask → Mask → List Want → Type 0) : Type 0 where
  pub node : Node
  pub is_node : slice_get core.nodes n ≡ Some node
  pub note : Note
  pub is_note : slice_get ann.notes n ≡ Some note
  pub own : node.method ≡ m
  pub live : Within note.live_before l
  pub set : Within note.set_before s
  pub follows : Follows core node note below go

-- Node n is the body of the method, and nothing follows it.
pub record BodyOk (core : CoreData) (ann : Ann) (m : ℕ) (l s : Mask) (n : ℕ) : Type 0 where
  pub node : Node
  pub is_node : slice_get core.nodes n ≡ Some node
  pub note : Note
  pub is_note : slice_get ann.notes n ≡ Some note
  pub own : node.method ≡ m
  pub is_body : node.kind ≡ nodes.Body
  pub live : Within note.live_before l
  pub set : Within note.set_before s

-- The task goes on with node n, whose children are evaluated; `does` are the kinds of nodes that it is for.
pub record FinishOk (core : CoreData) (ann : Ann) (m : ℕ) (l s : Mask) (g : List Want) (does : NodeKind → Bool) (n : ℕ) (go : Mask → Mask → List Want → Type 0) : Type 0 where
  pub node : Node
  pub is_node : slice_get core.nodes n ≡ Some node
  pub note : Note
  pub is_note : slice_get ann.notes n ≡ Some note
  pub own : node.method ≡ m
  pub kind : does node.kind ≡ true
  pub behind : Masks
  pub is_behind : through ann node.children (before note) ≡ Some behind
  pub live : Within behind.0 l
  pub set : Within behind.1 s
  pub below : List Want
  pub stack : g ≡ stacked core ann node.children below
  pub follows : Follows core node note below go

abbrev pub reads : NodeKind → Bool
reads k = is_some (field_read k)

abbrev pub writes : NodeKind → Bool
writes k = is_some (field_written k)

abbrev pub stores : NodeKind → Bool
stores k = is_some (stored_slot k)

abbrev pub makes : NodeKind → Bool
makes (nodes.New k) = true
makes k = false

abbrev pub spawns : NodeKind → Bool
spawns (nodes.Spawn k) = true
spawns k = false

abbrev pub invokes : NodeKind → Bool
invokes k = is_some (called_name k)

abbrev pub applies : NodeKind → Bool
applies k = is_some (applied_operation k)

-- The top of the stack is a truth value.
abbrev pub TruthOnTop : List Want → List Want → Type 0
TruthOnTop g below = (f : Form) × (g ≡ wanted (Some (2, f)) ∷ below)

abbrev pub is_lazy : NodeKind → Bool
is_lazy k = is_some (connective k)

-- The left side of node n decides, or the right side does.
pub record TestOk (core : CoreData) (ann : Ann) (m : ℕ) (l s : Mask) (g : List Want) (n : ℕ) (go : Mask → Mask → List Want → Type 0) : Type 0 where
  pub node : Node
  pub is_node : slice_get core.nodes n ≡ Some node
  pub kind : is_lazy node.kind ≡ true
  pub note : Note
  pub ty : note.ty ≡ Some (2, form.Val)
  pub left : ℕ
  pub right : ℕ
  pub children : node.children ≡ left ∷ right ∷ []
  pub below : List Want
  pub top : TruthOnTop g below
  pub live : Within note.live_after l
  pub set : Within note.set_after s
  pub decided : Follows core node note below go
  pub undecided : EvalOk core ann m l s below right go

-- Each branch of node n can be evaluated.
pub record BranchOk (core : CoreData) (ann : Ann) (m : ℕ) (l s : Mask) (g : List Want) (n : ℕ) (go : Mask → Mask → List Want → Type 0) : Type 0 where
  pub node : Node
  pub is_node : slice_get core.nodes n ≡ Some node
  pub condition : ℕ
  pub then_branch : ℕ
  pub else_branch : ℕ
  pub children : node.children ≡ condition ∷ then_branch ∷ else_branch ∷ []
  pub below : List Want
  pub top : TruthOnTop g below
  pub one : EvalOk core ann m l s below then_branch go
  pub other : EvalOk core ann m l s below else_branch go

-- A value is dropped.
pub record DiscardOk (g : List Want) (go : List Want → Type 0) : Type 0 where
  pub top : Want
  pub below : List Want
  pub stack : g ≡ top ∷ below
  pub next : go below

-- The body of node n can be evaluated, and after it the whole loop again; and what follows the node, after the
-- condition.
pub record LoopOk (core : CoreData) (ann : Ann) (m : ℕ) (l s : Mask) (g : List Want) (n : ℕ) (go : Mask → Mask → List Want → Type 0) : Type 0 where
  pub node : Node
  pub is_node : slice_get core.nodes n ≡ Some node
  pub note : Note
  pub ty : note.ty ≡ Some (0, form.Val)
  pub condition : ℕ
  pub body : ℕ
  pub children : node.children ≡ condition ∷ body ∷ []
  pub below : List Want
  pub top : TruthOnTop g below
  pub live : Within note.live_after l
  pub set : Within note.set_after s
  pub ended : Follows core node note below go
  pub turn : EvalOk core ann m l s below body (λ l' s' g'. DiscardOk g' (λ g''. EvalOk core ann m l' s' g'' n go ⊎ BodyOk core ann m l' s' n))

-- The method ends: a function has its result on the stack, and a constructor has set all fields.
pub record ReturnOk (core : CoreData) (m : ℕ) (s : Mask) (g : List Want) : Type 0 where
  pub own : Method
  pub is_own : slice_get core.methods m ≡ Some own
  pub result : own.kind ≡ method.Fun → (top : Want) × (below : List Want) × (g ≡ top ∷ below) × Lower core top.ty (Some own.result)
  pub fields : constructs own.kind ≡ true → Within (all_fields core own.entity) s

-- ---- the tasks of a frame of method m

abbrev pub TasksOk : CoreData → Ann → ℕ → List Task → Mask → Mask → List Want → Type 0
TasksOk core ann m [] l s g = ⊥
TasksOk core ann m (task.Eval n ∷ ts) l s g = EvalOk core ann m l s g n (λ l' s' g'. TasksOk core ann m ts l' s' g') ⊎ BodyOk core ann m l s n
TasksOk core ann m (task.Get n ∷ ts) l s g = FinishOk core ann m l s g reads n (λ l' s' g'. TasksOk core ann m ts l' s' g')
TasksOk core ann m (task.Put n ∷ ts) l s g = FinishOk core ann m l s g writes n (λ l' s' g'. TasksOk core ann m ts l' s' g')
TasksOk core ann m (task.Store n ∷ ts) l s g = FinishOk core ann m l s g stores n (λ l' s' g'. TasksOk core ann m ts l' s' g')
TasksOk core ann m (task.Make n ∷ ts) l s g = FinishOk core ann m l s g makes n (λ l' s' g'. TasksOk core ann m ts l' s' g')
TasksOk core ann m (task.Spawn n ∷ ts) l s g = FinishOk core ann m l s g spawns n (λ l' s' g'. TasksOk core ann m ts l' s' g')
TasksOk core ann m (task.Invoke n ∷ ts) l s g = FinishOk core ann m l s g invokes n (λ l' s' g'. TasksOk core ann m ts l' s' g')
TasksOk core ann m (task.Apply n ∷ ts) l s g = FinishOk core ann m l s g applies n (λ l' s' g'. TasksOk core ann m ts l' s' g')
TasksOk core ann m (task.Test n ∷ ts) l s g = TestOk core ann m l s g n (λ l' s' g'. TasksOk core ann m ts l' s' g')
TasksOk core ann m (task.Branch n ∷ ts) l s g = BranchOk core ann m l s g n (λ l' s' g'. TasksOk core ann m ts l' s' g')
TasksOk core ann m (task.Loop n ∷ ts) l s g = LoopOk core ann m l s g n (λ l' s' g'. TasksOk core ann m ts l' s' g')
TasksOk core ann m (task.Discard ∷ ts) l s g = DiscardOk g (λ g'. TasksOk core ann m ts l s g')
TasksOk core ann m (task.Return ∷ ts) l s g = ReturnOk core m s g
