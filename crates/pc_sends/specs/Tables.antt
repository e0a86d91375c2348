-- The table of who sends what.
use Rattle.std.specs.Prelude.{◌≡◌, ◌⊎◌, ◌↔◌, ℕ, false, List, length, Some, slice_get, ◌-◌, Bool, true, Option, None, [], ◌∷◌, ◌<◌, ◌≤◌}
use Rattle.pc_tree.specs.Kinds.{is_abstract, first_own}
use Rattle.pc_core.specs.{declared.declarations.EntityDef.EntityDef, CoreData.{CoreData, method_named}, Entities.Conforms, declared.declarations.Method.Method, declared.declarations.MethodKind.MethodKind, declared.nodes.Node.Node, declared.nodes.NodeKind.NodeKind}
use Rattle.pc_base.specs.Lists.{◌>>=◌, Has, Each, Ascends}
use Rattle.pc_semantics.specs.{Configurations.{main_create, Configuration, Around, Move, Spawns, Sends as Sending}, declared.frames.Frame.Frame, declared.frames.Task.Task, declared.mailbox.Message.Message, Step.{task_move, around}}
use Rattle.pc_sends.specs.{declared.table.Row.Row, declared.table.Table.Table}
use Rattle.pc_core.specs.declared.declarations.MethodKind.TheVariants as method
use Rattle.pc_core.specs.declared.nodes.NodeKind.TheVariants as nodes
use Rattle.pc_tree.specs.declared.kinds.EntityKind.TheVariants as kind

-- The entities are the same, or the second is a trait or an interface to which the first conforms, by its methods.
abbrev pub IsOrConformsTo : CoreData → (entity other : ℕ) → Type 0
IsOrConformsTo core d e = (d ≡ e) ⊎ (((x : EntityDef) × (slice_get core.entities e ≡ Some x) × (is_abstract x.kind ≡ true)) × Conforms core d e)

-- A value that is known to be of entity e may be of entity d. No value is of a trait or an interface.
pub record MayBe (core : CoreData) (d e : ℕ) : Type 0 where
  pub own : EntityDef
  pub is_own : slice_get core.entities d ≡ Some own
  pub concrete : is_abstract own.kind ≡ false
  pub is_one : IsOrConformsTo core d e

-- A function or a behaviour.
abbrev pub is_called : MethodKind → Bool
is_called method.Fun = true
is_called method.Be = true
is_called method.New = false
is_called method.Spawn = false

-- A call of this name, on a receiver that is known to be of entity e, may call method t: the method of an entity that
-- the receiver may have.
pub record MayCall (core : CoreData) (name e t : ℕ) : Type 0 where
  pub entity : ℕ
  pub may_be : MayBe core entity e
  pub found : method_named core entity name ≡ Some t
  pub method : Method
  pub is_method : slice_get core.methods t ≡ Some method
  pub called : is_called method.kind ≡ true

-- ---- nodes

-- The receiver of a call is its last child.
abbrev pub last_child_of : List ℕ → Option ℕ
last_child_of children = slice_get children (length children - 1)

-- The entity that is noted at a node.
abbrev pub noted_at : List (Option ℕ) → ℕ → Option ℕ
noted_at ents r = do
  e ← slice_get ents r
  e

-- The entity that is noted at the receiver of a call with these children.
abbrev pub noted_receiver : List (Option ℕ) → List ℕ → Option ℕ
noted_receiver ents children = do
  r ← last_child_of children
  noted_at ents r

-- A node may make, spawn or call method t.
abbrev pub Aims : CoreData → List (Option ℕ) → NodeKind → List ℕ → ℕ → Type 0
Aims core ents (nodes.New k) children t = k ≡ t
Aims core ents (nodes.Spawn k) children t = k ≡ t
Aims core ents (nodes.Call name) children t = (e : ℕ) × (noted_receiver ents children ≡ Some e) × MayCall core name e t
Aims core ents k children t = ⊥

-- A node of method m may make, spawn or call method t.
pub record UsesMethod (core : CoreData) (ents : List (Option ℕ)) (m t : ℕ) : Type 0 where
  pub number : ℕ
  pub node : Node
  pub is_node : slice_get core.nodes number ≡ Some node
  pub own : node.method ≡ m
  pub aims : Aims core ents node.kind node.children t

-- The least set of methods with Main's `create` and, with each method, those that its nodes may make, spawn or call.
pub data Reach (core : CoreData) (ents : List (Option ℕ)) : ℕ → Type 0 where
  first : {e t : ℕ} → main_create core ≡ Some (e, t) → Reach core ents t
  next : {m t : ℕ} → Reach core ents m → UsesMethod core ents m t → Reach core ents t

-- ---- Sends

-- If a node of this kind uses method t, it sends a message: it is a Spawn, or a Call with a behaviour t.
abbrev pub IsSent : CoreData → NodeKind → ℕ → Type 0
IsSent core (nodes.Spawn k) t = Unit {0}
IsSent core (nodes.Call name) t = (x : Method) × (slice_get core.methods t ≡ Some x) × (x.kind ≡ method.Be)
IsSent core k t = ⊥

-- A node of method m may send method t.
abbrev pub Posts : CoreData → List (Option ℕ) → (method target : ℕ) → Type 0
Posts core ents m t = (u : UsesMethod core ents m t) × IsSent core u.node.kind t

-- A method of entity e that is in Reach may send method t.
pub record Sends (core : CoreData) (ents : List (Option ℕ)) (e t : ℕ) : Type 0 where
  pub from : ℕ
  pub reached : Reach core ents from
  pub method : Method
  pub is_method : slice_get core.methods from ≡ Some method
  pub entity : method.entity ≡ e
  pub posts : Posts core ents from t

-- Methods of these kinds are sent: behaviours, and the constructors of actors.
abbrev pub is_message : MethodKind → Bool
is_message method.Fun = false
is_message method.Be = true
is_message method.New = false
is_message method.Spawn = true

-- The running frame of actor i.
abbrev pub running : Configuration → ℕ → Option Frame
running c i = do
  a ← slice_get c.actors i
  slice_get a.frames 0

-- ---- when an actor is about to send a message

-- The message of a move: the one for a new actor's constructor, or the one for a behaviour.
abbrev pub message_of : Move → Option Message
message_of (Spawns o m f) = Some m
message_of (Sending j m f) = Some m
message_of move = None

-- The move of a frame with these tasks.
abbrev pub next_move : CoreData → Around → Frame → List Task → Option Move
next_move core around f [] = None
next_move core around f (t ∷ ts) = Some (task_move core around (record { method = f.method; slots = f.slots; stack = f.stack; tasks = ts }) t)

-- Actor i is about to send message m, in a frame of method x.
pub record IsSending (core : CoreData) (c : Configuration) (i : ℕ) (x : Method) (m : Message) : Type 0 where
  pub frame : Frame
  pub runs : running c i ≡ Some frame
  pub is_method : slice_get core.methods frame.method ≡ Some x
  pub move : Move
  pub is_move : next_move core (around c i) frame frame.tasks ≡ Some move
  pub sends : message_of move ≡ Some m

-- ---- rows

abbrev pub row : (entity target : ℕ) → Row
row e t = record { from = e; target = t }

-- By the sending entity, and then by the method that is sent.
abbrev pub RowBefore : Row → Row → Type 0
RowBefore a b = (a.from < b.from) ⊎ ((a.from ≡ b.from) × (a.target < b.target))

abbrev pub InOrder : List Row → Type 0
InOrder rows = (i j : ℕ) (a b : Row) → i < j → slice_get rows i ≡ Some a → slice_get rows j ≡ Some b → RowBefore a b

-- ---- what is never sent

-- An actor of the file, whose entities follow the built-in ones.
pub record IsOwnActor (core : CoreData) (e : ℕ) : Type 0 where
  pub entity : EntityDef
  pub is_entity : slice_get core.entities e ≡ Some entity
  pub own : first_own ≤ e
  pub actor : entity.kind ≡ kind.Actor

-- A behaviour or a constructor of one of the file's actors.
pub record IsOfActor (core : CoreData) (t : ℕ) : Type 0 where
  pub method : Method
  pub is_method : slice_get core.methods t ≡ Some method
  pub message : is_message method.kind ≡ true
  pub actor : IsOwnActor core method.entity

-- The program does not begin with this method.
abbrev pub IsLater : Option (ℕ × ℕ) → ℕ → Type 0
IsLater start t = (e : ℕ) → start ≡ Some (e, t) → ⊥

-- The same, and nothing sends it.
pub record IsNever (core : CoreData) (ents : List (Option ℕ)) (t : ℕ) : Type 0 where
  pub of_actor : IsOfActor core t
  pub later : IsLater (main_create core) t
  pub unsent : (e : ℕ) → Sends core ents e t → ⊥

-- The table of who sends what, by the entities that are noted at the nodes.
pub record IsTable (core : CoreData) (ents : List (Option ℕ)) (table : Table) : Type 0 where
  -- who sends what: each pair once, in order
  pub order : InOrder table.rows
  pub rows : (e t : ℕ) → (Has table.rows (row e t)) ↔ (Sends core ents e t)
  -- what is never sent
  pub never_ascends : Ascends table.never
  pub never : (t : ℕ) → (Has table.never t) ↔ (IsNever core ents t)
  -- what may begin or be sent
  pub reached_ascends : Ascends table.reached
  pub reached : (t : ℕ) → (Has table.reached t) ↔ (Reach core ents t)

-- What the table states about a configuration.
pub record TableTells (core : CoreData) (table : Table) (c : Configuration) : Type 0 where
  -- each frame is one of a method that is reached
  pub frames : Each (λ i a. Each (λ k f. Has table.reached f.method) a.frames) c.actors
  -- whatever is about to be sent has its row
  pub sends : (i : ℕ) (x : Method) (m : Message) → IsSending core c i x m → Has table.rows (row x.entity m.method)
  -- no message in a mailbox is one that is never sent
  pub waits : Each (λ i a. Each (λ k m. Has table.never m.method → ⊥) a.mailbox) c.actors
