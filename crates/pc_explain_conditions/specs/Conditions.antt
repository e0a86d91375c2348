-- What each rule requires of a node, one condition at a time.
use Rattle.std.specs.Prelude.{ℕ, ◌+◌, ◌-◌, List, [], ◌∷◌, ◌++◌, length, Option, Some, None, slice_get, if◌then◌else◌}
use Rattle.pc_ann.specs.{declared.annotation.Note.Note, declared.annotation.Rule.Rule}
use Rattle.pc_caps.specs.declared.capability.Cap.{Cap}
use Rattle.pc_core.specs.{CoreData.CoreData, declared.declarations.FieldInfo.FieldInfo, declared.declarations.Method.Method, declared.declarations.ParamInfo.ParamInfo, declared.nodes.Node.Node, declared.nodes.NodeKind.NodeKind}
use Rattle.pc_base.specs.Lists.{◌>>=◌}
use Rattle.pc_rules.specs.{Parts.slot_of, Fields.{field_of, own_field}, Calls.{called, is_function}, Children.type_at}
use Rattle.pc_valid.specs.Words.{Ty, Slots}
use Rattle.pc_explain_conditions.specs.declared.condition.Condition.{Condition}
use Rattle.pc_ann.specs.declared.annotation.Rule.TheVariants as rule
use Rattle.pc_core.specs.declared.nodes.NodeKind.TheVariants as node
use Rattle.pc_explain_conditions.specs.declared.condition.Condition.TheVariants as asks

-- the entities of literals
abbrev pub u64 : ℕ
u64 = 1

abbrev pub bool : ℕ
bool = 2

abbrev pub string : ℕ
string = 3

-- ---- parts that several rules share

-- The value goes to a place of this entity and capability.
abbrev pub goes : (child : ℕ) → ℕ × Cap → List Condition
goes i p = asks.Typed i ∷ asks.Under i p.0 ∷ asks.Fits i p.1 ∷ []

-- Each argument, from this index on, goes to its parameter.
abbrev pub argument_conditions : ℕ → List ParamInfo → List Condition
argument_conditions i [] = []
argument_conditions i (p ∷ ps) = asks.Typed i ∷ asks.Under i p.entity ∷ asks.Fits i p.cap ∷ argument_conditions (i + 1) ps

-- There are as many arguments as parameters, and each goes to its parameter.
abbrev pub all_go : (arguments : ℕ) → List ParamInfo → List Condition
all_go n ps = asks.Counted n (length ps) ∷ argument_conditions 0 ps

-- Each argument, from this index on, may be passed along with a receiver that is lent.
abbrev pub arguments_sent : ℕ → List ParamInfo → List Condition
arguments_sent i [] = []
arguments_sent i (p ∷ ps) = asks.Sent i p.cap ∷ arguments_sent (i + 1) ps

-- A readable value of this entity.
abbrev pub reads : (child entity : ℕ) → List Condition
reads i e = asks.Typed i ∷ asks.IsA i e ∷ asks.Readable i ∷ []

-- Both sides are such values.
abbrev pub both_read : (entity : ℕ) → List Condition
both_read e = reads 0 e ++ reads 1 e

-- ---- what is required of something that is looked up

-- What is required of it, if it is found. If it is not, an earlier condition fails.
abbrev pub of_found : {A : Type 0} → Option A → (A → List Condition) → List Condition
of_found None ask = []
of_found (Some a) ask = ask a

-- The type of a slot.
abbrev pub slot_type : CoreData → Slots → (method slot : ℕ) → Option (ℕ × Cap)
slot_type core slots m s = do
  i ← slot_of core slots m s
  Some i.1

-- The field with this name of the child's entity.
abbrev pub child_field : CoreData → List Note → (child name : ℕ) → Option (ℕ × FieldInfo)
child_field core ns i name = do
  o ← type_at ns i
  field_of core o.0 name

-- The method with this name of the receiver's entity.
abbrev pub callee : CoreData → List Note → (name : ℕ) → Option Method
callee core ns name = do
  i ← called core ns name
  slice_get core.methods i.1

-- The index of the receiver, which is the number of arguments.
abbrev pub receiver_index : List Note → ℕ
receiver_index ns = length ns - 1

-- The right side has the entity of the left one.
abbrev pub same_read : Ty → List Condition
same_read left = reads 1 left.0

-- ---- what each rule requires of what was looked up

abbrev pub get_conditions : ℕ × FieldInfo → List Condition
get_conditions f = asks.Seen 0 f.1.cap ∷ []

abbrev pub get_own_conditions : ℕ × FieldInfo → List Condition
get_own_conditions f = asks.Set f.0 ∷ []

abbrev pub put_conditions : ℕ × FieldInfo → List Condition
put_conditions f = asks.NotFixed f.1.fixed ∷ asks.Under 0 f.1.entity ∷ asks.Fits 0 f.1.cap ∷ asks.Writable 1 f.1.cap ∷ asks.Enters f.1.cap ∷ []

abbrev pub put_own_conditions : ℕ × FieldInfo → List Condition
put_own_conditions f = asks.Typed 0 ∷ asks.SetOnce f.1.fixed f.0 ∷ asks.Under 0 f.1.entity ∷ asks.Fits 0 f.1.cap ∷ []

abbrev pub assign_conditions : ℕ × Cap → List Condition
assign_conditions p = asks.Under 0 p.0 ∷ asks.Fits 0 p.1 ∷ []

abbrev pub call_conditions : (receiver : ℕ) → Method → List Condition
call_conditions o f = asks.Function f.kind ∷ (all_go o f.params ++ asks.Fits o f.receiver ∷ [])

abbrev pub call_recover_conditions : (receiver : ℕ) → Method → List Condition
call_recover_conditions o f =
    asks.Function f.kind ∷ (all_go o f.params ++ asks.Unfit o f.receiver ∷ asks.Isolated o ∷ asks.Lent f.receiver ∷ arguments_sent 0 f.params)

abbrev pub send_conditions : (receiver : ℕ) → Method → List Condition
send_conditions o f = asks.Behaviour f.kind ∷ all_go o f.params

-- For methods that are not functions there is no requirement.
abbrev pub body_conditions : Method → List Condition
body_conditions f = if is_function f.kind then asks.Typed 0 ∷ asks.Under 0 f.result.0 ∷ asks.Below 0 f.result.1 ∷ [] else []

-- What a rule requires of a node x of kind k whose children have these notes, in order. A rule requires nothing of a
-- node of another kind.
abbrev pub conditions : CoreData → Slots → List Note → Node → Rule → NodeKind → List Condition
conditions core slots ns x rule.Local (node.Local s) = asks.Live s ∷ asks.Reached s ∷ []
conditions core slots ns x rule.Consume (node.Consume s) = asks.Live s ∷ asks.Reached s ∷ []
conditions core slots ns x rule.Get (node.Field name) = asks.Typed 0 ∷ asks.HasField 0 name ∷ of_found (child_field core ns 0 name) get_conditions
conditions core slots ns x rule.GetOwn (node.Field name) = asks.HasOwnField name ∷ of_found (own_field core x name) get_own_conditions
conditions core slots ns x rule.Put (node.SetField name) = asks.Typed 0 ∷ asks.Typed 1 ∷ asks.HasField 1 name ∷ of_found (child_field core ns 1 name) put_conditions
conditions core slots ns x rule.PutOwn (node.SetField name) = asks.HasOwnField name ∷ of_found (own_field core x name) put_own_conditions
conditions core slots ns x rule.Define (node.Define s) = of_found (slot_type core slots x.method s) (goes 0)
conditions core slots ns x rule.Assign (node.Assign s) = asks.Typed 0 ∷ asks.Variable s ∷ asks.Reached s ∷ of_found (slot_type core slots x.method s) assign_conditions
conditions core slots ns x rule.New (node.New k) = of_found (slice_get core.methods k) (λ f. all_go (length ns) f.params)
conditions core slots ns x rule.Spawn (node.Spawn k) = of_found (slice_get core.methods k) (λ f. all_go (length ns) f.params)
conditions core slots ns x rule.Call (node.Call name) =
    asks.Typed (receiver_index ns) ∷ asks.HasMethod name ∷ of_found (callee core ns name) (call_conditions (receiver_index ns))
conditions core slots ns x rule.CallRecover (node.Call name) =
    asks.Typed (receiver_index ns) ∷ asks.HasMethod name ∷ of_found (callee core ns name) (call_recover_conditions (receiver_index ns))
conditions core slots ns x rule.Send (node.Call name) =
    asks.Typed (receiver_index ns) ∷ asks.HasMethod name ∷ of_found (callee core ns name) (send_conditions (receiver_index ns))
conditions core slots ns x rule.Builtin (node.Call name) = asks.Counted (receiver_index ns) 0 ∷ asks.Typed 0 ∷ asks.Printable 0 ∷ asks.Readable 0 ∷ []
conditions core slots ns x rule.Arith (node.Binary o) = both_read u64
conditions core slots ns x rule.Compare (node.Binary o) = both_read u64
conditions core slots ns x rule.Equal (node.Binary o) = asks.Typed 0 ∷ asks.Comparable 0 ∷ asks.Readable 0 ∷ of_found (type_at ns 0) same_read
conditions core slots ns x rule.Join (node.Binary o) = both_read string
conditions core slots ns x rule.Logic (node.Binary o) = both_read bool
conditions core slots ns x rule.Logic node.Not = reads 0 bool
conditions core slots ns x rule.Lazy node.And = both_read bool
conditions core slots ns x rule.Lazy node.Or = both_read bool
conditions core slots ns x rule.Identity (node.Same v) = asks.Typed 0 ∷ asks.Typed 1 ∷ []
conditions core slots ns x rule.If node.If = reads 0 bool
conditions core slots ns x rule.While node.While = reads 0 bool ++ asks.KeepsLive ∷ asks.KeepsSet ∷ []
conditions core slots ns x rule.Recover (node.Recover k) = asks.Typed 0 ∷ asks.Lifted k ∷ []
conditions core slots ns x rule.Body node.Body = of_found (slice_get core.methods x.method) body_conditions
conditions core slots ns x r k = []
