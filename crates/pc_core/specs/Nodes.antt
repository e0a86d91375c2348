-- When a node fits its core.
use Rattle.std.specs.Prelude.{◌≡◌, ◌⊎◌, ℕ, ◌+◌, ◌<◌, ◌≤◌, Bool, true, false, length, Some, slice_get}
use Rattle.pc_tree.specs.{declared.kinds.Op.Op, Kinds.{none_entity, first_own}}
use Rattle.pc_core.specs.{declared.declarations.EntityDef.EntityDef, declared.declarations.Method.Method, declared.nodes.Slot.Slot, declared.nodes.Node.Node, declared.nodes.NodeKind.NodeKind, CoreData.CoreData, Methods.is_local, Further.NamesMethod}
use Rattle.pc_base.specs.Lists.{Each}
use Rattle.pc_tree.specs.declared.kinds.EntityKind.TheVariants as kind
use Rattle.pc_tree.specs.declared.kinds.Op.TheVariants as op
use Rattle.pc_core.specs.declared.declarations.MethodKind.TheVariants as method
use Rattle.pc_core.specs.declared.nodes.NodeKind.TheVariants as node

-- A node of this kind has k children.
abbrev pub HasArity : NodeKind → ℕ → Type 0
HasArity (node.Number v) k = k ≡ 0
HasArity (node.Truth v) k = k ≡ 0
HasArity (node.Text v) k = k ≡ 0
HasArity (node.Prim e) k = k ≡ 0
HasArity node.This k = k ≡ 0
HasArity (node.Local s) k = k ≡ 0
HasArity (node.Consume s) k = k ≡ 0
HasArity (node.Field f) k = k ≡ 1
HasArity (node.SetField f) k = k ≡ 2
HasArity (node.Define s) k = k ≡ 1
HasArity (node.Assign s) k = k ≡ 1
HasArity (node.New m) k = Unit {0}
HasArity (node.Spawn m) k = Unit {0}
HasArity (node.Call f) k = 1 ≤ k
HasArity (node.Binary o) k = k ≡ 2
HasArity node.Not k = k ≡ 1
HasArity node.And k = k ≡ 2
HasArity node.Or k = k ≡ 2
HasArity (node.Same v) k = k ≡ 2
HasArity node.Seq k = 1 ≤ k
HasArity node.If k = k ≡ 3
HasArity node.While k = k ≡ 2
HasArity (node.Recover c) k = k ≡ 1
HasArity node.Body k = k ≡ 1

-- The depth of the contents of a node of this kind and depth: one more in a recover.
abbrev pub inner_depth : NodeKind → ℕ → ℕ
inner_depth (node.Recover c) d = d + 1
inner_depth k d = d

-- The operators of arithmetic, comparison and `xor`. The others have node kinds of their own.
abbrev pub is_binary : Op → Bool
is_binary op.And = false
is_binary op.Or = false
is_binary op.Is = false
is_binary op.Isnt = false
is_binary o = true

-- A primitive whose value can be written: None, or one of the file.
abbrev pub NamesPrimitive : CoreData → ℕ → Type 0
NamesPrimitive core e = (e ≡ none_entity) ⊎ ((first_own ≤ e) × ((x : EntityDef) × (slice_get core.entities e ≡ Some x) × (x.kind ≡ kind.Primitive)))

-- A slot of the node's method, other than that of `this`.
abbrev pub NamesSlot : CoreData → (method slot : ℕ) → Type 0
NamesSlot core m s = (0 < s) × ((x : Method) × (slice_get core.methods m ≡ Some x) × (s < x.slots))

-- A slot of a local of the node's method.
abbrev pub NamesLocal : CoreData → (method slot : ℕ) → Type 0
NamesLocal core m s =
    (x : Method) × (y : Slot) × (slice_get core.methods m ≡ Some x) × (s < x.slots)
    × (slice_get core.slots (x.first_slot + s) ≡ Some y) × (is_local y.kind ≡ true)

-- The number in a node of method m refers to something of the right kind.
abbrev pub NamesFit : CoreData → ℕ → NodeKind → Type 0
NamesFit core m (node.Prim e) = NamesPrimitive core e
NamesFit core m (node.Local s) = NamesSlot core m s
NamesFit core m (node.Consume s) = NamesSlot core m s
NamesFit core m (node.Assign s) = NamesSlot core m s
NamesFit core m (node.Define s) = NamesLocal core m s
NamesFit core m (node.Field f) = f < length core.names
NamesFit core m (node.SetField f) = f < length core.names
NamesFit core m (node.Call f) = f < length core.names
NamesFit core m (node.New k) = NamesMethod core method.New k
NamesFit core m (node.Spawn k) = NamesMethod core method.Spawn k
NamesFit core m (node.Binary o) = is_binary o ≡ true
NamesFit core m k = Unit {0}

-- A node fits the core.
pub record NodeFits (core : CoreData) (n : ℕ) (x : Node) : Type 0 where
  pub arity : HasArity x.kind (length x.children)
  pub depths : Each (λ i c. (y : Node) → slice_get core.nodes c ≡ Some y → y.depth ≡ inner_depth x.kind x.depth) x.children
  pub names : NamesFit core x.method x.kind
