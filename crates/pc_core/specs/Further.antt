-- Further words on a core, for contracts below the top.
use Rattle.std.specs.Prelude.{ℕ, List, ◌≡◌, true, Some, slice_get, slice_range}
use Rattle.pc_core.specs.{declared.declarations.EntityDef.EntityDef, declared.declarations.Method.Method, declared.nodes.Node.Node, CoreData.{CoreData, node_end}, declared.declarations.MethodKind.MethodKind}
use Rattle.pc_tree.specs.Kinds.{is_abstract}

-- An entity is a trait or an interface.
abbrev pub IsAbstract : CoreData → ℕ → Type 0
IsAbstract core e = (x : EntityDef) × (slice_get core.entities e ≡ Some x) × (is_abstract x.kind ≡ true)

-- The nodes of a method.
abbrev pub own_nodes : CoreData → Method → List Node
own_nodes core x = slice_range core.nodes x.first_node (node_end x.first_node x.body)

-- A method of this kind.
abbrev pub NamesMethod : CoreData → MethodKind → ℕ → Type 0
NamesMethod core k m = (x : Method) × (slice_get core.methods m ≡ Some x) × (x.kind ≡ k)
