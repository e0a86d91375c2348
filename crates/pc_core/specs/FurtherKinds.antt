-- More of what a node does, by its kind. A kind without a row does no such thing.
use Rattle.std.specs.Prelude.{ℕ, Option, Some, None}
use Rattle.pc_core.specs.declared.nodes.NodeKind.{NodeKind}
use Rattle.pc_core.specs.declared.nodes.NodeKind.TheVariants as node

-- The slot that a node of this kind defines.
abbrev pub defined_slot : NodeKind → Option ℕ
defined_slot (node.Define s) = Some s
defined_slot k = None

-- The slot whose value is read, and stays there.
abbrev pub local_slot : NodeKind → Option ℕ
local_slot (node.Local s) = Some s
local_slot k = None

-- The slot whose value is consumed.
abbrev pub consumed_slot : NodeKind → Option ℕ
consumed_slot (node.Consume s) = Some s
consumed_slot k = None

-- The name of the field or the method that is read, written or called.
abbrev pub member_name : NodeKind → Option ℕ
member_name (node.Field name) = Some name
member_name (node.SetField name) = Some name
member_name (node.Call name) = Some name
member_name k = None

-- The constructor, of a class or an actor, by the number of its method.
abbrev pub constructor : NodeKind → Option ℕ
constructor (node.New m) = Some m
constructor (node.Spawn m) = Some m
constructor k = None
