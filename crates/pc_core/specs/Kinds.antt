-- What a node does, by its kind. A kind without a row does no such thing.
use Rattle.std.specs.Prelude.{ℕ, Option, Some, None}
use Rattle.pc_core.specs.{declared.kinds.Operation.Operation, declared.kinds.Connective.Connective, declared.nodes.NodeKind.NodeKind}
use Rattle.pc_core.specs.declared.kinds.Connective.TheVariants as joins
use Rattle.pc_core.specs.declared.kinds.Operation.TheVariants as applies
use Rattle.pc_core.specs.declared.nodes.NodeKind.TheVariants as node

-- The slot that a definition or an assignment stores its value in.
abbrev pub stored_slot : NodeKind → Option ℕ
stored_slot (node.Define s) = Some s
stored_slot (node.Assign s) = Some s
stored_slot k = None

-- The names of the field that is read, of the field that is written, and of the method that is called, by their numbers.
abbrev pub field_read : NodeKind → Option ℕ
field_read (node.Field name) = Some name
field_read k = None

abbrev pub field_written : NodeKind → Option ℕ
field_written (node.SetField name) = Some name
field_written k = None

abbrev pub called_name : NodeKind → Option ℕ
called_name (node.Call name) = Some name
called_name k = None

-- The operator that is applied to the values of all children, and that whose left side may decide alone.
abbrev pub applied_operation : NodeKind → Option Operation
applied_operation (node.Binary op) = Some (applies.Binary op)
applied_operation (node.Same wanted) = Some (applies.Same wanted)
applied_operation node.Not = Some applies.Not
applied_operation k = None

abbrev pub connective : NodeKind → Option Connective
connective node.And = Some joins.And
connective node.Or = Some joins.Or
connective k = None
