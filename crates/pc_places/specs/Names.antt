-- What the core does not record: where the name of a slot is in the source, and in which entity a method is written.
use Rattle.std.specs.{Prelude.{ℕ, ◌-◌, Bool, false, ◌&&◌, List, [], length, Option, Some, None, nat_eq, nat_lt, nat_le, if◌then◌else◌, slice_get, slice_range, find, count_by}, Option.option_map_or}
use Rattle.pc_base.specs.{declared.span.Span.Span, Lists.{◌>>=◌, Text}}
use Rattle.pc_core.specs.{CoreData.CoreData, Further.own_nodes, FurtherKinds.defined_slot, declared.declarations.EntityDef.EntityDef, declared.declarations.Method.Method, declared.nodes.Node.Node, declared.nodes.NodeKind.NodeKind, declared.nodes.Slot.Slot, declared.nodes.SlotKind.SlotKind}
use Rattle.pc_token.specs.declared.kinds.Token.{Token}
use Rattle.pc_core.specs.declared.nodes.SlotKind.TheVariants as slot

-- ---- the names of slots

-- A node defines the slot with this index in its method.
abbrev pub defines_slot : ℕ → NodeKind → Bool
defines_slot s k = option_map_or (λ i. nat_eq i s) (defined_slot k) false

-- The node by which a method defines the slot with this index.
abbrev pub definition_of : CoreData → Method → ℕ → Option Node
definition_of core x s = find (λ n. defines_slot s n.kind) (own_nodes core x)

-- The first token that starts after this byte.
abbrev pub token_after : List Token → ℕ → Option Token
token_after tokens place = find (λ t. nat_lt place t.span.start) tokens

-- A local's definition begins with `let` or `var`, and its name is the next token.
abbrev pub local_place : CoreData → List Token → Method → ℕ → Option Span
local_place core tokens x s = do
  n ← definition_of core x s
  t ← token_after tokens n.span.start
  Some t.span

-- The slots of the parameters come after that of `this`.
abbrev pub param_place : Method → ℕ → Option Span
param_place x s = do
  p ← slice_get x.params (s - 1)
  Some p.span

-- The span of the name of the slot with index s in method x. `this` has none.
abbrev pub name_place : CoreData → List Token → Method → ℕ → SlotKind → Option Span
name_place core tokens x s slot.This = None
name_place core tokens x s slot.Param = param_place x s
name_place core tokens x s slot.Let = local_place core tokens x s
name_place core tokens x s slot.Var = local_place core tokens x s

-- The span of the name of slot number k.
abbrev pub slot_place : CoreData → List Token → ℕ → Slot → Option Span
slot_place core tokens k y = do
  x ← slice_get core.methods y.method
  name_place core tokens x (k - x.first_slot) y.kind

-- The bytes of the source in a span.
abbrev pub source_text_at : Text → Span → Text
source_text_at source place = if nat_le place.start place.end && nat_le place.end (length source) then slice_range source place.start place.end else []

-- ---- methods that are taken over

-- The name of an entity does not start after this byte.
abbrev pub starts_by : ℕ → EntityDef → Bool
starts_by place x = nat_le x.span.start place

-- The entity in whose text a method is written: entities are in the order of the text, and it is the last one whose
-- name does not start after the method's.
abbrev pub writer_of : CoreData → Method → ℕ
writer_of core x = count_by (starts_by x.span.start) core.entities - 1
