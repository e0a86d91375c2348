-- What a hint looks at.
use Rattle.std.specs.{Prelude.{ℕ, Bool, true, false, ◌&&◌, nat_eq, Option, Some, None, slice_get, if◌then◌else◌}, List.list_any}
use Rattle.pc_caps.specs.{Tables.taken, declared.capability.Cap.Cap, declared.capability.Form.Form}
use Rattle.pc_core.specs.{CoreData.CoreData, declared.declarations.EntityDef.EntityDef, declared.declarations.FieldInfo.FieldInfo, declared.declarations.Method.Method, declared.nodes.Node.Node, declared.nodes.NodeKind.NodeKind, Kinds.{called_name, field_read}, FurtherKinds.local_slot}
use Rattle.pc_base.specs.Lists.{◌>>=◌}
use Rattle.pc_explain_parts.specs.{Members.{field_of_node, node_callee}, Parts.last_value}
use Rattle.pc_rules.specs.Calls.{is_function}
use Rattle.pc_tree.specs.declared.kinds.EntityKind.{EntityKind}
use Rattle.pc_explain_words.specs.Scene.{child, is_this_kind, noted_slot_type, noted_type}
use Rattle.pc_explain_sentences.specs.Stop.{StopData, child_form, child_node, own_method}
use Rattle.pc_caps.specs.declared.capability.Cap.TheVariants as cap
use Rattle.pc_caps.specs.declared.capability.Form.TheVariants as form
use Rattle.pc_core.specs.declared.nodes.NodeKind.TheVariants as node
use Rattle.pc_tree.specs.declared.kinds.EntityKind.TheVariants as kind

-- ---- capabilities and forms

abbrev pub is_box_cap : Cap → Bool
is_box_cap cap.Box = true
is_box_cap k = false

abbrev pub is_isolated_cap : Cap → Bool
is_isolated_cap cap.Iso = true
is_isolated_cap cap.Trn = true
is_isolated_cap k = false

abbrev pub is_box_form : Form → Bool
is_box_form form.Box = true
is_box_form f = false

abbrev pub is_tag_form : Form → Bool
is_tag_form form.Tag = true
is_tag_form f = false

-- ---- `this`

abbrev pub gives_box : Option Method → Bool
gives_box None = false
gives_box (Some m) = is_function m.kind && is_box_cap m.receiver

-- A box `this` in a box function.
abbrev pub is_box_this : StopData → Node → Form → Bool
is_box_this st x f = is_this_kind x.kind && (is_box_form f && gives_box (own_method st))

abbrev pub shows_this : Option Node → Bool
shows_this None = false
shows_this (Some x) = is_this_kind x.kind

-- The child is `this`, which is seen as tag.
abbrev pub is_tag_this : StopData → ℕ → Bool
is_tag_this st i = shows_this (child_node st i) && is_tag_form (child_form st i)

-- ---- actors

abbrev pub is_actor_kind : EntityKind → Bool
is_actor_kind kind.Actor = true
is_actor_kind k = false

abbrev pub is_of_actor : Option EntityDef → Bool
is_of_actor None = false
is_of_actor (Some x) = is_actor_kind x.kind

abbrev pub is_tag_actor : CoreData → Option (ℕ × Form) → Bool
is_tag_actor core None = false
is_tag_actor core (Some ty) = is_tag_form ty.1 && is_of_actor (slice_get core.entities ty.0)

-- ---- locals and fields

abbrev pub isolated_cap : Option (ℕ × Cap) → Option Cap
isolated_cap None = None
isolated_cap (Some ty) = if is_isolated_cap ty.1 then Some ty.1 else None

-- The capability of the node, if it is a local of iso or trn.
unfoldable pub local_cap : StopData → Node → Option Cap
local_cap st x = do
  k ← local_slot x.kind
  isolated_cap (noted_slot_type st.scene x.method k)

abbrev pub old_of : Form → FieldInfo → Option Form
old_of f field = if field.fixed then None else taken f field.cap

abbrev pub old_in : StopData → (origin name : ℕ) → Option Form
old_in st c name = do
  ty ← noted_type st.scene c
  field ← field_of_node st.scene (Some c) name
  old_of ty.1 field

abbrev pub old_from : StopData → Option ℕ → (name : ℕ) → Option Form
old_from st None name = None
old_from st (Some c) name = old_in st c name

-- The form of the old value of a `var` field that the node reads.
unfoldable pub old_form : StopData → Node → Option Form
old_form st x = do
  name ← field_read x.kind
  old_from st (child x 0) name

-- ---- results

-- The form of a result that is declared with `^`, for that of one without it.
abbrev pub hat_form : Form → Option Form
hat_form form.Iso = Some form.IsoE
hat_form form.Trn = Some form.TrnE
hat_form f = None

abbrev pub hat_result : Option Method → Option Form
hat_result None = None
hat_result (Some m) = if is_function m.kind then hat_form m.result.1 else None

abbrev pub named_form : ℕ → Option Form → Option (ℕ × Form)
named_form name None = None
named_form name (Some f) = Some (name, f)

-- The name of the function that the node calls, and the form of its result with `^`, if its result is an alias.
unfoldable pub called_hat : StopData → Node → Option (ℕ × Form)
called_hat st x = do
  name ← called_name x.kind
  named_form name (hat_result (node_callee st.scene x name))

-- ---- new objects and assignments

abbrev pub is_new_node : NodeKind → Bool
is_new_node (node.New m) = true
is_new_node k = false

abbrev pub is_assigning : NodeKind → Bool
is_assigning (node.Assign k) = true
is_assigning (node.SetField name) = true
is_assigning k = false

abbrev pub node_assigns : Option Node → Bool
node_assigns None = false
node_assigns (Some x) = is_assigning x.kind

abbrev pub ends_assigned : StopData → Option ℕ → Bool
ends_assigned st None = false
ends_assigned st (Some c) = node_assigns (slice_get st.scene.core.nodes (last_value st.scene.core c))

-- The child ends with an assignment.
unfoldable pub is_assigned : StopData → ℕ → Bool
is_assigned st i = ends_assigned st (child st.at i)

-- ---- the end of a `recover`

abbrev pub is_iso_cap : Cap → Bool
is_iso_cap cap.Iso = true
is_iso_cap k = false

abbrev pub if_iso : ℕ → Option (ℕ × Cap) → Option ℕ
if_iso k None = None
if_iso k (Some ty) = if is_iso_cap ty.1 then Some k else None

-- The slot that the node reads, if it is a local of iso.
unfoldable pub iso_slot : StopData → Node → Option ℕ
iso_slot st x = do
  k ← local_slot x.kind
  if_iso k (noted_slot_type st.scene x.method k)

-- The local of iso with which the first child of a `recover` ends.
unfoldable pub end_slot : StopData → Node → Option ℕ
end_slot st x = do
  c ← child x 0
  e ← slice_get st.scene.core.nodes (last_value st.scene.core c)
  iso_slot st e

-- A `recover` without a written capability.
abbrev pub is_unwritten : NodeKind → Bool
is_unwritten (node.Recover None) = true
is_unwritten k = false

-- The same for any node: none if it is no `recover`, or one whose capability is written.
unfoldable pub recovered_slot : StopData → Node → Option ℕ
recovered_slot st x = if is_unwritten x.kind then end_slot st x else None

-- ---- conditions

abbrev pub is_branching : NodeKind → Bool
is_branching node.If = true
is_branching node.While = true
is_branching k = false

abbrev pub ends_with : CoreData → (n : ℕ) → Option ℕ → Bool
ends_with core n None = false
ends_with core n (Some c) = nat_eq (last_value core c) n

-- The node is an `if` or a `while`, and its condition ends with node n.
abbrev pub has_condition : CoreData → (n : ℕ) → Node → Bool
has_condition core n x = is_branching x.kind && ends_with core n (child x 0)

-- The condition of an `if` or a `while` ends with the node.
unfoldable pub is_in_condition : StopData → Bool
is_in_condition st = list_any (has_condition st.scene.core st.number) st.scene.core.nodes
