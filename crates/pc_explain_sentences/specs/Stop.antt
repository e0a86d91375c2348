-- A node at which no rule holds, and what can be read from it.
use Rattle.std.specs.Prelude.{ℕ, ◌-◌, [], length, Option, Some, None, slice_get, unwrap_or}
use Rattle.pc_caps.specs.declared.capability.Form.{Form}
use Rattle.pc_core.specs.{CoreData.CoreData, declared.declarations.EntityDef.EntityDef, declared.declarations.FieldInfo.FieldInfo, declared.declarations.Method.Method, declared.nodes.Node.Node, declared.nodes.NodeKind.NodeKind, Kinds.called_name, FurtherKinds.{constructor, member_name}}
use Rattle.pc_base.specs.Lists.{◌>>=◌, Text}
use Rattle.pc_masks.specs.{Masks.first, declared.mask.Mask.Mask}
use Rattle.pc_explain_parts.specs.{Members.node_callee, Parts.{child_role, shown_node}}
use Rattle.pc_explain_words.specs.{Forms.{entity_name, name_text}, Scene.{SceneData, child, slot_name, noted_type}}
use Rattle.pc_caps.specs.declared.capability.Form.TheVariants as form

-- The node, its number, and the masks before it.
pub record StopData : Type 0 where
  pub scene : SceneData
  pub number : ℕ
  pub at : Node
  pub live : Mask
  pub set : Mask

-- A node of the scene, with empty masks.
abbrev pub stop_without_masks : SceneData → ℕ → Node → StopData
stop_without_masks s n x = record { scene = s; number = n; at = x; live = first 0; set = first 0 }

-- ---- its children

unfoldable pub child_type : StopData → ℕ → Option (ℕ × Form)
child_type st i = do
  c ← child st.at i
  noted_type st.scene c

abbrev pub form_of : Option (ℕ × Form) → Form
form_of None = form.Tag
form_of (Some ty) = ty.1

-- The form of the child. It is not used if the child has no type.
unfoldable pub child_form : StopData → ℕ → Form
child_form st i = form_of (child_type st i)

abbrev pub name_of_type_entity : CoreData → Option (ℕ × Form) → Text
name_of_type_entity core None = []
name_of_type_entity core (Some ty) = entity_name core ty.0

-- The name of the entity of the child.
unfoldable pub child_entity : StopData → ℕ → Text
child_entity st i = name_of_type_entity st.scene.core (child_type st i)

-- The node that the child with this index shows.
unfoldable pub child_node : StopData → ℕ → Option Node
child_node st i = do
  c ← child st.at i
  slice_get st.scene.core.nodes (shown_node st.scene.core (child_role st.at i) c)

abbrev pub receiver_child_index : StopData → ℕ
receiver_child_index st = length st.at.children - 1

-- ---- what it names

-- The method whose parameters the arguments go to.
abbrev pub method_of_call : StopData → Option Method
method_of_call st = do
  name ← called_name st.at.kind
  node_callee st.scene st.at name

abbrev pub method_by : StopData → (constructor : Option ℕ) → Option Method
method_by st (Some m) = slice_get st.scene.core.methods m
method_by st None = method_of_call st

unfoldable pub node_method : StopData → Option Method
node_method st = method_by st (constructor st.at.kind)

abbrev pub name_by : NodeKind → ℕ
name_by k = unwrap_or (member_name k) 0

-- The name of a slot of the node's method.
unfoldable pub own_slot : StopData → ℕ → Text
own_slot st k = slot_name st.scene st.at.method k

-- The text of the name of the field or the method that the node names.
unfoldable pub named_member : StopData → Text
named_member st = name_text st.scene.core (name_by st.at.kind)

-- ---- its method, and its method's entity

abbrev pub own_method : StopData → Option Method
own_method st = slice_get st.scene.core.methods st.at.method

abbrev pub name_of_method_entity : CoreData → Option Method → Text
name_of_method_entity core None = []
name_of_method_entity core (Some x) = entity_name core x.entity

unfoldable pub own_entity : StopData → Text
own_entity st = name_of_method_entity st.scene.core (slice_get st.scene.core.methods st.at.method)

abbrev pub field_text : CoreData → Option FieldInfo → Text
field_text core None = []
field_text core (Some f) = name_text core f.name

abbrev pub field_text_in : CoreData → Option EntityDef → ℕ → Text
field_text_in core None i = []
field_text_in core (Some e) i = field_text core (slice_get e.fields i)

abbrev pub field_by : CoreData → Option Method → ℕ → Text
field_by core None i = []
field_by core (Some x) i = field_text_in core (slice_get core.entities x.entity) i

-- The name of the field with this index of its method's entity.
unfoldable pub own_field_name : StopData → ℕ → Text
own_field_name st i = field_by st.scene.core (slice_get st.scene.core.methods st.at.method) i
