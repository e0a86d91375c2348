-- The fields and methods that a node names.
use Rattle.std.specs.Prelude.{ℕ, Option, Some, None, slice_get}
use Rattle.pc_caps.specs.declared.capability.Cap.{Cap}
use Rattle.pc_core.specs.{CoreData.method_named, declared.declarations.FieldInfo.FieldInfo, declared.declarations.Method.Method, declared.nodes.Node.Node}
use Rattle.pc_base.specs.Lists.{◌>>=◌}
use Rattle.pc_rules.specs.{Fields.field_of, Parts.last_child}
use Rattle.pc_explain_words.specs.Scene.{SceneData, noted_type}

-- The field with this name of the entity of node c.
unfoldable pub field_of_node : SceneData → Option ℕ → (name : ℕ) → Option FieldInfo
field_of_node s None name = None
field_of_node s (Some c) name = do
  ty ← noted_type s c
  f ← field_of s.core ty.0 name
  Some f.1

abbrev pub found_field_place : Option FieldInfo → Option (ℕ × Cap)
found_field_place None = None
found_field_place (Some f) = Some (f.entity, f.cap)

-- The method with this name of the entity of a call's receiver.
unfoldable pub node_callee : SceneData → Node → (name : ℕ) → Option Method
node_callee s x name = do
  c ← last_child x.children
  ty ← noted_type s c
  m ← method_named s.core ty.0 name
  slice_get s.core.methods m
