-- The words of kinds.
use Rattle.std.specs.Prelude.{Bool, true, false, codes}
use Rattle.pc_core.specs.{declared.declarations.MethodKind.MethodKind, declared.nodes.SlotKind.SlotKind}
use Rattle.pc_base.specs.Lists.{Text}
use Rattle.pc_tree.specs.declared.kinds.EntityKind.{EntityKind}
use Rattle.pc_core.specs.declared.declarations.MethodKind.TheVariants as method
use Rattle.pc_core.specs.declared.nodes.SlotKind.TheVariants as slot
use Rattle.pc_tree.specs.declared.kinds.EntityKind.TheVariants as kind

abbrev pub entity_kind_word : EntityKind → Text
entity_kind_word kind.Class = codes "class"
entity_kind_word kind.Actor = codes "actor"
entity_kind_word kind.Primitive = codes "primitive"
entity_kind_word kind.Trait = codes "trait"
entity_kind_word kind.Interface = codes "interface"

-- Of a field, by whether it is assigned once.
abbrev pub field_word : Bool → Text
field_word true = codes "let"
field_word false = codes "var"

abbrev pub method_kind_word : MethodKind → Text
method_kind_word method.Fun = codes "fun"
method_kind_word method.Be = codes "be"
method_kind_word method.New = codes "new"
method_kind_word method.Spawn = codes "spawn"

abbrev pub slot_word : SlotKind → Text
slot_word slot.This = codes "this"
slot_word slot.Param = codes "param"
slot_word slot.Let = codes "let"
slot_word slot.Var = codes "var"
