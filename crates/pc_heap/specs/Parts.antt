-- Parts of what is said of objects, as proofs name them.
use Rattle.std.specs.{Prelude.{ℕ, Option, option_and_then, option_map, slice_get, unwrap_or}, Option.option_flatten}
use Rattle.pc_heap.specs.{Objects.{Object, new_object}, declared.value.Value.Value}

-- the object, or one without fields
abbrev pub object_in : Option Object → Object
object_in o = unwrap_or o (new_object 0 0)

abbrev pub class_in : Option Object → Option ℕ
class_in o = option_map (λ (object : Object). object.entity) o

abbrev pub field_in : Option Object → ℕ → Option (Option Value)
field_in o field = option_and_then (λ (object : Object). slice_get object.fields field) o

abbrev pub value_in : Option (Option Value) → Option Value
value_in o = option_flatten o
