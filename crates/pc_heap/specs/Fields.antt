-- What a field of an object holds.
use Rattle.std.specs.{Prelude.{ℕ, Option, option_and_then, slice_get}, FinMap.get, Option.option_flatten}
use Rattle.pc_heap.specs.{declared.value.Address.Address, Objects.{Object, ObjectMap}, declared.value.Value.Value}

-- the field of the object at an address: none if there is no such field, else its contents, which may be none
abbrev pub field_at : ObjectMap → Address → ℕ → Option (Option Value)
field_at objects address field = option_and_then (λ (object : Object). slice_get object.fields field) (get objects address)

-- the value in a field of the object at an address
abbrev pub value_at : ObjectMap → Address → ℕ → Option Value
value_at objects address field = option_flatten (field_at objects address field)
