-- Objects that have exactly the fields of their entities.
use Rattle.std.specs.{Prelude.{◌≡◌, Some, length, slice_get}, FinMap.get}
use Rattle.pc_heap.specs.{Objects.{Object, ObjectMap}, declared.value.Address.Address}
use Rattle.pc_core.specs.CoreData.{CoreData}
use Rattle.pc_semantics.specs.Parts.{number_of_fields}

-- The object has a place for each field of its entity.
abbrev pub HasFields : CoreData → Object → Type 0
HasFields core o = length o.fields ≡ number_of_fields (slice_get core.entities o.entity)

-- Every object has a place for each field of its entity.
abbrev pub Fielded : CoreData → ObjectMap → Type 0
Fielded core objects = (a : Address) (o : Object) → get objects a ≡ Some o → HasFields core o
