-- What a step leaves unchanged in the objects: everything but the field that its actor was about to write.
use Rattle.std.specs.Prelude.{◌≡◌, ◌⊎◌, ℕ, true, Some, None}
use Rattle.pc_heap.specs.{Objects.class_at, Fields.{field_at, value_at}, declared.value.Address.Address}
use Rattle.pc_core.specs.CoreData.{CoreData}
use Rattle.pc_semantics.specs.{Configurations.Configuration, Safety.access}

-- From c to d, in a step of actor i.
pub record OnlyAccessed (core : CoreData) (c d : Configuration) (i : ℕ) : Type 0 where
  -- An object stays, and keeps its entity.
  pub stays : (a : Address) (e : ℕ) → class_at c.objects a ≡ Some e → class_at d.objects a ≡ Some e
  -- Each of its fields is unchanged, or is the one that the actor was about to write.
  pub fields : (a : Address) (e k : ℕ) → class_at c.objects a ≡ Some e → (field_at d.objects a k ≡ field_at c.objects a k) ⊎ (access core c i ≡ Some (record { address = a; field = k; write = true }))
  -- A new object has no value in any field.
  pub new : (a : Address) (k : ℕ) → class_at c.objects a ≡ None → value_at d.objects a k ≡ None
