-- When waiting messages are isolated in depth: arguments are let alone, and what fields other than `tag` lead to.
use Rattle.std.specs.Prelude.{◌≡◌, ◌≢◌, ◌⊎◌, ℕ, Bool, true, false, Option, Some, slice_get}
use Rattle.pc_heap.specs.{Objects.{ObjectMap, class_at}, Fields.value_at, declared.value.Address.Address, declared.value.Value.TheVariants.At}
use Rattle.pc_caps.specs.{Tables.at, declared.capability.Cap.Cap}
use Rattle.pc_core.specs.CoreData.{CoreData}
use Rattle.pc_base.specs.Lists.{◌>>=◌}
use Rattle.pc_semantics.specs.{declared.access.Access.Access, declared.mailbox.Message.Message, Configurations.Configuration, Safety.access}
use Rattle.pc_caps.specs.declared.capability.Cap.TheVariants as cap

-- The capability with which a field of an object is declared.
abbrev pub field_cap : CoreData → ObjectMap → Address → ℕ → Option Cap
field_cap core objects a place = do
  class ← class_at objects a
  entity ← slice_get core.entities class
  field ← slice_get entity.fields place
  Some field.cap

-- A field of the object at a, declared with capability q, holds the object at b.
pub record FieldLeads (core : CoreData) (objects : ObjectMap) (q : Cap) (a b : Address) : Type 0 where
  pub place : ℕ
  pub declared : field_cap core objects a place ≡ Some q
  pub holds : value_at objects a place ≡ Some (At b)

-- Fields of allowed capabilities lead, one after another, from the object at a to the one at b, which may be a itself.
pub data FieldsReach (core : CoreData) (objects : ObjectMap) (allowed : Cap → Bool) (a : Address) : Address → Type 0 where
  itself : {b : Address} → b ≡ a → FieldsReach core objects allowed a b
  further : {b : Address} → (o : Address) (q : Cap) → FieldsReach core objects allowed a o → allowed q ≡ true → FieldLeads core objects q o b → FieldsReach core objects allowed a b

-- Fields that keep their contents with their object, and fields through which their contents can be read: all but
-- `tag`. The columns are iso, trn, ref, val, box and tag.
abbrev pub keeps : Cap → Bool
keeps = at true true true false false false

abbrev pub shows : Cap → Bool
shows = at true true true true true false

-- The k-th message that waits for actor j.
abbrev pub waiting_at : Configuration → (j k : ℕ) → Option Message
waiting_at c j k = slice_get c.actors j >>= λ actor. slice_get actor.mailbox k

-- The capability with which the n-th parameter of a message's method is declared.
abbrev pub parameter_cap : CoreData → Message → ℕ → Option Cap
parameter_cap core message n = slice_get core.methods message.method >>= λ method. slice_get method.params n >>= λ parameter. Some parameter.cap

-- Argument n of message k that waits for actor j is the object at a; its parameter is declared with capability q.
pub record Waits (core : CoreData) (c : Configuration) (j k n : ℕ) (q : Cap) (a : Address) : Type 0 where
  pub message : Message
  pub waits : waiting_at c j k ≡ Some message
  pub declared : parameter_cap core message n ≡ Some q
  pub argument : slice_get message.arguments n ≡ Some (At a)

-- The object at b is inside this argument, which is `iso`: fields that keep their contents lead to it.
abbrev pub Inside : CoreData → Configuration → (j k n : ℕ) → Address → Type 0
Inside core c j k n b = (a : Address) × Waits core c j k n cap.Iso a × FieldsReach core c.objects keeps a b

-- The object at b is seen from this argument, which is `iso` or `val`: fields that show their contents lead to it.
abbrev pub SeenFrom : CoreData → Configuration → (j k n : ℕ) → Address → Type 0
SeenFrom core c j k n b = (a : Address) × (Waits core c j k n cap.Iso a ⊎ Waits core c j k n cap.Val a) × FieldsReach core c.objects shows a b

-- No actor's next step touches what is inside a waiting argument, or what leads there by fields that show their
-- contents; none writes what is seen from one; what is inside an argument is neither inside another nor seen from it.
pub record Isolated (core : CoreData) (c : Configuration) : Type 0 where
  pub untouched : (j k n : ℕ) (b : Address) → Inside core c j k n b → (i : ℕ) (x : Access) → access core c i ≡ Some x → x.address ≢ b
  pub unreached : (j k n : ℕ) (b : Address) → Inside core c j k n b → (i : ℕ) (x : Access) → access core c i ≡ Some x → FieldsReach core c.objects shows x.address b → ⊥
  pub unwritten : (j k n : ℕ) (b : Address) → SeenFrom core c j k n b → (i : ℕ) (x : Access) → access core c i ≡ Some x → x.write ≡ true → x.address ≢ b
  pub apart : (j k n g l m : ℕ) (b : Address) → Inside core c j k n b → Inside core c g l m b → (j ≡ g) × (k ≡ l) × (n ≡ m)
  pub unseen : (j k n g l m : ℕ) (b : Address) → Inside core c j k n b → SeenFrom core c g l m b → (j ≡ g) × (k ≡ l) × (n ≡ m)
