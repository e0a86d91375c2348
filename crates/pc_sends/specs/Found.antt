-- What the code of `sends` finds on its way to the table.
use Rattle.std.specs.Prelude.{◌≡◌, ◌⊎◌, ◌↔◌, ℕ, List, length, Some, slice_get, Option, None, if◌then◌else◌}
use Rattle.pc_core.specs.CoreData.{CoreData, method_named}
use Rattle.pc_base.specs.Lists.{◌>>=◌, Has}
use Rattle.pc_semantics.specs.Configurations.{main_create}
use Rattle.pc_sends.specs.Tables.{MayBe, is_called, MayCall, Sends}

-- For each entity of the core, the entities that a value may have if it is known to be of it.
pub record ListsMayBe (core : CoreData) (lists : List (List ℕ)) : Type 0 where
  pub whole : length lists ≡ length core.entities
  pub each : (e : ℕ) (ds : List ℕ) → slice_get lists e ≡ Some ds → (d : ℕ) → (Has ds d) ↔ (MayBe core d e)

-- The function or behaviour with this name of entity d.
abbrev pub called_in : CoreData → (name entity : ℕ) → Option ℕ
called_in core name d = do
  t ← method_named core d name
  y ← slice_get core.methods t
  if is_called y.kind then Some t else None

-- All methods that these calls may call have been found; a call is a name and the entity of its receiver.
abbrev pub CallsAreFound : CoreData → List (ℕ × ℕ) → List ℕ → Type 0
CallsAreFound core calls found = (name e t : ℕ) → Has calls (name, e) → MayCall core name e t → Has found t

-- What may wait in a mailbox: the message with which the program begins, or one that some method sends.
abbrev pub MayWait : CoreData → List (Option ℕ) → ℕ → Type 0
MayWait core ents t = ((e : ℕ) × (main_create core ≡ Some (e, t))) ⊎ ((e : ℕ) × Sends core ents e t)
