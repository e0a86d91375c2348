-- What has been found of the methods in Reach, and which methods are messages.
-- ---- Reach
use Rattle.std.specs.Prelude.{◌≡◌, ◌↔◌, ℕ, ◌<◌, true, List, Option, Some, slice_get}
use Rattle.pc_core.specs.{declared.declarations.Method.Method, CoreData.CoreData}
use Rattle.pc_base.specs.Lists.{Each, Has, Differ, Ascends}
use Rattle.pc_semantics.specs.Configurations.{main_create}
use Rattle.pc_sends.specs.Tables.{UsesMethod, Reach, Sends, is_message}
use Rattle.pc_core.specs.declared.declarations.MethodKind.TheVariants as method

-- Everything found is in Reach, and everything that the first k of the found methods use has been found.
pub record Found (core : CoreData) (ents : List (Option ℕ)) (k : ℕ) (found : List ℕ) : Type 0 where
  pub reached : Each (λ i t. Reach core ents t) found
  pub differ : Differ found
  pub begins : (e t : ℕ) → main_create core ≡ Some (e, t) → Has found t
  pub closed : (i m t : ℕ) → i < k → slice_get found i ≡ Some m → UsesMethod core ents m t → Has found t

-- The list has exactly the methods in Reach, each once.
pub record IsReach (core : CoreData) (ents : List (Option ℕ)) (found : List ℕ) : Type 0 where
  pub differ : Differ found
  pub exact : (t : ℕ) → (Has found t) ↔ (Reach core ents t)

-- ---- messages

abbrev pub IsMessage : CoreData → ℕ → Type 0
IsMessage core t = (x : Method) × (slice_get core.methods t ≡ Some x) × (is_message x.kind ≡ true)

-- Method m is in Reach and uses method t.
abbrev pub ReachedUses : CoreData → List (Option ℕ) → (method target : ℕ) → Type 0
ReachedUses core ents m t = Reach core ents m × UsesMethod core ents m t

-- A method of entity e that is in Reach uses method t.
pub record EntityUses (core : CoreData) (ents : List (Option ℕ)) (e t : ℕ) : Type 0 where
  pub from : ℕ
  pub method : Method
  pub is_method : slice_get core.methods from ≡ Some method
  pub entity : method.entity ≡ e
  pub uses : ReachedUses core ents from t

-- The list has exactly what the methods of entity e in Reach use, each once.
pub record IsUsed (core : CoreData) (ents : List (Option ℕ)) (e : ℕ) (used : List ℕ) : Type 0 where
  pub differ : Differ used
  pub exact : (t : ℕ) → (Has used t) ↔ (EntityUses core ents e t)

-- The list has exactly what the methods of entity e send, in ascending order.
pub record AreSent (core : CoreData) (ents : List (Option ℕ)) (e : ℕ) (targets : List ℕ) : Type 0 where
  pub ascends : Ascends targets
  pub exact : (t : ℕ) → (Has targets t) ↔ (Sends core ents e t)
