-- The first declaration of a core that fails.
use Rattle.std.specs.Prelude.{◌≡◌, ℕ, ◌+◌, ◌<◌, true, List, Some, slice_get}
use Rattle.pc_caps.specs.Tables.{sendable}
use Rattle.pc_core.specs.{declared.declarations.EntityDef.EntityDef, declared.declarations.Method.Method, declared.declarations.ParamInfo.ParamInfo, CoreData.{CoreData, own_methods}, Entities.{HasFor, Conforms}}
use Rattle.pc_base.specs.Lists.{Each}
use Rattle.pc_sub.specs.{Declarations.TakesSendable, declared.faults.DeclFault.DeclFault}
use Rattle.pc_sub.specs.declared.faults.DeclFault.TheVariants as fault

-- Element x, at place i, is the first of the list that does not have this property.
abbrev pub FirstWithout : {T : Type 0} → (ℕ → T → Type 0) → List T → ℕ → T → Type 0
FirstWithout {T} P xs i x = (slice_get xs i ≡ Some x) × (P i x → ⊥) × ((j : ℕ) (y : T) → j < i → slice_get xs j ≡ Some y → P j y)

-- All parameters are right. Entity e is the first that does not conform to all of its `is` list, one of these is the
-- first to which it does not, and method t, which has number n, is the first there that e has nothing for.
pub record FirstLack (core : CoreData) (e n : ℕ) (t : Method) : Type 0 where
  pub parameters : Each (λ m x. TakesSendable x) core.methods
  pub entity : EntityDef
  pub is_entity : FirstWithout (λ d x. Each (λ i b. Conforms core d b) x.provides) core.entities e entity
  pub place : ℕ
  pub above : ℕ
  pub is_above : FirstWithout (λ i b. Conforms core e b) entity.provides place above
  pub trait : EntityDef
  pub is_trait : slice_get core.entities above ≡ Some trait
  pub index : ℕ
  pub is_method : FirstWithout (λ i x. HasFor core e x) (own_methods core trait) index t
  pub number : n ≡ trait.first_method + index

-- Method m is entity e's, and has the name and kind of method t.
abbrev pub IsLike : CoreData → (entity : ℕ) → Method → (method : ℕ) → Type 0
IsLike core e t m = (y : Method) × (slice_get core.methods m ≡ Some y) × (y.entity ≡ e) × (y.name ≡ t.name) × (y.kind ≡ t.kind)

-- Parameters come first, method by method: the first that can't be sent, of the first method that must take sendable
-- ones and does not. After them comes the first method for which an entity has nothing: the fault names the entity's own
-- method with its name and kind, which then does not fit, or if there is none, the method itself.
abbrev pub IsFirstDeclarationFault : CoreData → DeclFault → Type 0
IsFirstDeclarationFault core (fault.NotSendable m i) =
    (x : Method) × (p : ParamInfo) × FirstWithout (λ k y. TakesSendable y) core.methods m x × FirstWithout (λ j q. sendable q.cap ≡ true) x.params i p
IsFirstDeclarationFault core (fault.MissingMethod e n) = (t : Method) × FirstLack core e n t × ((m : ℕ) → IsLike core e t m → ⊥)
IsFirstDeclarationFault core (fault.Mismatch e m) = (n : ℕ) × (t : Method) × FirstLack core e n t × IsLike core e t m
