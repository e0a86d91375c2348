-- When an entity fits its core.
use Rattle.std.specs.Prelude.{◌≡◌, ◌⊎◌, ◌↔◌, ℕ, ◌<◌, ◌≤◌, true, [], ◌∷◌, ◌++◌, map, length, Some, slice_get, codes}
use Rattle.pc_base.specs.{Limits.field_limit, Lists.{Each, Has, Differ, Ascends}}
use Rattle.pc_tree.specs.Kinds.{may_have_fields, env_entity}
use Rattle.pc_core.specs.{declared.declarations.EntityDef.EntityDef, declared.declarations.Method.Method, declared.declarations.ParamInfo.ParamInfo, CoreData.{CoreData, own_methods}, Parts.{field_name, method_name}, Further.IsAbstract, Entities.Leads}
use Rattle.pc_caps.specs.declared.capability.Cap.TheVariants as cap
use Rattle.pc_tree.specs.declared.kinds.EntityKind.TheVariants as kind
use Rattle.pc_core.specs.declared.declarations.MethodKind.TheVariants as method

-- The actor with which a program starts: its `create` takes the environment.
pub record HasMain (core : CoreData) : Type 0 where
  pub entity : ℕ
  pub main : EntityDef
  pub is_entity : slice_get core.entities entity ≡ Some main
  pub name : main.name ≡ codes "Main"
  pub actor : main.kind ≡ kind.Actor
  pub number : ℕ
  pub create : Method
  pub is_method : slice_get core.methods number ≡ Some create
  pub own : create.entity ≡ entity
  pub method_name : slice_get core.names create.name ≡ Some (codes "create")
  pub spawns : create.kind ≡ method.Spawn
  pub param : ParamInfo
  pub params : create.params ≡ param ∷ []
  pub env : param.entity ≡ env_entity
  pub cap : param.cap ≡ cap.Val

-- Entity number e fits the core.
pub record EntityFits (core : CoreData) (e : ℕ) (x : EntityDef) : Type 0 where
  -- its `is` list names traits and interfaces, and `above` is what they lead to
  pub provides : Each (λ i b. IsAbstract core b) x.provides
  pub ascends : Ascends x.above
  pub above : (b : ℕ) → (Has x.above b) ↔ (Leads core e b)
  -- its fields
  pub few_fields : length x.fields ≤ field_limit
  pub placed_fields : (x.fields ≡ []) ⊎ (may_have_fields x.kind ≡ true)
  pub fields : Each (λ i f. (f.name < length core.names) × (f.entity < length core.entities)) x.fields
  -- the names of its fields and methods differ
  pub names : Differ (map field_name x.fields ++ map method_name (own_methods core x))
  -- its methods belong to it
  pub methods : Each (λ i m. m.entity ≡ e) (own_methods core x)
