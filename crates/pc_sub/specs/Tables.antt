-- How a table of what conforms to what is computed, group by group.
use Rattle.std.specs.Prelude.{◌≡◌, ◌↔◌, ℕ, ◌<◌, List, length, Some, slice_get}
use Rattle.pc_masks.specs.declared.mask.Mask.{Mask}
use Rattle.pc_base.specs.Lists.{Each, Has}
use Rattle.pc_core.specs.{declared.declarations.Method.Method, CoreData.CoreData, Further.IsAbstract, Entities.HasFor, EntitySets.{Holds, IsSetOf}}
use Rattle.pc_sub.specs.{declared.groups.Groups.Groups, Groups.IsGroup}

-- If a place has this property, its set keeps what another set has too.
pub record Kept (R : ℕ → Type 0) (other : List Mask) (old new : List (List Mask)) : Type 0 where
  pub long : length new ≡ length old
  pub each : Each (λ b set. (was : List Mask) × (slice_get old b ≡ Some was) × ((e : ℕ) → (Holds set e) ↔ (Holds was e × (R b → Holds other e)))) new

-- Entity e has a method for each method of entity b that is in one of the first n groups.
abbrev pub HasForGroups : CoreData → Groups → ℕ → (above entity : ℕ) → Type 0
HasForGroups core g n b e = (k : ℕ) (t : Method) (es : List ℕ) → k < n → IsGroup core g k t es → Has es b → HasFor core e t

-- There is a set for each entity, and those of the traits and interfaces tell so.
pub record TellsGroups (core : CoreData) (g : Groups) (n : ℕ) (sets : List (List Mask)) : Type 0 where
  pub long : length sets ≡ length core.entities
  pub tells : Each (λ b set. IsAbstract core b → IsSetOf core (HasForGroups core g n b) set) sets
