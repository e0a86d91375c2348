-- A table of what conforms to what.
use Rattle.std.specs.Prelude.{◌≡◌, List, length}
use Rattle.pc_masks.specs.declared.mask.Mask.{Mask}
use Rattle.pc_base.specs.Lists.{Each}
use Rattle.pc_core.specs.{CoreData.CoreData, Further.IsAbstract, Entities.Conforms, EntitySets.IsSetOf}

-- A set for each entity, by its number: for a trait and an interface that of the entities that conform to it. The set of
-- any other entity may be any.
pub record TellsConforming (core : CoreData) (sets : List (List Mask)) : Type 0 where
  pub long : length sets ≡ length core.entities
  pub tells : Each (λ b set. IsAbstract core b → IsSetOf core (λ e. Conforms core e b) set) sets
