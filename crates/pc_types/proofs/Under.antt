-- What is known of a value's own entity if an entity is required.
use Rattle.std.specs.Prelude.{◌≡◌, ◌⊎◌, ℕ}
use Rattle.pc_core.specs.{CoreData.CoreData, Further.IsAbstract, Entities.Conforms}

-- It is that entity, or conforms to it, which is then a trait or an interface. Unlike the order on entities, this is
-- transitive; and if the declarations fit, it holds of whatever is below an entity.
abbrev pub Under : CoreData → ℕ → ℕ → Type 0
Under core d e = (d ≡ e) ⊎ (IsAbstract core e × Conforms core d e)
