-- The methods of a core in groups of those that are alike.
use Rattle.std.specs.Prelude.{◌≡◌, ℕ, ◌<◌, ◌≤◌, List, length, Option, Some, slice_get}
use Rattle.pc_base.specs.Lists.{◌>>=◌, Each, Has}
use Rattle.pc_core.specs.{declared.declarations.Method.Method, CoreData.CoreData, Entities.StandsFor}
use Rattle.pc_sub.specs.{declared.groups.Groups.Groups, Alike.Alike}

-- ---- groups

-- The first method of a group.
abbrev pub first_of : CoreData → List ℕ → ℕ → Option Method
first_of core firsts k = do
  m ← slice_get firsts k
  slice_get core.methods m

-- Group k has method t as its first one, and these entities have a method of the group.
abbrev pub IsGroup : CoreData → Groups → ℕ → Method → List ℕ → Type 0
IsGroup core g k t es = (first_of core g.firsts k ≡ Some t) × (slice_get g.entities k ≡ Some es)

-- The methods of group k are alike to method y.
abbrev pub IsGroupOf : CoreData → List ℕ → Method → ℕ → Type 0
IsGroupOf core firsts y k = (t : Method) × (first_of core firsts k ≡ Some t) × Alike t y

-- Entity e has a method that is alike to method t.
abbrev pub HasAlike : CoreData → ℕ → Method → Type 0
HasAlike core e t = (m : ℕ) × (y : Method) × (slice_get core.methods m ≡ Some y) × (y.entity ≡ e) × Alike t y

-- There is a group of methods alike to method y among those of its name, and y's entity is one of the group's.
pub record InGroup (core : CoreData) (g : Groups) (y : Method) : Type 0 where
  pub group : ℕ
  pub first : Method
  pub entities : List ℕ
  pub is_group : IsGroup core g group first entities
  pub alike : Alike first y
  pub has_entity : Has entities y.entity
  pub same_name : List ℕ
  pub named : slice_get g.named y.name ≡ Some same_name
  pub has_group : Has same_name group

-- The first n methods of the core are in groups, and nothing else is.
pub record Grouped (core : CoreData) (n : ℕ) (g : Groups) : Type 0 where
  pub few : length g.firsts ≤ n
  pub as_many : length g.entities ≡ length g.firsts
  pub names : length g.named ≡ length core.names
  pub sound : (k : ℕ) (t : Method) (es : List ℕ) → IsGroup core g k t es → Each (λ i e. HasAlike core e t) es
  pub complete : (m : ℕ) (y : Method) → m < n → slice_get core.methods m ≡ Some y → InGroup core g y

-- ---- which groups serve

-- Method y has the name and kind of method t, and may replace it.
abbrev pub Serves : CoreData → (wanted given : Method) → Type 0
Serves core t y = ((y.name ≡ t.name) × (y.kind ≡ t.kind)) × StandsFor core t y

-- The methods of group k serve for method t.
abbrev pub GroupServes : CoreData → List ℕ → Method → ℕ → Type 0
GroupServes core firsts t k = (y : Method) × (first_of core firsts k ≡ Some y) × Serves core t y

-- Entity e has a method of group k, and it serves for method t.
abbrev pub ServesBy : CoreData → Groups → Method → (group entity : ℕ) → Type 0
ServesBy core g t k e = (y : Method) × (es : List ℕ) × (IsGroup core g k y es) × (Serves core t y) × Has es e
