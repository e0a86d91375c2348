-- How the code computes the members of a file's entities: first the methods of the traits and interfaces, each after
-- those it names, and then from these the members of each entity.
-- ---- the methods of traits and interfaces
use Rattle.std.specs.Prelude.{◌≡◌, ◌⊎◌, ◌&&◌, ◌<◌, Bool, true, false, not, ℕ, ◌-◌, ◌+◌, List, [], ◌∷◌, ◌++◌, map, drop, length, Option, Some, None, slice_get, if◌then◌else◌}
use Rattle.pc_tree.specs.{declared.kinds.EntityKind.EntityKind, declared.written_names.Name.Name, Kinds.{is_abstract, first_own}}
use Rattle.pc_base.specs.Lists.{Text}
use Rattle.pc_members.specs.{MemberLists.{is_among, with_names, abstract_methods}, Parts.{find_name, or_no_members, or_nil, added_if}, Members.{has_added, IsTransitiveClosure, Member, member_text, written, added, without_body, is_takable, own_texts}}
use Rattle.pc_tree.specs.Tree as t

-- Of all members with the same name, the first. Members whose names are in `known` are left out.
abbrev pub first_members : List Text → List Member → List Member
first_members known [] = []
first_members known (m ∷ ms) = if is_among (member_text m) known then first_members known ms else m ∷ first_members (known ++ member_text m ∷ []) ms

abbrev pub member_texts : List Member → List Text
member_texts ms = map member_text ms

-- The members of the entities with these names. `entities` is the list of all entities' names, the built-in ones first,
-- and `table` has the methods of the file's traits and interfaces.
abbrev pub table_members : List (List Member) → Option ℕ → List Member
table_members table None = []
table_members table (Some n) = or_no_members (slice_get table (n - first_own))

abbrev pub named_all : List Text → List (List Member) → List Name → List Member
named_all entities table [] = []
named_all entities table (n ∷ ns) = table_members table (find_name entities n.text) ++ named_all entities table ns

abbrev pub gathered : List Text → List (List Member) → t.Entity → List Member
gathered entities table e = first_members [] (map written e.methods ++ named_all entities table e.provides)

-- The lists of what is above the file's own entities, the first of which comes after the built-in ones.
abbrev pub ClosesOwn : t.File → List (List ℕ) → Type 0
ClosesOwn file own = (above : List (List ℕ)) × IsTransitiveClosure file above × (own ≡ drop first_own above)

-- How many entities are above the one at this place of a file.
abbrev pub rank : List (List ℕ) → ℕ → ℕ
rank own i = length (or_nil (slice_get own i))

-- The table has the methods of each trait or interface with fewer entities above it than this rank, and of each before
-- this place that has exactly this rank.
abbrev pub IsReached : List (List ℕ) → (bound place entity : ℕ) → Type 0
IsReached own r i j = (rank own j < r) ⊎ ((rank own j ≡ r) × (j < i))

abbrev pub methods_written : t.File → t.Entity → List Member
methods_written file e = map written (abstract_methods file.entities e)

pub record Knows (file : t.File) (own : List (List ℕ)) (r i : ℕ) (table : List (List Member)) : Type 0 where
  pub count : length table ≡ length file.entities
  pub known : (j : ℕ) (e : t.Entity) → slice_get file.entities j ≡ Some e → is_abstract e.kind ≡ true → IsReached own r i j → slice_get table j ≡ Some (methods_written file e)

-- ---- the members of each entity

-- The methods written in an entity, and its added `create`.
abbrev pub own_members : t.Entity → List Member
own_members e = map written e.methods ++ added_if (has_added e)

abbrev pub bodiless : Member → Member
bodiless (written m) = written (without_body m)
bodiless added = added

abbrev pub member_takable : EntityKind → Member → Bool
member_takable k (written m) = is_takable k m
member_takable k added = false

-- The member is taken over if its name is new.
abbrev pub is_taken : EntityKind → List Text → Member → Bool
is_taken k known m = member_takable k m && not (is_among (member_text m) known)

abbrev pub taken_members : EntityKind → List Text → List Member → List Member
taken_members k known [] = []
taken_members k known (m ∷ ms) = if is_taken k known m then m ∷ taken_members k (known ++ member_text m ∷ []) ms else taken_members k known ms

-- The known names after these members.
abbrev pub with_taken : EntityKind → List Text → List Member → List Text
with_taken k known [] = known
with_taken k known (m ∷ ms) = if is_taken k known m then with_taken k (known ++ member_text m ∷ []) ms else with_taken k known ms

-- The members of a class, an actor or a primitive, given the table of the methods of traits and interfaces.
abbrev pub concrete : List Text → List (List Member) → t.Entity → List Member
concrete entities table e = own_members e ++ taken_members e.kind (with_names [] (own_texts e)) (named_all entities table e.provides)

abbrev pub completed : List Text → List (List Member) → ℕ → t.Entity → List Member
completed entities table i e = if is_abstract e.kind then map bodiless (or_no_members (slice_get table i)) else concrete entities table e

-- The members of each of these entities, of which the first is at this place.
abbrev pub completed_from : List Text → List (List Member) → ℕ → List t.Entity → List (List Member)
completed_from entities table i [] = []
completed_from entities table i (e ∷ es) = completed entities table i e ∷ completed_from entities table (i + 1) es
