-- Parts of the definitions of faults, each with a name, and what code that looks for faults uses.
use Rattle.std.specs.{Prelude.{ℕ, ◌≡◌, ◌+◌, ◌++◌, ◌||◌, Bool, List, [], ◌∷◌, flat_map, length, Option, Result, Ok, Err, nat_lt}, Option.option_map_or}
use Rattle.pc_base.specs.{Lists.{Text, one_if}, Limits.{entity_limit, method_limit}}
use Rattle.pc_members.specs.{Members.{field_texts, method_texts}, MemberLists.{is_among, members, with_names}}
use Rattle.pc_tree.specs.{declared.written_names.TypeRef.TypeRef, Kinds.first_own}
use Rattle.pc_names.specs.{declared.fault.NameFault.NameFault, Faults.{built_in_texts, with_members, IsFirstNameFault, type_faults, entity_faults, count_faults, main_faults, cycle_faults}}
use Rattle.pc_tree.specs.Tree as t
use Rattle.pc_names.specs.declared.fault.NameFault.TheVariants as fault
use Rattle.pc_names.specs.declared.fault.Which.TheVariants as which

-- A fault if the test holds.
abbrev pub where_ : Bool → NameFault → List NameFault
where_ b f = one_if b f

abbrev pub built_in_and_member_texts : List t.Entity → List Text
built_in_and_member_texts es = with_members (with_names [] built_in_texts) es

-- The first fault of a list is reported, and none if the list is empty.
abbrev pub TellsFirst : {A : Type 0} → Result A NameFault → List NameFault → Type 0
TellsFirst (Ok x) fs = fs ≡ []
TellsFirst (Err f) fs = IsFirstNameFault f fs

-- how many entities there may be, including the built-in ones
abbrev pub known_limit : ℕ
known_limit = first_own + entity_limit

abbrev pub result_faults : List Text → Option TypeRef → List NameFault
result_faults entities ty = option_map_or (type_faults entities) ty []

abbrev pub is_member_name : Text → t.Entity → Bool
is_member_name text e = is_among text (field_texts e.fields) || is_among text (method_texts e.methods)

abbrev pub entities_faults : List Text → List Text → List t.Entity → List NameFault
entities_faults entities traits es = flat_map (entity_faults entities traits) es

-- How many methods an entity has: its own, an added `create`, and those that it takes over. The first argument is the
-- list of the file's entities.
abbrev pub method_count : List t.Entity → t.Entity → ℕ
method_count all e = length (members all e)

-- The same, given the numbers of the entities' methods.
abbrev pub faults_by_count : ℕ → List t.Entity → List ℕ → List NameFault
faults_by_count n (e ∷ es) (c ∷ cs) = one_if (nat_lt method_limit (n + c)) (fault.TooMany which.Methods e.name.span) ++ faults_by_count (n + c) es cs
faults_by_count n es cs = []

-- The faults that depend on the members of these entities, the entities of a file, and then those that depend on what
-- is above each.
abbrev pub member_faults : List t.Entity → List NameFault
member_faults all = count_faults all 0 all ++ main_faults all

abbrev pub above_faults : List t.Entity → List (List ℕ) → List NameFault
above_faults all above = cycle_faults first_own all above ++ member_faults all
