-- The members of a file's entities, and their names in words.
use Rattle.std.specs.{Prelude.{ℕ, Bool, true, false, List, [], ◌∷◌, ◌++◌, length, map, take}, List.list_any, Str.bytes_eq}
use Rattle.pc_base.specs.Lists.{Text}
use Rattle.pc_members.specs.{Edges.{edges_of, above_all}, Members.{Member, member_text}, Parts.or_no_members, MemberLists.members}
use Rattle.pc_names.specs.{Faults.name_faults, declared.fault.NameFault.NameFault}
use Rattle.pc_explain_window.specs.Quoting.{quoted}
use Rattle.pc_explain_names.specs.{Homes.{last_of_first, place_at}, Lists.{name_separator, most, none_at_all, rest}}
use Rattle.pc_tree.specs.Tree as t

abbrev pub all_faults : t.File → List NameFault
all_faults file = name_faults file (above_all (edges_of file))

abbrev pub rows_if : List NameFault → t.File → List (List Member)
rows_if [] file = map (members file.entities) file.entities
rows_if (f ∷ fs) file = []

-- The members of each entity: its own methods, an added `create`, and the methods that it takes over. If the names of
-- the file have a fault, no members are known, since its bodies are not looked at.
unfoldable pub rows : t.File → List (List Member)
rows file = rows_if (all_faults file) file

-- The members of the entity whose text contains a byte.
unfoldable pub members_at : t.File → ℕ → List Member
members_at file at = or_no_members (last_of_first (place_at file at) (rows file))

abbrev pub member_is_called : Text → Member → Bool
member_is_called name m = bytes_eq (member_text m) name

-- One of the members has the name.
unfoldable pub has_member : Text → List Member → Bool
has_member name ms = list_any (member_is_called name) ms

-- ---- in words

abbrev pub one_member : (first : Bool) → Member → Text
one_member first m = name_separator first ++ quoted (member_text m)

abbrev pub listed_members : (first : Bool) → List Member → Text
listed_members first [] = []
listed_members first (m ∷ ms) = one_member first m ++ listed_members false ms

-- The first eight names, and how many more there are; or `none`.
unfoldable pub member_names : List Member → Text
member_names [] = none_at_all
member_names (m ∷ ms) = listed_members true (take most (m ∷ ms)) ++ rest (length (m ∷ ms))
