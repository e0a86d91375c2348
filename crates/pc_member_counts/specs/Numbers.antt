-- How the code numbers names: the names of a file's methods, and the numbers of names among them.
use Rattle.std.specs.{Prelude.{ℕ, List, [], ◌∷◌, ◌++◌, map}, List.position_or_len, Str.bytes_eq}
use Rattle.pc_base.specs.Lists.{Text}
use Rattle.pc_members.specs.{Members.{field_texts, method_texts, has_added}, Parts.added_text, MemberLists.with_names, Edges.entity_numbers}
use Rattle.pc_member_counts.specs.declared.listing.Listing.{Listing}
use Rattle.pc_tree.specs.Tree as t

-- The known names, with those of all methods written in these entities appended, each once.
abbrev pub method_names : List Text → List t.Entity → List Text
method_names known [] = known
method_names known (e ∷ es) = method_names (with_names known (method_texts e.methods)) es

-- The number of a name, or the number of names if it is none of them.
abbrev pub number_in : List Text → Text → ℕ
number_in names x = position_or_len (bytes_eq x) names

abbrev pub numbers_in : List Text → List Text → List ℕ
numbers_in names xs = map (number_in names) xs

-- The names of an entity by their numbers: its methods; its fields and an added `create`; and what its `is` list names.
-- The first list has the names.
abbrev pub listing : List Text → List Text → t.Entity → Listing
listing entities names e = record { methods = numbers_in names (method_texts e.methods); others = numbers_in names (field_texts e.fields) ++ numbers_in names (added_text (has_added e)); targets = entity_numbers entities e.provides }
