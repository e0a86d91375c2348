-- Parts of the definitions of members, each with a name.
use Rattle.std.specs.{Prelude.{ℕ, Bool, List, [], Option, position, codes, unwrap_or}, Option.option_map_or, Str.bytes_eq}
use Rattle.pc_base.specs.Lists.{Text, one_if}
use Rattle.pc_members.specs.Members.{Member, added}
use Rattle.pc_tree.specs.Tree as t

-- The list, or the empty one if there is none.
abbrev pub or_nil : Option (List ℕ) → List ℕ
or_nil l = unwrap_or l []

-- The name of an added `create`, if there is one.
abbrev pub added_text : Bool → List Text
added_text b = one_if b (codes "create")

abbrev pub added_if : Bool → List Member
added_if b = one_if b added

-- The members that a table has at a place, or none if it does not have the place.
abbrev pub or_no_members : Option (List Member) → List Member
or_no_members ms = unwrap_or ms []

abbrev pub of_entity : (t.Entity → List t.Method) → Option t.Entity → List t.Method
of_entity methods e = option_map_or methods e []

-- The number of a name.
abbrev pub find_name : List Text → Text → Option ℕ
find_name names name = position (bytes_eq name) names
