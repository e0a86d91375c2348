-- The members that numbered methods represent. Their numbers are left out.
use Rattle.std.specs.Prelude.{List, map, Option, Some, None}
use Rattle.pc_members.specs.{declared.known.Numbered.Numbered, Members.Member, Views.member_view}

abbrev pub numbered_view : List Numbered → List Member
numbered_view ms = map (λ (n : Numbered). member_view n.member) ms

-- The methods of each entity of a file.
abbrev pub numbered_table : List (List Numbered) → List (List Member)
numbered_table table = map numbered_view table

abbrev pub maybe_numbered : Option (List Numbered) → Option (List Member)
maybe_numbered None = None
maybe_numbered (Some ms) = Some (numbered_view ms)
