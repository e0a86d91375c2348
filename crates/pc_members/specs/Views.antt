-- The members of the definitions that the members of the code represent.
use Rattle.std.specs.Prelude.{List, map, Option, Some, None}
use Rattle.pc_tree.specs.View.{method_view}
use Rattle.pc_members.specs.declared.member.Member.{Member}
use Rattle.pc_members.specs.declared.member.Member.TheVariants as m
use Rattle.pc_members.specs.Members as spec

abbrev pub member_view : Member → spec.Member
member_view (m.Written method) = spec.written (method_view method.now)
member_view (m.Bodiless method) = spec.written (spec.without_body (method_view method.now))
member_view m.Added = spec.added

abbrev pub members_view : List Member → List spec.Member
members_view ms = map member_view ms

-- The members of each entity of a file.
abbrev pub table_view : List (List Member) → List (List spec.Member)
table_view table = map members_view table

abbrev pub maybe_members : Option (List Member) → Option (List spec.Member)
maybe_members None = None
maybe_members (Some ms) = Some (members_view ms)
