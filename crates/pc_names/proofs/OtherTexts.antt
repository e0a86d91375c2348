-- The other texts of a file differ.
use Rattle.std.proofs.Common.{List, [], ◌∷◌, ◌++◌}
use Rattle.pc_base.specs.Lists.{Differ, Text}
use Rattle.pc_tree.specs.Tree as t
use Rattle.pc_members.specs.{Members.{field_texts, method_texts}, MemberLists.with_names}
use Rattle.pc_names.specs.{Faults.{with_members, built_in_texts}, Parts.built_in_and_member_texts}
use Rattle.pc_members.proofs.Differences.{names_differ}
use Rattle.pc_base.proofs.Elements.{differ_none}

pub members_differ : (es : List t.Entity) (names : List Text) → Differ names → Differ (with_members names es)
members_differ [] names d = d
members_differ (e ∷ es) names d = members_differ es (with_names names (field_texts e.fields ++ method_texts e.methods)) (names_differ (field_texts e.fields ++ method_texts e.methods) names d)

pub other_texts_differ : (es : List t.Entity) → Differ (built_in_and_member_texts es)
other_texts_differ es = members_differ es (with_names [] built_in_texts) (names_differ built_in_texts [] differ_none)
