-- When the `is` lists of a file are right.
use Rattle.std.specs.Prelude.{ℕ}
use Rattle.pc_base.specs.Lists.{Has, Differ}
use Rattle.pc_tree.specs.declared.written_names.Name.{Name}
use Rattle.pc_members.specs.{Members.{entity_names, InCycle}, MemberLists.trait_names}
use Rattle.pc_tree.specs.Tree as t

-- The names of the entities differ, each `is` list names only traits and interfaces of the file, and none of these
-- leads back to itself.
pub record IsFounded (file : t.File) : Type 0 where
  pub names : Differ (entity_names file)
  pub provides : (e : t.Entity) (n : Name) → Has file.entities e → Has e.provides n → Has (trait_names file.entities) n.text
  pub straight : (a : ℕ) → InCycle file a → ⊥
