-- Further words on the grammar, for contracts of its code.
use denote.Enum.Bare.{sameb}
use Rattle.std.specs.Prelude.{ℕ, ◌-◌, Bool, List}
use Rattle.pc_tree.specs.{declared.kinds.Op.Op, contracts.kinds.Op.the_type as op_type, declared.kinds.EntityKind.EntityKind}
use Rattle.pc_grammar.specs.Spells.{level_limit, SpellsEach, SpellsField, SpellsMethod, SpellsEntity}
use Rattle.pc_token.specs.declared.kinds.Token.{Token}
use Rattle.pc_tree.specs.Tree as t

unfoldable pub same_op : Op → Op → Bool
same_op = sameb op_type

-- How many levels are left inside these.
abbrev pub inner_levels : ℕ
inner_levels = level_limit - 1

abbrev pub SpellsFields : List t.Field → List Token → Type 0
SpellsFields fs ts = SpellsEach SpellsField fs ts

abbrev pub SpellsMethods : EntityKind → List t.Method → List Token → Type 0
SpellsMethods e ms ts = SpellsEach (SpellsMethod e) ms ts

abbrev pub SpellsMoreEntities : List t.Entity → List Token → Type 0
SpellsMoreEntities es ts = SpellsEach SpellsEntity es ts
