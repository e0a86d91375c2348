-- The names of the entities of a file that tokens spell are in the order of the tokens.
use Rattle.std.proofs.Common.{List, [], ◌∷◌, map, ℕ}
use Rattle.pc_base.specs.Lists.{Ascends}
use Rattle.pc_tree.specs.Tree as t
use Rattle.pc_token.specs.declared.kinds.Token.{Token}
use Rattle.pc_grammar.specs.{Spells.{SpellsEntity, SpellsEntities, SpellsFile}, Parts.SpellsMoreEntities}
use Rattle.pc_text_order.specs.Laws.{starts}
use Rattle.pc_text_order.proofs.Among.{Among, nothing, put, after, both, past, before, moved, among_ascends}

abbrev pub entity_start : t.Entity → ℕ
entity_start e = e.name.span.start

name_in : (e : t.Entity) (ts : List Token) → SpellsEntity e ts → Among (entity_start e ∷ []) ts
name_in e ts h = moved h.7 (after (past h.2 (put h.10.1 nothing)))

more_in : (es : List t.Entity) (ts : List Token) → SpellsMoreEntities es ts → Among (map entity_start es) ts
more_in [] ts h = nothing
more_in (e ∷ es) ts h = moved h.2 (both (name_in e h.0 h.3) (more_in es h.1 h.4))

some_in : (es : List t.Entity) (ts : List Token) → SpellsEntities es ts → Among (map entity_start es) ts
some_in [] ts h = absurd h
some_in (e ∷ es) ts h = moved h.2 (both (name_in e h.0 h.3) (more_in es h.1 h.4))

pub names_ascend : (file : t.File) (ts : List Token) → SpellsFile file ts → Ascends (starts ts) → Ascends (map entity_start file.entities)
names_ascend file ts h a = among_ascends (moved h.3 (past h.0 (before (h.2 ∷ []) (some_in file.entities h.1 h.5)))) a
