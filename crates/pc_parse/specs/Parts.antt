-- The rules of the grammar of files in parts, with the levels of a file.
use Rattle.std.specs.Prelude.{List, [], ◌∷◌, if◌then◌else◌}
use Rattle.pc_grammar.specs.{Parts.inner_levels, Reading.{Parser, ◌>>=◌, ◌>>◌, pure, peek, take_if, all, after, at, type_name}, ReadingFile.{is_end, maybe_doc, param, begins_field, some_field, begins_method, some_method, begins_entity, entity}}
use Rattle.pc_tree.specs.{declared.written_names.Name.Name, declared.file.ParamDef.ParamDef, declared.kinds.EntityKind.EntityKind}
use Rattle.pc_token.specs.Words.{is_sign}
use Rattle.pc_expr.specs.Onto.{onto}
use Rattle.pc_tree.specs.Tree as t
use Rattle.pc_token.specs.declared.signs.Sign.TheVariants as s

-- {"," Name ":" Type}
abbrev pub more_params : List ParamDef → Parser (List ParamDef)
more_params = onto (after (is_sign s.Comma)) param

-- Name ":" Type {"," Name ":" Type}
unfoldable pub some_params : Parser (List ParamDef)
some_params = param >>= λ p. more_params (p ∷ [])

-- [Name ":" Type {"," Name ":" Type}], before a ")"
unfoldable pub param_list_parts : Parser (List ParamDef)
param_list_parts = peek >>= λ x. if is_sign s.CloseParen x then pure [] else some_params

-- {"&" TypeName}
abbrev pub more_type_names : List Name → Parser (List Name)
more_type_names = onto (after (is_sign s.Ampersand)) type_name

-- TypeName {"&" TypeName}
unfoldable pub some_type_names : Parser (List Name)
some_type_names = type_name >>= λ m. more_type_names (m ∷ [])

-- TypeName
unfoldable pub one_type_name : Parser (List Name)
one_type_name = type_name >>= λ m. pure (m ∷ [])

-- {Field}
abbrev pub all_fields : Parser (List t.Field)
all_fields = all (at begins_field) (some_field inner_levels)

-- {Method}
abbrev pub all_methods : EntityKind → Parser (List t.Method)
all_methods e = all (at (begins_method e)) (some_method inner_levels e)

-- {Entity}
abbrev pub more_entities : List t.Entity → Parser (List t.Entity)
more_entities = onto (at begins_entity) (entity inner_levels)

-- Entity {Entity}
unfoldable pub some_entities : Parser (List t.Entity)
some_entities = entity inner_levels >>= λ e. more_entities (e ∷ [])

-- [doc] Entity {Entity} End
unfoldable pub file_parts : Parser t.File
file_parts = maybe_doc >> some_entities >>= λ es. take_if is_end >> pure (record { entities = es })
