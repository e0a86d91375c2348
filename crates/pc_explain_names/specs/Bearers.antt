-- What already has a name.
use Rattle.std.specs.{Prelude.{ℕ, Bool, ◌||◌, List, [], ◌∷◌, map, Option, Some, None, codes, is_some, if◌then◌else◌}, List.find, Str.bytes_eq}
use Rattle.pc_base.specs.{declared.span.Span.Span, Lists.Text}
use Rattle.pc_tree.specs.declared.kinds.EntityKind.{EntityKind}
use Rattle.pc_explain_names.specs.{declared.bearers.Bearer.Bearer, Homes.{param_spans_of, marks_at}, Lists.{field_span, method_name_span, is_other}, Marks.locals}
use Rattle.pc_tree.specs.Tree as t
use Rattle.pc_tree.specs.declared.kinds.EntityKind.TheVariants as kind
use Rattle.pc_explain_names.specs.declared.bearers.Bearer.TheVariants as bearer

abbrev pub kind_word : EntityKind → Text
kind_word kind.Class = codes "class"
kind_word kind.Actor = codes "actor"
kind_word kind.Primitive = codes "primitive"
kind_word kind.Trait = codes "trait"
kind_word kind.Interface = codes "interface"

abbrev pub word : Bearer → Text
word bearer.Parameter = codes "parameter"
word bearer.Local = codes "local"
word bearer.Field = codes "field"
word bearer.Method = codes "method"
word (bearer.Entity k) = kind_word k

-- ---- the first that has the name

-- A place, with the kind of thing that is there.
abbrev pub as_bearer : Bearer → Option Span → Option (Bearer × Span)
as_bearer b None = None
as_bearer b (Some s) = Some (b, s)

abbrev pub bearer_or_else : Option (Bearer × Span) → Option (Bearer × Span) → Option (Bearer × Span)
bearer_or_else None other = other
bearer_or_else (Some found) other = Some found

abbrev pub entity_bearer : Text → Text → ℕ → List t.Entity → Option (Bearer × Span)
entity_bearer bytes name at [] = None
entity_bearer bytes name at (e ∷ es) = if is_other bytes name at e.name.span then Some (bearer.Entity e.kind, e.name.span) else entity_bearer bytes name at es

unfoldable pub param_bearer : Text → Option t.Method → Text → ℕ → Option (Bearer × Span)
param_bearer bytes m name at = as_bearer bearer.Parameter (find (is_other bytes name at) (param_spans_of m))

unfoldable pub local_bearer : Text → t.Entity → Option t.Method → Text → ℕ → Option (Bearer × Span)
local_bearer bytes e m name at = as_bearer bearer.Local (find (is_other bytes name at) (locals (marks_at at e m)))

unfoldable pub field_bearer : Text → List t.Field → Text → ℕ → Option (Bearer × Span)
field_bearer bytes fs name at = as_bearer bearer.Field (find (is_other bytes name at) (map field_span fs))

unfoldable pub method_bearer : Text → List t.Method → Text → ℕ → Option (Bearer × Span)
method_bearer bytes ms name at = as_bearer bearer.Method (find (is_other bytes name at) (map method_name_span ms))

unfoldable pub outer_bearer : Text → t.File → t.Entity → Text → ℕ → Option (Bearer × Span)
outer_bearer bytes file e name at =
    bearer_or_else (field_bearer bytes e.fields name at) (bearer_or_else (method_bearer bytes e.methods name at) (entity_bearer bytes name at file.entities))

-- The first thing with the name, other than at this byte: a parameter, a local, a field, a method or an entity.
unfoldable pub bearer_of : Text → t.File → t.Entity → Option t.Method → Text → ℕ → Option (Bearer × Span)
bearer_of bytes file e m name at =
    bearer_or_else (param_bearer bytes m name at) (bearer_or_else (local_bearer bytes e m name at) (outer_bearer bytes file e name at))

-- A field or a method of the entity that is called `create`.
unfoldable pub create_bearer : Text → t.Entity → ℕ → Option (Bearer × Span)
create_bearer bytes e at = bearer_or_else (field_bearer bytes e.fields (codes "create") at) (method_bearer bytes e.methods (codes "create") at)

-- ---- entities by their names

abbrev pub is_value : Text → Bool
is_value name = bytes_eq name (codes "None") || bytes_eq name (codes "U64") || bytes_eq name (codes "Bool") || bytes_eq name (codes "String")

-- The kind of the entity with this name, if every program has it.
unfoldable pub built_in_kind : Text → Option EntityKind
built_in_kind name =
    if is_value name then Some kind.Primitive
    else (if bytes_eq name (codes "Env") then Some kind.Class else (if bytes_eq name (codes "OutStream") then Some kind.Actor else None))

unfoldable pub is_built_in : Text → Bool
is_built_in name = is_some (built_in_kind name)

-- The same for a file's entities.
abbrev pub kind_named : Text → List t.Entity → Option EntityKind
kind_named name [] = None
kind_named name (e ∷ es) = if bytes_eq e.name.text name then Some e.kind else kind_named name es

abbrev pub kind_or : Option EntityKind → Option EntityKind → Option EntityKind
kind_or None other = other
kind_or (Some k) other = Some k

-- The same for both.
unfoldable pub known_kind : Text → List t.Entity → Option EntityKind
known_kind name es = kind_or (built_in_kind name) (kind_named name es)
