-- The lines about a fault of a file's names.
use Rattle.std.specs.{Prelude.{ℕ, Bool, true, false, List, [], ◌∷◌, ◌++◌, map, Option, Some, None, nat_eq, codes, if◌then◌else◌}, List.{find, list_any}, Str.bytes_eq}
use Rattle.pc_base.specs.{declared.span.Span.Span, Lists.{Text, line_end}}
use Rattle.pc_members.specs.Members.{Member}
use Rattle.pc_tree.specs.declared.kinds.EntityKind.{EntityKind}
use Rattle.pc_explain_window.specs.{Places.{line_and_column, piece_of}, Quoting.{piece, quoted}}
use Rattle.pc_explain_names.specs.{declared.bearers.Bearer.Bearer, declared.marks.Mark.Mark, Bearers.{bearer_of, create_bearer, is_built_in, kind_word, known_kind, word}, Homes.{marks_at, visible_at}, Lists.{field_span, method_name_span, span_is_named, is_other, name_span, names_listed}, Marks.use_in, Rows.{has_member, member_names}}
use Rattle.pc_tree.specs.Tree as t
use Rattle.pc_tree.specs.declared.kinds.EntityKind.TheVariants as kind
use Rattle.pc_explain_names.specs.declared.marks.Mark.TheVariants as mark

-- ---- the name

abbrev pub method_part : Option t.Method → Text
method_part None = []
method_part (Some m) = 46 ∷ piece m.name.text

-- ` in E.m`
unfoldable pub home_of_name : t.Entity → Option t.Method → Text
home_of_name e m = codes " in " ++ (piece e.name.text ++ method_part m)

unfoldable pub name_node_line : Text → t.Entity → Option t.Method → Text
name_node_line name e m = codes "node: the name " ++ (quoted name ++ (home_of_name e m ++ line_end))

-- ---- a name that nothing has

unfoldable pub fields_part : Text → t.Entity → Text
fields_part bytes e = codes "), a field of " ++ (piece e.name.text ++ (codes " (" ++ names_listed bytes (map field_span e.fields)))

unfoldable pub methods_part : List Member → Text
methods_part ms = codes "), or directly before arguments one of its methods (" ++ (member_names ms ++ (codes ")" ++ line_end))

unfoldable pub members_part : Text → t.Entity → List Member → Text
members_part bytes e ms = fields_part bytes e ++ methods_part ms

unfoldable pub bare_line : Text → t.Entity → List Member → List Span → Text
bare_line bytes e ms visible = codes "rule name: a bare name is a visible local or parameter (here " ++ (names_listed bytes visible ++ members_part bytes e ms)

unfoldable pub call_line : Text → Text
call_line name = codes "hint: write `" ++ (piece name ++ (codes "(..)`" ++ line_end))

abbrev pub call_hint : Bool → Text → Text
call_hint named name = if named then call_line name else []

unfoldable pub has_field_named : Text → Text → t.Entity → Bool
has_field_named bytes name e = list_any (span_is_named bytes name) (map field_span e.fields)

unfoldable pub bare_lines : Text → Text → t.Entity → List Member → List Span → Text
bare_lines bytes name e ms visible = bare_line bytes e ms visible ++ call_hint (has_member name ms) name

unfoldable pub consumed_line : Text → List Span → Text
consumed_line bytes visible = codes "rule name: a visible local or parameter is consumed; here are " ++ (names_listed bytes visible ++ line_end)

unfoldable pub old_value_line : Text → Text
old_value_line name = codes "hint: its old value is what `" ++ (piece name ++ (codes " = ..` gives" ++ line_end))

abbrev pub old_value_hint : Bool → Text → Text
old_value_hint named name = if named then old_value_line name else []

unfoldable pub consumed_lines : Text → Text → t.Entity → List Span → Text
consumed_lines bytes name e visible = consumed_line bytes visible ++ old_value_hint (has_field_named bytes name e) name

unfoldable pub constructor_rule_line : Text → Text → Text
constructor_rule_line entity name =
    codes "rule name: after the name of a class or an actor comes one of its constructors with its arguments, and "
    ++ (piece entity ++ (codes " has no constructor " ++ (quoted name ++ line_end)))

unfoldable pub has_method_named : Text → Text → t.Entity → Bool
has_method_named bytes name e = list_any (span_is_named bytes name) (map method_name_span e.methods)

-- The first of these entities with one name has a method with the other.
abbrev pub method_in : Text → (entity name : Text) → List t.Entity → Bool
method_in bytes entity name [] = false
method_in bytes entity name (e ∷ es) = if bytes_eq e.name.text entity then has_method_named bytes name e else method_in bytes entity name es

unfoldable pub object_line : (entity name : Text) → Text
object_line entity name = codes "hint: " ++ (quoted name ++ (codes " is a method: call it on an object of " ++ (piece entity ++ line_end)))

abbrev pub on_object_hint : Bool → (entity name : Text) → Text
on_object_hint named entity name = if named then object_line entity name else []

unfoldable pub constructor_lines : Text → t.File → (entity name : Text) → Text
constructor_lines bytes file entity name = constructor_rule_line entity name ++ on_object_hint (method_in bytes entity name file.entities) entity name

abbrev pub kind_article : EntityKind → Text
kind_article kind.Class = codes "a "
kind_article kind.Actor = codes "an "
kind_article kind.Primitive = codes "a "
kind_article kind.Trait = codes "a "
kind_article kind.Interface = codes "an "

unfoldable pub name_is_a : Text → EntityKind → Text
name_is_a name k = piece name ++ (codes " is " ++ (kind_article k ++ kind_word k))

-- A type name in an expression, or after `is`.
unfoldable pub type_line : (provided : Bool) → Text → Option EntityKind → Text
type_line provided name None = codes "rule name: no entity is called " ++ (piece name ++ line_end)
type_line true name (Some k) = codes "rule name: after `is` comes a trait or an interface, and " ++ (name_is_a name k ++ line_end)
type_line false name (Some k) =
    codes "rule name: " ++ (name_is_a name k ++ (codes ", and only None, a primitive of the file, and a class or actor with a constructor `create` stand in an expression" ++ line_end))

-- The name is in the entity's `is` list.
abbrev pub begins_at : ℕ → Span → Bool
begins_at at span = nat_eq span.start at

unfoldable pub is_provided : t.Entity → ℕ → Bool
is_provided e at = list_any (begins_at at) (map name_span e.provides)

unfoldable pub outside_line : Text → t.File → t.Entity → ℕ → Text
outside_line name file e at = type_line (is_provided e at) name (known_kind name file.entities)

-- The lines for a name, by how it is used.
unfoldable pub use_lines : Text → t.File → Span → t.Entity → List Member → List Span → Option Mark → Text
use_lines bytes file span e ms visible (Some mark.Bare) = bare_lines bytes (piece_of bytes span) e ms visible
use_lines bytes file span e ms visible (Some mark.Consumed) = consumed_lines bytes (piece_of bytes span) e visible
use_lines bytes file span e ms visible (Some (mark.Constructor head)) = constructor_lines bytes file (piece_of bytes head) (piece_of bytes span)
use_lines bytes file span e ms visible (Some mark.Type) = type_line false (piece_of bytes span) (known_kind (piece_of bytes span) file.entities)
use_lines bytes file span e ms visible (Some (mark.Local s)) = []
use_lines bytes file span e ms visible None = outside_line (piece_of bytes span) file e span.start

-- In an entity with these members.
unfoldable pub unknown_lines : Text → t.File → Span → t.Entity → List Member → Option t.Method → Text
unknown_lines bytes file span e ms m =
    name_node_line (piece_of bytes span) e m ++ use_lines bytes file span e ms (visible_at span.start e m) (use_in (marks_at span.start e m))

-- ---- a name that is taken

unfoldable pub built_in_line : Text → Text
built_in_line name = codes "rule name: " ++ (piece name ++ (codes " is built in" ++ line_end))

unfoldable pub stands_at : Text → ℕ → Text
stands_at bytes at = codes " at " ++ (line_and_column bytes at ++ (codes ", which is visible here" ++ line_end))

unfoldable pub named_line : Text → Text → Bearer → ℕ → Text
named_line bytes name b at = codes "rule name: " ++ (quoted name ++ (codes " is the name of the " ++ (word b ++ stands_at bytes at)))

abbrev pub other_name_hint : Text
other_name_hint = codes "hint: give one of the two another name" ++ line_end

unfoldable pub bearer_lines : Text → Text → Bearer → ℕ → Text
bearer_lines bytes name b at = named_line bytes name b at ++ other_name_hint

unfoldable pub built_in_lines : Text → Text
built_in_lines name = built_in_line name ++ other_name_hint

-- In the body of a trait's method, the name is that of a field of an entity that takes over the method.
unfoldable pub taken_lines : Text → Text
taken_lines name = codes "rule name: " ++ (quoted name ++ (codes " is the name of a field of an entity that takes this method over" ++ (line_end ++ other_name_hint)))

-- ---- a constructor `create` that is added, whose name is taken

unfoldable pub added_at : Text → t.Entity → ℕ → Text
added_at bytes e at = codes " at " ++ (line_and_column bytes at ++ (codes ", and a constructor `create` is added to " ++ (piece e.name.text ++ (codes ", which has none" ++ line_end))))

unfoldable pub added_line : Text → t.Entity → Bearer → ℕ → Text
added_line bytes e b at = codes "rule name: `create` is the name of the " ++ (word b ++ added_at bytes e at)

unfoldable pub added_rule : Text → t.Entity → Option (Bearer × Span) → Text
added_rule bytes e None = []
added_rule bytes e (Some b) = added_line bytes e b.0 b.1.start

unfoldable pub added_lines : Text → t.Entity → Option t.Method → ℕ → Text
added_lines bytes e m at = name_node_line (codes "create") e m ++ (added_rule bytes e (create_bearer bytes e at) ++ other_name_hint)

-- ---- a name that is in an `is` list twice

unfoldable pub again_line : Text → Text → ℕ → Text
again_line bytes name at = codes "rule name: " ++ (quoted name ++ (codes " stands after `is` already, at " ++ (line_and_column bytes at ++ line_end)))

unfoldable pub again_rule : Text → Text → Option Span → Text
again_rule bytes name None = []
again_rule bytes name (Some s) = again_line bytes name s.start

abbrev pub again_hint : Text
again_hint = codes "hint: take one of the two away" ++ line_end

unfoldable pub first_provided : Text → Text → t.Entity → ℕ → Option Span
first_provided bytes name e at = find (is_other bytes name at) (map name_span e.provides)

unfoldable pub again_lines : Text → Text → t.Entity → Option t.Method → ℕ → Text
again_lines bytes name e m at = name_node_line name e m ++ (again_rule bytes name (first_provided bytes name e at) ++ again_hint)

-- ---- by what has the name

-- Nothing in the file has the name.
unfoldable pub unborne_lines : Text → Text → t.Entity → Option t.Method → ℕ → Text
unborne_lines bytes name e m at =
    if is_built_in name then name_node_line name e m ++ built_in_lines name
    else (if begins_at at e.name.span then added_lines bytes e m at else name_node_line name e m ++ taken_lines name)

unfoldable pub borne_lines : Text → Text → t.Entity → Option t.Method → ℕ → Option (Bearer × Span) → Text
borne_lines bytes name e m at None = unborne_lines bytes name e m at
borne_lines bytes name e m at (Some b) = name_node_line name e m ++ bearer_lines bytes name b.0 b.1.start

unfoldable pub named_lines : Text → t.File → Text → t.Entity → Option t.Method → ℕ → Text
named_lines bytes file name e m at = borne_lines bytes name e m at (bearer_of bytes file e m name at)

unfoldable pub double_lines : Text → t.File → Span → t.Entity → Option t.Method → Text
double_lines bytes file span e m =
    if is_provided e span.start then again_lines bytes (piece_of bytes span) e m span.start
    else named_lines bytes file (piece_of bytes span) e m span.start

-- ---- traits in a cycle, and Main

unfoldable pub trait_line : EntityKind → Text → Text
trait_line k name = codes "node: the " ++ (kind_word k ++ (codes " " ++ (piece name ++ line_end)))

unfoldable pub chain_lines : Text → Text
chain_lines name =
    codes "rule is: a chain of `is` leads from " ++ (piece name ++ (codes " back to " ++ (piece name
    ++ (line_end ++ (codes "hint: take one `is` of the chain away" ++ line_end)))))

unfoldable pub cycle_lines : EntityKind → Text → Text
cycle_lines k name = trait_line k name ++ chain_lines name

unfoldable pub main_lines : Text
main_lines =
    codes "node: the name `Main`" ++ (line_end ++ (codes "rule main: `Main` is an actor with a constructor `create` of exactly one parameter, of Env val"
    ++ (line_end ++ (codes "hint: write `actor Main` with `new create(env: Env) => ..`" ++ line_end))))

abbrev pub no_main_lines : Text
no_main_lines =
    codes "rule main: a program has one actor `Main` with `new create(env: Env)`, and this file has no entity of that name"
    ++ (line_end ++ (codes "hint: add `actor Main` with `new create(env: Env) => None`" ++ line_end))
