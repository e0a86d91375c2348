-- The lines about a constructor that leaves a field unset.
use Rattle.std.specs.{Prelude.{ℕ, ◌+◌, Bool, true, false, ◌&&◌, nat_eq, List, [], ◌∷◌, ◌++◌, Option, Some, None, filter, length, map, slice_get, take, codes, if◌then◌else◌}, Option.option_map_or}
use Rattle.pc_core.specs.{CoreData.CoreData, Further.own_nodes, Kinds.field_written, declared.declarations.EntityDef.EntityDef, declared.declarations.FieldInfo.FieldInfo, declared.declarations.Method.Method, declared.nodes.Node.Node, declared.nodes.NodeKind.NodeKind}
use Rattle.pc_explain_names.specs.Lists.{most, rest}
use Rattle.pc_base.specs.Lists.{Text, line_end}
use Rattle.pc_masks.specs.{Masks.has, declared.mask.Mask.Mask}
use Rattle.pc_rules.specs.Fields.{is_this}
use Rattle.pc_explain_window.specs.{Places.line_and_column, Quoting.quoted}
use Rattle.pc_explain_words.specs.Scene.{SceneData}
use Rattle.pc_explain_words.specs.Forms as forms
use Rattle.pc_explain_words.specs.Methods as methods

-- ---- where a field is written

abbrev pub writes_name : ℕ → NodeKind → Bool
writes_name name k = option_map_or (λ written. nat_eq written name) (field_written k) false

abbrev pub is_this_node : Option Node → Bool
is_this_node None = false
is_this_node (Some y) = is_this y.kind

abbrev pub child_in : CoreData → Option ℕ → Option Node
child_in core None = None
child_in core (Some c) = slice_get core.nodes c

-- The node writes the field with this name of `this`.
unfoldable pub writes_own : CoreData → ℕ → Node → Bool
writes_own core name x = writes_name name x.kind && is_this_node (child_in core (slice_get x.children 1))

-- What is written before a place.
abbrev pub before_place : (first : Bool) → Text
before_place first = if first then codes " on every path: it is set only at " else codes ", "

unfoldable pub write_place : Text → (first : Bool) → ℕ → Text
write_place bytes first at = before_place first ++ line_and_column bytes at

-- The places of these bytes.
abbrev pub places_of : Text → (first : Bool) → List ℕ → Text
places_of bytes first [] = []
places_of bytes first (at ∷ others) = write_place bytes first at ++ places_of bytes false others

abbrev pub start_of_node : Node → ℕ
start_of_node x = x.span.start

-- Where those of these nodes begin that write the field with this name of `this`.
abbrev pub writes_of : CoreData → ℕ → List Node → List ℕ
writes_of core name xs = map start_of_node (filter (writes_own core name) xs)

-- The first eight places, and how many more there are.
unfoldable pub write_places : Text → List ℕ → Text
write_places bytes starts = places_of bytes true (take most starts) ++ rest (length starts)

-- ---- the fields

unfoldable pub unset_part : SceneData → Method → FieldInfo → Text
unset_part s m f =
    codes "part: the field " ++ (quoted (forms.name_text s.core f.name) ++ (codes ", " ++ (forms.place_words s.core (f.entity, f.cap)
    ++ (codes ", is not set" ++ (write_places s.bytes (writes_of s.core f.name (own_nodes s.core m)) ++ line_end)))))

unfoldable pub unset_part_of : SceneData → Method → (set : Bool) → FieldInfo → Text
unset_part_of s m true f = []
unset_part_of s m false f = unset_part s m f

-- The parts for the fields, from this index on, that are not set.
abbrev pub unset_parts : SceneData → Method → Mask → ℕ → List FieldInfo → Text
unset_parts s m set i [] = []
unset_parts s m set i (f ∷ fs) = unset_part_of s m (has set i) f ++ unset_parts s m set (i + 1) fs

abbrev pub first_unset : Mask → ℕ → List FieldInfo → Option FieldInfo
first_unset set i [] = None
first_unset set i (f ∷ fs) = if has set i then first_unset set (i + 1) fs else Some f

unfoldable pub quoted_field_name : CoreData → Option FieldInfo → Text
quoted_field_name core None = []
quoted_field_name core (Some f) = quoted (forms.name_text core f.name)

-- ---- the lines

abbrev pub fields_of : Option EntityDef → List FieldInfo
fields_of None = []
fields_of (Some x) = x.fields

unfoldable pub constructor_line : SceneData → Method → Text
constructor_line s m = codes "node: the constructor " ++ (methods.declared_method s m ++ line_end)

unfoldable pub set_hint : CoreData → Option FieldInfo → Text
set_hint core f = codes "hint: give " ++ (quoted_field_name core f ++ (codes " an initial value, or set it on every path" ++ line_end))

abbrev pub set_rule : Text
set_rule = codes "rule constructor: at the end of a constructor every field must be set" ++ line_end

unfoldable pub field_lines : SceneData → Method → Mask → List FieldInfo → Text
field_lines s m set fs = unset_parts s m set 0 fs ++ (set_rule ++ set_hint s.core (first_unset set 0 fs))

-- The lines about a constructor that ends with these fields set and others not.
unfoldable pub unset_lines : SceneData → Method → Mask → Text
unset_lines s m set = constructor_line s m ++ field_lines s m set (fields_of (slice_get s.core.entities m.entity))
