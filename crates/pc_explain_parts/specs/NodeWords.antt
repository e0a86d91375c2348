-- The line about a node.
use Rattle.std.specs.Prelude.{ℕ, Bool, true, false, nat_eq, [], ◌++◌, Option, Some, None, slice_get, if◌then◌else◌, codes}
use Rattle.pc_caps.specs.{declared.capability.Cap.Cap, Words.cap_name}
use Rattle.pc_core.specs.{CoreData.CoreData, declared.declarations.Method.Method, declared.nodes.Node.Node, declared.nodes.NodeKind.NodeKind, declared.nodes.Slot.Slot}
use Rattle.pc_base.specs.Lists.{Text, line_end}
use Rattle.pc_tree.specs.declared.kinds.Op.{Op}
use Rattle.pc_explain_window.specs.{Places.piece_of, Quoting.{piece, quoted}}
use Rattle.pc_explain_words.specs.{Forms.{name_text, place_words}, Scene.{SceneData, child, is_param, slot_in, slot_name, noted_slot_type}}
use Rattle.pc_explain_parts.specs.Members.{node_callee, field_of_node, found_field_place}
use Rattle.pc_core.specs.declared.nodes.NodeKind.TheVariants as node
use Rattle.pc_tree.specs.declared.kinds.Op.TheVariants as op
use Rattle.pc_explain_words.specs.Methods as methods

abbrev pub op_word : Op → Text
op_word op.Add = codes "+"
op_word op.Sub = codes "-"
op_word op.Mul = codes "*"
op_word op.Div = codes "/"
op_word op.Rem = codes "%"
op_word op.Eq = codes "=="
op_word op.Ne = codes "!="
op_word op.Lt = codes "<"
op_word op.Le = codes "<="
op_word op.Gt = codes ">"
op_word op.Ge = codes ">="
op_word op.And = codes "and"
op_word op.Or = codes "or"
op_word op.Xor = codes "xor"
op_word op.Is = codes "is"
op_word op.Isnt = codes "isnt"

-- ---- types after a name

-- `, C iso,`
abbrev pub place_part : CoreData → Option (ℕ × Cap) → Text
place_part core None = []
place_part core (Some p) = codes ", " ++ (place_words core p ++ codes ",")

abbrev pub of_part : CoreData → Option (ℕ × Cap) → Text
of_part core None = []
of_part core (Some p) = codes ", of " ++ (place_words core p ++ codes ",")

-- A definition without a written type has the type of its value.
abbrev pub written_part : CoreData → Option (ℕ × Cap) → Text
written_part core None = codes ", whose type follows from its value,"
written_part core (Some p) = codes ", " ++ (place_words core p ++ codes ",")

-- Words, a name between backquotes, and its type.
unfoldable pub typed_words : CoreData → Text → Text → Option (ℕ × Cap) → Text
typed_words core words name ty = words ++ (quoted name ++ place_part core ty)

-- ---- kinds of nodes

abbrev pub local_head : Bool → Text
local_head param = if param then codes "the parameter " else codes "the local "

unfoldable pub local_words : SceneData → Node → ℕ → Text
local_words s x k = typed_words s.core (local_head (is_param s x.method k)) (slot_name s x.method k) (noted_slot_type s x.method k)

unfoldable pub consume_words : SceneData → Node → ℕ → Text
consume_words s x k = codes "`consume " ++ (piece (slot_name s x.method k) ++ (codes "`" ++ of_part s.core (noted_slot_type s x.method k)))

abbrev pub ends_at : ℕ → Option Node → Bool
ends_at end None = false
ends_at end (Some o) = nat_eq o.span.end end

abbrev pub origin_ends_at : CoreData → ℕ → Option ℕ → Bool
origin_ends_at core end None = false
origin_ends_at core end (Some c) = ends_at end (slice_get core.nodes c)

-- The write belongs to an initial value: it has the place of the field's name, and so has its origin, so that both end
-- there. An assignment continues after its origin, up to the value.
unfoldable pub is_initial : SceneData → Node → Bool
is_initial s x = origin_ends_at s.core x.span.end (child x 1)

abbrev pub write_head : Bool → Text
write_head initial = if initial then codes "the initial value of the field " else codes "the write of the field "

unfoldable pub write_words : SceneData → Node → ℕ → Text
write_words s x name = typed_words s.core (write_head (is_initial s x)) (name_text s.core name) (found_field_place (field_of_node s (child x 1) name))

abbrev pub written_type_of : Option Slot → Option (ℕ × Cap)
written_type_of None = None
written_type_of (Some y) = y.written

unfoldable pub define_words : SceneData → Node → ℕ → Text
define_words s x k = codes "the definition of " ++ (quoted (slot_name s x.method k) ++ written_part s.core (written_type_of (slot_in s x.method k)))

unfoldable pub assign_words : SceneData → Node → ℕ → Text
assign_words s x k = typed_words s.core (codes "the assignment to ") (slot_name s x.method k) (noted_slot_type s x.method k)

abbrev pub callee_words : SceneData → Option Method → Text → Text
callee_words s None name = quoted name
callee_words s (Some m) name = methods.declared_method s m

-- A call of a method, or just of its name.
unfoldable pub call_words : SceneData → Option Method → Text → Text
call_words s o name = codes "a call of " ++ callee_words s o name

abbrev pub same_words : Bool → Text
same_words same = if same then codes "`is`" else codes "`isnt`"

unfoldable pub recover_words : Option Cap → Text
recover_words None = codes "the `recover`"
recover_words (Some k) = codes "the `recover " ++ (cap_name k ++ codes "`")

-- The source's own text.
unfoldable pub text_words : SceneData → Node → Text
text_words s x = quoted (piece_of s.bytes x.span)

unfoldable pub words_of_kind : SceneData → Node → NodeKind → Text
words_of_kind s x (node.Local k) = local_words s x k
words_of_kind s x (node.Consume k) = consume_words s x k
words_of_kind s x (node.Field name) = typed_words s.core (codes "the read of the field ") (name_text s.core name) None
words_of_kind s x (node.SetField name) = write_words s x name
words_of_kind s x (node.Define k) = define_words s x k
words_of_kind s x (node.Assign k) = assign_words s x k
words_of_kind s x (node.New m) = call_words s (slice_get s.core.methods m) []
words_of_kind s x (node.Spawn m) = call_words s (slice_get s.core.methods m) []
words_of_kind s x (node.Call name) = call_words s (node_callee s x name) (name_text s.core name)
words_of_kind s x (node.Binary o) = quoted (op_word o)
words_of_kind s x node.Not = codes "`not`"
words_of_kind s x node.And = codes "`and`"
words_of_kind s x node.Or = codes "`or`"
words_of_kind s x (node.Same same) = same_words same
words_of_kind s x node.If = codes "the `if`"
words_of_kind s x node.While = codes "the `while`"
words_of_kind s x (node.Recover k) = recover_words k
words_of_kind s x k = text_words s x

-- ---- the line

abbrev pub body_words : SceneData → Method → Text
body_words s m = codes "the body of " ++ (methods.declared_method s m ++ methods.taken_over_words s.core m)

abbrev pub is_body_node : NodeKind → Bool
is_body_node node.Body = true
is_body_node k = false

abbrev pub plain_words : SceneData → Node → Text
plain_words s x = words_of_kind s x x.kind ++ methods.home_of_method s.core x.method

abbrev pub body_or : SceneData → Node → Option Method → Text
body_or s x None = plain_words s x
body_or s x (Some m) = body_words s m

-- What the node is, and in which method.
unfoldable pub whole_node_words : SceneData → Node → Text
whole_node_words s x = if is_body_node x.kind then body_or s x (slice_get s.core.methods x.method) else plain_words s x

unfoldable pub node_line : SceneData → Node → Text
node_line s x = codes "node: " ++ (whole_node_words s x ++ line_end)
