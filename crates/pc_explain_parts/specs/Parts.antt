-- The lines about the parts of a node: the children whose types its rules look at.
use Rattle.std.specs.Prelude.{ℕ, zero, suc, ◌+◌, Bool, true, false, nat_eq, List, [], ◌∷◌, ◌++◌, length, Option, Some, None, slice_get, if◌then◌else◌, codes, decimal}
use Rattle.pc_caps.specs.declared.capability.Form.{Form}
use Rattle.pc_core.specs.{CoreData.CoreData, declared.nodes.Node.Node, declared.nodes.NodeKind.NodeKind}
use Rattle.pc_base.specs.Lists.{Text, line_end}
use Rattle.pc_rules.specs.Parts.{last_child}
use Rattle.pc_explain_window.specs.{Places.piece_of, Quoting.quoted}
use Rattle.pc_explain_words.specs.{Forms.type_words, Scene.{SceneData, is_unwritten_this, noted_type}}
use Rattle.pc_explain_parts.specs.declared.parts.Role.{Role}
use Rattle.pc_core.specs.declared.nodes.NodeKind.TheVariants as node
use Rattle.pc_explain_parts.specs.declared.parts.Role.TheVariants as role

-- ---- the role of a child in its node

abbrev pub value_or_origin : ℕ → Role
value_or_origin zero = role.Value
value_or_origin (suc i) = role.Origin

abbrev pub left_or_right : ℕ → Role
left_or_right zero = role.Left
left_or_right (suc i) = role.Right

-- The branches and the body of a condition's node are not parts of it.
abbrev pub condition_or_none : ℕ → Role
condition_or_none zero = role.Condition
condition_or_none (suc i) = role.Unseen

-- In a call, the arguments come first, and then the receiver.
abbrev pub argument_or_receiver : (count index : ℕ) → Role
argument_or_receiver n i = if nat_eq (i + 1) n then role.Receiver else role.Argument i

-- The role of the child with this index, given the number of children.
abbrev pub role_of : NodeKind → (count index : ℕ) → Role
role_of (node.Field name) n i = role.Origin
role_of (node.SetField name) n i = value_or_origin i
role_of (node.Define k) n i = role.Value
role_of (node.Assign k) n i = role.Value
role_of (node.New m) n i = role.Argument i
role_of (node.Spawn m) n i = role.Argument i
role_of (node.Call name) n i = argument_or_receiver n i
role_of (node.Binary o) n i = left_or_right i
role_of node.And n i = left_or_right i
role_of node.Or n i = left_or_right i
role_of (node.Same v) n i = left_or_right i
role_of node.Not n i = role.Operand
role_of node.If n i = condition_or_none i
role_of node.While n i = condition_or_none i
role_of (node.Recover k) n i = role.Body
role_of node.Body n i = role.Last
role_of k n i = role.Unseen

unfoldable pub child_role : Node → ℕ → Role
child_role x i = role_of x.kind (length x.children) i

-- Arguments are counted from 1.
abbrev pub argument_words : ℕ → Text
argument_words i = codes "argument " ++ decimal (i + 1)

unfoldable pub role_words : Role → Text
role_words role.Value = codes "the value"
role_words role.Origin = codes "the origin"
role_words (role.Argument i) = argument_words i
role_words role.Receiver = codes "the receiver"
role_words role.Left = codes "the left side"
role_words role.Right = codes "the right side"
role_words role.Operand = codes "the operand"
role_words role.Condition = codes "the condition"
role_words role.Body = codes "the body"
role_words role.Last = codes "the last value"
role_words role.Unseen = []

-- ---- the node that a part shows

abbrev pub is_seq : NodeKind → Bool
is_seq node.Seq = true
is_seq k = false

abbrev pub last_of_seq : Option Node → Option ℕ
last_of_seq None = None
last_of_seq (Some x) = if is_seq x.kind then last_child x.children else None

abbrev pub last_or : ℕ → Option ℕ → ℕ
last_or n None = n
last_or n (Some c) = c

-- The last item of a sequence, through at most this many nested sequences. If the node is not a sequence, it is the
-- node itself.
abbrev pub last_item : CoreData → (depth : ℕ) → ℕ → ℕ
last_item core zero n = n
last_item core (suc d) n = last_item core d (last_or n (last_of_seq (slice_get core.nodes n)))

unfoldable pub last_value : CoreData → ℕ → ℕ
last_value core n = last_item core (length core.nodes) n

-- For a body its last item, and for everything else the node itself.
unfoldable pub shown_node : CoreData → Role → ℕ → ℕ
shown_node core role.Last n = last_value core n
shown_node core role.Value n = n
shown_node core role.Origin n = n
shown_node core (role.Argument i) n = n
shown_node core role.Receiver n = n
shown_node core role.Left n = n
shown_node core role.Right n = n
shown_node core role.Operand n = n
shown_node core role.Condition n = n
shown_node core role.Body n = n
shown_node core role.Unseen n = n

-- ---- the line

abbrev pub has_type : CoreData → Option (ℕ × Form) → Text
has_type core None = codes " has no type"
has_type core (Some ty) = codes " is " ++ type_words core ty

abbrev pub node_text : SceneData → Option Node → Text
node_text s None = []
node_text s (Some x) = quoted (piece_of s.bytes x.span)

abbrev pub seen_text : SceneData → ℕ → Text
seen_text s n = if is_unwritten_this s n then codes "`this`, which is not written," else node_text s (slice_get s.core.nodes n)

-- `part: ROLE TEXT is TYPE`. The type is that of the part's note.
unfoldable pub part_line : SceneData → Role → ℕ → Text
part_line s r c = codes "part: " ++ (role_words r ++ (codes " " ++ (seen_text s (shown_node s.core r c) ++ (has_type s.core (noted_type s c) ++ line_end))))

-- ---- all of them

-- No rule looks at the type of such a child; or the node belongs to a constructor that has not set all fields, and the
-- child is the origin.
abbrev pub left_out : (incomplete : Bool) → Role → Bool
left_out b role.Unseen = true
left_out b role.Origin = b
left_out b role.Value = false
left_out b (role.Argument i) = false
left_out b role.Receiver = false
left_out b role.Left = false
left_out b role.Right = false
left_out b role.Operand = false
left_out b role.Condition = false
left_out b role.Body = false
left_out b role.Last = false

abbrev pub one_part : SceneData → (incomplete : Bool) → Role → ℕ → Text
one_part s b r c = if left_out b r then [] else part_line s r c

-- The children from this index on.
abbrev pub parts_from : SceneData → Node → (incomplete : Bool) → ℕ → List ℕ → Text
parts_from s x b i [] = []
parts_from s x b i (c ∷ cs) = one_part s b (child_role x i) c ++ parts_from s x b (i + 1) cs

unfoldable pub part_lines : SceneData → Node → (incomplete : Bool) → Text
part_lines s x b = parts_from s x b 0 x.children
