-- The rules as computed: the conclusion of each for a node, by the types of the slots and the notes of its children, in
-- order, and when the note of a node is the conclusion of its rule.
use Rattle.std.specs.Prelude.{◌≡◌, ℕ, List, Option, Some, None, slice_get}
use Rattle.pc_tree.specs.Kinds.{u64_entity, bool_entity, string_entity}
use Rattle.pc_ann.specs.{declared.annotation.Rule.Rule, declared.annotation.Note.Note, declared.annotation.Ann.Ann}
use Rattle.pc_rules.specs.{Parts.notes_of, Values.{literal_says, this_says, local_says, consume_says, define_says, assign_says}, Fields.{get_says, getown_says, put_says, putown_says}, Calls.{new_says, spawn_says, call_says, callrecover_says, send_says, builtin_says}, Operators.{arith_says, compare_says, equal_says, join_says, xor_says, not_says, identity_says, lazy_says}, Control.{seq_says, if_says, while_says, recover_says, body_says}, declared.said.Said.Said}
use Rattle.pc_valid.specs.Words.{Masks, Slots, before}
use Rattle.pc_core.specs.{declared.nodes.Node.Node, declared.nodes.NodeKind.NodeKind, CoreData.CoreData}
use Rattle.pc_base.specs.Lists.{◌>>=◌}
use Rattle.pc_ann.specs.declared.annotation.Rule.TheVariants as rule
use Rattle.pc_core.specs.declared.nodes.NodeKind.TheVariants as node

-- The conclusion of a rule for node x, with these masks before it, if it is a rule for nodes of this kind and its
-- condition holds: the node's type, or none, and the masks after it.
abbrev pub rule_says : CoreData → Slots → List Note → Node → Masks → Rule → NodeKind → Option Said
rule_says core slots ns x m rule.Number (node.Number v) = literal_says u64_entity m
rule_says core slots ns x m rule.Truth (node.Truth v) = literal_says bool_entity m
rule_says core slots ns x m rule.Text (node.Text v) = literal_says string_entity m
rule_says core slots ns x m rule.Prim (node.Prim e) = literal_says e m
rule_says core slots ns x m rule.This node.This = this_says core slots x m
rule_says core slots ns x m rule.Local (node.Local s) = local_says core slots x s m
rule_says core slots ns x m rule.Consume (node.Consume s) = consume_says core slots x s m
rule_says core slots ns x m rule.Get (node.Field name) = get_says core ns x name m
rule_says core slots ns x m rule.GetOwn (node.Field name) = getown_says core ns x name m
rule_says core slots ns x m rule.Put (node.SetField name) = put_says core ns x name m
rule_says core slots ns x m rule.PutOwn (node.SetField name) = putown_says core ns x name m
rule_says core slots ns x m rule.Define (node.Define s) = define_says core slots ns x s m
rule_says core slots ns x m rule.Assign (node.Assign s) = assign_says core slots ns x s m
rule_says core slots ns x m rule.New (node.New k) = new_says core ns k m
rule_says core slots ns x m rule.Spawn (node.Spawn k) = spawn_says core ns k m
rule_says core slots ns x m rule.Call (node.Call name) = call_says core ns name m
rule_says core slots ns x m rule.CallRecover (node.Call name) = callrecover_says core ns name m
rule_says core slots ns x m rule.Send (node.Call name) = send_says core ns name m
rule_says core slots ns x m rule.Builtin (node.Call name) = builtin_says core ns name m
rule_says core slots ns x m rule.Arith (node.Binary o) = arith_says ns o m
rule_says core slots ns x m rule.Compare (node.Binary o) = compare_says ns o m
rule_says core slots ns x m rule.Equal (node.Binary o) = equal_says ns o m
rule_says core slots ns x m rule.Join (node.Binary o) = join_says ns o m
rule_says core slots ns x m rule.Logic (node.Binary o) = xor_says ns o m
rule_says core slots ns x m rule.Logic node.Not = not_says ns m
rule_says core slots ns x m rule.Lazy node.And = lazy_says ns m
rule_says core slots ns x m rule.Lazy node.Or = lazy_says ns m
rule_says core slots ns x m rule.Identity (node.Same v) = identity_says ns m
rule_says core slots ns x m rule.Seq node.Seq = seq_says core ns x m
rule_says core slots ns x m rule.If node.If = if_says core ns m
rule_says core slots ns x m rule.While node.While = while_says ns m
rule_says core slots ns x m rule.Recover (node.Recover k) = recover_says ns k m
rule_says core slots ns x m rule.Body node.Body = body_says core ns x m
rule_says core slots ns x m r k = None

-- The conclusion that a note states.
abbrev pub said_by : Note → Said
said_by t = record { ty = t.ty; live = t.live_after; set = t.set_after }

-- ---- in an annotation

-- The conclusion of a rule for node x, by the types and the notes of an annotation. None if a child has no note.
abbrev pub says : CoreData → Ann → Node → Masks → Rule → NodeKind → Option Said
says core ann x m r k = do
  ns ← notes_of ann.notes x.children
  rule_says core ann.slots ns x m r k

-- The note of node x is the conclusion of its rule.
abbrev pub IsSaid : CoreData → Ann → Node → Note → Type 0
IsSaid core ann x t = says core ann x (before t) t.rule x.kind ≡ Some (said_by t)

-- Node n has a note that is the conclusion of its rule.
abbrev pub NoteIsSaid : CoreData → Ann → ℕ → Type 0
NoteIsSaid core ann n = (x : Node) × (t : Note) × (slice_get core.nodes n ≡ Some x) × (slice_get ann.notes n ≡ Some t) × IsSaid core ann x t
