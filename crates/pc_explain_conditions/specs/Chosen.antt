-- Which rules are considered for a node.
use Rattle.std.specs.Prelude.{ℕ, Bool, true, false, not, List, Option, Some, None, slice_get, codes}
use Rattle.pc_ann.specs.{declared.annotation.Note.Note, declared.annotation.Rule.Rule}
use Rattle.pc_core.specs.{CoreData.CoreData, declared.declarations.Method.Method, declared.nodes.Node.Node, declared.nodes.NodeKind.NodeKind}
use Rattle.pc_rules.specs.{Fields.incomplete, Calls.{is_function, is_behaviour, same_text}, Operators.{is_arithmetic, is_comparison, is_equality, is_add, is_xor}}
use Rattle.pc_explain_conditions.specs.Conditions.{callee}
use Rattle.pc_ann.specs.declared.annotation.Rule.TheVariants as rule
use Rattle.pc_core.specs.declared.nodes.NodeKind.TheVariants as node

abbrev pub calls_function : Option Method → Bool
calls_function None = false
calls_function (Some f) = is_function f.kind

abbrev pub calls_behaviour : Option Method → Bool
calls_behaviour None = false
calls_behaviour (Some f) = is_behaviour f.kind

abbrev pub names_string : Option (List ℕ) → Bool
names_string None = false
names_string (Some text) = same_text text (codes "string")

-- The rule is considered for a node x of this kind, depending on whether the node is incomplete, on the kind of the
-- method that is called, on the method's name, or on the operator. A rule that is not considered does not apply to the
-- node.
abbrev pub is_chosen : CoreData → List Note → Node → Rule → NodeKind → Bool
is_chosen core ns x rule.Get (node.Field name) = not (incomplete core ns x)
is_chosen core ns x rule.GetOwn (node.Field name) = incomplete core ns x
is_chosen core ns x rule.Put (node.SetField name) = not (incomplete core ns x)
is_chosen core ns x rule.PutOwn (node.SetField name) = incomplete core ns x
is_chosen core ns x rule.Call (node.Call name) = not (calls_behaviour (callee core ns name))
is_chosen core ns x rule.CallRecover (node.Call name) = calls_function (callee core ns name)
is_chosen core ns x rule.Send (node.Call name) = calls_behaviour (callee core ns name)
is_chosen core ns x rule.Builtin (node.Call name) = names_string (slice_get core.names name)
is_chosen core ns x rule.Arith (node.Binary o) = is_arithmetic o
is_chosen core ns x rule.Compare (node.Binary o) = is_comparison o
is_chosen core ns x rule.Equal (node.Binary o) = is_equality o
is_chosen core ns x rule.Join (node.Binary o) = is_add o
is_chosen core ns x rule.Logic (node.Binary o) = is_xor o
is_chosen core ns x r k = true
