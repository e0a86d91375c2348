-- The explanation of a core that has no derivation.
use Rattle.std.specs.Prelude.{◌≡◌, ℕ, Bool, true, false, List, [], ◌∷◌, ◌++◌, length, map, Option, Some, None, slice_get, codes}
use Rattle.pc_ann.specs.{declared.annotation.Ann.Ann, declared.annotation.Note.Note, declared.annotation.Rule.Rule}
use Rattle.pc_base.specs.{declared.span.Span.Span, Lists.{◌>>=◌, Text}}
use Rattle.pc_check.specs.{Faults.{StopsAt, InferenceLeavesUnset}, Inference.with_inferred}
use Rattle.pc_explain_conditions.specs.{Failing.{reasons, reasons_at}, declared.reason.Reason.Reason}
use Rattle.pc_core.specs.{CoreData.CoreData, declared.declarations.EntityDef.EntityDef, declared.declarations.Method.Method, declared.declarations.ParamInfo.ParamInfo, declared.nodes.Node.Node}
use Rattle.pc_explain_hints.specs.Hints.{hint}
use Rattle.pc_refusals.specs.FaultLines.{decl_text}
use Rattle.pc_valid.specs.Words.{Masks, Slots}
use Rattle.pc_explain_sentences.specs.{Sentences.sentence, Stop.StopData}
use Rattle.pc_sub.specs.{FirstFault.IsFirstDeclarationFault, declared.faults.DeclFault.DeclFault}
use Rattle.pc_token.specs.declared.kinds.Token.{Token}
use Rattle.pc_explain_window.specs.Head.{head}
use Rattle.pc_explain_parts.specs.{NodeWords.node_line, Parts.part_lines}
use Rattle.pc_explain_words.specs.Scene.{SceneData}
use Rattle.pc_explain.specs.{Declarations.declaration_lines, Known.known_slots, RuleLines.rule_lines, Setting.unset_lines, declared.rule_lines.Reported.Reported}
use Rattle.pc_ann.specs.declared.annotation.Rule.TheVariants as rule
use Rattle.pc_sub.specs.declared.faults.DeclFault.TheVariants as decl

-- What an explanation looks at: the source, its core, and the notes of the first nodes, with the types that follow from them.
unfoldable pub scene_of : Text → List Token → CoreData → List Note → SceneData
scene_of bytes tokens core notes = record { bytes = bytes; tokens = tokens; core = core; slots = known_slots core notes (length notes); notes = notes }

-- ---- a declaration that fails

abbrev pub missing_span : Span
missing_span = record { start = 0; end = 0 }

abbrev pub entity_span : Option EntityDef → Span
entity_span None = missing_span
entity_span (Some x) = x.span

abbrev pub method_span : Option Method → Span
method_span None = missing_span
method_span (Some x) = x.span

abbrev pub param_span : Option ParamInfo → Span
param_span None = missing_span
param_span (Some p) = p.span

abbrev pub own_param_span : Option Method → ℕ → Span
own_param_span None i = missing_span
own_param_span (Some x) i = param_span (slice_get x.params i)

-- The place of the name of its parameter, its entity or its method.
unfoldable pub decl_span : CoreData → DeclFault → Span
decl_span core (decl.NotSendable m i) = own_param_span (slice_get core.methods m) i
decl_span core (decl.MissingMethod e m) = entity_span (slice_get core.entities e)
decl_span core (decl.Mismatch e m) = method_span (slice_get core.methods m)

unfoldable pub declaration_text : Text → SceneData → DeclFault → Text
declaration_text name s f = head name s.bytes (decl_span s.core f) (decl_text f) ++ declaration_lines s f

-- ---- a node at which no rule holds

-- The rule, the sentence of its condition that does not hold, and what to do about it.
unfoldable pub reported : StopData → Reason → Reported
reported stop r = record { rule = r.rule; sentence = sentence stop r; hint = hint stop r }

abbrev pub is_own_rule : Rule → Bool
is_own_rule rule.GetOwn = true
is_own_rule rule.PutOwn = true
is_own_rule r = false

-- The rules for a constructor that has not set all fields yet are the ones looked at.
abbrev pub looks_at_own_rules : List Reason → Bool
looks_at_own_rules [] = false
looks_at_own_rules (r ∷ rs) = is_own_rule r.rule

abbrev pub all_of : Option (List Reason) → List Reason
all_of None = []
all_of (Some rs) = rs

abbrev pub reasons_by : CoreData → Slots → Option (List Note) → Node → Masks → List Reason
reasons_by core slots None x m = []
reasons_by core slots (Some ns) x m = reasons core slots ns x m

-- Why no rule holds at node x: each rule that is looked at, with its first condition that does not hold.
unfoldable pub reasons_of : CoreData → Ann → Node → Masks → List Reason
reasons_of core ann x m = all_of (reasons_at core (with_inferred core ann x) x m)

abbrev pub stop_at : SceneData → ℕ → Node → Masks → StopData
stop_at s n x m = record { scene = s; number = n; at = x; live = m.0; set = m.1 }

unfoldable pub node_explanation : Text → StopData → List Reason → Text
node_explanation name stop rs =
    head name stop.scene.bytes stop.at.span (codes "no rule")
    ++ (node_line stop.scene stop.at ++ (part_lines stop.scene stop.at (looks_at_own_rules rs) ++ rule_lines (map (reported stop) rs)))

-- ---- a constructor that leaves a field unset

-- The note of a method's body.
abbrev pub method_body_note : Ann → Method → Option Note
method_body_note ann x = do
  b ← x.body
  slice_get ann.notes b

unfoldable pub unset_text : Text → SceneData → Method → Note → Text
unset_text name s x t = head name s.bytes x.span (codes "field not set") ++ unset_lines s x t.set_after

-- ---- the explanation

-- The text explains why the source with this name, these bytes, these tokens and this core is refused.
pub data IsExplanation (name bytes : Text) (tokens : List Token) (core : CoreData) : Text → Type 0 where
  declared : (f : DeclFault) → IsFirstDeclarationFault core f → IsExplanation name bytes tokens core (declaration_text name (scene_of bytes tokens core []) f)
  no_rule : (ann : Ann) (n : ℕ) (m : Masks) (x : Node) → StopsAt core n m ann → slice_get core.nodes n ≡ Some x
      → IsExplanation name bytes tokens core (node_explanation name (stop_at (scene_of bytes tokens core ann.notes) n x m) (reasons_of core ann x m))
  unset : (ann : Ann) (k : ℕ) (left : InferenceLeavesUnset core k ann)
      → IsExplanation name bytes tokens core (unset_text name (scene_of bytes tokens core ann.notes) left.0.method left.0.note)
