-- Where a child's value goes, and the forms that are found.
use Rattle.std.specs.Prelude.{ℕ, Bool, true, false, ◌&&◌, not, [], ◌∷◌, ◌++◌, Option, Some, None, slice_get, if◌then◌else◌, codes}
use Rattle.pc_caps.specs.{Tables.sendable_form, declared.capability.Form.Form, Words.form_name}
use Rattle.pc_core.specs.{declared.declarations.Method.Method, declared.declarations.ParamInfo.ParamInfo, declared.nodes.NodeKind.NodeKind}
use Rattle.pc_base.specs.Lists.{Text}
use Rattle.pc_rules.specs.Calls.{is_behaviour}
use Rattle.pc_explain_window.specs.{Places.piece_of, Quoting.quoted}
use Rattle.pc_explain_words.specs.{Forms.name_text, Scene.SceneData}
use Rattle.pc_explain_sentences.specs.{Stop.{StopData, node_method, own_slot}, declared.texts.TheConstants.{AN_ALIAS, ANY_PARAMETER, FIELD, RESULT, UNSENDABLE}}
use Rattle.pc_caps.specs.declared.capability.Form.TheVariants as form
use Rattle.pc_core.specs.declared.nodes.NodeKind.TheVariants as node

-- ---- the place that a child's value goes to

abbrev pub param_text : SceneData → Option ParamInfo → Text
param_text s None = []
param_text s (Some p) = piece_of s.bytes p.span

abbrev pub param_by : SceneData → Option Method → ℕ → Text
param_by s None i = []
param_by s (Some m) i = param_text s (slice_get m.params i)

-- A name after a blank, if there is one: the parameters of built-in methods have none.
unfoldable pub name_after : Text → Text
name_after [] = []
name_after (b ∷ bs) = codes " " ++ quoted (b ∷ bs)

abbrev pub param_words : StopData → ℕ → Text
param_words st i = ANY_PARAMETER.now ++ name_after (param_by st.scene (node_method st) i)

abbrev pub field_goal : Text → Text
field_goal name = FIELD.now ++ quoted name

abbrev pub goal_by : StopData → ℕ → NodeKind → Text
goal_by st i (node.SetField name) = field_goal (name_text st.scene.core name)
goal_by st i (node.Define k) = quoted (own_slot st k)
goal_by st i (node.Assign k) = quoted (own_slot st k)
goal_by st i (node.New m) = param_words st i
goal_by st i (node.Spawn m) = param_words st i
goal_by st i (node.Call name) = param_words st i
goal_by st i node.Body = RESULT.now
goal_by st i k = []

-- A field, a local, a parameter or the result.
unfoldable pub goal : StopData → ℕ → Text
goal st i = goal_by st i st.at.kind

-- ---- forms

abbrev pub is_alias : Form → Bool
is_alias form.Iso = true
is_alias form.Trn = true
is_alias form.IsoE = false
is_alias form.TrnE = false
is_alias form.Ref = false
is_alias form.Val = false
is_alias form.Box = false
is_alias form.Tag = false

abbrev pub is_sent : Option Method → Bool
is_sent None = false
is_sent (Some m) = is_behaviour m.kind

abbrev pub is_spawn_node : NodeKind → Bool
is_spawn_node (node.Spawn m) = true
is_spawn_node k = false

abbrev pub is_call_node : NodeKind → Bool
is_call_node (node.Call name) = true
is_call_node k = false

-- The node sends its arguments.
abbrev pub sends_arguments : StopData → Bool
sends_arguments st = if is_spawn_node st.at.kind then true else (if is_call_node st.at.kind then is_sent (node_method st) else false)

abbrev pub form_note : (sent : Bool) → Form → Text
form_note sent f = if is_alias f then AN_ALIAS.now else (if sent && not (sendable_form f) then UNSENDABLE.now else [])

-- A form that was found, with a description.
unfoldable pub found : StopData → Form → Text
found st f = form_name f ++ form_note (sends_arguments st) f
