-- Why a value has no type.
use Rattle.std.specs.{Prelude.{ℕ, zero, suc, Bool, true, false, [], ◌∷◌, ◌++◌, length, Option, Some, None, slice_get, if◌then◌else◌}, Option.is_none}
use Rattle.pc_core.specs.{declared.nodes.Node.Node, declared.nodes.NodeKind.NodeKind, Kinds.{called_name, stored_slot, field_written}, FurtherKinds.defined_slot}
use Rattle.pc_base.specs.Lists.{Text}
use Rattle.pc_rules.specs.Parts.{last_child}
use Rattle.pc_explain_words.specs.Scene.{SceneData, child, noted_type}
use Rattle.pc_explain_sentences.specs.{Fills.said, Stop.{StopData, stop_without_masks}, declared.texts.TheConstants.{ASSIGNED, BRANCHES, DEFINED, FIRST_BRANCH, LAST_ITEM, LENT, SECOND_BRANCH, WRITTEN}, declared.untyped.Step.Step}
use Rattle.pc_core.specs.declared.nodes.NodeKind.TheVariants as node
use Rattle.pc_explain_sentences.specs.declared.fills.Fill.TheVariants as fill
use Rattle.pc_explain_sentences.specs.declared.untyped.Step.TheVariants as step

-- ---- a step to the part because of which a node has no type

abbrev pub item_step : Option ℕ → Option Step
item_step None = None
item_step (Some c) = Some (step.LastItem c)

-- The first branch if it has no type, or else the second if it has none.
abbrev pub branch_step : SceneData → Option ℕ → Option ℕ → Option Step
branch_step s None b = None
branch_step s (Some a) None = None
branch_step s (Some a) (Some b) = if is_none (noted_type s a) then Some (step.FirstBranch a) else (if is_none (noted_type s b) then Some (step.SecondBranch b) else None)

abbrev pub is_seq_node : NodeKind → Bool
is_seq_node node.Seq = true
is_seq_node k = false

abbrev pub is_if_node : NodeKind → Bool
is_if_node node.If = true
is_if_node k = false

abbrev pub step_by : SceneData → Node → NodeKind → Option Step
step_by s x k = if is_seq_node k then item_step (last_child x.children) else (if is_if_node k then branch_step s (child x 1) (child x 2) else None)

abbrev pub untyped_step : SceneData → Option Node → Option Step
untyped_step s None = None
untyped_step s (Some x) = step_by s x x.kind

abbrev pub step_words : Step → Text
step_words (step.LastItem c) = LAST_ITEM.now
step_words (step.FirstBranch c) = FIRST_BRANCH.now
step_words (step.SecondBranch c) = SECOND_BRANCH.now

abbrev pub step_to : Step → ℕ
step_to (step.LastItem c) = c
step_to (step.FirstBranch c) = c
step_to (step.SecondBranch c) = c

-- ---- the reason

-- Of a definition, or else of an assignment.
abbrev pub stored_reason : StopData → (defined stored : Option ℕ) → Text
stored_reason st (Some k) slot = said st DEFINED.now []
stored_reason st None (Some k) = said st ASSIGNED.now (fill.Slot k ∷ [])
stored_reason st None None = []

-- Of a call, or else of those.
abbrev pub called_reason : StopData → (called : Option ℕ) → Text
called_reason st (Some name) = said st LENT.now (fill.Name name ∷ fill.Result ∷ [])
called_reason st None = stored_reason st (defined_slot st.at.kind) (stored_slot st.at.kind)

-- Of the write of a field, or else of those.
abbrev pub written_reason : StopData → (written : Option ℕ) → Text
written_reason st (Some name) = said st WRITTEN.now (fill.Name name ∷ [])
written_reason st None = called_reason st (called_name st.at.kind)

abbrev pub reason_of_stop : StopData → Text
reason_of_stop st =
    if is_if_node st.at.kind then said st BRANCHES.now (fill.PartType 1 ∷ fill.PartType 2 ∷ []) else written_reason st (field_written st.at.kind)

-- The reason of a node that makes no step, as a node of its own.
abbrev pub own_reason_of : SceneData → ℕ → Option Node → Text
own_reason_of s n None = []
own_reason_of s n (Some x) = reason_of_stop (stop_without_masks s n x)

abbrev pub own_reason : SceneData → ℕ → Text
own_reason s n = own_reason_of s n (slice_get s.core.nodes n)

abbrev pub step_text : Option Step → Text
step_text None = []
step_text (Some t) = step_words t

abbrev pub step_from : ℕ → Option Step → ℕ
step_from n None = n
step_from n (Some t) = step_to t

-- At most `depth` steps to the part because of which node n has no type, and then that part's own reason.
abbrev pub reason_from : SceneData → (depth : ℕ) → ℕ → Text
reason_from s zero n = own_reason s n
reason_from s (suc d) n = step_text (untyped_step s (slice_get s.core.nodes n)) ++ reason_from s d (step_from n (untyped_step s (slice_get s.core.nodes n)))

unfoldable pub reason : SceneData → ℕ → Text
reason s n = reason_from s (length s.core.nodes) n
