-- The sentence of a condition that does not hold.
use Rattle.std.specs.Prelude.{ℕ, Bool, true, false, [], ◌∷◌, ◌++◌, Option, Some, None, if◌then◌else◌}
use Rattle.pc_ann.specs.declared.annotation.Rule.{Rule}
use Rattle.pc_caps.specs.{declared.capability.Cap.Cap, declared.capability.Form.Form}
use Rattle.pc_explain_conditions.specs.{declared.condition.Condition.Condition, declared.reason.Reason.Reason}
use Rattle.pc_base.specs.Lists.{Text}
use Rattle.pc_explain_parts.specs.{Parts.{child_role, shown_node}, declared.parts.Role.Role}
use Rattle.pc_explain_words.specs.{Lacks.why_not_below, Scene.{child, is_param}}
use Rattle.pc_explain_sentences.specs.{Fills.said, Slots.{consumed_at, looped_field, lost_slot}, Stop.{StopData, child_form, child_type, receiver_child_index}, Untyped.reason, declared.texts.TheConstants.{BUILTIN_COUNT, COMPARED, CONSUMED, FIXED, INTO_ISO, INTO_TRN, LET, LOOPED, LOST, METHOD_COUNT, NO_FIELD, NO_FUNCTION, NO_METHOD, NOT_BELOW, NOT_ISOLATED, NOT_JUST, NOT_LENT, NOT_LIFTED, NOT_LIVE, NOT_REACHED, NOT_SENT, NOT_UNDER, PARAMETER, PART_UNFIT, PRINTED, RECEIVER_UNFIT, SET, UNREADABLE, UNSEEN, UNSET, UNTYPED, UNWRITABLE}}
use Rattle.pc_ann.specs.declared.annotation.Rule.TheVariants as rule
use Rattle.pc_caps.specs.declared.capability.Form.TheVariants as form
use Rattle.pc_explain_conditions.specs.declared.condition.Condition.TheVariants as asks
use Rattle.pc_explain_parts.specs.declared.parts.Role.TheVariants as role
use Rattle.pc_explain_sentences.specs.declared.fills.Fill.TheVariants as fill

-- ---- about a part

-- A sentence about a part and its form, and one about a part and its entity.
abbrev pub of_form : StopData → Text → ℕ → Text
of_form st sentence i = said st sentence (fill.Part i ∷ fill.PartForm i ∷ [])

abbrev pub about_entity : StopData → Text → ℕ → Text
about_entity st sentence i = said st sentence (fill.Part i ∷ fill.APartEntity i ∷ [])

-- The reason of the node that the part shows, since the words before it say that this node has no type.
abbrev pub reason_of : StopData → ℕ → Option ℕ → Text
reason_of st i None = []
reason_of st i (Some c) = reason st.scene (shown_node st.scene.core (child_role st.at i) c)

abbrev pub part_reason : StopData → ℕ → Text
part_reason st i = reason_of st i (child st.at i)

abbrev pub untyped : StopData → ℕ → Text
untyped st i = said st UNTYPED.now (fill.Part i ∷ []) ++ part_reason st i

abbrev pub why_not : StopData → ℕ → Option (ℕ × Form) → Text
why_not st e None = []
why_not st e (Some ty) = why_not_below st.scene ty.0 e

abbrev pub not_under : StopData → ℕ → ℕ → Text
not_under st i e = said st NOT_UNDER.now (fill.Part i ∷ fill.APartEntity i ∷ fill.Entity e ∷ fill.PartGoal i ∷ []) ++ why_not st e (child_type st i)

abbrev pub receiver_unfit : StopData → ℕ → Cap → Text
receiver_unfit st i k = said st RECEIVER_UNFIT.now (fill.PartForm i ∷ fill.OneCap k ∷ fill.Named ∷ fill.Fitting k ∷ [])

abbrev pub part_unfit : StopData → ℕ → Cap → Text
part_unfit st i k = said st PART_UNFIT.now (fill.Part i ∷ fill.PartFound i ∷ fill.PartGoal i ∷ fill.ACap k ∷ fill.Takes k ∷ [])

abbrev pub unfit_by : StopData → ℕ → Cap → Role → Text
unfit_by st i k role.Receiver = receiver_unfit st i k
unfit_by st i k r = part_unfit st i k

abbrev pub unfit : StopData → ℕ → Cap → Text
unfit st i k = unfit_by st i k (child_role st.at i)

-- ---- about a slot

abbrev pub not_live_by : StopData → ℕ → Option ℕ → Text
not_live_by st k None = said st NOT_LIVE.now (fill.Slot k ∷ [])
not_live_by st k (Some at) = said st CONSUMED.now (fill.Slot k ∷ fill.Slot k ∷ fill.Place at ∷ [])

abbrev pub not_live : StopData → ℕ → Text
not_live st k = not_live_by st k (consumed_at st k)

abbrev pub not_variable_by : (param : Bool) → Text
not_variable_by param = if param then PARAMETER.now else LET.now

abbrev pub not_variable : StopData → ℕ → Text
not_variable st k = said st (not_variable_by (is_param st.scene st.at.method k)) (fill.Slot k ∷ [])

-- ---- about members

abbrev pub not_entering_by : Form → Text
not_entering_by form.Trn = INTO_TRN.now
not_entering_by form.TrnE = INTO_TRN.now
not_entering_by form.IsoE = INTO_ISO.now
not_entering_by form.Iso = INTO_ISO.now
not_entering_by form.Ref = INTO_ISO.now
not_entering_by form.Val = INTO_ISO.now
not_entering_by form.Box = INTO_ISO.now
not_entering_by form.Tag = INTO_ISO.now

abbrev pub not_entering : StopData → Text
not_entering st = said st (not_entering_by (child_form st 1)) (fill.PartForm 0 ∷ [])

abbrev pub is_builtin : Rule → Bool
is_builtin rule.Builtin = true
is_builtin r = false

abbrev pub miscounted : StopData → Rule → (given wanted : ℕ) → Text
miscounted st r given wanted =
    if is_builtin r then said st BUILTIN_COUNT.now (fill.Number given ∷ fill.IsOrAre given ∷ [])
    else said st METHOD_COUNT.now (fill.MethodName ∷ fill.Number wanted ∷ fill.ArgumentWord wanted ∷ fill.Number given ∷ fill.IsOrAre given ∷ [])

abbrev pub not_lifted : StopData → Option Cap → Text
not_lifted st k = said st NOT_LIFTED.now (fill.Part 0 ∷ fill.PartForm 0 ∷ fill.LiftedForm ∷ fill.LiftedForm ∷ fill.WrittenCap k ∷ [])

-- ---- each of them

abbrev pub sentence_of : StopData → Rule → Condition → Text
sentence_of st r (asks.Typed i) = untyped st i
sentence_of st r (asks.Under i e) = not_under st i e
sentence_of st r (asks.Fits i k) = unfit st i k
sentence_of st r (asks.Below i f) = said st NOT_BELOW.now (fill.Part i ∷ fill.PartForm i ∷ fill.OneForm f ∷ [])
sentence_of st r (asks.IsA i e) = said st NOT_JUST.now (fill.Part i ∷ fill.APartEntity i ∷ fill.AnEntity e ∷ [])
sentence_of st r (asks.Comparable i) = about_entity st COMPARED.now i
sentence_of st r (asks.Printable i) = about_entity st PRINTED.now i
sentence_of st r (asks.Readable i) = of_form st UNREADABLE.now i
sentence_of st r (asks.Live k) = not_live st k
sentence_of st r (asks.Reached k) = said st NOT_REACHED.now (fill.Slot k ∷ fill.SlotCap k ∷ fill.UsedWord ∷ [])
sentence_of st r (asks.Variable k) = not_variable st k
sentence_of st r (asks.HasField i name) = said st NO_FIELD.now (fill.PartEntity i ∷ fill.Name name ∷ [])
sentence_of st r (asks.HasOwnField name) = said st NO_FIELD.now (fill.OwnEntity ∷ fill.Name name ∷ [])
sentence_of st r (asks.Seen i k) = of_form st UNSEEN.now i
sentence_of st r (asks.NotFixed b) = said st FIXED.now (fill.Named ∷ [])
sentence_of st r (asks.Writable i k) = of_form st UNWRITABLE.now i
sentence_of st r (asks.Enters k) = not_entering st
sentence_of st r (asks.Set i) = said st UNSET.now (fill.OwnField i ∷ [])
sentence_of st r (asks.SetOnce b i) = said st SET.now (fill.OwnField i ∷ [])
sentence_of st r (asks.HasMethod name) = said st NO_METHOD.now (fill.PartEntity (receiver_child_index st) ∷ fill.Name name ∷ [])
sentence_of st r (asks.Function k) = said st NO_FUNCTION.now (fill.Method ∷ [])
sentence_of st r (asks.Behaviour k) = []
sentence_of st r (asks.Counted given wanted) = miscounted st r given wanted
sentence_of st r (asks.Unfit i k) = []
sentence_of st r (asks.Isolated i) = of_form st NOT_ISOLATED.now i
sentence_of st r (asks.Lent k) = said st NOT_LENT.now (fill.Named ∷ fill.OneCap k ∷ [])
sentence_of st r (asks.Sent i k) = said st NOT_SENT.now (fill.Part i ∷ fill.PartForm i ∷ fill.OneCap k ∷ [])
sentence_of st r asks.KeepsLive = said st LOST.now (fill.Slot (lost_slot st) ∷ [])
sentence_of st r asks.KeepsSet = said st LOOPED.now (fill.OwnField (looped_field st) ∷ [])
sentence_of st r (asks.Lifted k) = not_lifted st k

-- The sentence of a reason.
unfoldable pub sentence : StopData → Reason → Text
sentence st r = sentence_of st r.rule r.condition
