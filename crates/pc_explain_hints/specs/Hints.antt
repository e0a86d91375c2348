-- Hints in words.
use Rattle.std.specs.Prelude.{ℕ, Bool, [], ◌∷◌, Option, Some, None, if◌then◌else◌}
use Rattle.pc_caps.specs.Tables.{unalias}
use Rattle.pc_explain_conditions.specs.declared.reason.Reason.{Reason}
use Rattle.pc_base.specs.Lists.{Text}
use Rattle.pc_explain_words.specs.Scene.{is_var_slot}
use Rattle.pc_explain_sentences.specs.{Fills.said, Stop.StopData}
use Rattle.pc_explain_hints.specs.{Choice.hint_for, declared.hint.Hint.Hint, declared.texts.TheConstants.{CALL_CONSTRUCTOR, CALL_METHOD, CALL_VALUE, COMPARE, COMPARE_NUMBER, COMPARE_OBJECTS, CONSUME, CONSUME_AFTER, CONSUME_END, CONSUME_OR_ASSIGN, CONSUME_RECEIVER, COPY_FIRST, DECLARE_BOX, DECLARE_FUNCTION, DECLARE_HAT, DECLARE_RESULT, DECLARE_VAR, GIVE_OUT, GOES_TO, MAKE_INSIDE, OLD_VALUE, RECOVER_NEW, RECOVER_OBJECT, RECOVER_VALUE, SAY_IS, SEND_ARGUMENT, SEND_MESSAGE, SET_BEFORE, SET_BEFORE_LOOP, TAG_IN_RECOVER, TAG_UNTIL_SET, TO_STRING, USE_BEFORE, USE_OR_ASSIGN}}
use Rattle.pc_explain_sentences.specs.declared.fills.Fill.TheVariants as fill
use Rattle.pc_explain_hints.specs.declared.hint.Hint.TheVariants as hint_of

-- A local that is a `var` may be assigned again.
abbrev pub use_before_by : (var : Bool) → Text
use_before_by var = if var then USE_OR_ASSIGN.now else USE_BEFORE.now

abbrev pub consume_after_by : (var : Bool) → Text
consume_after_by var = if var then CONSUME_OR_ASSIGN.now else CONSUME_AFTER.now

abbrev pub is_own_var : StopData → ℕ → Bool
is_own_var st k = is_var_slot st.scene st.at.method k

abbrev pub hint_words : StopData → Hint → Text
hint_words st (hint_of.SayIs i e) = said st SAY_IS.now (fill.PartEntity i ∷ fill.Entity e ∷ [])
hint_words st (hint_of.Consume i own) = said st CONSUME.now (fill.PartSource i ∷ fill.OneForm (unalias own) ∷ [])
hint_words st (hint_of.ConsumeReceiver i own) = said st CONSUME_RECEIVER.now (fill.PartSource i ∷ fill.Named ∷ fill.OneForm (unalias own) ∷ [])
hint_words st (hint_of.OldValue i f) = said st OLD_VALUE.now (fill.PartSource i ∷ fill.OneForm f ∷ [])
hint_words st (hint_of.DeclareFunction k) = said st DECLARE_FUNCTION.now (fill.OneCap k ∷ fill.OwnMethod ∷ [])
hint_words st (hint_of.RecoverNew i) = said st RECOVER_NEW.now (fill.PartSource i ∷ [])
hint_words st hint_of.RecoverObject = said st RECOVER_OBJECT.now []
hint_words st (hint_of.GoesTo f) = said st GOES_TO.now (fill.OneForm f ∷ fill.Taking f ∷ [])
hint_words st hint_of.DeclareBox = said st DECLARE_BOX.now (fill.Named ∷ fill.Named ∷ [])
hint_words st (hint_of.DeclareResult i) = said st DECLARE_RESULT.now (fill.PartType i ∷ [])
hint_words st (hint_of.DeclareHat i name f) = said st DECLARE_HAT.now (fill.Name name ∷ fill.PartEntity i ∷ fill.OneForm f ∷ [])
hint_words st hint_of.Compare = said st COMPARE.now []
hint_words st hint_of.CompareNumber = said st COMPARE_NUMBER.now []
hint_words st hint_of.ToString = said st TO_STRING.now []
hint_words st hint_of.CompareObjects = said st COMPARE_OBJECTS.now []
hint_words st (hint_of.UseBefore k) = said st (use_before_by (is_own_var st k)) (fill.Slot k ∷ [])
hint_words st hint_of.MakeInside = said st MAKE_INSIDE.now []
hint_words st hint_of.GiveOut = said st GIVE_OUT.now []
hint_words st hint_of.CopyFirst = said st COPY_FIRST.now []
hint_words st (hint_of.DeclareSlot k) = said st DECLARE_VAR.now (fill.Slot k ∷ [])
hint_words st hint_of.DeclareField = said st DECLARE_VAR.now (fill.Named ∷ [])
hint_words st (hint_of.DeclareOwnField i) = said st DECLARE_VAR.now (fill.OwnField i ∷ [])
hint_words st (hint_of.CallMethod name) = said st CALL_METHOD.now (fill.Name name ∷ fill.Name name ∷ [])
hint_words st (hint_of.CallValue name) = said st CALL_VALUE.now (fill.Name name ∷ fill.Name name ∷ [])
hint_words st hint_of.TagInRecover = said st TAG_IN_RECOVER.now (fill.OwnReceiver ∷ [])
hint_words st hint_of.TagUntilSet = said st TAG_UNTIL_SET.now []
hint_words st hint_of.SendMessage = said st SEND_MESSAGE.now []
hint_words st (hint_of.SetBefore i) = said st SET_BEFORE.now (fill.OwnField i ∷ [])
hint_words st hint_of.CallConstructor = said st CALL_CONSTRUCTOR.now (fill.Method ∷ [])
hint_words st hint_of.SendArgument = said st SEND_ARGUMENT.now []
hint_words st (hint_of.ConsumeAfter k) = said st (consume_after_by (is_own_var st k)) (fill.Slot k ∷ [])
hint_words st hint_of.SetBeforeLoop = said st SET_BEFORE_LOOP.now []
hint_words st hint_of.RecoverValue = said st RECOVER_VALUE.now []
hint_words st (hint_of.ConsumeEnd k) = said st CONSUME_END.now (fill.Slot k ∷ [])

abbrev pub optional_hint_words : StopData → Option Hint → Text
optional_hint_words st None = []
optional_hint_words st (Some h) = hint_words st h

-- What to do about a reason; empty if there is no hint.
unfoldable pub hint : StopData → Reason → Text
hint st r = optional_hint_words st (hint_for st r.condition)
