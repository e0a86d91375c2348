-- The form that a hint promises fits what it is proposed for.
use Rattle.std.specs.Prelude.{◌≡◌, ℕ, true, Option, Some, None}
use Rattle.pc_caps.specs.{Computed.{is_below, fits}, Tables.unalias, declared.capability.Cap.Cap, declared.capability.Form.Form}
use Rattle.pc_explain_sentences.specs.Stop.{StopData, child_form}
use Rattle.pc_explain_hints.specs.{Choice.{hint_for, entered_cap}, declared.hint.Hint.Hint}
use Rattle.pc_caps.specs.declared.capability.Cap.TheVariants as cap
use Rattle.pc_caps.specs.declared.capability.Form.TheVariants as form
use Rattle.pc_explain_conditions.specs.declared.condition.Condition.TheVariants as asks
use Rattle.pc_explain_hints.specs.declared.hint.Hint.TheVariants as hint

-- The form that a hint promises for its proposal, if it promises one.
abbrev pub promised : Hint → Option Form
promised (hint.Consume i own) = Some (unalias own)
promised (hint.ConsumeReceiver i own) = Some (unalias own)
promised (hint.OldValue i f) = Some f
promised (hint.DeclareHat i name f) = Some f
promised (hint.DeclareFunction cap.Ref) = Some form.Ref
promised (hint.DeclareFunction cap.Val) = Some form.Val
promised (hint.RecoverNew i) = Some form.IsoE
promised hint.RecoverObject = Some form.IsoE
promised (hint.ConsumeEnd k) = Some form.IsoE
promised h = None

-- If a form does not fit a capability, what the hint promises fits it.
abbrev pub HintFits : Type 0
HintFits = (st : StopData) (i : ℕ) (k : Cap) (h : Hint) (f : Form) → hint_for st (asks.Fits i k) ≡ Some h → promised h ≡ Some f → fits f k ≡ true

-- If a form is not below that of the result, what the hint promises is.
abbrev pub HintIsBelow : Type 0
HintIsBelow = (st : StopData) (i : ℕ) (w : Form) (h : Hint) (f : Form) → hint_for st (asks.Below i w) ≡ Some h → promised h ≡ Some f → is_below f w ≡ true

-- If a value may not enter a field, what the hint promises fits the capability with which it is written.
abbrev pub HintEnters : Type 0
HintEnters =
    (st : StopData) (k : Cap) (h : Hint) (f : Form) → hint_for st (asks.Enters k) ≡ Some h → promised h ≡ Some f → fits f (entered_cap (child_form st 1)) ≡ true
