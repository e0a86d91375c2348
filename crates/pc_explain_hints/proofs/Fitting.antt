-- What a hint promises is as required.
use Rattle.std.specs.Prelude.{◌≡◌, ℕ, Bool, true, false, not, ◌&&◌, nat_lt, Option, Some, None, if◌then◌else◌, refl}
use Rattle.std.proofs.{Common.subst, lemmas.Bool.and_parts, lemmas.Option.{same_Some, none-some}}
use Rattle.pc_caps.specs.{Computed.{is_below, fits}, Tables.{sendable, unalias}, declared.capability.Cap.Cap, declared.capability.Form.Form}
use Rattle.pc_caps.specs.declared.capability.Cap.TheVariants as cap
use Rattle.pc_caps.specs.declared.capability.Form.TheVariants as form
use Rattle.pc_core.specs.{declared.declarations.Method.Method, declared.nodes.Node.Node}
use Rattle.pc_explain_parts.specs.{Parts.child_role, declared.parts.Role.Role}
use Rattle.pc_explain_parts.specs.declared.parts.Role.TheVariants as role
use Rattle.pc_explain_sentences.specs.Stop.{StopData, child_form, child_node, child_type, own_method}
use Rattle.pc_explain_hints.specs.Choice as choice
use Rattle.pc_explain_hints.specs.{Laws.{HintEnters, HintFits, HintIsBelow, promised}, Nodes.{called_hat, is_box_this, is_new_node, is_tag_actor, is_tag_this, local_cap, old_form, recovered_slot}, declared.choice.Wanted.Wanted, declared.hint.Hint.Hint}
use Rattle.pc_explain_hints.specs.declared.choice.Wanted.TheVariants as wanted
use Rattle.pc_explain_hints.specs.declared.hint.Hint.TheVariants as hint

-- The form that the hint promises, if any, is as it must be.
abbrev Suits : Wanted → Hint → Type 0
Suits w h = (f : Form) → promised h ≡ Some f → choice.suits w f ≡ true

abbrev AllSuit : Wanted → Option Hint → Type 0
AllSuit w o = (h : Hint) → o ≡ Some h → Suits w h

none_suits : (w : Wanted) → AllSuit w None
none_suits w h e = absurd (none-some h e)

one_suits : (w : Wanted) (g : Hint) → Suits w g → AllSuit w (Some g)
one_suits w g s h e = subst (Suits w) (same_Some g h e) s

-- ---- several hints

when_suits : (w : Wanted) (b : Bool) (h : Hint) → (b ≡ true → Suits w h) → AllSuit w (choice.hint_if b h)
when_suits w true h s = one_suits w h (s refl)
when_suits w false h s = none_suits w

or_suits : (w : Wanted) (o p : Option Hint) → AllSuit w o → AllSuit w p → AllSuit w (choice.hint_or_else o p)
or_suits w None p s t = t
or_suits w (Some h) p s t = s

this_suits : (w : Wanted) (o : Option Hint) (h : Hint) → AllSuit w o → Suits w h → Suits w (choice.or_this o h)
this_suits w None h s t = t
this_suits w (Some g) h s t = s g refl

-- ---- each of them

promises : (w : Wanted) (g f : Form) → choice.suits w g ≡ true → Some g ≡ Some f → choice.suits w f ≡ true
promises w g f s e = subst (λ (x : Form). choice.suits w x ≡ true) (same_Some g f e) s

consume_suits : (w : Wanted) (receiver : Bool) (i : ℕ) (own : Cap) → choice.suits w (unalias own) ≡ true → Suits w (choice.consume_hint receiver i own)
consume_suits w true i own s f e = promises w (unalias own) f s e
consume_suits w false i own s f e = promises w (unalias own) f s e

consumed : (w : Wanted) (receiver : Bool) (i : ℕ) (o : Option Cap) → AllSuit w (choice.consume_if w receiver i o)
consumed w receiver i None = none_suits w
consumed w receiver i (Some own) = when_suits w (choice.suits w (unalias own)) (choice.consume_hint receiver i own) (consume_suits w receiver i own)

old : (w : Wanted) (i : ℕ) (o : Option Form) → AllSuit w (choice.old_if w i o)
old w i None = none_suits w
old w i (Some g) = when_suits w (choice.suits w g) (hint.OldValue i g) (λ s f e. promises w g f s e)

declared : (box : Bool) (w : Wanted) → AllSuit w (choice.declare_if box w)
declared box w =
    or_suits w (choice.hint_if (box && choice.suits w form.Ref) (hint.DeclareFunction cap.Ref)) (choice.hint_if (box && choice.suits w form.Val) (hint.DeclareFunction cap.Val))
    (when_suits w (box && choice.suits w form.Ref) (hint.DeclareFunction cap.Ref) (λ s f e. promises w form.Ref f (and_parts box (choice.suits w form.Ref) s).1 e))
    (when_suits w (box && choice.suits w form.Val) (hint.DeclareFunction cap.Val) (λ s f e. promises w form.Val f (and_parts box (choice.suits w form.Val) s).1 e))

hatted : (w : Wanted) (i : ℕ) (o : Option (ℕ × Form)) → AllSuit w (choice.hat_if w i o)
hatted w i None = none_suits w
hatted w i (Some r) = when_suits w (choice.suits w r.1) (hint.DeclareHat i r.0 r.1) (λ s f e. promises w r.1 f s e)

tag_by : (w : Wanted) (a b : Bool) → AllSuit w (if a then Some hint.TagInRecover else choice.hint_if b hint.TagUntilSet)
tag_by w true b = one_suits w hint.TagInRecover (λ f e. absurd (none-some f e))
tag_by w false b = when_suits w b hint.TagUntilSet (λ s f e. absurd (none-some f e))

tag_of : (w : Wanted) (recovered : Bool) (o : Option Method) → AllSuit w (choice.tag_hint_of recovered o)
tag_of w recovered None = none_suits w
tag_of w recovered (Some m) = tag_by w (recovered && not (sendable m.receiver)) (choice.is_constructor_kind m.kind)

if_suits : (w : Wanted) (a : Bool) (o : Option Hint) → AllSuit w o → AllSuit w (if a then o else None)
if_suits w true o s = s
if_suits w false o s = none_suits w

tagged : (w : Wanted) (st : StopData) (i : ℕ) → AllSuit w (choice.tag_this st i)
tagged w st i = if_suits w (is_tag_this st i) (choice.tag_hint_of (nat_lt 0 st.at.depth) (own_method st)) (tag_of w (nat_lt 0 st.at.depth) (own_method st))

tagged_part : (w : Wanted) (st : StopData) (i : ℕ) → AllSuit w (choice.tag_part st i)
tagged_part w st i =
    let actor = is_tag_actor st.scene.core (child_type st i) in
    or_suits w (choice.tag_this st i) (choice.hint_if actor hint.SendMessage) (tagged w st i)
    (when_suits w actor hint.SendMessage (λ s f e. absurd (none-some f e)))

-- What is below every other form suits.
iso_suits : (w : Wanted) → choice.suits w form.IsoE ≡ true
iso_suits (wanted.Fits k) = refl
iso_suits (wanted.Below f) = refl

ended : (w : Wanted) (o : Option ℕ) → AllSuit w (choice.end_if o)
ended w None = none_suits w
ended w (Some k) = one_suits w (hint.ConsumeEnd k) (λ f e. promises w form.IsoE f (iso_suits w) e)

object_by : (w : Wanted) (a b : Bool) (i : ℕ) (g : Form) → Suits w (if a then hint.RecoverNew i else (if b then hint.RecoverObject else hint.GoesTo g))
object_by w true b i g f e = promises w form.IsoE f (iso_suits w) e
object_by w false true i g f e = promises w form.IsoE f (iso_suits w) e
object_by w false false i g f e = absurd (none-some f e)

object : (i : ℕ) (x : Node) (g : Form) (k : Cap) → Suits (wanted.Fits k) (choice.object_hint i x g k)
object i x g k = object_by (wanted.Fits k) (is_new_node x.kind && (choice.is_ref_form g && fits form.IsoE k)) (choice.is_mutable_form g && choice.is_recovered_cap k) i g

-- ---- a form that does not fit

fitting_node : (st : StopData) (i : ℕ) (k : Cap) (x : Node) (g : Form) → Suits (wanted.Fits k) (choice.fitting_node st i k x g)
fitting_node st i k x g =
    let w = wanted.Fits k in
    let end = choice.or_this (choice.end_if (recovered_slot st x)) (choice.object_hint i x g k) in
    let last = choice.or_this (choice.tag_this st i) end in
    let box = choice.or_this (choice.declare_if (is_box_this st x g) w) last in
    let hat = choice.or_this (choice.hat_if w i (called_hat st x)) box in
    this_suits w (choice.consume_if w false i (local_cap st x)) (choice.or_this (choice.old_if w i (old_form st x)) hat) (consumed w false i (local_cap st x))
    (this_suits w (choice.old_if w i (old_form st x)) hat (old w i (old_form st x))
    (this_suits w (choice.hat_if w i (called_hat st x)) box (hatted w i (called_hat st x))
    (this_suits w (choice.declare_if (is_box_this st x g) w) last (declared (is_box_this st x g) w)
    (this_suits w (choice.tag_this st i) end (tagged w st i)
    (this_suits w (choice.end_if (recovered_slot st x)) (choice.object_hint i x g k) (ended w (recovered_slot st x)) (object i x g k))))))

fitting_of : (st : StopData) (i : ℕ) (k : Cap) (o : Option Node) → AllSuit (wanted.Fits k) (choice.fitting_of st i k o)
fitting_of st i k None = none_suits (wanted.Fits k)
fitting_of st i k (Some x) = one_suits (wanted.Fits k) (choice.fitting_node st i k x (child_form st i)) (fitting_node st i k x (child_form st i))

box_suits : (w : Wanted) → Suits w hint.DeclareBox
box_suits w f e = absurd (none-some f e)

receiver_of : (st : StopData) (i : ℕ) (k : Cap) (o : Option Node) → AllSuit (wanted.Fits k) (choice.receiver_hint st i k o)
receiver_of st i k None = none_suits (wanted.Fits k)
receiver_of st i k (Some x) =
    let w = wanted.Fits k in
    let g = child_form st i in
    let seen = choice.hint_if (choice.is_seen_form g && choice.is_ref_cap k) hint.DeclareBox in
    let last = choice.hint_or_else seen (choice.tag_part st i) in
    let box = choice.hint_or_else (choice.declare_if (is_box_this st x g) w) last in
    or_suits w (choice.consume_if w true i (local_cap st x)) (choice.hint_or_else (choice.hat_if w i (called_hat st x)) box) (consumed w true i (local_cap st x))
    (or_suits w (choice.hat_if w i (called_hat st x)) box (hatted w i (called_hat st x))
    (or_suits w (choice.declare_if (is_box_this st x g) w) last (declared (is_box_this st x g) w)
    (or_suits w seen (choice.tag_part st i) (when_suits w (choice.is_seen_form g && choice.is_ref_cap k) hint.DeclareBox (λ s. box_suits w)) (tagged_part w st i))))

unfit_by : (st : StopData) (i : ℕ) (k : Cap) (r : Role) → AllSuit (wanted.Fits k) (choice.unfit_hint_by st i k r)
unfit_by st i k role.Receiver = receiver_of st i k (child_node st i)
unfit_by st i k r = fitting_of st i k (child_node st i)

-- ---- a result

result_suits : (w : Wanted) (i : ℕ) → Suits w (hint.DeclareResult i)
result_suits w i f e = absurd (none-some f e)

below_of : (st : StopData) (i : ℕ) (v : Form) (o : Option Node) → AllSuit (wanted.Below v) (choice.below_of st i v o)
below_of st i v None = none_suits (wanted.Below v)
below_of st i v (Some x) =
    let w = wanted.Below v in
    let g = child_form st i in
    let object = choice.hint_if (choice.is_ref_form g && is_below form.IsoE v) hint.RecoverObject in
    let last = choice.or_this object (hint.DeclareResult i) in
    let end = choice.or_this (choice.end_if (recovered_slot st x)) last in
    let hat = choice.or_this (choice.hat_if w i (called_hat st x)) end in
    let taken = choice.or_this (choice.old_if w i (old_form st x)) hat in
    one_suits w (choice.below_node st i v x g)
    (this_suits w (choice.declare_if (is_box_this st x g) w) (choice.or_this (choice.consume_if w false i (local_cap st x)) taken) (declared (is_box_this st x g) w)
    (this_suits w (choice.consume_if w false i (local_cap st x)) taken (consumed w false i (local_cap st x))
    (this_suits w (choice.old_if w i (old_form st x)) hat (old w i (old_form st x))
    (this_suits w (choice.hat_if w i (called_hat st x)) end (hatted w i (called_hat st x))
    (this_suits w (choice.end_if (recovered_slot st x)) last (ended w (recovered_slot st x))
    (this_suits w object (hint.DeclareResult i)
    (when_suits w (choice.is_ref_form g && is_below form.IsoE v) hint.RecoverObject (λ s f e. promises w form.IsoE f (iso_suits w) e))
    (result_suits w i)))))))

unless_suits : (w : Wanted) (o : Option Hint) → AllSuit w o → AllSuit w (choice.unless_goes_to o)
unless_suits w None s = none_suits w
unless_suits w (Some g) s = when_suits w (not (choice.is_goes_to g)) g (λ e. s g refl)

-- ---- the laws

pub hint_fits : HintFits
hint_fits st i k h f e p = unfit_by st i k (child_role st.at i) h e f p

pub hint_is_below : HintIsBelow
hint_is_below st i v h f e p = below_of st i v (child_node st i) h e f p

pub hint_enters : HintEnters
hint_enters st k h f e p =
    let into = choice.entered_cap (child_form st 1) in
    unless_suits (wanted.Fits into) (choice.fitting_of st 0 into (child_node st 0)) (fitting_of st 0 into (child_node st 0)) h e f p
