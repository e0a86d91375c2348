-- What to do about each condition that does not hold.
use Rattle.std.specs.{Prelude.{ℕ, Bool, true, false, not, ◌&&◌, ◌||◌, nat_eq, nat_le, nat_lt, Option, Some, None, slice_get, if◌then◌else◌}, Option.is_some}
use Rattle.pc_caps.specs.{Computed.{is_below, fits}, Tables.{lift, sendable, unalias}, declared.capability.Cap.Cap, declared.capability.Form.Form}
use Rattle.pc_explain_conditions.specs.declared.condition.Condition.{Condition}
use Rattle.pc_core.specs.{CoreData.{CoreData, field_named, method_named}, declared.declarations.EntityDef.EntityDef, declared.declarations.Method.Method, declared.declarations.MethodKind.MethodKind, declared.nodes.Node.Node}
use Rattle.pc_explain_parts.specs.{Parts.child_role, declared.parts.Role.Role}
use Rattle.pc_tree.specs.{Kinds.{bool_entity, first_own, string_entity, u64_entity, is_abstract}, declared.kinds.EntityKind.EntityKind}
use Rattle.pc_explain_words.specs.Scene.{is_param}
use Rattle.pc_explain_sentences.specs.{Fills.is_assign, Slots.lost_slot, Stop.{StopData, child_form, child_node, child_type, own_method, receiver_child_index}}
use Rattle.pc_explain_hints.specs.{Nodes.{called_hat, is_assigned, is_box_this, is_in_condition, is_new_node, is_tag_actor, is_tag_this, local_cap, old_form, recovered_slot, end_slot}, declared.hint.Hint.Hint, declared.choice.Wanted.Wanted}
use Rattle.pc_caps.specs.declared.capability.Cap.TheVariants as cap
use Rattle.pc_caps.specs.declared.capability.Form.TheVariants as form
use Rattle.pc_explain_conditions.specs.declared.condition.Condition.TheVariants as asks
use Rattle.pc_core.specs.declared.declarations.MethodKind.TheVariants as method
use Rattle.pc_explain_parts.specs.declared.parts.Role.TheVariants as role
use Rattle.pc_tree.specs.declared.kinds.EntityKind.TheVariants as kind
use Rattle.pc_explain_hints.specs.declared.choice.Wanted.TheVariants as wanted
use Rattle.pc_explain_hints.specs.declared.hint.Hint.TheVariants as hint

abbrev pub hint_or_else : Option Hint → Option Hint → Option Hint
hint_or_else None other = other
hint_or_else (Some h) other = Some h

abbrev pub hint_if : Bool → Hint → Option Hint
hint_if b h = if b then Some h else None

-- ---- a form that does not fit a capability

-- The form is as required.
abbrev pub suits : Wanted → Form → Bool
suits (wanted.Fits k) f = fits f k
suits (wanted.Below w) f = is_below f w

abbrev pub consume_hint : (receiver : Bool) → ℕ → Cap → Hint
consume_hint receiver i own = if receiver then hint.ConsumeReceiver i own else hint.Consume i own

-- A local of iso or trn is consumed, if the result suits.
abbrev pub consume_if : Wanted → (receiver : Bool) → ℕ → Option Cap → Option Hint
consume_if w receiver i None = None
consume_if w receiver i (Some own) = hint_if (suits w (unalias own)) (consume_hint receiver i own)

-- The old value of a `var` field is taken, if it suits.
abbrev pub old_if : Wanted → ℕ → Option Form → Option Hint
old_if w i None = None
old_if w i (Some f) = hint_if (suits w f) (hint.OldValue i f)

-- A box `this` is declared ref, or else val, if that suits.
abbrev pub declare_if : (box : Bool) → Wanted → Option Hint
declare_if box w = hint_or_else (hint_if (box && suits w form.Ref) (hint.DeclareFunction cap.Ref))
    (hint_if (box && suits w form.Val) (hint.DeclareFunction cap.Val))

-- The result of the function that is called is declared with `^`, if that suits.
abbrev pub hat_if : Wanted → ℕ → Option (ℕ × Form) → Option Hint
hat_if w i None = None
hat_if w i (Some r) = hint_if (suits w r.1) (hint.DeclareHat i r.0 r.1)

-- An iso with which the body of a `recover` ends is an alias, and lifted to tag: it is consumed.
abbrev pub end_if : Option ℕ → Option Hint
end_if None = None
end_if (Some k) = Some (hint.ConsumeEnd k)

abbrev pub is_constructor_kind : MethodKind → Bool
is_constructor_kind method.New = true
is_constructor_kind method.Spawn = true
is_constructor_kind k = false

-- Why `this` of a method is a tag: in a recover, because its capability is not sendable; in a constructor, until all
-- fields are set. In a tag function it is one by declaration.
abbrev pub tag_hint : (recovered : Bool) → Method → Option Hint
tag_hint recovered m = if recovered && not (sendable m.receiver) then Some hint.TagInRecover else hint_if (is_constructor_kind m.kind) hint.TagUntilSet

abbrev pub tag_hint_of : (recovered : Bool) → Option Method → Option Hint
tag_hint_of recovered None = None
tag_hint_of recovered (Some m) = tag_hint recovered m

-- For a part that is `this`, seen as tag.
abbrev pub tag_this : StopData → ℕ → Option Hint
tag_this st i = if is_tag_this st i then tag_hint_of (nat_lt 0 st.at.depth) (own_method st) else None

-- For a part that can do no more than be named: `this`, or another actor.
abbrev pub tag_part : StopData → ℕ → Option Hint
tag_part st i = hint_or_else (tag_this st i) (hint_if (is_tag_actor st.scene.core (child_type st i)) hint.SendMessage)

abbrev pub is_ref_form : Form → Bool
is_ref_form form.Ref = true
is_ref_form f = false

abbrev pub is_mutable_form : Form → Bool
is_mutable_form form.Ref = true
is_mutable_form form.Trn = true
is_mutable_form f = false

abbrev pub is_recovered_cap : Cap → Bool
is_recovered_cap cap.Iso = true
is_recovered_cap cap.Val = true
is_recovered_cap k = false

-- A new object is made in a `recover`, and so is any other that is ref or trn; for the rest, the hint says where the
-- value can go.
abbrev pub object_hint : ℕ → Node → Form → Cap → Hint
object_hint i x f k =
    if is_new_node x.kind && (is_ref_form f && fits form.IsoE k) then hint.RecoverNew i
    else (if is_mutable_form f && is_recovered_cap k then hint.RecoverObject else hint.GoesTo f)

-- The first hint if there is one, or else this one.
abbrev pub or_this : Option Hint → Hint → Hint
or_this None h = h
or_this (Some g) h = g

abbrev pub fitting_node : StopData → ℕ → Cap → Node → Form → Hint
fitting_node st i k x f =
    or_this (consume_if (wanted.Fits k) false i (local_cap st x))
    (or_this (old_if (wanted.Fits k) i (old_form st x))
    (or_this (hat_if (wanted.Fits k) i (called_hat st x))
    (or_this (declare_if (is_box_this st x f) (wanted.Fits k)) (or_this (tag_this st i) (or_this (end_if (recovered_slot st x)) (object_hint i x f k))))))

abbrev pub fitting_of : StopData → ℕ → Cap → Option Node → Option Hint
fitting_of st i k None = None
fitting_of st i k (Some x) = Some (fitting_node st i k x (child_form st i))

abbrev pub fitting_hint : StopData → ℕ → Cap → Option Hint
fitting_hint st i k = fitting_of st i k (child_node st i)

abbrev pub is_seen_form : Form → Bool
is_seen_form form.Box = true
is_seen_form form.Val = true
is_seen_form f = false

abbrev pub is_ref_cap : Cap → Bool
is_ref_cap cap.Ref = true
is_ref_cap k = false

abbrev pub receiver_node : StopData → ℕ → Cap → Node → Form → Option Hint
receiver_node st i k x f =
    hint_or_else (consume_if (wanted.Fits k) true i (local_cap st x))
    (hint_or_else (hat_if (wanted.Fits k) i (called_hat st x))
    (hint_or_else (declare_if (is_box_this st x f) (wanted.Fits k)) (hint_or_else (hint_if (is_seen_form f && is_ref_cap k) hint.DeclareBox) (tag_part st i))))

abbrev pub receiver_hint : StopData → ℕ → Cap → Option Node → Option Hint
receiver_hint st i k None = None
receiver_hint st i k (Some x) = receiver_node st i k x (child_form st i)

abbrev pub receiver : StopData → ℕ → Cap → Option Hint
receiver st i k = receiver_hint st i k (child_node st i)

abbrev pub unfit_hint_by : StopData → ℕ → Cap → Role → Option Hint
unfit_hint_by st i k role.Receiver = receiver st i k
unfit_hint_by st i k r = fitting_hint st i k

abbrev pub unfit_hint : StopData → ℕ → Cap → Option Hint
unfit_hint st i k = unfit_hint_by st i k (child_role st.at i)

-- ---- a result

abbrev pub below_node : StopData → ℕ → Form → Node → Form → Hint
below_node st i w x f =
    or_this (declare_if (is_box_this st x f) (wanted.Below w))
    (or_this (consume_if (wanted.Below w) false i (local_cap st x))
    (or_this (old_if (wanted.Below w) i (old_form st x))
    (or_this (hat_if (wanted.Below w) i (called_hat st x))
    (or_this (end_if (recovered_slot st x))
    (or_this (hint_if (is_ref_form f && is_below form.IsoE w) hint.RecoverObject) (hint.DeclareResult i))))))

abbrev pub below_of : StopData → ℕ → Form → Option Node → Option Hint
below_of st i w None = None
below_of st i w (Some x) = Some (below_node st i w x (child_form st i))

abbrev pub below : StopData → ℕ → Form → Option Hint
below st i w = below_of st i w (child_node st i)

-- ---- an entity

abbrev pub is_condition_role : Role → Bool
is_condition_role role.Condition = true
is_condition_role r = false

-- The entity of a number or a truth value.
abbrev pub is_number_or_truth : Option (ℕ × Form) → Bool
is_number_or_truth None = false
is_number_or_truth (Some ty) = nat_eq ty.0 u64_entity || nat_eq ty.0 bool_entity

-- A number or a truth value where a String is asked for.
abbrev pub string_hint : StopData → ℕ → ℕ → Option Hint
string_hint st i e = hint_if (nat_eq e string_entity && is_number_or_truth (child_type st i)) hint.ToString

abbrev pub is_of_numbers : Option (ℕ × Form) → Bool
is_of_numbers None = false
is_of_numbers (Some ty) = nat_eq ty.0 u64_entity

-- In a condition, an assignment is meant to compare, and a number is to be compared.
abbrev pub condition_hint : StopData → ℕ → Option Hint
condition_hint st i = hint_or_else (hint_if (is_assigned st i) hint.Compare) (hint_if (is_of_numbers (child_type st i)) hint.CompareNumber)

abbrev pub entity_hint : StopData → ℕ → ℕ → Option Hint
entity_hint st i e = if is_condition_role (child_role st.at i) then condition_hint st i else string_hint st i e

abbrev pub is_trait_kind : EntityKind → Bool
is_trait_kind kind.Trait = true
is_trait_kind k = false

abbrev pub is_trait : Option EntityDef → Bool
is_trait None = false
is_trait (Some x) = is_trait_kind x.kind

-- An entity of the file that may declare a trait: not a trait itself, as it could be above the other.
abbrev pub may_say : ℕ → Option EntityDef → Bool
may_say e None = false
may_say e (Some x) = nat_le first_own e && not (is_abstract x.kind)

abbrev pub says_is : CoreData → Option (ℕ × Form) → Bool
says_is core None = false
says_is core (Some ty) = may_say ty.0 (slice_get core.entities ty.0)

abbrev pub under_hint : StopData → ℕ → ℕ → Option Hint
under_hint st i e =
    hint_or_else (hint_if (is_trait (slice_get st.scene.core.entities e) && says_is st.scene.core (child_type st i)) (hint.SayIs i e)) (string_hint st i e)

-- ---- members

abbrev pub has_method : CoreData → Option ℕ → ℕ → Bool
has_method core None name = false
has_method core (Some e) name = is_some (method_named core e name)

abbrev pub has_field : CoreData → Option ℕ → ℕ → Bool
has_field core None name = false
has_field core (Some e) name = is_some (field_named core e name)

abbrev pub type_entity : Option (ℕ × Form) → Option ℕ
type_entity None = None
type_entity (Some ty) = Some ty.0

abbrev pub method_entity : Option Method → Option ℕ
method_entity None = None
method_entity (Some m) = Some m.entity

-- ---- the rest

abbrev pub shows_box : StopData → ℕ → Option Node → Bool
shows_box st i None = false
shows_box st i (Some x) = is_box_this st x (child_form st i)

abbrev pub writable : StopData → ℕ → Option Hint
writable st i = hint_or_else (hint_if (shows_box st i (child_node st i)) (hint.DeclareFunction cap.Ref)) (tag_part st i)

-- The capability with which a value is written into an origin of this form.
abbrev pub entered_cap : Form → Cap
entered_cap form.Trn = cap.Trn
entered_cap form.TrnE = cap.Trn
entered_cap form.IsoE = cap.Iso
entered_cap form.Iso = cap.Iso
entered_cap form.Ref = cap.Iso
entered_cap form.Val = cap.Iso
entered_cap form.Box = cap.Iso
entered_cap form.Tag = cap.Iso

abbrev pub is_goes_to : Hint → Bool
is_goes_to (hint.GoesTo f) = true
is_goes_to h = false

-- Where else a value can go is no help if it may not enter a field: the field may be such a place.
abbrev pub unless_goes_to : Option Hint → Option Hint
unless_goes_to None = None
unless_goes_to (Some h) = hint_if (not (is_goes_to h)) h

abbrev pub reached_hint : (assigned : Bool) → Hint
reached_hint assigned = if assigned then hint.GiveOut else hint.MakeInside

abbrev pub variable_hint : (param : Bool) → ℕ → Hint
variable_hint param k = if param then hint.CopyFirst else hint.DeclareSlot k

-- In a condition, `=` stands where `==` is meant.
abbrev pub compare_or : (condition : Bool) → Hint → Hint
compare_or condition h = if condition then hint.Compare else h

abbrev pub is_val_form : Form → Bool
is_val_form form.Val = true
is_val_form f = false

-- If the lifted form of the body is val, `recover val` takes it.
abbrev pub lifted_hint : StopData → Option Hint
lifted_hint st = hint_or_else (hint_if (is_val_form (lift (child_form st 0))) hint.RecoverValue) (end_if (end_slot st st.at))

-- What to do about a condition, if there is a hint.
abbrev pub hint_for : StopData → Condition → Option Hint
hint_for st (asks.Under i e) = under_hint st i e
hint_for st (asks.Fits i k) = unfit_hint st i k
hint_for st (asks.Below i f) = below st i f
hint_for st (asks.IsA i e) = entity_hint st i e
hint_for st (asks.Comparable i) = Some hint.CompareObjects
hint_for st (asks.Live k) = Some (hint.UseBefore k)
hint_for st (asks.Reached k) = Some (reached_hint (is_assign st.at.kind))
hint_for st (asks.Variable k) = Some (compare_or (is_in_condition st) (variable_hint (is_param st.scene st.at.method k) k))
hint_for st (asks.HasField i name) = hint_if (has_method st.scene.core (type_entity (child_type st i)) name) (hint.CallMethod name)
hint_for st (asks.HasOwnField name) = hint_if (has_method st.scene.core (method_entity (own_method st)) name) (hint.CallMethod name)
hint_for st (asks.Seen i k) = tag_part st i
hint_for st (asks.NotFixed b) = Some (compare_or (is_in_condition st) hint.DeclareField)
hint_for st (asks.Writable i k) = writable st i
hint_for st (asks.Enters k) = unless_goes_to (fitting_hint st 0 (entered_cap (child_form st 1)))
hint_for st (asks.Set i) = Some (hint.SetBefore i)
hint_for st (asks.SetOnce b i) = Some (hint.DeclareOwnField i)
hint_for st (asks.HasMethod name) = hint_if (has_field st.scene.core (type_entity (child_type st (receiver_child_index st))) name) (hint.CallValue name)
hint_for st (asks.Function k) = Some hint.CallConstructor
hint_for st (asks.Sent i k) = Some hint.SendArgument
hint_for st asks.KeepsLive = Some (hint.ConsumeAfter (lost_slot st))
hint_for st asks.KeepsSet = Some hint.SetBeforeLoop
hint_for st (asks.Lifted k) = lifted_hint st
hint_for st (asks.Typed i) = None
hint_for st (asks.Printable i) = None
hint_for st (asks.Readable i) = None
hint_for st (asks.Behaviour k) = None
hint_for st (asks.Counted n k) = None
hint_for st (asks.Unfit i k) = None
hint_for st (asks.Isolated i) = None
hint_for st (asks.Lent k) = None
