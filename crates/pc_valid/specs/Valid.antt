-- The typing rules, and derivations: when an annotation is valid.
--
-- Each record of a rule states when the note of a node satisfies it: its condition, the type, and the masks.
-- `own` is the note of the node, and `notes` are those of its children, in order. A type is that of the node's value,
-- or none if the value cannot be used.
use Rattle.std.specs.Prelude.{◌≡◌, ◌⊎◌, ◌↔◌, ℕ, ◌+◌, true, false, List, [], ◌∷◌, ◌++◌, length, codes, Option, Some, None, slice_get, ◌<◌}
use Rattle.pc_caps.specs.{Tables.{view, taken, enters, plain, unalias, sendable_form}, declared.capability.Cap.Cap, declared.capability.Form.Form}
use Rattle.pc_tree.specs.{Kinds.{none_entity, u64_entity, bool_entity, string_entity}, declared.kinds.Op.Op}
use Rattle.pc_core.specs.{declared.declarations.Method.Method, declared.nodes.Node.Node, declared.nodes.NodeKind.NodeKind, CoreData.CoreData}
use Rattle.pc_ann.specs.{declared.annotation.Note.Note, declared.annotation.Rule.Rule, declared.annotation.Ann.Ann}
use Rattle.pc_masks.specs.Masks.{IsInMask, with_number, without_number, first}
use Rattle.pc_valid.specs.Words.{Ty, Masks, FormFits, IsLower, GoesTo, ReadsValue, Joined, Recovers, before, masks_after, on_both_ways, OneAfterOther, AllSet, StartsSet, Slots, SlotOf, Reachable, DefinedAs, Defines, FieldOf, place, Called, Go, Sendable, Incomplete, Place, IsConstructor}
use Rattle.pc_sub.specs.Declarations.{DeclOk}
use Rattle.pc_base.specs.Lists.{Each}
use Rattle.pc_caps.specs.declared.capability.Cap.TheVariants as cap
use Rattle.pc_caps.specs.declared.capability.Form.TheVariants as form
use Rattle.pc_tree.specs.declared.kinds.Op.TheVariants as op
use Rattle.pc_core.specs.declared.declarations.MethodKind.TheVariants as method
use Rattle.pc_core.specs.declared.nodes.SlotKind.TheVariants as slot_kind
use Rattle.pc_core.specs.declared.nodes.NodeKind.TheVariants as node_kind
use Rattle.pc_ann.specs.declared.annotation.Rule.TheVariants as rule

-- ---- values and slots

-- A literal, or the value of a primitive: of this entity.
pub record Literal (own : Note) (entity : ℕ) : Type 0 where
  pub type : own.ty ≡ Some (entity, form.Val)
  pub masks : masks_after own ≡ before own

-- `this` is what slot 0 holds, if all fields are set and the node may use the slot, and `tag` otherwise.
pub record This (core : CoreData) (slots : Slots) (own : Note) (node : Node) : Type 0 where
  pub this : SlotOf core slots node 0
  pub seen : Form
  pub whole : AllSet core this.home.entity own.set_before → Reachable node this.slot this.cap → seen ≡ plain this.cap
  pub else_tag : (AllSet core this.home.entity own.set_before → Reachable node this.slot this.cap → ⊥) → seen ≡ form.Tag
  pub type : own.ty ≡ Some (this.home.entity, seen)
  pub masks : masks_after own ≡ before own

-- A local or a parameter: it is live, and the node may use it.
pub record LocalRule (core : CoreData) (slots : Slots) (own : Note) (node : Node) (slot : ℕ) : Type 0 where
  pub of : SlotOf core slots node slot
  pub live : IsInMask own.live_before slot
  pub reachable : Reachable node of.slot of.cap
  pub type : own.ty ≡ Some (of.entity, plain of.cap)
  pub masks : masks_after own ≡ before own

-- `consume`: the same, and the value comes without its alias. After it the slot is no longer live.
pub record Consume (core : CoreData) (slots : Slots) (own : Note) (node : Node) (slot : ℕ) : Type 0 where
  pub of : SlotOf core slots node slot
  pub live : IsInMask own.live_before slot
  pub reachable : Reachable node of.slot of.cap
  pub type : own.ty ≡ Some (of.entity, unalias of.cap)
  pub masks : masks_after own ≡ (without_number own.live_before slot, own.set_before)

-- The definition of a local: the value goes to what it holds. After it the slot is live.
pub record Define (core : CoreData) (slots : Slots) (own : Note) (notes : List Note) (node : Node) (slot : ℕ) : Type 0 where
  pub child : Note
  pub children : notes ≡ child ∷ []
  pub value : Ty
  pub is_value : child.ty ≡ Some value
  pub of : SlotOf core slots node slot
  pub has_type : DefinedAs of.slot.written value (of.entity, of.cap)
  pub goes : GoesTo core value (of.entity, of.cap)
  pub type : own.ty ≡ None
  pub after_children : Masks
  pub in_order : OneAfterOther notes (before own) after_children
  pub masks : masks_after own ≡ (with_number after_children.0 slot, after_children.1)

-- An assignment to a `var`: the value goes to what it holds. The node's value is the old one, if the slot is live.
pub record Assign (core : CoreData) (slots : Slots) (own : Note) (notes : List Note) (node : Node) (slot : ℕ) : Type 0 where
  pub child : Note
  pub children : notes ≡ child ∷ []
  pub value : Ty
  pub is_value : child.ty ≡ Some value
  pub of : SlotOf core slots node slot
  pub variable : of.slot.kind ≡ slot_kind.Var
  pub reachable : Reachable node of.slot of.cap
  pub goes : GoesTo core value (of.entity, of.cap)
  pub after_children : Masks
  pub in_order : OneAfterOther notes (before own) after_children
  pub old : IsInMask after_children.0 slot → own.ty ≡ Some (of.entity, unalias of.cap)
  pub no_old : (IsInMask after_children.0 slot → ⊥) → own.ty ≡ None
  pub masks : masks_after own ≡ (with_number after_children.0 slot, after_children.1)

-- ---- fields

-- Reading a field: the form is the one seen from the origin.
pub record Get (core : CoreData) (own : Note) (notes : List Note) (node : Node) (name : ℕ) : Type 0 where
  pub complete : Incomplete core notes node → ⊥
  pub child : Note
  pub children : notes ≡ child ∷ []
  pub origin : Ty
  pub is_origin : child.ty ≡ Some origin
  pub of : FieldOf core origin.0 name
  pub seen : Form
  pub sees : view origin.1 of.field.cap ≡ Some seen
  pub type : own.ty ≡ Some (of.field.entity, seen)
  pub masks : OneAfterOther notes (before own) (masks_after own)

-- Reading a field of `this` before all fields are set: it is set, and seen as from `ref`.
pub record GetOwn (core : CoreData) (own : Note) (notes : List Note) (node : Node) (name : ℕ) : Type 0 where
  pub incomplete : Incomplete core notes node
  pub of : FieldOf core incomplete.home.entity name
  pub seen : Form
  pub sees : view form.Ref of.field.cap ≡ Some seen
  pub set : IsInMask own.set_after of.number
  pub type : own.ty ≡ Some (of.field.entity, seen)
  pub masks : OneAfterOther notes (before own) (masks_after own)

-- Writing a field: it is a `var`, the value goes to it, and the origin accepts such a value. The node's value is the
-- old one, in the form in which the origin gives it up.
pub record Put (core : CoreData) (own : Note) (notes : List Note) (node : Node) (name : ℕ) : Type 0 where
  pub complete : Incomplete core notes node → ⊥
  pub first : Note
  pub second : Note
  pub children : notes ≡ first ∷ second ∷ []
  pub value : Ty
  pub is_value : first.ty ≡ Some value
  pub origin : Ty
  pub is_origin : second.ty ≡ Some origin
  pub of : FieldOf core origin.0 name
  pub variable : of.field.fixed ≡ false
  pub goes : GoesTo core value (place of.field)
  pub may_enter : enters origin.1 value.1 of.field.cap ≡ true
  pub old : Form
  pub takes : taken origin.1 of.field.cap ≡ Some old
  pub type : own.ty ≡ Some (of.field.entity, old)
  pub masks : OneAfterOther notes (before own) (masks_after own)

-- Writing a field of `this` before all fields are set: it is a `var` or not set yet, and afterwards it is set.
pub record PutOwn (core : CoreData) (own : Note) (notes : List Note) (node : Node) (name : ℕ) : Type 0 where
  pub incomplete : Incomplete core notes node
  pub of : FieldOf core incomplete.home.entity name
  pub first : Note
  pub second : Note
  pub children : notes ≡ first ∷ second ∷ []
  pub value : Ty
  pub is_value : first.ty ≡ Some value
  pub after_children : Masks
  pub in_order : OneAfterOther notes (before own) after_children
  pub may : (of.field.fixed ≡ false) ⊎ (IsInMask after_children.1 of.number → ⊥)
  pub goes : GoesTo core value (place of.field)
  pub old : IsInMask after_children.1 of.number → (given : Form) × (taken form.Ref of.field.cap ≡ Some given) × (own.ty ≡ Some (of.field.entity, given))
  pub no_old : (IsInMask after_children.1 of.number → ⊥) → own.ty ≡ None
  pub masks : masks_after own ≡ (after_children.0, with_number after_children.1 of.number)

-- ---- calls

-- A constructor of a class.
pub record New (core : CoreData) (own : Note) (notes : List Note) (number : ℕ) : Type 0 where
  pub called : Method
  pub is_called : slice_get core.methods number ≡ Some called
  pub go : Go core notes called.params
  pub type : own.ty ≡ Some called.result
  pub masks : OneAfterOther notes (before own) (masks_after own)

-- A constructor of an actor.
pub record Spawn (core : CoreData) (own : Note) (notes : List Note) (number : ℕ) : Type 0 where
  pub called : Method
  pub is_called : slice_get core.methods number ≡ Some called
  pub go : Go core notes called.params
  pub type : own.ty ≡ Some (called.entity, form.Tag)
  pub masks : OneAfterOther notes (before own) (masks_after own)

-- A call of a function whose `this` may hold the receiver.
pub record Call (core : CoreData) (own : Note) (notes : List Note) (name : ℕ) : Type 0 where
  pub call : Called core notes name
  pub function : call.called.kind ≡ method.Fun
  pub go : Go core call.arguments call.called.params
  pub fit : FormFits call.to.1 call.called.receiver
  pub type : own.ty ≡ Some call.called.result
  pub masks : OneAfterOther notes (before own) (masks_after own)

-- A call of a function to which an `iso` or `trn` receiver is lent as `ref` or `box`: all arguments may be sent, and so may
-- the result, or it cannot be used.
pub record CallRecover (core : CoreData) (own : Note) (notes : List Note) (name : ℕ) : Type 0 where
  pub call : Called core notes name
  pub function : call.called.kind ≡ method.Fun
  pub go : Go core call.arguments call.called.params
  pub no_fit : FormFits call.to.1 call.called.receiver → ⊥
  pub isolated : (call.to.1 ≡ form.Iso) ⊎ (call.to.1 ≡ form.Trn)
  pub lent : (call.called.receiver ≡ cap.Ref) ⊎ (call.called.receiver ≡ cap.Box)
  pub may_go : Sendable call.arguments call.called.params
  pub result : sendable_form call.called.result.1 ≡ true → own.ty ≡ Some call.called.result
  pub no_result : (sendable_form call.called.result.1 ≡ true → ⊥) → own.ty ≡ None
  pub masks : OneAfterOther notes (before own) (masks_after own)

-- A message: a call of a behaviour.
pub record Send (core : CoreData) (own : Note) (notes : List Note) (name : ℕ) : Type 0 where
  pub call : Called core notes name
  pub behaviour : call.called.kind ≡ method.Be
  pub go : Go core call.arguments call.called.params
  pub type : own.ty ≡ Some (none_entity, form.Val)
  pub masks : OneAfterOther notes (before own) (masks_after own)

-- `string` of a number or of a truth value.
pub record Builtin (core : CoreData) (own : Note) (notes : List Note) (name : ℕ) : Type 0 where
  pub child : Note
  pub children : notes ≡ child ∷ []
  pub is_string : slice_get core.names name ≡ Some (codes "string")
  pub reads : ReadsValue u64_entity child.ty ⊎ ReadsValue bool_entity child.ty
  pub type : own.ty ≡ Some (string_entity, form.Val)
  pub masks : OneAfterOther notes (before own) (masks_after own)

-- ---- operators

abbrev pub arithmetic : List Op
arithmetic = op.Add ∷ op.Sub ∷ op.Mul ∷ op.Div ∷ op.Rem ∷ []

abbrev pub comparisons : List Op
comparisons = op.Lt ∷ op.Le ∷ op.Gt ∷ op.Ge ∷ []

abbrev pub equalities : List Op
equalities = op.Eq ∷ op.Ne ∷ []

abbrev pub IsOneOf : List Op → Op → Type 0
IsOneOf [] operator = ⊥
IsOneOf (first ∷ rest) operator = (operator ≡ first) ⊎ IsOneOf rest operator

-- An operator on two values of one entity, both of which may be read. Its result is of the other entity.
pub record Operator (own : Note) (notes : List Note) (operands result : ℕ) : Type 0 where
  pub left : Note
  pub right : Note
  pub children : notes ≡ left ∷ right ∷ []
  pub left_reads : ReadsValue operands left.ty
  pub right_reads : ReadsValue operands right.ty
  pub type : own.ty ≡ Some (result, form.Val)
  pub masks : OneAfterOther notes (before own) (masks_after own)

-- `not`.
pub record Not (own : Note) (notes : List Note) : Type 0 where
  pub child : Note
  pub children : notes ≡ child ∷ []
  pub reads : ReadsValue bool_entity child.ty
  pub type : own.ty ≡ Some (bool_entity, form.Val)
  pub masks : OneAfterOther notes (before own) (masks_after own)

-- `and` and `or`: the right side may be left out.
pub record Lazy (own : Note) (notes : List Note) : Type 0 where
  pub left : Note
  pub right : Note
  pub children : notes ≡ left ∷ right ∷ []
  pub left_reads : ReadsValue bool_entity left.ty
  pub right_reads : ReadsValue bool_entity right.ty
  pub type : own.ty ≡ Some (bool_entity, form.Val)
  pub left_starts : before left ≡ before own
  pub right_starts : before right ≡ masks_after left
  pub masks : masks_after own ≡ on_both_ways (masks_after left) (masks_after right)

-- `is` and `isnt`, of any two values.
pub record Identity (own : Note) (notes : List Note) : Type 0 where
  pub left : Note
  pub right : Note
  pub children : notes ≡ left ∷ right ∷ []
  pub left_type : Ty
  pub is_left : left.ty ≡ Some left_type
  pub right_type : Ty
  pub is_right : right.ty ≡ Some right_type
  pub type : own.ty ≡ Some (bool_entity, form.Val)
  pub masks : OneAfterOther notes (before own) (masks_after own)

-- ---- control

-- A sequence has the type of its last item. After it the locals that its items define are no longer live.
pub record SeqRule (core : CoreData) (own : Note) (notes : List Note) (node : Node) : Type 0 where
  pub front : List Note
  pub last : Note
  pub children : notes ≡ front ++ last ∷ []
  pub type : own.ty ≡ last.ty
  pub after_children : Masks
  pub in_order : OneAfterOther notes (before own) after_children
  pub live : (number : ℕ) → IsInMask own.live_after number ↔ (IsInMask after_children.0 number × (Defines core node.children number → ⊥))
  pub set : own.set_after ≡ after_children.1

-- `if`: both branches start after the condition.
pub record If (core : CoreData) (own : Note) (notes : List Note) : Type 0 where
  pub condition : Note
  pub first : Note
  pub second : Note
  pub children : notes ≡ condition ∷ first ∷ second ∷ []
  pub reads : ReadsValue bool_entity condition.ty
  pub type : Joined core first.ty second.ty own.ty
  pub condition_starts : before condition ≡ before own
  pub first_starts : before first ≡ masks_after condition
  pub second_starts : before second ≡ masks_after condition
  pub masks : masks_after own ≡ on_both_ways (masks_after first) (masks_after second)

-- `while`: after the body everything is live that was live before the loop, and the same fields are set.
pub record While (own : Note) (notes : List Note) : Type 0 where
  pub condition : Note
  pub body : Note
  pub children : notes ≡ condition ∷ body ∷ []
  pub reads : ReadsValue bool_entity condition.ty
  pub type : own.ty ≡ Some (none_entity, form.Val)
  pub condition_starts : before condition ≡ before own
  pub body_starts : before body ≡ masks_after condition
  pub keeps_live : (number : ℕ) → IsInMask own.live_before number → IsInMask body.live_after number
  pub keeps_set : body.set_after ≡ own.set_before
  pub masks : masks_after own ≡ masks_after condition

-- `recover`.
pub record Recover (own : Note) (notes : List Note) (written : Option Cap) : Type 0 where
  pub child : Note
  pub children : notes ≡ child ∷ []
  pub value : Ty
  pub is_value : child.ty ≡ Some value
  pub lifted : Form
  pub recovers : Recovers written value.1 lifted
  pub type : own.ty ≡ Some (value.0, lifted)
  pub masks : OneAfterOther notes (before own) (masks_after own)

-- The body of a method: when it starts, `this` and the parameters are live. That of a function gives its result.
pub record Body (core : CoreData) (own : Note) (notes : List Note) (node : Node) : Type 0 where
  pub home : Method
  pub is_home : slice_get core.methods node.method ≡ Some home
  pub child : Note
  pub children : notes ≡ child ∷ []
  pub live : own.live_before ≡ first (1 + length home.params)
  pub set : StartsSet core home own.set_before
  pub result : home.kind ≡ method.Fun → (value : Ty) × (child.ty ≡ Some value) × IsLower core value home.result
  pub type : own.ty ≡ None
  pub masks : OneAfterOther notes (before own) (masks_after own)

-- The note satisfies this rule for a node of this kind.
abbrev pub Means : CoreData → Slots → Note → List Note → Node → Rule → NodeKind → Type 0
Means core slots own notes node rule.Number (node_kind.Number value) = Literal own u64_entity
Means core slots own notes node rule.Truth (node_kind.Truth value) = Literal own bool_entity
Means core slots own notes node rule.Text (node_kind.Text value) = Literal own string_entity
Means core slots own notes node rule.Prim (node_kind.Prim entity) = Literal own entity
Means core slots own notes node rule.This node_kind.This = This core slots own node
Means core slots own notes node rule.Local (node_kind.Local slot) = LocalRule core slots own node slot
Means core slots own notes node rule.Consume (node_kind.Consume slot) = Consume core slots own node slot
Means core slots own notes node rule.Get (node_kind.Field name) = Get core own notes node name
Means core slots own notes node rule.GetOwn (node_kind.Field name) = GetOwn core own notes node name
Means core slots own notes node rule.Put (node_kind.SetField name) = Put core own notes node name
Means core slots own notes node rule.PutOwn (node_kind.SetField name) = PutOwn core own notes node name
Means core slots own notes node rule.Define (node_kind.Define slot) = Define core slots own notes node slot
Means core slots own notes node rule.Assign (node_kind.Assign slot) = Assign core slots own notes node slot
Means core slots own notes node rule.New (node_kind.New number) = New core own notes number
Means core slots own notes node rule.Spawn (node_kind.Spawn number) = Spawn core own notes number
Means core slots own notes node rule.Call (node_kind.Call name) = Call core own notes name
Means core slots own notes node rule.CallRecover (node_kind.Call name) = CallRecover core own notes name
Means core slots own notes node rule.Send (node_kind.Call name) = Send core own notes name
Means core slots own notes node rule.Builtin (node_kind.Call name) = Builtin core own notes name
Means core slots own notes node rule.Arith (node_kind.Binary operator) = IsOneOf arithmetic operator × Operator own notes u64_entity u64_entity
Means core slots own notes node rule.Compare (node_kind.Binary operator) = IsOneOf comparisons operator × Operator own notes u64_entity bool_entity
Means core slots own notes node rule.Equal (node_kind.Binary operator) = IsOneOf equalities operator × (Operator own notes u64_entity bool_entity ⊎ (Operator own notes bool_entity bool_entity ⊎ Operator own notes string_entity bool_entity))
Means core slots own notes node rule.Join (node_kind.Binary operator) = (operator ≡ op.Add) × Operator own notes string_entity string_entity
Means core slots own notes node rule.Logic (node_kind.Binary operator) = (operator ≡ op.Xor) × Operator own notes bool_entity bool_entity
Means core slots own notes node rule.Logic node_kind.Not = Not own notes
Means core slots own notes node rule.Lazy node_kind.And = Lazy own notes
Means core slots own notes node rule.Lazy node_kind.Or = Lazy own notes
Means core slots own notes node rule.Identity (node_kind.Same value) = Identity own notes
Means core slots own notes node rule.Seq node_kind.Seq = SeqRule core own notes node
Means core slots own notes node rule.If node_kind.If = If core own notes
Means core slots own notes node rule.While node_kind.While = While own notes
Means core slots own notes node rule.Recover (node_kind.Recover written) = Recover own notes written
Means core slots own notes node rule.Body node_kind.Body = Body core own notes node
Means core slots own notes node other kind = ⊥

-- ---- a node and its rule

-- These are the notes of these nodes, in order.
abbrev pub AreNotes : (all : List Note) → (nodes : List ℕ) → (notes : List Note) → Type 0
AreNotes all [] [] = Unit {0}
AreNotes all (node ∷ nodes) (note ∷ notes) = (slice_get all node ≡ Some note) × AreNotes all nodes notes
AreNotes all nodes notes = ⊥

-- The note of a node satisfies its rule, by the types of the slots and by the notes of the node's children, found among
-- all notes.
abbrev pub Meets : CoreData → Slots → List Note → Node → Note → Type 0
Meets core slots all node own = (notes : List Note) × AreNotes all node.children notes × Means core slots own notes node own.rule node.kind

-- The node with this number has a note, which satisfies its rule.
abbrev pub MeetsRule : CoreData → Ann → ℕ → Type 0
MeetsRule core ann number =
    (node : Node) × (own : Note) × (slice_get core.nodes number ≡ Some node) × (slice_get ann.notes number ≡ Some own)
    × Meets core ann.slots ann.notes node own

-- ---- a derivation

-- Each slot with a written type has that type.
abbrev pub KeepsWritten : CoreData → Ann → Type 0
KeepsWritten core ann = Each (λ number slot. (ty : Place) → slot.written ≡ Some ty → slice_get ann.slots number ≡ Some ty) core.slots

-- If this method is a constructor, all fields are set after its body.
abbrev pub SetsFields : CoreData → Ann → Method → Type 0
SetsFields core ann home =
    IsConstructor home.kind → (body : ℕ) (note : Note) → home.body ≡ Some body → slice_get ann.notes body ≡ Some note
    → AllSet core home.entity note.set_after

-- A valid annotation: a derivation, written down node by node.
pub record Valid (core : CoreData) (ann : Ann) : Type 0 where
  pub declarations : DeclOk core
  pub slots : length ann.slots ≡ length core.slots
  pub notes : length ann.notes ≡ length core.nodes
  pub written : KeepsWritten core ann
  pub rules : (number : ℕ) → number < length core.nodes → MeetsRule core ann number
  pub sets : Each (λ number home. SetsFields core ann home) core.methods

-- Some annotation is valid.
abbrev pub Derivable : CoreData → Type 0
Derivable core = (ann : Ann) × Valid core ann
