-- A step between the computed rules and the records of `pc_valid`: the same records, in terms of what the rules
-- compute.
use Rattle.std.specs.Prelude.{◌≡◌, ◌⊎◌, ℕ, ◌+◌, true, false, List, [], ◌∷◌, ◌++◌, ◌-◌, length, codes, Option, Some, None, slice_get}
use Rattle.pc_caps.specs.{Tables.{view, sendable, sendable_form, plain, unalias, taken}, Computed.{fits, may_write}, declared.capability.Cap.Cap, declared.capability.Form.Form}
use Rattle.pc_caps.specs.declared.capability.Cap.TheVariants as cap
use Rattle.pc_caps.specs.declared.capability.Form.TheVariants as form
use Rattle.pc_tree.specs.{declared.kinds.Op.Op, Kinds.{none_entity, u64_entity, bool_entity, string_entity}}
use Rattle.pc_core.specs.{declared.declarations.FieldInfo.FieldInfo, declared.declarations.Method.Method, declared.declarations.ParamInfo.ParamInfo, declared.nodes.Slot.Slot, declared.nodes.Node.Node, CoreData.{CoreData, method_named}}
use Rattle.pc_core.specs.declared.declarations.MethodKind.TheVariants as method
use Rattle.pc_core.specs.declared.nodes.SlotKind.TheVariants as slot_kind
use Rattle.pc_core.specs.declared.nodes.NodeKind.TheVariants as node
use Rattle.pc_ann.specs.declared.annotation.Note.{Note}
use Rattle.pc_masks.specs.Masks.{IsInMask, with_number, without_number, within, first}
use Rattle.pc_rules.specs.{Parts.{slot_of, goes_to, readable, lower, constructs, full}, Values.{defined_type, old_value}, Fields.{field_of, own_field, own_old}, Calls.recovered_result, Operators.{is_arithmetic, is_comparison, is_equality, is_add, is_xor, meet_masks}, Control.{without_items, joined, recovered, start_set}}
use Rattle.pc_valid.specs.Words.{Ty, Masks, Slots, before, masks_after, place}

-- ---- words

-- Nodes with these notes are evaluated one after the other: each starts from the masks after the previous one.
abbrev pub OneAfterOther : List Note → Masks → Masks → Type 0
OneAfterOther [] from to = from ≡ to
OneAfterOther (t ∷ ts) from to = (before t ≡ from) × OneAfterOther ts (masks_after t) to

abbrev pub Reachable : Node → Slot × (ℕ × Cap) → Type 0
Reachable x i = (i.0.depth ≡ x.depth) ⊎ (sendable i.1.1 ≡ true)

-- A readable value of this entity.
abbrev pub Reads : ℕ → Option Ty → Type 0
Reads e o = (v : Ty) × (o ≡ Some v) × (v.0 ≡ e) × (readable v.1 ≡ true)

-- Two children, each a readable value of this entity.
abbrev pub BothRead : ℕ → List Note → Type 0
BothRead e ns = (a : Note) × (b : Note) × (ns ≡ a ∷ b ∷ []) × Reads e a.ty × Reads e b.ty

-- There are as many arguments as parameters, and each goes to its parameter.
abbrev pub Go : CoreData → List Note → List ParamInfo → Type 0
Go core [] [] = Unit {0}
Go core (t ∷ ts) (p ∷ ps) = ((v : Ty) × (t.ty ≡ Some v) × (goes_to core v (p.entity, p.cap) ≡ true)) × Go core ts ps
Go core ts ps = ⊥

-- Each argument has a sendable form, or goes to a sendable parameter.
abbrev pub Sendable : List Note → List ParamInfo → Type 0
Sendable [] [] = Unit {0}
Sendable (t ∷ ts) (p ∷ ps) = ((v : Ty) × (t.ty ≡ Some v) × ((sendable_form v.1 ≡ true) ⊎ (sendable p.cap ≡ true))) × Sendable ts ps
Sendable ts ps = ⊥

-- The last element of a list.
abbrev pub by_last : {A : Type 0} → List A → Option A
by_last xs = slice_get xs (length xs - 1)

-- The node is in a constructor, outside every recover, and its last child is `this`, before which some field is not
-- set.
pub record Incomplete (core : CoreData) (ns : List Note) (x : Node) : Type 0 where
  pub own : Method
  pub is_own : slice_get core.methods x.method ≡ Some own
  pub constructor : constructs own.kind ≡ true
  pub outside : x.depth ≡ 0
  pub child : ℕ
  pub is_child : by_last x.children ≡ Some child
  pub origin : Node
  pub is_origin : slice_get core.nodes child ≡ Some origin
  pub is_this : origin.kind ≡ node.This
  pub note : Note
  pub is_note : by_last ns ≡ Some note
  pub lacks : full core own.entity note.set_before ≡ true → ⊥

-- A call: its arguments, and after them the receiver, whose entity has the method.
pub record Called (core : CoreData) (ns : List Note) (name : ℕ) : Type 0 where
  pub arguments : List Note
  pub receiver : Note
  pub children : ns ≡ arguments ++ receiver ∷ []
  pub to : Ty
  pub is_to : receiver.ty ≡ Some to
  pub number : ℕ
  pub is_number : method_named core to.0 name ≡ Some number
  pub called : Method
  pub is_called : slice_get core.methods number ≡ Some called

-- ---- values and slots

-- A literal, or the value of a primitive: of entity e.
pub record Literal (own : Note) (e : ℕ) : Type 0 where
  pub type : own.ty ≡ Some (e, form.Val)
  pub masks : masks_after own ≡ before own

-- `this`.
pub record This (core : CoreData) (slots : Slots) (own : Note) (x : Node) : Type 0 where
  pub home : Method
  pub is_home : slice_get core.methods x.method ≡ Some home
  pub slot : Slot × (ℕ × Cap)
  pub is_slot : slot_of core slots x.method 0 ≡ Some slot
  pub seen : Form
  pub whole : full core home.entity own.set_before ≡ true → Reachable x slot → seen ≡ plain slot.1.1
  pub else_tag : (full core home.entity own.set_before ≡ true → Reachable x slot → ⊥) → seen ≡ form.Tag
  pub type : own.ty ≡ Some (home.entity, seen)
  pub masks : masks_after own ≡ before own

-- A local or parameter s.
pub record Local (core : CoreData) (slots : Slots) (own : Note) (x : Node) (s : ℕ) : Type 0 where
  pub slot : Slot × (ℕ × Cap)
  pub is_slot : slot_of core slots x.method s ≡ Some slot
  pub live : IsInMask own.live_before s
  pub reachable : Reachable x slot
  pub type : own.ty ≡ Some (slot.1.0, plain slot.1.1)
  pub masks : masks_after own ≡ before own

-- `consume` s.
pub record Consume (core : CoreData) (slots : Slots) (own : Note) (x : Node) (s : ℕ) : Type 0 where
  pub slot : Slot × (ℕ × Cap)
  pub is_slot : slot_of core slots x.method s ≡ Some slot
  pub live : IsInMask own.live_before s
  pub reachable : Reachable x slot
  pub type : own.ty ≡ Some (slot.1.0, unalias slot.1.1)
  pub masks : masks_after own ≡ (without_number own.live_before s, own.set_before)

-- The definition of local s.
pub record Define (core : CoreData) (slots : Slots) (own : Note) (ns : List Note) (x : Node) (s : ℕ) : Type 0 where
  pub child : Note
  pub children : ns ≡ child ∷ []
  pub value : Ty
  pub is_value : child.ty ≡ Some value
  pub slot : Slot × (ℕ × Cap)
  pub is_slot : slot_of core slots x.method s ≡ Some slot
  pub has_type : slot.1 ≡ defined_type slot.0.written value
  pub goes : goes_to core value slot.1 ≡ true
  pub type : own.ty ≡ None
  pub after_children : Masks
  pub in_order : OneAfterOther ns (before own) after_children
  pub masks : masks_after own ≡ (with_number after_children.0 s, after_children.1)

-- An assignment to s.
pub record Assign (core : CoreData) (slots : Slots) (own : Note) (ns : List Note) (x : Node) (s : ℕ) : Type 0 where
  pub child : Note
  pub children : ns ≡ child ∷ []
  pub value : Ty
  pub is_value : child.ty ≡ Some value
  pub slot : Slot × (ℕ × Cap)
  pub is_slot : slot_of core slots x.method s ≡ Some slot
  pub variable : slot.0.kind ≡ slot_kind.Var
  pub reachable : Reachable x slot
  pub goes : goes_to core value slot.1 ≡ true
  pub after_children : Masks
  pub in_order : OneAfterOther ns (before own) after_children
  pub type : own.ty ≡ old_value s slot.1 after_children.0
  pub masks : masks_after own ≡ (with_number after_children.0 s, after_children.1)

-- ---- fields

-- Reading a field.
pub record Get (core : CoreData) (own : Note) (ns : List Note) (x : Node) (name : ℕ) : Type 0 where
  pub complete : Incomplete core ns x → ⊥
  pub child : Note
  pub children : ns ≡ child ∷ []
  pub origin : Ty
  pub is_origin : child.ty ≡ Some origin
  pub field : ℕ × FieldInfo
  pub is_field : field_of core origin.0 name ≡ Some field
  pub seen : Form
  pub sees : view origin.1 field.1.cap ≡ Some seen
  pub type : own.ty ≡ Some (field.1.entity, seen)
  pub masks : OneAfterOther ns (before own) (masks_after own)

-- Reading a field of `this` before all fields are set.
pub record GetOwn (core : CoreData) (own : Note) (ns : List Note) (x : Node) (name : ℕ) : Type 0 where
  pub incomplete : Incomplete core ns x
  pub field : ℕ × FieldInfo
  pub is_field : own_field core x name ≡ Some field
  pub seen : Form
  pub sees : view form.Ref field.1.cap ≡ Some seen
  pub set : IsInMask own.set_after field.0
  pub type : own.ty ≡ Some (field.1.entity, seen)
  pub masks : OneAfterOther ns (before own) (masks_after own)

-- Writing a field.
pub record Put (core : CoreData) (own : Note) (ns : List Note) (x : Node) (name : ℕ) : Type 0 where
  pub complete : Incomplete core ns x → ⊥
  pub first : Note
  pub second : Note
  pub children : ns ≡ first ∷ second ∷ []
  pub value : Ty
  pub is_value : first.ty ≡ Some value
  pub origin : Ty
  pub is_origin : second.ty ≡ Some origin
  pub field : ℕ × FieldInfo
  pub is_field : field_of core origin.0 name ≡ Some field
  pub variable : field.1.fixed ≡ false
  pub goes : goes_to core value (place field.1) ≡ true
  pub may : may_write origin.1 value.1 field.1.cap ≡ true
  pub old : Form
  pub takes : taken origin.1 field.1.cap ≡ Some old
  pub type : own.ty ≡ Some (field.1.entity, old)
  pub masks : OneAfterOther ns (before own) (masks_after own)

-- Writing a field of `this` before all fields are set.
pub record PutOwn (core : CoreData) (own : Note) (ns : List Note) (x : Node) (name : ℕ) : Type 0 where
  pub incomplete : Incomplete core ns x
  pub field : ℕ × FieldInfo
  pub is_field : own_field core x name ≡ Some field
  pub first : Note
  pub second : Note
  pub children : ns ≡ first ∷ second ∷ []
  pub value : Ty
  pub is_value : first.ty ≡ Some value
  pub after_children : Masks
  pub in_order : OneAfterOther ns (before own) after_children
  pub may : (field.1.fixed ≡ false) ⊎ (IsInMask after_children.1 field.0 → ⊥)
  pub goes : goes_to core value (place field.1) ≡ true
  pub type : own.ty ≡ own_old field after_children.1
  pub masks : masks_after own ≡ (after_children.0, with_number after_children.1 field.0)

-- ---- calls

-- Constructing an object of a class.
pub record New (core : CoreData) (own : Note) (ns : List Note) (k : ℕ) : Type 0 where
  pub called : Method
  pub is_called : slice_get core.methods k ≡ Some called
  pub go : Go core ns called.params
  pub type : own.ty ≡ Some called.result
  pub masks : OneAfterOther ns (before own) (masks_after own)

-- Constructing an actor.
pub record Spawn (core : CoreData) (own : Note) (ns : List Note) (k : ℕ) : Type 0 where
  pub called : Method
  pub is_called : slice_get core.methods k ≡ Some called
  pub go : Go core ns called.params
  pub type : own.ty ≡ Some (called.entity, form.Tag)
  pub masks : OneAfterOther ns (before own) (masks_after own)

-- A call.
pub record Call (core : CoreData) (own : Note) (ns : List Note) (name : ℕ) : Type 0 where
  pub call : Called core ns name
  pub function : call.called.kind ≡ method.Fun
  pub go : Go core call.arguments call.called.params
  pub fit : fits call.to.1 call.called.receiver ≡ true
  pub type : own.ty ≡ Some call.called.result
  pub masks : OneAfterOther ns (before own) (masks_after own)

-- A call whose receiver is lent to the method.
pub record CallRecover (core : CoreData) (own : Note) (ns : List Note) (name : ℕ) : Type 0 where
  pub call : Called core ns name
  pub function : call.called.kind ≡ method.Fun
  pub go : Go core call.arguments call.called.params
  pub no_fit : fits call.to.1 call.called.receiver ≡ false
  pub isolated : (call.to.1 ≡ form.Iso) ⊎ (call.to.1 ≡ form.Trn)
  pub lent : (call.called.receiver ≡ cap.Ref) ⊎ (call.called.receiver ≡ cap.Box)
  pub may_go : Sendable call.arguments call.called.params
  pub type : own.ty ≡ recovered_result call.called.result
  pub masks : OneAfterOther ns (before own) (masks_after own)

-- A message.
pub record Send (core : CoreData) (own : Note) (ns : List Note) (name : ℕ) : Type 0 where
  pub call : Called core ns name
  pub behaviour : call.called.kind ≡ method.Be
  pub go : Go core call.arguments call.called.params
  pub type : own.ty ≡ Some (none_entity, form.Val)
  pub masks : OneAfterOther ns (before own) (masks_after own)

-- The text of a number or of a truth value.
pub record Builtin (core : CoreData) (own : Note) (ns : List Note) (name : ℕ) : Type 0 where
  pub child : Note
  pub children : ns ≡ child ∷ []
  pub is_string : slice_get core.names name ≡ Some (codes "string")
  pub reads : Reads u64_entity child.ty ⊎ Reads bool_entity child.ty
  pub type : own.ty ≡ Some (string_entity, form.Val)
  pub masks : OneAfterOther ns (before own) (masks_after own)

-- ---- operators

-- Arithmetic.
pub record Arith (own : Note) (ns : List Note) (o : Op) : Type 0 where
  pub operator : is_arithmetic o ≡ true
  pub both : BothRead u64_entity ns
  pub type : own.ty ≡ Some (u64_entity, form.Val)
  pub masks : OneAfterOther ns (before own) (masks_after own)

-- Less and greater.
pub record Compare (own : Note) (ns : List Note) (o : Op) : Type 0 where
  pub operator : is_comparison o ≡ true
  pub both : BothRead u64_entity ns
  pub type : own.ty ≡ Some (bool_entity, form.Val)
  pub masks : OneAfterOther ns (before own) (masks_after own)

-- Equality.
pub record Equal (own : Note) (ns : List Note) (o : Op) : Type 0 where
  pub operator : is_equality o ≡ true
  pub both : BothRead u64_entity ns ⊎ (BothRead bool_entity ns ⊎ BothRead string_entity ns)
  pub type : own.ty ≡ Some (bool_entity, form.Val)
  pub masks : OneAfterOther ns (before own) (masks_after own)

-- Concatenation of two texts.
pub record Join (own : Note) (ns : List Note) (o : Op) : Type 0 where
  pub operator : is_add o ≡ true
  pub both : BothRead string_entity ns
  pub type : own.ty ≡ Some (string_entity, form.Val)
  pub masks : OneAfterOther ns (before own) (masks_after own)

-- `xor`.
pub record Xor (own : Note) (ns : List Note) (o : Op) : Type 0 where
  pub operator : is_xor o ≡ true
  pub both : BothRead bool_entity ns
  pub type : own.ty ≡ Some (bool_entity, form.Val)
  pub masks : OneAfterOther ns (before own) (masks_after own)

-- `not`.
pub record Not (own : Note) (ns : List Note) : Type 0 where
  pub child : Note
  pub children : ns ≡ child ∷ []
  pub reads : Reads bool_entity child.ty
  pub type : own.ty ≡ Some (bool_entity, form.Val)
  pub masks : OneAfterOther ns (before own) (masks_after own)

-- `and` and `or`.
pub record Lazy (own : Note) (ns : List Note) : Type 0 where
  pub left : Note
  pub right : Note
  pub children : ns ≡ left ∷ right ∷ []
  pub left_reads : Reads bool_entity left.ty
  pub right_reads : Reads bool_entity right.ty
  pub type : own.ty ≡ Some (bool_entity, form.Val)
  pub starts : before left ≡ before own
  pub goes_on : before right ≡ masks_after left
  pub masks : masks_after own ≡ meet_masks (masks_after left) (masks_after right)

-- `is` and `isnt`.
pub record Identity (own : Note) (ns : List Note) : Type 0 where
  pub left : Note
  pub right : Note
  pub children : ns ≡ left ∷ right ∷ []
  pub left_type : Ty
  pub is_left : left.ty ≡ Some left_type
  pub right_type : Ty
  pub is_right : right.ty ≡ Some right_type
  pub type : own.ty ≡ Some (bool_entity, form.Val)
  pub masks : OneAfterOther ns (before own) (masks_after own)

-- ---- control

-- A sequence.
pub record Seq (core : CoreData) (own : Note) (ns : List Note) (x : Node) : Type 0 where
  pub front : List Note
  pub last : Note
  pub children : ns ≡ front ++ last ∷ []
  pub type : own.ty ≡ last.ty
  pub after_children : Masks
  pub in_order : OneAfterOther ns (before own) after_children
  pub masks : masks_after own ≡ (without_items core x.children after_children.0, after_children.1)

-- `if`.
pub record If (core : CoreData) (own : Note) (ns : List Note) : Type 0 where
  pub condition : Note
  pub yes : Note
  pub no : Note
  pub children : ns ≡ condition ∷ yes ∷ no ∷ []
  pub reads : Reads bool_entity condition.ty
  pub type : own.ty ≡ joined core yes.ty no.ty
  pub starts : before condition ≡ before own
  pub yes_starts : before yes ≡ masks_after condition
  pub no_starts : before no ≡ masks_after condition
  pub masks : masks_after own ≡ meet_masks (masks_after yes) (masks_after no)

-- `while`.
pub record While (own : Note) (ns : List Note) : Type 0 where
  pub condition : Note
  pub body : Note
  pub children : ns ≡ condition ∷ body ∷ []
  pub reads : Reads bool_entity condition.ty
  pub type : own.ty ≡ Some (none_entity, form.Val)
  pub starts : before condition ≡ before own
  pub body_starts : before body ≡ masks_after condition
  pub keeps : within own.live_before body.live_after ≡ true
  pub same_set : body.set_after ≡ own.set_before
  pub masks : masks_after own ≡ masks_after condition

-- `recover`.
pub record Recover (own : Note) (ns : List Note) (k : Option Cap) : Type 0 where
  pub child : Note
  pub children : ns ≡ child ∷ []
  pub value : Ty
  pub is_value : child.ty ≡ Some value
  pub lifted : Form
  pub is_lifted : recovered k value.1 ≡ Some lifted
  pub type : own.ty ≡ Some (value.0, lifted)
  pub masks : OneAfterOther ns (before own) (masks_after own)

-- A method's body.
pub record Body (core : CoreData) (own : Note) (ns : List Note) (x : Node) : Type 0 where
  pub home : Method
  pub is_home : slice_get core.methods x.method ≡ Some home
  pub child : Note
  pub children : ns ≡ child ∷ []
  pub live : own.live_before ≡ first (1 + length home.params)
  pub set : own.set_before ≡ start_set core home
  pub result : home.kind ≡ method.Fun → (v : Ty) × (child.ty ≡ Some v) × (lower core v home.result ≡ true)
  pub type : own.ty ≡ None
  pub masks : OneAfterOther ns (before own) (masks_after own)
