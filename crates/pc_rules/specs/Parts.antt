-- What the rules are about: slots, masks, the notes of children and their types.
use Rattle.std.specs.Prelude.{ℕ, ◌+◌, ◌-◌, Bool, true, false, ◌&&◌, ◌||◌, List, [], ◌∷◌, length, Option, Some, None, nat_eq, slice_get, if◌then◌else◌}
use Rattle.pc_caps.specs.{Computed.{is_below, fits}, Tables.sendable, declared.capability.Cap.Cap, declared.capability.Form.Form}
use Rattle.pc_sub.specs.Computed.{is_sub}
use Rattle.pc_core.specs.{declared.declarations.EntityDef.EntityDef, declared.declarations.MethodKind.MethodKind, declared.nodes.Slot.Slot, declared.nodes.Node.Node, CoreData.CoreData}
use Rattle.pc_base.specs.Lists.{◌>>=◌}
use Rattle.pc_masks.specs.{declared.mask.Mask.Mask, Masks.{first, within, same}}
use Rattle.pc_ann.specs.{declared.annotation.Note.Note, declared.annotation.Ann.Ann}
use Rattle.pc_valid.specs.Words.{Ty, Masks, Slots, masks_after}
use Rattle.pc_rules.specs.declared.said.Said.{Said}
use Rattle.pc_caps.specs.declared.capability.Form.TheVariants as form
use Rattle.pc_core.specs.declared.declarations.MethodKind.TheVariants as method

-- The conclusion of a rule: this type, or none, and these masks after the node.
abbrev pub says_of : Option Ty → Masks → Said
says_of ty m = record { ty = ty; live = m.0; set = m.1 }

-- ---- types

-- A value of form F is readable: F is below `box`.
abbrev pub readable : Form → Bool
readable f = is_below f form.Box

-- A value of this type goes to a place of this entity and capability.
abbrev pub goes_to : CoreData → Ty → ℕ × Cap → Bool
goes_to core v place = is_sub core v.0 place.0 && fits v.1 place.1

-- A type is below another in entity and form.
abbrev pub lower : CoreData → Ty → Ty → Bool
lower core a b = is_sub core a.0 b.0 && is_below a.1 b.1

-- A readable value of this entity.
abbrev pub reads_as : ℕ → Ty → Bool
reads_as e v = nat_eq v.0 e && readable v.1

-- ---- slots

-- A slot of a method by its index, with its type.
abbrev pub slot_of : CoreData → Slots → (method slot : ℕ) → Option (Slot × (ℕ × Cap))
slot_of core slots m s = do
  x ← slice_get core.methods m
  y ← slice_get core.slots (x.first_slot + s)
  ty ← slice_get slots (x.first_slot + s)
  Some (y, ty)

-- A slot is reachable from a node: it has the same depth, or its capability is sendable.
abbrev pub reachable : Node → Slot × (ℕ × Cap) → Bool
reachable x i = nat_eq i.0.depth x.depth || sendable i.1.1

-- ---- methods and fields

abbrev pub constructs : MethodKind → Bool
constructs method.New = true
constructs method.Spawn = true
constructs method.Fun = false
constructs method.Be = false

-- The number of fields of an entity.
abbrev pub fields_in : Option EntityDef → ℕ
fields_in None = 0
fields_in (Some x) = length x.fields

abbrev pub field_count : CoreData → ℕ → ℕ
field_count core e = fields_in (slice_get core.entities e)

-- The set mask containing all fields of an entity.
abbrev pub all_fields : CoreData → ℕ → Mask
all_fields core e = first (field_count core e)

-- A set mask is full: it contains all fields of the entity.
abbrev pub full : CoreData → ℕ → Mask → Bool
full core e s = within (all_fields core e) s

-- ---- the notes of children

-- A node with this note starts from these masks.
abbrev pub starts : Note → Masks → Bool
starts t m = same t.live_before m.0 && same t.set_before m.1

-- The masks after nodes with these notes, evaluated one after the other from these masks on. None if one of them starts
-- from other masks than the previous one leaves.
abbrev pub through_notes : List Note → Masks → Option Masks
through_notes [] m = Some m
through_notes (t ∷ ts) m = if starts t m then through_notes ts (masks_after t) else None

-- The right number of children for the kind.
abbrev pub one_note : List Note → Option Note
one_note (a ∷ []) = Some a
one_note ns = None

abbrev pub two_notes : List Note → Option (Note × Note)
two_notes (a ∷ b ∷ []) = Some (a, b)
two_notes ns = None

abbrev pub three_notes : List Note → Option (Note × Note × Note)
three_notes (a ∷ b ∷ c ∷ []) = Some (a, b, c)
three_notes ns = None

abbrev pub last_note : List Note → Option Note
last_note ns = slice_get ns (length ns - 1)

-- The type of an only child.
abbrev pub one_type : List Note → Option Ty
one_type ns = do
  t ← one_note ns
  t.ty

-- The types of two children.
abbrev pub types_of : Note × Note → Option (Ty × Ty)
types_of c = do
  a ← c.0.ty
  b ← c.1.ty
  Some (a, b)

abbrev pub two_types : List Note → Option (Ty × Ty)
two_types ns = do
  c ← two_notes ns
  types_of c

-- ---- children by their numbers

-- The last child of a node.
abbrev pub last_child : List ℕ → Option ℕ
last_child cs = slice_get cs (length cs - 1)

-- The notes of these nodes in an annotation, in order. None if one of them has no note.
abbrev pub notes_of : List Note → List ℕ → Option (List Note)
notes_of notes [] = Some []
notes_of notes (c ∷ cs) = do
  t ← slice_get notes c
  ts ← notes_of notes cs
  Some (t ∷ ts)

-- The masks after these nodes of an annotation, evaluated one after the other from these masks on.
abbrev pub through : Ann → List ℕ → Masks → Option Masks
through ann [] m = Some m
through ann (c ∷ cs) m = do
  t ← slice_get ann.notes c
  if starts t m then through ann cs (masks_after t) else None

-- The type of a node in an annotation.
abbrev pub type_of : Ann → ℕ → Option Ty
type_of ann c = do
  t ← slice_get ann.notes c
  t.ty

abbrev pub one_child : List ℕ → Option ℕ
one_child (a ∷ []) = Some a
one_child cs = None
