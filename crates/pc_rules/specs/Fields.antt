-- Rules for reading and writing fields.
use Rattle.std.specs.Prelude.{ℕ, Bool, true, false, ◌&&◌, ◌||◌, not, List, Option, Some, None, nat_eq, slice_get, if◌then◌else◌}
use Rattle.pc_caps.specs.{Tables.{view, taken}, Computed.may_write, declared.capability.Form.Form}
use Rattle.pc_core.specs.{CoreData.{field_named, CoreData}, declared.declarations.FieldInfo.FieldInfo, declared.declarations.Method.Method, declared.nodes.Node.Node, declared.nodes.NodeKind.NodeKind}
use Rattle.pc_rules.specs.{Parts.{says_of, goes_to, constructs, full, through_notes, one_type, two_notes, two_types, last_note, last_child}, declared.said.Said.Said}
use Rattle.pc_valid.specs.Words.{Ty, Masks, place}
use Rattle.pc_base.specs.Lists.{◌>>=◌}
use Rattle.pc_masks.specs.{declared.mask.Mask.Mask, Masks.{has, with_number}}
use Rattle.pc_ann.specs.declared.annotation.Note.{Note}
use Rattle.pc_caps.specs.declared.capability.Form.TheVariants as form
use Rattle.pc_core.specs.declared.nodes.NodeKind.TheVariants as node

-- A field of an entity by its name, with its index.
abbrev pub field_of : CoreData → (entity name : ℕ) → Option (ℕ × FieldInfo)
field_of core e name = do
  i ← field_named core e name
  x ← slice_get core.entities e
  f ← slice_get x.fields i
  Some (i, f)

-- A field of the own entity.
abbrev pub own_field : CoreData → Node → ℕ → Option (ℕ × FieldInfo)
own_field core x name = do
  f ← slice_get core.methods x.method
  field_of core f.entity name

-- ---- incomplete nodes

abbrev pub is_this : NodeKind → Bool
is_this node.This = true
is_this k = false

-- The set mask of a node's last child, if that is `this`.
abbrev pub own_set : CoreData → List ℕ → List Note → Option Mask
own_set core cs ns = do
  c ← last_child cs
  y ← slice_get core.nodes c
  t ← last_note ns
  if is_this y.kind then Some t.set_before else None

abbrev pub lacks_fields : CoreData → ℕ → Option Mask → Bool
lacks_fields core e None = false
lacks_fields core e (Some s) = not (full core e s)

abbrev pub incomplete_in : CoreData → List Note → Node → Option Method → Bool
incomplete_in core ns x None = false
incomplete_in core ns x (Some f) = constructs f.kind && (nat_eq x.depth 0 && lacks_fields core f.entity (own_set core x.children ns))

-- A node is incomplete: its method is a constructor, its depth is 0, its last child is `this`, and that child's set
-- mask is not full.
abbrev pub incomplete : CoreData → List Note → Node → Bool
incomplete core ns x = incomplete_in core ns x (slice_get core.methods x.method)

-- ---- reading

-- The type of a field at an origin of this type: the field's entity, in the form seen from the origin.
abbrev pub field_type : CoreData → Ty → ℕ → Option Ty
field_type core o name = do
  f ← field_of core o.0 name
  seen ← view o.1 f.1.cap
  Some (f.1.entity, seen)

abbrev pub read_says : CoreData → List Note → ℕ → Masks → Option Said
read_says core ns name m = do
  o ← one_type ns
  ty ← field_type core o name
  n ← through_notes ns m
  Some (says_of (Some ty) n)

-- Get: the node is not incomplete, and the origin's entity has the field, which is seen from the origin in some form.
abbrev pub get_says : CoreData → List Note → Node → ℕ → Masks → Option Said
get_says core ns x name m = if incomplete core ns x then None else read_says core ns name m

abbrev pub own_read_says : CoreData → List Note → Node → ℕ → Masks → Option Said
own_read_says core ns x name m = do
  f ← own_field core x name
  seen ← view form.Ref f.1.cap
  n ← through_notes ns m
  if has n.1 f.0 then Some (says_of (Some (f.1.entity, seen)) n) else None

-- Getown: the node is incomplete, and the field is set. It is seen as from `ref`.
abbrev pub getown_says : CoreData → List Note → Node → ℕ → Masks → Option Said
getown_says core ns x name m = if incomplete core ns x then own_read_says core ns x name m else None

-- ---- writing

-- A `var` field of the origin's entity, to which the value goes and which may be written at this origin.
abbrev pub writes : CoreData → Ty → Form → FieldInfo → Bool
writes core v origin f = not f.fixed && (goes_to core v (place f) && may_write origin v.1 f.cap)

abbrev pub written_field : CoreData → Ty → Ty → ℕ → Option FieldInfo
written_field core v o name = do
  f ← field_of core o.0 name
  if writes core v o.1 f.1 then Some f.1 else None

-- The type of its old value: the field's entity, in the form in which the origin gives it up.
abbrev pub old_type : CoreData → Ty → Ty → ℕ → Option Ty
old_type core v o name = do
  f ← written_field core v o name
  old ← taken o.1 f.cap
  Some (f.entity, old)

abbrev pub write_says : CoreData → List Note → ℕ → Masks → Option Said
write_says core ns name m = do
  vs ← two_types ns
  ty ← old_type core vs.0 vs.1 name
  n ← through_notes ns m
  Some (says_of (Some ty) n)

-- Put: the node is not incomplete, and such a field is written.
abbrev pub put_says : CoreData → List Note → Node → ℕ → Masks → Option Said
put_says core ns x name m = if incomplete core ns x then None else write_says core ns name m

-- The value to be written: the first of two children.
abbrev pub value_type : List Note → Option Ty
value_type ns = do
  c ← two_notes ns
  c.0.ty

-- The old value of an own field, if it is set.
abbrev pub own_old : ℕ × FieldInfo → Mask → Option Ty
own_old f s = do
  old ← taken form.Ref f.1.cap
  if has s f.0 then Some (f.1.entity, old) else None

-- The value goes to a field of the own entity that is a `var` or is not set yet.
abbrev pub own_writes : CoreData → Ty → ℕ × FieldInfo → Mask → Bool
own_writes core v f s = (not f.1.fixed || not (has s f.0)) && goes_to core v (place f.1)

abbrev pub own_write_says : CoreData → List Note → Node → ℕ → Masks → Option Said
own_write_says core ns x name m = do
  f ← own_field core x name
  v ← value_type ns
  n ← through_notes ns m
  if own_writes core v f n.1
      then Some (says_of (own_old f n.1) (n.0, with_number n.1 f.0))
      else None

-- Putown: the node is incomplete, and such a field is written, and is set after that.
abbrev pub putown_says : CoreData → List Note → Node → ℕ → Masks → Option Said
putown_says core ns x name m = if incomplete core ns x then own_write_says core ns x name m else None
