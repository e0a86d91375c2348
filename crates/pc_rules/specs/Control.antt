-- Rules for sequences, branches, loops, recover and bodies.
use Rattle.std.specs.Prelude.{ℕ, ◌+◌, Bool, true, false, ◌&&◌, List, [], ◌∷◌, length, Option, Some, None, slice_get, if◌then◌else◌}
use Rattle.pc_caps.specs.{Computed.fits, Tables.{unalias, lift}, declared.capability.Cap.Cap, declared.capability.Form.Form}
use Rattle.pc_rules.specs.{Parts.{says_of, reads_as, lower, constructs, all_fields, starts, through_notes, one_note, one_type, two_notes, three_notes, last_note}, Operators.meet_masks, declared.said.Said.Said}
use Rattle.pc_valid.specs.Words.{Ty, Masks, masks_after}
use Rattle.pc_tree.specs.Kinds.{none_entity, bool_entity}
use Rattle.pc_core.specs.{declared.declarations.Method.Method, declared.declarations.MethodKind.MethodKind, declared.nodes.Node.Node, declared.nodes.NodeKind.NodeKind, CoreData.CoreData, FurtherKinds.defined_slot}
use Rattle.pc_base.specs.Lists.{◌>>=◌}
use Rattle.pc_masks.specs.{declared.mask.Mask.Mask, Masks.{empty, first, without_number, within, same}}
use Rattle.pc_ann.specs.declared.annotation.Note.{Note}
use Rattle.pc_caps.specs.declared.capability.Form.TheVariants as form
use Rattle.pc_core.specs.declared.declarations.MethodKind.TheVariants as method

-- ---- sequences

-- The slot that an item of a sequence defines is not live after the sequence.
abbrev pub without_slot : Option ℕ → Mask → Mask
without_slot None l = l
without_slot (Some s) l = without_number l s

abbrev pub without_definition : NodeKind → Mask → Mask
without_definition k l = without_slot (defined_slot k) l

abbrev pub without_item : Option Node → Mask → Mask
without_item None l = l
without_item (Some y) l = without_definition y.kind l

abbrev pub without_items : CoreData → List ℕ → Mask → Mask
without_items core [] l = l
without_items core (c ∷ cs) l = without_items core cs (without_item (slice_get core.nodes c) l)

-- Seq: the last item's type, or none; the slots of its definitions are no longer live.
abbrev pub seq_says : CoreData → List Note → Node → Masks → Option Said
seq_says core ns x m = do
  t ← last_note ns
  n ← through_notes ns m
  Some (says_of t.ty (without_items core x.children n.0, n.1))

-- ---- branches and loops

-- The type of two branches: that of the second if the first is below it, else that of the first if the second is below
-- it, else none.
abbrev pub joined_types : CoreData → Ty → Ty → Option Ty
joined_types core a b = if lower core a b then Some b else (if lower core b a then Some a else None)

abbrev pub joined : CoreData → Option Ty → Option Ty → Option Ty
joined core (Some a) (Some b) = joined_types core a b
joined core a b = None

-- Both branches start from the masks after the condition; after the node come the masks that both leave.
abbrev pub branch_masks : Note × Note × Note → Masks → Option Masks
branch_masks c m = if starts c.0 m
    && (starts c.1 (masks_after c.0) && starts c.2 (masks_after c.0)) then Some (meet_masks (masks_after c.1) (masks_after c.2)) else None

-- A condition is a readable Bool.
abbrev pub is_condition : Option Ty → Bool
is_condition None = false
is_condition (Some v) = reads_as bool_entity v

-- If: the type of the two branches.
abbrev pub if_says : CoreData → List Note → Masks → Option Said
if_says core ns m = do
  c ← three_notes ns
  n ← branch_masks c m
  if is_condition c.0.ty then Some (says_of (joined core c.1.ty c.2.ty) n) else None

-- The body starts from the masks after the condition, keeps live what is live before the node, and leaves the set
-- fields as they are before the node.
abbrev pub loop_masks : Note × Note → Masks → Option Masks
loop_masks c m =
    if (starts c.0 m && starts c.1 (masks_after c.0)) && (within m.0 c.1.live_after && same c.1.set_after m.1)
    then Some (masks_after c.0)
    else None

-- While: None, and the masks after the condition.
abbrev pub while_says : List Note → Masks → Option Said
while_says ns m = do
  c ← two_notes ns
  n ← loop_masks c m
  if is_condition c.0.ty then Some (says_of (Some (none_entity, form.Val)) n) else None

-- ---- recover

-- The form of a recover's value: that of its body lifted, or what the written capability gives, if the lifted form fits
-- it.
abbrev pub recovered : Option Cap → Form → Option Form
recovered None f = Some (lift f)
recovered (Some k) f = if fits (lift f) k then Some (unalias k) else None

-- Recover: the body has a type; its entity, in that form.
abbrev pub recover_says : List Note → Option Cap → Masks → Option Said
recover_says ns k m = do
  v ← one_type ns
  f ← recovered k v.1
  n ← through_notes ns m
  Some (says_of (Some (v.0, f)) n)

-- ---- bodies

-- The masks with which a method starts: `this` and the parameters are live; in a constructor no field is set, and
-- elsewhere all are.
abbrev pub start_set : CoreData → Method → Mask
start_set core f = if constructs f.kind then empty else all_fields core f.entity

abbrev pub starts_method : CoreData → Method → Masks → Bool
starts_method core f m = same m.0 (first (1 + length f.params)) && same m.1 (start_set core f)

-- The value of a function's sequence is below its result. For other methods there is no requirement.
abbrev pub gives_result : CoreData → Ty → Option Ty → Bool
gives_result core r None = false
gives_result core r (Some v) = lower core v r

abbrev pub result_ok : CoreData → MethodKind → Ty → Option Ty → Bool
result_ok core method.Fun r v = gives_result core r v
result_ok core method.Be r v = true
result_ok core method.New r v = true
result_ok core method.Spawn r v = true

-- Body: the masks are those of the start, and the value of a function's sequence fits its result. There is no value.
abbrev pub body_says : CoreData → List Note → Node → Masks → Option Said
body_says core ns x m = do
  f ← slice_get core.methods x.method
  t ← one_note ns
  n ← through_notes ns m
  if starts_method core f m && result_ok core f.kind f.result t.ty then Some (says_of None n) else None
