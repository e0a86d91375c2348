-- As in `specs/`: the conclusion of each rule for a node of an annotation, computed by the numbers of its children.
-- Proofs about whole annotations take a rule apart in this form; `Bridge` shows that both are the same.
use Rattle.std.specs.Prelude.{◌≡◌, ℕ, ◌+◌, ◌-◌, Bool, true, false, ◌&&◌, cond, nat_eq, List, [], ◌∷◌, length, take, Option, Some, None, slice_get, if◌then◌else◌}
use Rattle.pc_caps.specs.{Tables.{view, plain, unalias}, Computed.fits, declared.capability.Cap.Cap, declared.capability.Form.Form}
use Rattle.pc_caps.specs.declared.capability.Form.TheVariants as form
use Rattle.pc_tree.specs.declared.kinds.Op.{Op}
use Rattle.pc_core.specs.{declared.declarations.FieldInfo.FieldInfo, declared.declarations.Method.Method, declared.declarations.ParamInfo.ParamInfo, declared.nodes.Slot.Slot, declared.nodes.Node.Node, declared.nodes.NodeKind.NodeKind, CoreData.{CoreData, method_named}}
use Rattle.pc_core.specs.declared.nodes.NodeKind.TheVariants as node
use Rattle.pc_base.specs.Lists.{◌>>=◌}
use Rattle.pc_masks.specs.{declared.mask.Mask.Mask, Masks.{has, with_number, without_number, within, same}}
use Rattle.pc_ann.specs.{declared.annotation.Note.Note, declared.annotation.Ann.Ann, declared.annotation.Rule.Rule}
use Rattle.pc_ann.specs.declared.annotation.Rule.TheVariants as rule
use Rattle.pc_rules.specs.{declared.said.Said.Said, Parts.{says_of, reads_as, reachable, constructs, through, type_of, one_child, last_child}, Values.{literal_says, this_form, defines, assigns, old_value}, Fields.{own_field, is_this, lacks_fields, field_type, old_type, own_old, own_writes}, Calls.{argument_goes, is_function, is_behaviour, argument_sendable, lends, recovered_result, has_string}, Operators.{is_arithmetic, is_comparison, is_equality, is_add, is_xor, both_read_as, comparable, meet_masks}, Control.{without_items, joined, is_condition, recovered, starts_method, result_ok}, Rules.said_by}
use Rattle.pc_valid.specs.Words.{Ty, Masks, before}

-- ---- parts

abbrev pub slot_of : CoreData → Ann → ℕ → ℕ → Option (Slot × (ℕ × Cap))
slot_of core ann m s = do
  x ← slice_get core.methods m
  y ← slice_get core.slots (x.first_slot + s)
  ty ← slice_get ann.slots (x.first_slot + s)
  Some (y, ty)

abbrev pub two_children : List ℕ → Option (ℕ × ℕ)
two_children (a ∷ b ∷ []) = Some (a, b)
two_children cs = None

abbrev pub three_children : List ℕ → Option (ℕ × ℕ × ℕ)
three_children (a ∷ b ∷ c ∷ []) = Some (a, b, c)
three_children cs = None

abbrev pub two_types : Ann → List ℕ → Option (Ty × Ty)
two_types ann cs = do
  c ← two_children cs
  a ← type_of ann c.0
  b ← type_of ann c.1
  Some (a, b)

-- ---- values

abbrev pub this_says : CoreData → Ann → Node → Masks → Option Said
this_says core ann x m = do
  f ← slice_get core.methods x.method
  i ← slot_of core ann x.method 0
  Some (says_of (Some (f.entity, this_form core x f.entity i m.1)) m)

abbrev pub used : CoreData → Ann → Node → ℕ → Mask → Option (ℕ × Cap)
used core ann x s l = do
  i ← slot_of core ann x.method s
  if has l s && reachable x i then Some i.1 else None

abbrev pub local_says : CoreData → Ann → Node → ℕ → Masks → Option Said
local_says core ann x s m = do
  i ← used core ann x s m.0
  Some (says_of (Some (i.0, plain i.1)) m)

abbrev pub consume_says : CoreData → Ann → Node → ℕ → Masks → Option Said
consume_says core ann x s m = do
  i ← used core ann x s m.0
  Some (says_of (Some (i.0, unalias i.1)) (without_number m.0 s, m.1))

abbrev pub defined : Ann → Node → ℕ → Masks → Option Said
defined ann x s m = do
  n ← through ann x.children m
  Some (says_of None (with_number n.0 s, n.1))

abbrev pub define_says : CoreData → Ann → Node → ℕ → Masks → Option Said
define_says core ann x s m = do
  c ← one_child x.children
  v ← type_of ann c
  i ← slot_of core ann x.method s
  if defines core i v then defined ann x s m else None

abbrev pub assigned : Ann → Node → ℕ → ℕ × Cap → Masks → Option Said
assigned ann x s i m = do
  n ← through ann x.children m
  Some (says_of (old_value s i n.0) (with_number n.0 s, n.1))

abbrev pub assign_says : CoreData → Ann → Node → ℕ → Masks → Option Said
assign_says core ann x s m = do
  c ← one_child x.children
  v ← type_of ann c
  i ← slot_of core ann x.method s
  if assigns core x i v then assigned ann x s i.1 m else None

-- ---- fields

abbrev pub own_set : CoreData → Ann → List ℕ → Option Mask
own_set core ann cs = do
  c ← last_child cs
  y ← slice_get core.nodes c
  t ← slice_get ann.notes c
  if is_this y.kind then Some t.set_before else None

abbrev pub incomplete_in : CoreData → Ann → Node → Option Method → Bool
incomplete_in core ann x None = false
incomplete_in core ann x (Some f) = constructs f.kind && (nat_eq x.depth 0 && lacks_fields core f.entity (own_set core ann x.children))

abbrev pub incomplete : CoreData → Ann → Node → Bool
incomplete core ann x = incomplete_in core ann x (slice_get core.methods x.method)

abbrev pub read_says : CoreData → Ann → Node → ℕ → Masks → Option Said
read_says core ann x name m = do
  c ← one_child x.children
  o ← type_of ann c
  ty ← field_type core o name
  n ← through ann x.children m
  Some (says_of (Some ty) n)

abbrev pub get_says : CoreData → Ann → Node → ℕ → Masks → Option Said
get_says core ann x name m = if incomplete core ann x then None else read_says core ann x name m

abbrev pub own_read_says : CoreData → Ann → Node → ℕ → Masks → Option Said
own_read_says core ann x name m = do
  f ← own_field core x name
  seen ← view form.Ref f.1.cap
  n ← through ann x.children m
  if has n.1 f.0 then Some (says_of (Some (f.1.entity, seen)) n) else None

abbrev pub getown_says : CoreData → Ann → Node → ℕ → Masks → Option Said
getown_says core ann x name m = if incomplete core ann x then own_read_says core ann x name m else None

abbrev pub write_says : CoreData → Ann → Node → ℕ → Masks → Option Said
write_says core ann x name m = do
  vs ← two_types ann x.children
  ty ← old_type core vs.0 vs.1 name
  n ← through ann x.children m
  Some (says_of (Some ty) n)

abbrev pub put_says : CoreData → Ann → Node → ℕ → Masks → Option Said
put_says core ann x name m = if incomplete core ann x then None else write_says core ann x name m

abbrev pub value_type : Ann → List ℕ → Option Ty
value_type ann cs = do
  c ← two_children cs
  type_of ann c.0

abbrev pub own_write_says : CoreData → Ann → Node → ℕ → Masks → Option Said
own_write_says core ann x name m = do
  f ← own_field core x name
  v ← value_type ann x.children
  n ← through ann x.children m
  if own_writes core v f n.1
      then Some (says_of (own_old f n.1) (n.0, with_number n.1 f.0))
      else None

abbrev pub putown_says : CoreData → Ann → Node → ℕ → Masks → Option Said
putown_says core ann x name m = if incomplete core ann x then own_write_says core ann x name m else None

-- ---- calls

abbrev pub arguments_go : CoreData → Ann → List ℕ → List ParamInfo → Bool
arguments_go core ann [] [] = true
arguments_go core ann (c ∷ cs) (p ∷ ps) = argument_goes core p (type_of ann c) && arguments_go core ann cs ps
arguments_go core ann cs ps = false

abbrev pub new_says : CoreData → Ann → Node → ℕ → Masks → Option Said
new_says core ann x k m = do
  f ← slice_get core.methods k
  n ← through ann x.children m
  if arguments_go core ann x.children f.params then Some (says_of (Some f.result) n) else None

abbrev pub spawn_says : CoreData → Ann → Node → ℕ → Masks → Option Said
spawn_says core ann x k m = do
  f ← slice_get core.methods k
  n ← through ann x.children m
  if arguments_go core ann x.children f.params then Some (says_of (Some (f.entity, form.Tag)) n) else None

abbrev pub arguments : List ℕ → List ℕ
arguments cs = take (length cs - 1) cs

abbrev pub called : CoreData → Ann → Node → ℕ → Option (Ty × ℕ)
called core ann x name = do
  r ← last_child x.children
  o ← type_of ann r
  k ← method_named core o.0 name
  Some (o, k)

abbrev pub calls : CoreData → Ann → Node → Ty → Method → Bool
calls core ann x o f = is_function f.kind && (arguments_go core ann (arguments x.children) f.params && fits o.1 f.receiver)

abbrev pub call_says : CoreData → Ann → Node → ℕ → Masks → Option Said
call_says core ann x name m = do
  i ← called core ann x name
  f ← slice_get core.methods i.1
  n ← through ann x.children m
  if calls core ann x i.0 f then Some (says_of (Some f.result) n) else None

abbrev pub arguments_sendable : Ann → List ℕ → List ParamInfo → Bool
arguments_sendable ann [] [] = true
arguments_sendable ann (c ∷ cs) (p ∷ ps) = argument_sendable p (type_of ann c) && arguments_sendable ann cs ps
arguments_sendable ann cs ps = false

abbrev pub recovers : CoreData → Ann → Node → Ty → Method → Bool
recovers core ann x o f =
    (is_function f.kind && arguments_go core ann (arguments x.children) f.params)
    && (lends o.1 f.receiver && arguments_sendable ann (arguments x.children) f.params)

abbrev pub callrecover_says : CoreData → Ann → Node → ℕ → Masks → Option Said
callrecover_says core ann x name m = do
  i ← called core ann x name
  f ← slice_get core.methods i.1
  n ← through ann x.children m
  if recovers core ann x i.0 f then Some (says_of (recovered_result f.result) n) else None

abbrev pub sends : CoreData → Ann → Node → Method → Bool
sends core ann x f = is_behaviour f.kind && arguments_go core ann (arguments x.children) f.params

abbrev pub send_says : CoreData → Ann → Node → ℕ → Masks → Option Said
send_says core ann x name m = do
  i ← called core ann x name
  f ← slice_get core.methods i.1
  n ← through ann x.children m
  if sends core ann x f then Some (says_of (Some (0, form.Val)) n) else None

abbrev pub builtin_says : CoreData → Ann → Node → ℕ → Masks → Option Said
builtin_says core ann x name m = do
  c ← one_child x.children
  v ← type_of ann c
  text ← slice_get core.names name
  n ← through ann x.children m
  if has_string text v then Some (says_of (Some (3, form.Val)) n) else None

-- ---- operators

abbrev pub value_says : ℕ → Ann → Node → Masks → Option Said
value_says e ann x m = do
  n ← through ann x.children m
  Some (says_of (Some (e, form.Val)) n)

abbrev pub arith_says : Ann → Node → Op → Masks → Option Said
arith_says ann x o m = do
  vs ← two_types ann x.children
  if is_arithmetic o && both_read_as 1 vs then value_says 1 ann x m else None

abbrev pub compare_says : Ann → Node → Op → Masks → Option Said
compare_says ann x o m = do
  vs ← two_types ann x.children
  if is_comparison o && both_read_as 1 vs then value_says 2 ann x m else None

abbrev pub equal_says : Ann → Node → Op → Masks → Option Said
equal_says ann x o m = do
  vs ← two_types ann x.children
  if is_equality o && comparable vs then value_says 2 ann x m else None

abbrev pub join_says : Ann → Node → Op → Masks → Option Said
join_says ann x o m = do
  vs ← two_types ann x.children
  if is_add o && both_read_as 3 vs then value_says 3 ann x m else None

abbrev pub xor_says : Ann → Node → Op → Masks → Option Said
xor_says ann x o m = do
  vs ← two_types ann x.children
  if is_xor o && both_read_as 2 vs then value_says 2 ann x m else None

abbrev pub not_says : Ann → Node → Masks → Option Said
not_says ann x m = do
  c ← one_child x.children
  v ← type_of ann c
  if reads_as 2 v then value_says 2 ann x m else None

abbrev pub identity_says : Ann → Node → Masks → Option Said
identity_says ann x m = do
  vs ← two_types ann x.children
  value_says 2 ann x m

abbrev pub lazy_masks : Ann → List ℕ → Masks → Option Masks
lazy_masks ann cs m = do
  c ← two_children cs
  n ← through ann (c.0 ∷ []) m
  k ← through ann (c.1 ∷ []) n
  Some (meet_masks n k)

abbrev pub lazy_says : Ann → Node → Masks → Option Said
lazy_says ann x m = do
  vs ← two_types ann x.children
  n ← lazy_masks ann x.children m
  if both_read_as 2 vs then Some (says_of (Some (2, form.Val)) n) else None

-- ---- control

abbrev pub seq_says : CoreData → Ann → Node → Masks → Option Said
seq_says core ann x m = do
  c ← last_child x.children
  t ← slice_get ann.notes c
  n ← through ann x.children m
  Some (says_of t.ty (without_items core x.children n.0, n.1))

abbrev pub branch_masks : Ann → ℕ × ℕ × ℕ → Masks → Option Masks
branch_masks ann c m = do
  n ← through ann (c.0 ∷ []) m
  a ← through ann (c.1 ∷ []) n
  b ← through ann (c.2 ∷ []) n
  Some (meet_masks a b)

abbrev pub branch_types : Ann → ℕ × ℕ × ℕ → Option (Option Ty × Option Ty)
branch_types ann c = do
  a ← slice_get ann.notes c.1
  b ← slice_get ann.notes c.2
  Some (a.ty, b.ty)

abbrev pub if_says : CoreData → Ann → Node → Masks → Option Said
if_says core ann x m = do
  c ← three_children x.children
  n ← branch_masks ann c m
  ts ← branch_types ann c
  if is_condition (type_of ann c.0) then Some (says_of (joined core ts.0 ts.1) n) else None

abbrev pub loop_masks : Ann → ℕ × ℕ → Masks → Option Masks
loop_masks ann c m = do
  n ← through ann (c.0 ∷ []) m
  k ← through ann (c.1 ∷ []) n
  if within m.0 k.0 && same k.1 m.1 then Some n else None

abbrev pub while_says : Ann → Node → Masks → Option Said
while_says ann x m = do
  c ← two_children x.children
  n ← loop_masks ann c m
  if is_condition (type_of ann c.0) then Some (says_of (Some (0, form.Val)) n) else None

abbrev pub recover_says : Ann → Node → Option Cap → Masks → Option Said
recover_says ann x k m = do
  c ← one_child x.children
  v ← type_of ann c
  f ← recovered k v.1
  n ← through ann x.children m
  Some (says_of (Some (v.0, f)) n)

abbrev pub body_says : CoreData → Ann → Node → Masks → Option Said
body_says core ann x m = do
  f ← slice_get core.methods x.method
  c ← one_child x.children
  t ← slice_get ann.notes c
  n ← through ann x.children m
  if starts_method core f m && result_ok core f.kind f.result t.ty then Some (says_of None n) else None

-- ---- every rule

-- The conclusion of a rule for node x of an annotation, with these masks before it.
abbrev pub says : CoreData → Ann → Node → Masks → Rule → NodeKind → Option Said
says core ann x m rule.Number (node.Number v) = literal_says 1 m
says core ann x m rule.Truth (node.Truth v) = literal_says 2 m
says core ann x m rule.Text (node.Text v) = literal_says 3 m
says core ann x m rule.Prim (node.Prim e) = literal_says e m
says core ann x m rule.This node.This = this_says core ann x m
says core ann x m rule.Local (node.Local s) = local_says core ann x s m
says core ann x m rule.Consume (node.Consume s) = consume_says core ann x s m
says core ann x m rule.Get (node.Field name) = get_says core ann x name m
says core ann x m rule.GetOwn (node.Field name) = getown_says core ann x name m
says core ann x m rule.Put (node.SetField name) = put_says core ann x name m
says core ann x m rule.PutOwn (node.SetField name) = putown_says core ann x name m
says core ann x m rule.Define (node.Define s) = define_says core ann x s m
says core ann x m rule.Assign (node.Assign s) = assign_says core ann x s m
says core ann x m rule.New (node.New k) = new_says core ann x k m
says core ann x m rule.Spawn (node.Spawn k) = spawn_says core ann x k m
says core ann x m rule.Call (node.Call name) = call_says core ann x name m
says core ann x m rule.CallRecover (node.Call name) = callrecover_says core ann x name m
says core ann x m rule.Send (node.Call name) = send_says core ann x name m
says core ann x m rule.Builtin (node.Call name) = builtin_says core ann x name m
says core ann x m rule.Arith (node.Binary o) = arith_says ann x o m
says core ann x m rule.Compare (node.Binary o) = compare_says ann x o m
says core ann x m rule.Equal (node.Binary o) = equal_says ann x o m
says core ann x m rule.Join (node.Binary o) = join_says ann x o m
says core ann x m rule.Logic (node.Binary o) = xor_says ann x o m
says core ann x m rule.Logic node.Not = not_says ann x m
says core ann x m rule.Lazy node.And = lazy_says ann x m
says core ann x m rule.Lazy node.Or = lazy_says ann x m
says core ann x m rule.Identity (node.Same v) = identity_says ann x m
says core ann x m rule.Seq node.Seq = seq_says core ann x m
says core ann x m rule.If node.If = if_says core ann x m
says core ann x m rule.While node.While = while_says ann x m
says core ann x m rule.Recover (node.Recover k) = recover_says ann x k m
says core ann x m rule.Body node.Body = body_says core ann x m
says core ann x m r k = None

-- The note of node x is the conclusion of its rule.
abbrev pub IsSaid : CoreData → Ann → Node → Note → Type 0
IsSaid core ann x t = says core ann x (before t) t.rule x.kind ≡ Some (said_by t)

-- Reading an own field that is seen in this form.
abbrev pub own_seen : ℕ × FieldInfo → Form → Masks → Option Said
own_seen f s n = cond (has n.1 f.0) (Some (says_of (Some (f.1.entity, s)) n)) None
