-- Each node of an expression has as many children as its kind requires, at the required depths.
use Rattle.std.proofs.Common.{ℕ, ◌≤◌, List, Option, Some, None, Bool, true, false, refl, arith}
use Rattle.pc_base.specs.declared.span.Span.{Span}
use Rattle.pc_tree.specs.{declared.kinds.Op.Op, declared.written_names.Name.Name}
use Rattle.pc_tree.specs.declared.kinds.Op.TheVariants as op
use Rattle.pc_tree.specs.Tree as t
use Rattle.pc_body_spec.specs.{Bodies.{Rose, Roses, rose, more, no_roses, and_last, two, three, use_other, joined_span, added_this, operation, read_field, call, read_name, write_name, new_object_rose, create_name, read_type, Start, with_method, with_type, with_value, chain_start, apply_name, apply_primitive, apply, call_named, Use, read, write, use_field, if_of, arm_place, sequence, expr_of, assign_of, infix_of, operands_of, chain_of, named_of, roses_of_exprs, rose_of_arms, arm_of, other_of, whole_of, seq_of, roses_of_items, item_of, Context, Scope, Meaning, local, field, method, nothing, TypeMeaning, primitive, created, no_value, slot_named, resolve, type_meaning, constructor_named, scope_after, deeper}, Parts.consumed, Shapes.{count, Shaped, AllShaped}, Laws.IsShaped}

pub last_ok : (d : ℕ) (rs : Roses) (r : Rose) → AllShaped d rs → Shaped d r → AllShaped d (and_last rs r)
last_ok d no_roses r h g = (g, tt)
last_ok d (more x xs) r h g = (h.0, last_ok d xs r h.1 g)

last_some : (rs : Roses) (r : Rose) → 1 ≤ count (and_last rs r)
last_some no_roses r = omega arith
last_some (more x xs) r = omega arith

call_ok : (c : Context) (s : Span) (name : List ℕ) (d : ℕ) (args : Roses) (r : Rose) → AllShaped d args → Shaped d r → Shaped d (call c s name d args r)
call_ok c s name d args r h g = (refl, last_some args r, last_ok d args r h g)

pub sequence_ok : (s : Span) (d : ℕ) (rs : Roses) → AllShaped d rs → Shaped d (sequence s d rs)
sequence_ok s d no_roses h = (refl, omega arith, ((refl, refl, tt), tt))
sequence_ok s d (more r rs) h = (refl, omega arith, h)

operation_ok : (o : Op) (s : Span) (d : ℕ) (a b : Rose) → Shaped d a → Shaped d b → Shaped d (rose (operation o) s d (two a b))
operation_ok op.Add s d a b h g = (refl, refl, (h, (g, tt)))
operation_ok o s d a b h g = (refl, refl, (h, (g, tt)))

read_name_ok : (c : Context) (n : Name) (d : ℕ) (m : Meaning) → Shaped d (read_name c n d m)
read_name_ok c n d (local x) = (refl, refl, tt)
read_name_ok c n d field = (refl, refl, ((refl, refl, tt), tt))
read_name_ok c n d method = (refl, refl, ((refl, refl, tt), tt))
read_name_ok c n d nothing = (refl, refl, ((refl, refl, tt), tt))

consumed_ok : (s : Span) (d : ℕ) (o : Option ℕ) → Shaped d (consumed s d o)
consumed_ok s d (Some x) = (refl, refl, tt)
consumed_ok s d None = (refl, refl, ((refl, refl, tt), tt))

write_name_ok : (c : Context) (s : Span) (n : Name) (d : ℕ) (v : Rose) (m : Meaning) → Shaped d v → Shaped d (write_name c s n d v m)
write_name_ok c s n d v (local x) h = (refl, refl, (h, tt))
write_name_ok c s n d v field h = (refl, refl, (h, ((refl, refl, tt), tt)))
write_name_ok c s n d v method h = (refl, refl, ((refl, refl, tt), tt))
write_name_ok c s n d v nothing h = (refl, refl, ((refl, refl, tt), tt))

new_ok : (actor : Bool) (s : Span) (d : ℕ) (args : Roses) (o : Option ℕ) → AllShaped d args → Shaped d (new_object_rose actor s d args o)
new_ok true s d args (Some m) h = (refl, tt, h)
new_ok false s d args (Some m) h = (refl, tt, h)
new_ok true s d args None h = (refl, refl, ((refl, refl, tt), tt))
new_ok false s d args None h = (refl, refl, ((refl, refl, tt), tt))

read_type_ok : (n : Name) (d : ℕ) (m : TypeMeaning) → Shaped d (read_type n d m)
read_type_ok n d (primitive e) = (refl, refl, tt)
read_type_ok n d (created actor cs) = new_ok actor n.span d no_roses (constructor_named cs create_name) tt
read_type_ok n d no_value = (refl, refl, ((refl, refl, tt), tt))

primitive_ok : (c : Context) (e : ℕ) (s : Span) (d : ℕ) (args : Roses) (r : Rose) → AllShaped d args → Shaped d r → Shaped d (apply_primitive c e s d args r)
primitive_ok c e s d no_roses r h g = (refl, refl, tt)
primitive_ok c e s d (more x xs) r h g = call_ok c s apply_name d (more x xs) r h g

apply_ok : (c : Context) (st : Start) (s : Span) (d : ℕ) (args : Roses) (r : Rose) → AllShaped d args → Shaped d r → Shaped d (apply c st s d args r)
apply_ok c (with_method n) s d args r h g = call_ok c s n.text d args (added_this n d) h (refl, refl, tt)
apply_ok c (with_type (primitive e)) s d args r h g = primitive_ok c e s d args r h g
apply_ok c (with_type (created actor cs)) s d args r h g = new_ok actor s d args (constructor_named cs create_name) h
apply_ok c (with_type no_value) s d args r h g = call_ok c s apply_name d args r h g
apply_ok c with_value s d args r h g = call_ok c s apply_name d args r h g

call_named_ok : (c : Context) (st : Start) (s : Span) (n : Name) (d : ℕ) (args : Roses) (r : Rose) → AllShaped d args → Shaped d r → Shaped d (call_named c st s n d args r)
call_named_ok c (with_method m) s n d args r h g = call_ok c s n.text d args r h g
call_named_ok c (with_type (primitive e)) s n d args r h g = call_ok c s n.text d args r h g
call_named_ok c (with_type (created actor cs)) s n d args r h g = new_ok actor s d args (constructor_named cs n.text) h
call_named_ok c (with_type no_value) s n d args r h g = call_ok c s n.text d args r h g
call_named_ok c with_value s n d args r h g = call_ok c s n.text d args r h g

-- The value that is assigned to the end of a chain.
abbrev UseShaped : ℕ → Use → Type 0
UseShaped d read = Unit {0}
UseShaped d (write s v) = Shaped d v

other_use_ok : (u : Use) (d : ℕ) (r : Rose) → UseShaped d u → Shaped d r → Shaped d (use_other u d r)
other_use_ok read d r h g = g
other_use_ok (write whole v) d r h g = (refl, omega arith, (h, (g, tt)))

use_ok : (c : Context) (u : Use) (s : Span) (n : Name) (d : ℕ) (r : Rose) → UseShaped d u → Shaped d r → Shaped d (use_field c u s n d r)
use_ok c read s n d r h g = (refl, refl, (g, tt))
use_ok c (write whole v) s n d r h g = (refl, refl, (h, (g, tt)))

if_ok : (first : Bool) (s : Span) (d : ℕ) (a b r : Rose) → Shaped d a → Shaped d b → Shaped d r → Shaped d (if_of first s d (three a b r))
if_ok true s d a b r h g k = (refl, refl, (h, (g, (k, tt))))
if_ok false s d a b r h g k = (refl, omega arith, ((refl, refl, (h, (g, (k, tt)))), tt))

mutual
  pub expr_ok : (c : Context) (sc : Scope) (d : ℕ) (e : t.Expr) → Shaped d (expr_of c sc d e)
  expr_ok c sc d (t.number n s) = (refl, refl, tt)
  expr_ok c sc d (t.truth b s) = (refl, refl, tt)
  expr_ok c sc d (t.text b s) = (refl, refl, tt)
  expr_ok c sc d (t.name n) = read_name_ok c n d (resolve c sc n.text)
  expr_ok c sc d (t.type_name n) = read_type_ok n d (type_meaning c n.text)
  expr_ok c sc d (t.this s) = (refl, refl, tt)
  expr_ok c sc d (t.consume n s) = consumed_ok s d (slot_named sc n.text)
  expr_ok c sc d (t.not_ e s) = (refl, refl, (expr_ok c sc d e, tt))
  expr_ok c sc d (t.infix_ o es s) = infix_ok c sc d o s es
  expr_ok c sc d (t.chain h ss s) = chain_ok c sc d s read (chain_start c sc h) (expr_of c sc d h) ss tt (expr_ok c sc d h)
  expr_ok c sc d (t.group b s) = seq_ok c sc d s b
  expr_ok c sc d (t.if_ as' o s) = arms_ok c sc d s true as' (other_of c sc d s o) (other_ok c sc d s o)
  expr_ok c sc d (t.while_ cond b s) = (refl, refl, (whole_ok c sc d cond, (whole_ok c sc d b, tt)))
  expr_ok c sc d (t.recover cap b s) = (refl, refl, (whole_ok c sc (deeper d) b, tt))
  expr_ok c sc d (t.assign l r s) = assign_ok c sc d s (expr_of c sc d r) (expr_of c sc d l) l (expr_ok c sc d r) (expr_ok c sc d l)

  assign_ok : (c : Context) (sc : Scope) (d : ℕ) (s : Span) (v left : Rose) (l : t.Expr) → Shaped d v → Shaped d left → Shaped d (assign_of c sc d s v left l)
  assign_ok c sc d s v left (t.name n) h g = write_name_ok c s n d v (resolve c sc n.text) h
  assign_ok c sc d s v left (t.chain e ss whole) h g = chain_ok c sc d whole (write s v) (chain_start c sc e) (expr_of c sc d e) ss h (expr_ok c sc d e)
  assign_ok c sc d s v left e h g = (refl, omega arith, (h, (g, tt)))

  infix_ok : (c : Context) (sc : Scope) (d : ℕ) (o : Op) (s : Span) (es : t.Exprs) → Shaped d (infix_of c sc d o s es)
  infix_ok c sc d o s t.no_exprs = (refl, refl, tt)
  infix_ok c sc d o s (t.expr e es) = operands_ok c sc d o s (expr_of c sc d e) es (expr_ok c sc d e)

  operands_ok : (c : Context) (sc : Scope) (d : ℕ) (o : Op) (s : Span) (left : Rose) (es : t.Exprs) → Shaped d left → Shaped d (operands_of c sc d o s left es)
  operands_ok c sc d o s left t.no_exprs h = h
  operands_ok c sc d o s left (t.expr e es) h = operands_ok c sc d o s (rose (operation o) (joined_span s (t.span_of e)) d (two left (expr_of c sc d e))) es (operation_ok o (joined_span s (t.span_of e)) d left (expr_of c sc d e) h (expr_ok c sc d e))

  chain_ok : (c : Context) (sc : Scope) (d : ℕ) (s : Span) (u : Use) (st : Start) (r : Rose) (ss : t.Suffixes) → UseShaped d u → Shaped d r → Shaped d (chain_of c sc d s u st r ss)
  chain_ok c sc d s u st r t.no_suffixes h g = other_use_ok u d r h g
  chain_ok c sc d s u st r (t.suffix (t.dot n) ss) h g = named_ok c sc d s u st r n ss h g
  chain_ok c sc d s u st r (t.suffix (t.args es sp) ss) h g = chain_ok c sc d s u with_value (apply c st (joined_span s sp) d (roses_of_exprs c sc d es) r) ss h (apply_ok c st (joined_span s sp) d (roses_of_exprs c sc d es) r (exprs_ok c sc d es) g)

  named_ok : (c : Context) (sc : Scope) (d : ℕ) (s : Span) (u : Use) (st : Start) (r : Rose) (n : Name) (ss : t.Suffixes) → UseShaped d u → Shaped d r → Shaped d (named_of c sc d s u st r n ss)
  named_ok c sc d s u st r n t.no_suffixes h g = use_ok c u (joined_span s n.span) n d r h g
  named_ok c sc d s u st r n (t.suffix (t.dot m) ss) h g =
      named_ok c sc d s u with_value (read_field c (joined_span s n.span) n d r) m ss h (refl, refl, (g, tt))
  named_ok c sc d s u st r n (t.suffix (t.args es sp) ss) h g = chain_ok c sc d s u with_value (call_named c st (joined_span s sp) n d (roses_of_exprs c sc d es) r) ss h (call_named_ok c st (joined_span s sp) n d (roses_of_exprs c sc d es) r (exprs_ok c sc d es) g)

  exprs_ok : (c : Context) (sc : Scope) (d : ℕ) (es : t.Exprs) → AllShaped d (roses_of_exprs c sc d es)
  exprs_ok c sc d t.no_exprs = tt
  exprs_ok c sc d (t.expr e es) = (expr_ok c sc d e, exprs_ok c sc d es)

  arms_ok : (c : Context) (sc : Scope) (d : ℕ) (s : Span) (first : Bool) (as' : t.Arms) (last : Rose) → Shaped d last → Shaped d (rose_of_arms c sc d s first as' last)
  arms_ok c sc d s first t.no_arms last h = h
  arms_ok c sc d s first (t.arm a as') last h = arm_ok c sc d s first a (rose_of_arms c sc d s false as' last) (arms_ok c sc d s false as' last h)

  arm_ok : (c : Context) (sc : Scope) (d : ℕ) (s : Span) (first : Bool) (a : t.Arm) (rest : Rose) → Shaped d rest → Shaped d (arm_of c sc d s first a rest)
  arm_ok c sc d s first (t.arm_of cond b sp) rest h = if_ok first (arm_place first s sp) d (whole_of c sc d cond) (whole_of c sc d b) rest (whole_ok c sc d cond) (whole_ok c sc d b) h

  other_ok : (c : Context) (sc : Scope) (d : ℕ) (s : Span) (o : t.Other) → Shaped d (other_of c sc d s o)
  other_ok c sc d s t.no_other = (refl, omega arith, ((refl, refl, tt), tt))
  other_ok c sc d s (t.other b) = whole_ok c sc d b

  whole_ok : (c : Context) (sc : Scope) (d : ℕ) (b : t.Seq) → Shaped d (whole_of c sc d b)
  whole_ok c sc d (t.seq is s) = sequence_ok s d (roses_of_items c sc d is) (items_ok c sc d is)

  seq_ok : (c : Context) (sc : Scope) (d : ℕ) (s : Span) (b : t.Seq) → Shaped d (seq_of c sc d s b)
  seq_ok c sc d s (t.seq is sp) = sequence_ok s d (roses_of_items c sc d is) (items_ok c sc d is)

  pub items_ok : (c : Context) (sc : Scope) (d : ℕ) (is : t.Items) → AllShaped d (roses_of_items c sc d is)
  items_ok c sc d t.no_items = tt
  items_ok c sc d (t.item i is) = (item_ok c sc d i, items_ok c (scope_after c sc i) d is)

  item_ok : (c : Context) (sc : Scope) (d : ℕ) (i : t.Item) → Shaped d (item_of c sc d i)
  item_ok c sc d (t.local fixed n ty e s) = (refl, refl, (expr_ok c sc d e, tt))
  item_ok c sc d (t.plain e) = expr_ok c sc d e

pub shaped : IsShaped
shaped = expr_ok
