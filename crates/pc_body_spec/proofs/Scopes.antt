-- An expression refers only to the locals before it.
use Rattle.std.proofs.{Common.{◌≡◌, ℕ, List, [], ◌∷◌, ◌++◌, Option, Some, None, Bool, true, false, refl, sym, subst, inl, inr, if◌then◌else◌}, lemmas.List.map_push, lemmas.Option.{same_Some, none-some}}
use Rattle.pc_base.specs.{declared.span.Span.Span, Lists.IsIn}
use Rattle.pc_tree.specs.{declared.kinds.Op.Op, declared.written_names.Name.Name}
use Rattle.pc_tree.specs.declared.kinds.Op.TheVariants as op
use Rattle.pc_tree.specs.Tree as t
use Rattle.pc_core.specs.declared.nodes.NodeKind.{NodeKind}
use Rattle.pc_core.specs.declared.nodes.NodeKind.TheVariants as node
use Rattle.pc_body_spec.specs.{Bodies.{Rose, Roses, rose, more, no_roses, one, and_last, two, three, value_then, use_other, joined_span, added_this, operation, read_field, read_name, write_name, new_object_rose, create_name, read_type, Start, with_method, with_type, with_value, chain_start, apply_primitive, apply, call_named, Use, read, write, use_field, if_of, arm_place, sequence, expr_of, assign_of, infix_of, operands_of, chain_of, named_of, roses_of_exprs, rose_of_arms, arm_of, other_of, whole_of, seq_of, roses_of_items, Context, Scope, Meaning, local, field, method, nothing, TypeMeaning, primitive, created, no_value, slot_named, resolve, type_meaning, constructor_named, deeper, defined_local, member, is_among_names, unless_local}, Parts.consumed, Visibility.{AsksVisible, ItemAsks, Scoped, AllScoped, ItemsScoped, slots}, Laws.IsScoped}
use Rattle.std.specs.Str.{bytes_eq}

slot_in : (sc : Scope) (name : List ℕ) (s : ℕ) → slot_named sc name ≡ Some s → IsIn s (slots sc)
slot_in [] name s h = absurd (none-some s h)
slot_in (v ∷ vs) name s h = by (bytes_eq v.name name) (slot_in vs name s) h
  where
    by : (b : Bool) → (slot_named vs name ≡ Some s → IsIn s (slots vs)) → (if b then Some v.slot else slot_named vs name) ≡ Some s → IsIn s (slots (v ∷ vs))
    by true rec h = inl (sym (same_Some _ _ h))
    by false rec h = inr (rec h)

-- What a meaning refers to is visible.
abbrev Meant : List ℕ → Meaning → Type 0
Meant vis (local x) = IsIn x vis
Meant vis m = Unit {0}

meant : (c : Context) (sc : Scope) (name : List ℕ) → Meant (slots sc) (resolve c sc name)
meant c sc name = by (slot_named sc name) refl
  where
    other : (a b : Bool) → Meant (slots sc) (member a b)
    other true b = tt
    other false true = tt
    other false false = tt

    by : (o : Option ℕ) → slot_named sc name ≡ o
        → Meant (slots sc) (unless_local o (member (is_among_names c.fields name) (is_among_names c.methods name)))
    by (Some s) h = slot_in sc name s h
    by None h = other (is_among_names c.fields name) (is_among_names c.methods name)

-- An item that defines nothing.
pub item_alone : (vis : List ℕ) (r : Rose) (rs : Roses) → Scoped vis r → ItemsScoped vis rs → ItemsScoped vis (more r rs)
item_alone vis (rose k s d cs) rs h g = by k h
  where
    by : (q : NodeKind) → AsksVisible q vis (AllScoped vis cs) (ItemsScoped vis cs) → ItemAsks q vis (AllScoped vis cs) (AsksVisible q vis (AllScoped vis cs) (ItemsScoped vis cs)) (λ v. ItemsScoped v rs)
    by (node.Define x) h = absurd h
    by q h = (h, g)

last_ok : (vis : List ℕ) (rs : Roses) (r : Rose) → AllScoped vis rs → Scoped vis r → AllScoped vis (and_last rs r)
last_ok vis no_roses r h g = (g, tt)
last_ok vis (more x xs) r h g = (h.0, last_ok vis xs r h.1 g)

pub sequence_ok : (vis : List ℕ) (s : Span) (d : ℕ) (rs : Roses) → ItemsScoped vis rs → Scoped vis (sequence s d rs)
sequence_ok vis s d no_roses h = (tt, tt)
sequence_ok vis s d (more r rs) h = h

operation_ok : (vis : List ℕ) (o : Op) (s : Span) (d : ℕ) (a b : Rose) → Scoped vis a → Scoped vis b → Scoped vis (rose (operation o) s d (two a b))
operation_ok vis op.Add s d a b h g = (h, (g, tt))
operation_ok vis o s d a b h g = (h, (g, tt))

read_name_ok : (vis : List ℕ) (c : Context) (n : Name) (d : ℕ) (m : Meaning) → Meant vis m → Scoped vis (read_name c n d m)
read_name_ok vis c n d (local x) h = (h, tt)
read_name_ok vis c n d field h = (tt, tt)
read_name_ok vis c n d method h = (tt, tt)
read_name_ok vis c n d nothing h = (tt, tt)

consumed_ok : (sc : Scope) (name : List ℕ) (s : Span) (d : ℕ) (o : Option ℕ) → slot_named sc name ≡ o → Scoped (slots sc) (consumed s d o)
consumed_ok sc name s d (Some x) h = (slot_in sc name x h, tt)
consumed_ok sc name s d None h = (tt, tt)

write_name_ok : (vis : List ℕ) (c : Context) (s : Span) (n : Name) (d : ℕ) (v : Rose) (m : Meaning) → Meant vis m → Scoped vis v → Scoped vis (write_name c s n d v m)
write_name_ok vis c s n d v (local x) h g = (h, (g, tt))
write_name_ok vis c s n d v field h g = (g, (tt, tt))
write_name_ok vis c s n d v method h g = (tt, tt)
write_name_ok vis c s n d v nothing h g = (tt, tt)

new_ok : (vis : List ℕ) (actor : Bool) (s : Span) (d : ℕ) (args : Roses) (o : Option ℕ) → AllScoped vis args → Scoped vis (new_object_rose actor s d args o)
new_ok vis true s d args (Some m) h = h
new_ok vis false s d args (Some m) h = h
new_ok vis true s d args None h = (tt, tt)
new_ok vis false s d args None h = (tt, tt)

read_type_ok : (vis : List ℕ) (n : Name) (d : ℕ) (m : TypeMeaning) → Scoped vis (read_type n d m)
read_type_ok vis n d (primitive e) = tt
read_type_ok vis n d (created actor cs) = new_ok vis actor n.span d no_roses (constructor_named cs create_name) tt
read_type_ok vis n d no_value = (tt, tt)

primitive_ok : (vis : List ℕ) (c : Context) (e : ℕ) (s : Span) (d : ℕ) (args : Roses) (r : Rose) → AllScoped vis args → Scoped vis r → Scoped vis (apply_primitive c e s d args r)
primitive_ok vis c e s d no_roses r h g = tt
primitive_ok vis c e s d (more x xs) r h g = last_ok vis (more x xs) r h g

apply_ok : (vis : List ℕ) (c : Context) (st : Start) (s : Span) (d : ℕ) (args : Roses) (r : Rose) → AllScoped vis args → Scoped vis r → Scoped vis (apply c st s d args r)
apply_ok vis c (with_method n) s d args r h g = last_ok vis args (added_this n d) h tt
apply_ok vis c (with_type (primitive e)) s d args r h g = primitive_ok vis c e s d args r h g
apply_ok vis c (with_type (created actor cs)) s d args r h g = new_ok vis actor s d args (constructor_named cs create_name) h
apply_ok vis c (with_type no_value) s d args r h g = last_ok vis args r h g
apply_ok vis c with_value s d args r h g = last_ok vis args r h g

call_named_ok : (vis : List ℕ) (c : Context) (st : Start) (s : Span) (n : Name) (d : ℕ) (args : Roses) (r : Rose) → AllScoped vis args → Scoped vis r → Scoped vis (call_named c st s n d args r)
call_named_ok vis c (with_method m) s n d args r h g = last_ok vis args r h g
call_named_ok vis c (with_type (primitive e)) s n d args r h g = last_ok vis args r h g
call_named_ok vis c (with_type (created actor cs)) s n d args r h g = new_ok vis actor s d args (constructor_named cs n.text) h
call_named_ok vis c (with_type no_value) s n d args r h g = last_ok vis args r h g
call_named_ok vis c with_value s n d args r h g = last_ok vis args r h g

-- The value that is assigned to the end of a chain.
abbrev UseScoped : List ℕ → Use → Type 0
UseScoped vis read = Unit {0}
UseScoped vis (write s v) = Scoped vis v

value_then_ok : (vis : List ℕ) (s : Span) (d : ℕ) (v r : Rose) → Scoped vis v → Scoped vis r → Scoped vis (value_then s d v r)
value_then_ok vis s d v r h g = item_alone vis v (one r) h (item_alone vis r no_roses g tt)

other_use_ok : (vis : List ℕ) (u : Use) (d : ℕ) (r : Rose) → UseScoped vis u → Scoped vis r → Scoped vis (use_other u d r)
other_use_ok vis read d r h g = g
other_use_ok vis (write whole v) d r h g = value_then_ok vis whole d v r h g

use_ok : (vis : List ℕ) (c : Context) (u : Use) (s : Span) (n : Name) (d : ℕ) (r : Rose) → UseScoped vis u → Scoped vis r → Scoped vis (use_field c u s n d r)
use_ok vis c read s n d r h g = (g, tt)
use_ok vis c (write whole v) s n d r h g = (h, (g, tt))

if_ok : (vis : List ℕ) (first : Bool) (s : Span) (d : ℕ) (a b r : Rose) → Scoped vis a → Scoped vis b → Scoped vis r → Scoped vis (if_of first s d (three a b r))
if_ok vis true s d a b r h g k = (h, (g, (k, tt)))
if_ok vis false s d a b r h g k = ((h, (g, (k, tt))), tt)

mutual
  pub expr_ok : (c : Context) (sc : Scope) (d : ℕ) (e : t.Expr) → Scoped (slots sc) (expr_of c sc d e)
  expr_ok c sc d (t.number n s) = tt
  expr_ok c sc d (t.truth b s) = tt
  expr_ok c sc d (t.text b s) = tt
  expr_ok c sc d (t.name n) = read_name_ok (slots sc) c n d (resolve c sc n.text) (meant c sc n.text)
  expr_ok c sc d (t.type_name n) = read_type_ok (slots sc) n d (type_meaning c n.text)
  expr_ok c sc d (t.this s) = tt
  expr_ok c sc d (t.consume n s) = consumed_ok sc n.text s d (slot_named sc n.text) refl
  expr_ok c sc d (t.not_ e s) = (expr_ok c sc d e, tt)
  expr_ok c sc d (t.infix_ o es s) = infix_ok c sc d o s es
  expr_ok c sc d (t.chain h ss s) = chain_ok c sc d s read (chain_start c sc h) (expr_of c sc d h) ss tt (expr_ok c sc d h)
  expr_ok c sc d (t.group b s) = seq_ok c sc d s b
  expr_ok c sc d (t.if_ as' o s) = arms_ok c sc d s true as' (other_of c sc d s o) (other_ok c sc d s o)
  expr_ok c sc d (t.while_ cond b s) = (whole_ok c sc d cond, (whole_ok c sc d b, tt))
  expr_ok c sc d (t.recover cap b s) = (whole_ok c sc (deeper d) b, tt)
  expr_ok c sc d (t.assign l r s) = assign_ok c sc d s (expr_of c sc d r) (expr_of c sc d l) l (expr_ok c sc d r) (expr_ok c sc d l)

  assign_ok : (c : Context) (sc : Scope) (d : ℕ) (s : Span) (v left : Rose) (l : t.Expr) → Scoped (slots sc) v → Scoped (slots sc) left → Scoped (slots sc) (assign_of c sc d s v left l)
  assign_ok c sc d s v left (t.name n) h g = write_name_ok (slots sc) c s n d v (resolve c sc n.text) (meant c sc n.text) h
  assign_ok c sc d s v left (t.chain e ss whole) h g = chain_ok c sc d whole (write s v) (chain_start c sc e) (expr_of c sc d e) ss h (expr_ok c sc d e)
  assign_ok c sc d s v left e h g = value_then_ok (slots sc) s d v left h g

  infix_ok : (c : Context) (sc : Scope) (d : ℕ) (o : Op) (s : Span) (es : t.Exprs) → Scoped (slots sc) (infix_of c sc d o s es)
  infix_ok c sc d o s t.no_exprs = tt
  infix_ok c sc d o s (t.expr e es) = operands_ok c sc d o s (expr_of c sc d e) es (expr_ok c sc d e)

  operands_ok : (c : Context) (sc : Scope) (d : ℕ) (o : Op) (s : Span) (left : Rose) (es : t.Exprs) → Scoped (slots sc) left → Scoped (slots sc) (operands_of c sc d o s left es)
  operands_ok c sc d o s left t.no_exprs h = h
  operands_ok c sc d o s left (t.expr e es) h = operands_ok c sc d o s (rose (operation o) (joined_span s (t.span_of e)) d (two left (expr_of c sc d e))) es (operation_ok (slots sc) o (joined_span s (t.span_of e)) d left (expr_of c sc d e) h (expr_ok c sc d e))

  chain_ok : (c : Context) (sc : Scope) (d : ℕ) (s : Span) (u : Use) (st : Start) (r : Rose) (ss : t.Suffixes) → UseScoped (slots sc) u → Scoped (slots sc) r → Scoped (slots sc) (chain_of c sc d s u st r ss)
  chain_ok c sc d s u st r t.no_suffixes h g = other_use_ok (slots sc) u d r h g
  chain_ok c sc d s u st r (t.suffix (t.dot n) ss) h g = named_ok c sc d s u st r n ss h g
  chain_ok c sc d s u st r (t.suffix (t.args es sp) ss) h g = chain_ok c sc d s u with_value (apply c st (joined_span s sp) d (roses_of_exprs c sc d es) r) ss h (apply_ok (slots sc) c st (joined_span s sp) d (roses_of_exprs c sc d es) r (exprs_ok c sc d es) g)

  named_ok : (c : Context) (sc : Scope) (d : ℕ) (s : Span) (u : Use) (st : Start) (r : Rose) (n : Name) (ss : t.Suffixes) → UseScoped (slots sc) u → Scoped (slots sc) r → Scoped (slots sc) (named_of c sc d s u st r n ss)
  named_ok c sc d s u st r n t.no_suffixes h g = use_ok (slots sc) c u (joined_span s n.span) n d r h g
  named_ok c sc d s u st r n (t.suffix (t.dot m) ss) h g = named_ok c sc d s u with_value (read_field c (joined_span s n.span) n d r) m ss h (g, tt)
  named_ok c sc d s u st r n (t.suffix (t.args es sp) ss) h g = chain_ok c sc d s u with_value (call_named c st (joined_span s sp) n d (roses_of_exprs c sc d es) r) ss h (call_named_ok (slots sc) c st (joined_span s sp) n d (roses_of_exprs c sc d es) r (exprs_ok c sc d es) g)

  exprs_ok : (c : Context) (sc : Scope) (d : ℕ) (es : t.Exprs) → AllScoped (slots sc) (roses_of_exprs c sc d es)
  exprs_ok c sc d t.no_exprs = tt
  exprs_ok c sc d (t.expr e es) = (expr_ok c sc d e, exprs_ok c sc d es)

  arms_ok : (c : Context) (sc : Scope) (d : ℕ) (s : Span) (first : Bool) (as' : t.Arms) (last : Rose) → Scoped (slots sc) last → Scoped (slots sc) (rose_of_arms c sc d s first as' last)
  arms_ok c sc d s first t.no_arms last h = h
  arms_ok c sc d s first (t.arm a as') last h = arm_ok c sc d s first a (rose_of_arms c sc d s false as' last) (arms_ok c sc d s false as' last h)

  arm_ok : (c : Context) (sc : Scope) (d : ℕ) (s : Span) (first : Bool) (a : t.Arm) (rest : Rose) → Scoped (slots sc) rest → Scoped (slots sc) (arm_of c sc d s first a rest)
  arm_ok c sc d s first (t.arm_of cond b sp) rest h = if_ok (slots sc) first (arm_place first s sp) d (whole_of c sc d cond) (whole_of c sc d b) rest (whole_ok c sc d cond) (whole_ok c sc d b) h

  other_ok : (c : Context) (sc : Scope) (d : ℕ) (s : Span) (o : t.Other) → Scoped (slots sc) (other_of c sc d s o)
  other_ok c sc d s t.no_other = (tt, tt)
  other_ok c sc d s (t.other b) = whole_ok c sc d b

  whole_ok : (c : Context) (sc : Scope) (d : ℕ) (b : t.Seq) → Scoped (slots sc) (whole_of c sc d b)
  whole_ok c sc d (t.seq is s) = sequence_ok (slots sc) s d (roses_of_items c sc d is) (items_ok c sc d is)

  seq_ok : (c : Context) (sc : Scope) (d : ℕ) (s : Span) (b : t.Seq) → Scoped (slots sc) (seq_of c sc d s b)
  seq_ok c sc d s (t.seq is sp) = sequence_ok (slots sc) s d (roses_of_items c sc d is) (items_ok c sc d is)

  pub items_ok : (c : Context) (sc : Scope) (d : ℕ) (is : t.Items) → ItemsScoped (slots sc) (roses_of_items c sc d is)
  items_ok c sc d t.no_items = tt
  items_ok c sc d (t.item (t.local fixed n ty e s) is) = ((expr_ok c sc d e, tt), subst (λ v. ItemsScoped v (roses_of_items c (sc ++ defined_local c n ∷ []) d is)) (map_push (λ v. v.slot) sc (defined_local c n)) (items_ok c (sc ++ defined_local c n ∷ []) d is))
  items_ok c sc d (t.item (t.plain e) is) = item_alone (slots sc) (expr_of c sc d e) (roses_of_items c sc d is) (expr_ok c sc d e) (items_ok c sc d is)

pub scoped : IsScoped
scoped = expr_ok
