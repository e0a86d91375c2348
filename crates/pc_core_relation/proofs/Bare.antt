-- Two contexts in which the same names mean the same, up to numbers, give a body the same number of nodes.
use Rattle.std.proofs.Common.{◌≡◌, ℕ, suc, ◌+◌, List, [], ◌∷◌, Option, Some, None, Bool, true, false, refl, ap, ap₂, ◌∙◌, sym}
use Rattle.std.specs.Option.{option_map_or}
use Rattle.pc_base.specs.declared.span.Span.{Span}
use Rattle.pc_tree.specs.{declared.kinds.Op.Op, declared.written_names.Name.Name}
use Rattle.pc_tree.specs.Tree as t
use Rattle.pc_core.specs.declared.nodes.NodeKind.TheVariants as node
use Rattle.pc_body_spec.specs.{Bodies.{Context, Scope, Meaning, local, field, method, nothing, TypeMeaning, primitive, created, no_value, slot_named, resolve, type_meaning, constructor_named, scope_after, deeper, params_scope, Rose, Roses, rose, more, no_roses, leaf, one, two, three, and_last, joined_span, added_this, operation, read_field, write_field, call, read_name, write_name, new_object_rose, create_name, read_type, Start, with_method, with_type, with_value, chain_start, apply_name, apply_primitive, apply, call_named, Use, read, write, use_field, use_other, if_of, arm_place, added_none, or_added_none, sequence, expr_of, assign_of, infix_of, operands_of, chain_of, named_of, roses_of_exprs, rose_of_arms, arm_of, other_of, whole_of, seq_of, roses_of_items, item_of, initials_then, initial_fields, gives_none, none_last, body_around, body_with, body_of}, Parts.{consumed, initial_of, maybe_body}}
use Rattle.pc_core_relation.specs.MemberFaults.{node_count, nodes_count}
use Rattle.pc_core_relation.proofs.Alike.{Paired, both, neither, paired_same, SameNames, same_scope, next_scope, MeaningsMatch, locals, same_meaning, TypesMatch, makers, same_type, StartsMatch, makers_start, same_start, Alike, resolves, starts}

-- ---- roses without what their nodes are

abbrev mutual
  pub bare : Rose → Rose
  bare (rose k s d rs) = rose node.This s d (bares rs)

  pub bares : Roses → Roses
  bares no_roses = no_roses
  bares (more r rs) = more (bare r) (bares rs)

mutual
  bare_count : (r : Rose) → node_count (bare r) ≡ node_count r
  bare_count (rose k s d rs) = ap suc (bares_count rs)

  bares_count : (rs : Roses) → nodes_count (bares rs) ≡ nodes_count rs
  bares_count no_roses = refl
  bares_count (more r rs) = ap₂ (λ a b. a + b) (bare_count r) (bares_count rs)

pub count_same : (a b : Rose) → bare a ≡ bare b → node_count a ≡ node_count b
count_same a b p = sym (bare_count a) ∙ ap node_count p ∙ bare_count b

bares_last : (rs : Roses) (r : Rose) → bares (and_last rs r) ≡ and_last (bares rs) (bare r)
bares_last no_roses r = refl
bares_last (more x xs) r = ap (λ ys. more (bare x) ys) (bares_last xs r)

last_same : (us bs : Roses) (a b : Rose) → bares us ≡ bares bs → bare a ≡ bare b → bares (and_last us a) ≡ bares (and_last bs b)
last_same us bs a b q p = bares_last us a ∙ ap₂ (λ u v. and_last u v) q p ∙ sym (bares_last bs b)

one_same : (s : Span) (d : ℕ) (a b : Rose) → bare a ≡ bare b → rose node.This s d (one (bare a)) ≡ rose node.This s d (one (bare b))
one_same s d a b p = ap (λ x. rose node.This s d (one x)) p

two_same : (s : Span) (d : ℕ) (a b u v : Rose) → bare a ≡ bare b → bare u ≡ bare v → rose node.This s d (two (bare a) (bare u)) ≡ rose node.This s d (two (bare b) (bare v))
two_same s d a b u v p q = ap₂ (λ x y. rose node.This s d (two x y)) p q

-- ---- leaves, calls and fields

name_bare : (c d : Context) (n : Name) (k : ℕ) (x y : Meaning) → MeaningsMatch x y → bare (read_name c n k x) ≡ bare (read_name d n k y)
name_bare c d n k _ _ (locals a b) = refl
name_bare c d n k _ _ (same_meaning m) = by m
  where
    by : (m : Meaning) → bare (read_name c n k m) ≡ bare (read_name d n k m)
    by (local x) = refl
    by field = refl
    by method = refl
    by nothing = refl

consumed_bare : (s : Span) (k : ℕ) (o p : Option ℕ) → Paired o p → bare (consumed s k o) ≡ bare (consumed s k p)
consumed_bare s k _ _ (both a b) = refl
consumed_bare s k _ _ neither = refl

write_bare : (c d : Context) (s : Span) (n : Name) (k : ℕ) (v w a b : Rose) → bare v ≡ bare w → bare a ≡ bare b → bare (write_field c s n k v a) ≡ bare (write_field d s n k w b)
write_bare c d s n k v w a b p q = two_same s k v w a b p q

write_name_bare : (c d : Context) (s : Span) (n : Name) (k : ℕ) (v w : Rose) → bare v ≡ bare w → (x y : Meaning) → MeaningsMatch x y → bare (write_name c s n k v x) ≡ bare (write_name d s n k w y)
write_name_bare c d s n k v w p _ _ (locals a b) = one_same s k v w p
write_name_bare c d s n k v w p _ _ (same_meaning m) = by m
  where
    by : (m : Meaning) → bare (write_name c s n k v m) ≡ bare (write_name d s n k w m)
    by (local x) = one_same s k v w p
    by field = write_bare c d s n k v w (added_this n k) (added_this n k) p refl
    by method = refl
    by nothing = refl

new_bare : (actor : Bool) (s : Span) (k : ℕ) (us bs : Roses) → bares us ≡ bares bs → (o p : Option ℕ) → Paired o p → bare (new_object_rose actor s k us o) ≡ bare (new_object_rose actor s k bs p)
new_bare true s k us bs q _ _ (both a b) = ap (λ xs. rose node.This s k xs) q
new_bare false s k us bs q _ _ (both a b) = ap (λ xs. rose node.This s k xs) q
new_bare true s k us bs q _ _ neither = refl
new_bare false s k us bs q _ _ neither = refl

type_bare : (n : Name) (k : ℕ) (x y : TypeMeaning) → TypesMatch x y → bare (read_type n k x) ≡ bare (read_type n k y)
type_bare n k _ _ (makers actor cs ds h) = new_bare actor n.span k no_roses no_roses refl (constructor_named cs create_name) (constructor_named ds create_name) (h create_name)
type_bare n k _ _ (same_type m) = refl

call_bare : (c d : Context) (s : Span) (x : List ℕ) (k : ℕ) (us bs : Roses) → bares us ≡ bares bs → (a b : Rose) → bare a ≡ bare b → bare (call c s x k us a) ≡ bare (call d s x k bs b)
call_bare c d s x k us bs q a b p = ap (λ xs. rose node.This s k xs) (last_same us bs a b q p)

-- The name of a primitive before arguments.
abbrev primitive_bare : Span → ℕ → Roses → Rose → Rose
primitive_bare s k no_roses a = rose node.This s k no_roses
primitive_bare s k (more x xs) a = rose node.This s k (and_last (more x xs) a)

primitive_is : (c : Context) (e : ℕ) (s : Span) (k : ℕ) (us : Roses) (a : Rose) → bare (apply_primitive c e s k us a) ≡ primitive_bare s k (bares us) (bare a)
primitive_is c e s k no_roses a = refl
primitive_is c e s k (more x xs) a = ap (λ ys. rose node.This s k ys) (bares_last (more x xs) a)

apply_bare : (c d : Context) (st u : Start) → StartsMatch st u → (s : Span) (k : ℕ) (us bs : Roses) → bares us ≡ bares bs → (a b : Rose) → bare a ≡ bare b → bare (apply c st s k us a) ≡ bare (apply d u s k bs b)
apply_bare c d _ _ (makers_start actor cs ds h) s k us bs q a b p = new_bare actor s k us bs q (constructor_named cs create_name) (constructor_named ds create_name) (h create_name)
apply_bare c d _ _ (same_start st) s k us bs q a b p = by st
  where
    by : (st : Start) → bare (apply c st s k us a) ≡ bare (apply d st s k bs b)
    by (with_method n) = call_bare c d s n.text k us bs q (added_this n k) (added_this n k) refl
    by (with_type (primitive e)) = primitive_is c e s k us a ∙ ap₂ (λ u v. primitive_bare s k u v) q p ∙ sym (primitive_is d e s k bs b)
    by (with_type (created actor cs)) = new_bare actor s k us bs q (constructor_named cs create_name) (constructor_named cs create_name) (paired_same (constructor_named cs create_name))
    by (with_type no_value) = call_bare c d s apply_name k us bs q a b p
    by with_value = call_bare c d s apply_name k us bs q a b p

named_bare : (c d : Context) (st u : Start) → StartsMatch st u → (s : Span) (n : Name) (k : ℕ) (us bs : Roses) → bares us ≡ bares bs → (a b : Rose) → bare a ≡ bare b → bare (call_named c st s n k us a) ≡ bare (call_named d u s n k bs b)
named_bare c d _ _ (makers_start actor cs ds h) s n k us bs q a b p = new_bare actor s k us bs q (constructor_named cs n.text) (constructor_named ds n.text) (h n.text)
named_bare c d _ _ (same_start st) s n k us bs q a b p = by st
  where
    by : (st : Start) → bare (call_named c st s n k us a) ≡ bare (call_named d st s n k bs b)
    by (with_method x) = call_bare c d s n.text k us bs q a b p
    by (with_type (primitive e)) = call_bare c d s n.text k us bs q a b p
    by (with_type (created actor cs)) = new_bare actor s k us bs q (constructor_named cs n.text) (constructor_named cs n.text) (paired_same (constructor_named cs n.text))
    by (with_type no_value) = call_bare c d s n.text k us bs q a b p
    by with_value = call_bare c d s n.text k us bs q a b p

-- ---- what is done with the end of a chain

data UsesMatch : Use → Use → Type 0 where
  reads : UsesMatch read read
  writes : (s : Span) (v w : Rose) → bare v ≡ bare w → UsesMatch (write s v) (write s w)

field_bare : (c d : Context) (u v : Use) → UsesMatch u v → (s : Span) (n : Name) (k : ℕ) (a b : Rose) → bare a ≡ bare b → bare (use_field c u s n k a) ≡ bare (use_field d v s n k b)
field_bare c d _ _ reads s n k a b p = one_same s k a b p
field_bare c d _ _ (writes whole v w q) s n k a b p = write_bare c d whole n k v w a b q p

other_bare : (u v : Use) → UsesMatch u v → (k : ℕ) (a b : Rose) → bare a ≡ bare b → bare (use_other u k a) ≡ bare (use_other v k b)
other_bare _ _ reads k a b p = p
other_bare _ _ (writes whole v w q) k a b p = two_same whole k v w a b q p

-- ---- sequences and arms

abbrev filled : Span → ℕ → Roses → Roses
filled s k no_roses = one (leaf node.This s k)
filled s k (more r rs) = more r rs

filled_is : (s : Span) (k : ℕ) (rs : Roses) → bares (or_added_none s k rs) ≡ filled s k (bares rs)
filled_is s k no_roses = refl
filled_is s k (more r rs) = refl

sequence_bare : (s : Span) (k : ℕ) (us bs : Roses) → bares us ≡ bares bs → bare (sequence s k us) ≡ bare (sequence s k bs)
sequence_bare s k us bs q = ap (λ xs. rose node.This s k xs) (filled_is s k us ∙ ap (filled s k) q ∙ sym (filled_is s k bs))

abbrev if_bare : Bool → Span → ℕ → Roses → Rose
if_bare true s k parts = rose node.This s k parts
if_bare false s k parts = rose node.This s k (one (rose node.This s k parts))

if_is : (first : Bool) (s : Span) (k : ℕ) (parts : Roses) → bare (if_of first s k parts) ≡ if_bare first s k (bares parts)
if_is true s k parts = refl
if_is false s k parts = refl

arm_bare : (first : Bool) (s : Span) (k : ℕ) (a b u v x y : Rose) → bare a ≡ bare b → bare u ≡ bare v → bare x ≡ bare y → bare (if_of first s k (three a u x)) ≡ bare (if_of first s k (three b v y))
arm_bare first s k a b u v x y p q r =
    if_is first s k (three a u x)
    ∙ ap₂ (λ l m. if_bare first s k (more l m)) p (ap₂ (λ l m. more l (one m)) q r)
    ∙ sym (if_is first s k (three b v y))

more_bare : (a b : Rose) (us bs : Roses) → bare a ≡ bare b → bares us ≡ bares bs → bares (more a us) ≡ bares (more b bs)
more_bare a b us bs p q = ap₂ (λ x xs. more x xs) p q

-- ---- bodies

module _ (c d : Context) (like : Alike c d) where
  mutual
    expr_bare : (sc z : Scope) → SameNames sc z → (k : ℕ) (e : t.Expr) → bare (expr_of c sc k e) ≡ bare (expr_of d z k e)
    expr_bare sc z h k (t.number n s) = refl
    expr_bare sc z h k (t.truth b s) = refl
    expr_bare sc z h k (t.text b s) = refl
    expr_bare sc z h k (t.name n) = name_bare c d n k (resolve c sc n.text) (resolve d z n.text) (resolves c d like sc z h n.text)
    expr_bare sc z h k (t.type_name n) = type_bare n k (type_meaning c n.text) (type_meaning d n.text) (like.types n.text)
    expr_bare sc z h k (t.this s) = refl
    expr_bare sc z h k (t.consume n s) = consumed_bare s k (slot_named sc n.text) (slot_named z n.text) (h n.text)
    expr_bare sc z h k (t.not_ e s) = one_same s k (expr_of c sc k e) (expr_of d z k e) (expr_bare sc z h k e)
    expr_bare sc z h k (t.infix_ o es s) = infix_bare sc z h k o s es
    expr_bare sc z h k (t.chain e ss s) =
        chain_bare sc z h k s read read reads (chain_start c sc e) (chain_start d z e) (starts c d like sc z h e) (expr_of c sc k e) (expr_of d z k e) (expr_bare sc z h k e) ss
    expr_bare sc z h k (t.group b s) = seq_bare sc z h k s b
    expr_bare sc z h k (t.if_ as' o s) = arms_bare sc z h k s true as' (other_of c sc k s o) (other_of d z k s o) (else_bare sc z h k s o)
    expr_bare sc z h k (t.while_ cond b s) = two_same s k (whole_of c sc k cond) (whole_of d z k cond) (whole_of c sc k b) (whole_of d z k b) (whole_bare sc z h k cond) (whole_bare sc z h k b)
    expr_bare sc z h k (t.recover x b s) = one_same s k (whole_of c sc (deeper k) b) (whole_of d z (deeper k) b) (whole_bare sc z h (deeper k) b)
    expr_bare sc z h k (t.assign l r s) =
        assign_bare sc z h k s (expr_of c sc k r) (expr_of d z k r) (expr_bare sc z h k r) (expr_of c sc k l) (expr_of d z k l) (expr_bare sc z h k l) l

    assign_bare : (sc z : Scope) → SameNames sc z → (k : ℕ) (s : Span) (v w : Rose) → bare v ≡ bare w → (a b : Rose) → bare a ≡ bare b → (l : t.Expr)
        → bare (assign_of c sc k s v a l) ≡ bare (assign_of d z k s w b l)
    assign_bare sc z h k s v w p a b q (t.name n) = write_name_bare c d s n k v w p (resolve c sc n.text) (resolve d z n.text) (resolves c d like sc z h n.text)
    assign_bare sc z h k s v w p a b q (t.chain e ss whole) =
        chain_bare sc z h k whole (write s v) (write s w) (writes s v w p) (chain_start c sc e) (chain_start d z e) (starts c d like sc z h e) (expr_of c sc k e) (expr_of d z k e) (expr_bare sc z h k e) ss
    assign_bare sc z h k s v w p a b q e = two_same s k v w a b p q

    infix_bare : (sc z : Scope) → SameNames sc z → (k : ℕ) (o : Op) (s : Span) (es : t.Exprs) → bare (infix_of c sc k o s es) ≡ bare (infix_of d z k o s es)
    infix_bare sc z h k o s t.no_exprs = refl
    infix_bare sc z h k o s (t.expr e es) = operands_bare sc z h k o s (expr_of c sc k e) (expr_of d z k e) (expr_bare sc z h k e) es

    operands_bare : (sc z : Scope) → SameNames sc z → (k : ℕ) (o : Op) (s : Span) (a b : Rose) → bare a ≡ bare b → (es : t.Exprs) → bare (operands_of c sc k o s a es) ≡ bare (operands_of d z k o s b es)
    operands_bare sc z h k o s a b p t.no_exprs = p
    operands_bare sc z h k o s a b p (t.expr e es) =
        operands_bare sc z h k o s (rose (operation o) (joined_span s (t.span_of e)) k (two a (expr_of c sc k e))) (rose (operation o) (joined_span s (t.span_of e)) k (two b (expr_of d z k e)))
        (two_same (joined_span s (t.span_of e)) k a b (expr_of c sc k e) (expr_of d z k e) p (expr_bare sc z h k e)) es

    chain_bare : (sc z : Scope) → SameNames sc z → (k : ℕ) (s : Span) (u v : Use) → UsesMatch u v → (st y : Start) → StartsMatch st y → (a b : Rose) → bare a ≡ bare b → (ss : t.Suffixes)
        → bare (chain_of c sc k s u st a ss) ≡ bare (chain_of d z k s v y b ss)
    chain_bare sc z h k s u v m st y g a b p t.no_suffixes = other_bare u v m k a b p
    chain_bare sc z h k s u v m st y g a b p (t.suffix (t.dot n) ss) = dotted_bare sc z h k s u v m st y g a b p n ss
    chain_bare sc z h k s u v m st y g a b p (t.suffix (t.args es sp) ss) =
        chain_bare sc z h k s u v m with_value with_value (same_start with_value)
        (apply c st (joined_span s sp) k (roses_of_exprs c sc k es) a) (apply d y (joined_span s sp) k (roses_of_exprs d z k es) b)
        (apply_bare c d st y g (joined_span s sp) k (roses_of_exprs c sc k es) (roses_of_exprs d z k es) (exprs_bare sc z h k es) a b p) ss

    dotted_bare : (sc z : Scope) → SameNames sc z → (k : ℕ) (s : Span) (u v : Use) → UsesMatch u v → (st y : Start) → StartsMatch st y → (a b : Rose) → bare a ≡ bare b → (n : Name) (ss : t.Suffixes)
        → bare (named_of c sc k s u st a n ss) ≡ bare (named_of d z k s v y b n ss)
    dotted_bare sc z h k s u v m st y g a b p n t.no_suffixes = field_bare c d u v m (joined_span s n.span) n k a b p
    dotted_bare sc z h k s u v m st y g a b p n (t.suffix (t.dot x) ss) =
        dotted_bare sc z h k s u v m with_value with_value (same_start with_value) (read_field c (joined_span s n.span) n k a) (read_field d (joined_span s n.span) n k b)
        (one_same (joined_span s n.span) k a b p) x ss
    dotted_bare sc z h k s u v m st y g a b p n (t.suffix (t.args es sp) ss) =
        chain_bare sc z h k s u v m with_value with_value (same_start with_value)
        (call_named c st (joined_span s sp) n k (roses_of_exprs c sc k es) a) (call_named d y (joined_span s sp) n k (roses_of_exprs d z k es) b)
        (named_bare c d st y g (joined_span s sp) n k (roses_of_exprs c sc k es) (roses_of_exprs d z k es) (exprs_bare sc z h k es) a b p) ss

    exprs_bare : (sc z : Scope) → SameNames sc z → (k : ℕ) (es : t.Exprs) → bares (roses_of_exprs c sc k es) ≡ bares (roses_of_exprs d z k es)
    exprs_bare sc z h k t.no_exprs = refl
    exprs_bare sc z h k (t.expr e es) = more_bare (expr_of c sc k e) (expr_of d z k e) (roses_of_exprs c sc k es) (roses_of_exprs d z k es) (expr_bare sc z h k e) (exprs_bare sc z h k es)

    arms_bare : (sc z : Scope) → SameNames sc z → (k : ℕ) (s : Span) (first : Bool) (as' : t.Arms) (a b : Rose) → bare a ≡ bare b → bare (rose_of_arms c sc k s first as' a) ≡ bare (rose_of_arms d z k s first as' b)
    arms_bare sc z h k s first t.no_arms a b p = p
    arms_bare sc z h k s first (t.arm x as') a b p = one_arm_bare sc z h k s first x (rose_of_arms c sc k s false as' a) (rose_of_arms d z k s false as' b) (arms_bare sc z h k s false as' a b p)

    one_arm_bare : (sc z : Scope) → SameNames sc z → (k : ℕ) (s : Span) (first : Bool) (x : t.Arm) (a b : Rose) → bare a ≡ bare b → bare (arm_of c sc k s first x a) ≡ bare (arm_of d z k s first x b)
    one_arm_bare sc z h k s first (t.arm_of cond body sp) a b p =
        arm_bare first (arm_place first s sp) k (whole_of c sc k cond) (whole_of d z k cond) (whole_of c sc k body) (whole_of d z k body) a b (whole_bare sc z h k cond) (whole_bare sc z h k body) p

    else_bare : (sc z : Scope) → SameNames sc z → (k : ℕ) (s : Span) (o : t.Other) → bare (other_of c sc k s o) ≡ bare (other_of d z k s o)
    else_bare sc z h k s t.no_other = refl
    else_bare sc z h k s (t.other b) = whole_bare sc z h k b

    whole_bare : (sc z : Scope) → SameNames sc z → (k : ℕ) (b : t.Seq) → bare (whole_of c sc k b) ≡ bare (whole_of d z k b)
    whole_bare sc z h k (t.seq is s) = sequence_bare s k (roses_of_items c sc k is) (roses_of_items d z k is) (items_bare sc z h k is)

    seq_bare : (sc z : Scope) → SameNames sc z → (k : ℕ) (s : Span) (b : t.Seq) → bare (seq_of c sc k s b) ≡ bare (seq_of d z k s b)
    seq_bare sc z h k s (t.seq is sp) = sequence_bare s k (roses_of_items c sc k is) (roses_of_items d z k is) (items_bare sc z h k is)

    items_bare : (sc z : Scope) → SameNames sc z → (k : ℕ) (is : t.Items) → bares (roses_of_items c sc k is) ≡ bares (roses_of_items d z k is)
    items_bare sc z h k t.no_items = refl
    items_bare sc z h k (t.item i is) =
        more_bare (item_of c sc k i) (item_of d z k i) (roses_of_items c (scope_after c sc i) k is) (roses_of_items d (scope_after d z i) k is)
        (item_bare sc z h k i) (items_bare (scope_after c sc i) (scope_after d z i) (next_scope c d sc z h i) k is)

    item_bare : (sc z : Scope) → SameNames sc z → (k : ℕ) (i : t.Item) → bare (item_of c sc k i) ≡ bare (item_of d z k i)
    item_bare sc z h k (t.local fixed n ty e s) = one_same s k (expr_of c sc k e) (expr_of d z k e) (expr_bare sc z h k e)
    item_bare sc z h k (t.plain e) = expr_bare sc z h k e

  -- ---- whole bodies

  value_bare : (n : Name) (o : Option t.Expr) (us bs : Roses) → bares us ≡ bares bs → bares (initial_of c n o us) ≡ bares (initial_of d n o bs)
  value_bare n None us bs q = q
  value_bare n (Some e) us bs q =
      more_bare (write_field c n.span n 0 (expr_of c [] 0 e) (added_this n 0)) (write_field d n.span n 0 (expr_of d [] 0 e) (added_this n 0)) us bs
      (write_bare c d n.span n 0 (expr_of c [] 0 e) (expr_of d [] 0 e) (added_this n 0) (added_this n 0) (expr_bare [] [] (same_scope []) 0 e) refl) q

  pub initials_bare : (fs : List t.Field) (us bs : Roses) → bares us ≡ bares bs → bares (initials_then c fs us) ≡ bares (initials_then d fs bs)
  initials_bare [] us bs q = q
  initials_bare (f ∷ fs) us bs q = value_bare f.name f.value (initials_then c fs us) (initials_then d fs bs) (initials_bare fs us bs q)

  none_bare : (b : Bool) (s : Span) (us bs : Roses) → bares us ≡ bares bs → bares (none_last b s us) ≡ bares (none_last b s bs)
  none_bare true s us bs q = last_same us bs (added_none s 0) (added_none s 0) q refl
  none_bare false s us bs q = q

  pub around_bare : (name s : Span) (us bs : Roses) → bares us ≡ bares bs → bare (body_around name s us) ≡ bare (body_around name s bs)
  around_bare name s us bs q = one_same name 0 (sequence s 0 us) (sequence s 0 bs) (sequence_bare s 0 us bs q)

  pub body_bare : (fs : List t.Field) (m : t.Method) (b : t.Seq) → bare (body_with c fs m b) ≡ bare (body_with d fs m b)
  body_bare fs m (t.seq is s) =
      let sc : Scope = params_scope m.params in
      let gives : Bool = gives_none m.word m.result in
      let us : Roses = roses_of_items c sc 0 is in
      let bs : Roses = roses_of_items d sc 0 is in
      around_bare m.name.span s (initials_then c (initial_fields m.word fs) (none_last gives m.name.span us)) (initials_then d (initial_fields m.word fs) (none_last gives m.name.span bs))
      (initials_bare (initial_fields m.word fs) (none_last gives m.name.span us) (none_last gives m.name.span bs) (none_bare gives m.name.span us bs (items_bare sc sc (same_scope sc) 0 is)))

  pub body_counts : (fs : List t.Field) (m : t.Method) → option_map_or node_count (body_of c fs m) 0 ≡ option_map_or node_count (body_of d fs m) 0
  body_counts fs m = by m.body
    where
      by : (o : Option t.Seq) → option_map_or node_count (maybe_body c fs m o) 0 ≡ option_map_or node_count (maybe_body d fs m o) 0
      by None = refl
      by (Some b) = count_same (body_with c fs m b) (body_with d fs m b) (body_bare fs m b)
