-- Each local is defined once.
use Rattle.std.proofs.Common.{◌≡◌, ℕ, ◌+◌, List, [], ◌∷◌, ◌++◌, Option, Some, None, Bool, true, false, refl, ◌∙◌, arith}
use Rattle.pc_base.specs.declared.span.Span.{Span}
use Rattle.pc_tree.specs.{declared.kinds.Op.Op, declared.written_names.Name.Name}
use Rattle.pc_tree.specs.declared.kinds.Op.TheVariants as op
use Rattle.pc_tree.specs.Tree as t
use Rattle.pc_body_spec.specs.{Bodies.{Rose, Roses, rose, more, no_roses, and_last, two, three, joined_span, added_this, operation, read_field, call, read_name, write_name, new_object_rose, create_name, read_type, Start, with_method, with_type, with_value, chain_start, start_with_name, apply_name, apply_primitive, apply, call_named, Use, read, write, use_field, use_other, if_of, arm_place, sequence, expr_of, assign_of, infix_of, operands_of, chain_of, named_of, roses_of_exprs, rose_of_arms, arm_of, other_of, whole_of, seq_of, roses_of_items, item_of, Context, Scope, Meaning, local, field, method, nothing, TypeMeaning, primitive, created, no_value, slot_named, resolve, type_meaning, constructor_named, scope_after, deeper}, Parts.{consumed, unless_some, fault_if, written_faults}, Faults.{unknown, double, is_name_taken, bare_name_faults, type_name_faults, Next, arguments, name, end, next_of, start_faults, dot_faults, faults_of, exprs_faults, suffixes_faults, arms_faults, arm_faults, other_faults, seq_faults, items_faults, item_faults}, Slots.{Local, locals_of, exprs_locals, suffixes_locals, arm_locals, arms_locals, other_locals, seq_locals, items_locals, item_locals}, Counts.{times, times_all, local_times}, Laws.IsDefinedAsOften}
use Rattle.pc_body_spec.proofs.Meanings.{some_fault, left_none, right_none}

module _ (c : Context) (z : ℕ → ℕ → Bool) where
  pub join_n : (xs ys : List Local) → local_times c z (xs ++ ys) ≡ local_times c z xs + local_times c z ys
  join_n [] ys = omega arith
  join_n (x ∷ xs) ys = let h = join_n xs ys in omega (arith, h)

  pub last_n : (rs : Roses) (r : Rose) → times_all z (and_last rs r) ≡ times_all z rs + times z r
  last_n no_roses r = omega arith
  last_n (more x xs) r = let h = last_n xs r in omega (arith, h)

  call_n : (s : Span) (n : List ℕ) (d : ℕ) (args : Roses) (r : Rose) → times z (call c s n d args r) ≡ times_all z args + times z r
  call_n s n d args r = let h = last_n args r in omega (arith, h)

  pub sequence_n : (s : Span) (d : ℕ) (rs : Roses) → times z (sequence s d rs) ≡ times_all z rs
  sequence_n s d no_roses = refl
  sequence_n s d (more r rs) = omega arith

  operation_n : (o : Op) (s : Span) (d : ℕ) (a b : Rose) → times z (rose (operation o) s d (two a b)) ≡ times z a + times z b
  operation_n op.Add s d a b = omega arith
  operation_n o s d a b = omega arith

  read_name_n : (n : Name) (d : ℕ) (m : Meaning) → times z (read_name c n d m) ≡ 0
  read_name_n n d (local x) = refl
  read_name_n n d field = refl
  read_name_n n d method = refl
  read_name_n n d nothing = refl

  consumed_n : (s : Span) (d : ℕ) (o : Option ℕ) → times z (consumed s d o) ≡ 0
  consumed_n s d (Some x) = refl
  consumed_n s d None = refl

  write_name_n : (s : Span) (n : Name) (d : ℕ) (v : Rose) (m : Meaning) → bare_name_faults m n.span ≡ []
      → times z (write_name c s n d v m) ≡ times z v
  write_name_n s n d v (local x) f = omega arith
  write_name_n s n d v field f = omega arith
  write_name_n s n d v method f = absurd (some_fault f)
  write_name_n s n d v nothing f = absurd (some_fault f)

  new_n : (actor : Bool) (s place : Span) (d : ℕ) (args : Roses) (o : Option ℕ) → unless_some o (unknown place) ≡ [] → times z (new_object_rose actor s d args o) ≡ times_all z args
  new_n true s place d args (Some m) f = omega arith
  new_n false s place d args (Some m) f = omega arith
  new_n actor s place d args None f = absurd (some_fault f)

  new_none : (actor : Bool) (s : Span) (d : ℕ) (o : Option ℕ) → times z (new_object_rose actor s d no_roses o) ≡ 0
  new_none true s d (Some m) = refl
  new_none false s d (Some m) = refl
  new_none true s d None = refl
  new_none false s d None = refl

  read_type_n : (n : Name) (d : ℕ) (m : TypeMeaning) → times z (read_type n d m) ≡ 0
  read_type_n n d (primitive e) = refl
  read_type_n n d (created actor cs) = new_none actor n.span d (constructor_named cs create_name)
  read_type_n n d no_value = refl

  -- If a chain starts with a bare name or a type name, what that is on its own defines nothing.
  abbrev Begun : Start → Next → Rose → Type 0
  Begun (with_method n) x r = times z r ≡ 0
  Begun (with_type (created actor cs)) arguments r = (times z r ≡ 0) × ((place : Span) × (unless_some (constructor_named cs create_name) (unknown place) ≡ []))
  Begun (with_type m) x r = times z r ≡ 0
  Begun with_value x r = Unit {0}

  primitive_n : (e : ℕ) (s : Span) (d : ℕ) (args : Roses) (r : Rose) → times z r ≡ 0 → times z (apply_primitive c e s d args r) ≡ times_all z args + times z r
  primitive_n e s d no_roses r b = omega (arith, b)
  primitive_n e s d (more x xs) r b = call_n s apply_name d (more x xs) r

  apply_n : (st : Start) (s : Span) (d : ℕ) (args : Roses) (r : Rose) → Begun st arguments r → times z (apply c st s d args r) ≡ times_all z args + times z r
  apply_n (with_method n) s d args r b =
      let h : times z (call c s n.text d args (added_this n d)) ≡ times_all z args + 0 = call_n s n.text d args (added_this n d) in
      omega (arith, h, b)
  apply_n (with_type (primitive e)) s d args r b = primitive_n e s d args r b
  apply_n (with_type (created actor cs)) s d args r b =
      let h = new_n actor s b.1.0 d args (constructor_named cs create_name) b.1.1 in
      let k = b.0 in
      omega (arith, h, k)
  apply_n (with_type no_value) s d args r b = call_n s apply_name d args r
  apply_n with_value s d args r b = call_n s apply_name d args r

  call_named_n : (st : Start) (s : Span) (n : Name) (d : ℕ) (args : Roses) (r : Rose) → Begun st name r → dot_faults st n arguments ≡ [] → times z (call_named c st s n d args r) ≡ times_all z args + times z r
  call_named_n (with_method m) s n d args r b f = call_n s n.text d args r
  call_named_n (with_type (primitive e)) s n d args r b f = call_n s n.text d args r
  call_named_n (with_type (created actor cs)) s n d args r b f =
      let h = new_n actor s n.span d args (constructor_named cs n.text) f in
      omega (arith, h, b)
  call_named_n (with_type no_value) s n d args r b f = call_n s n.text d args r
  call_named_n with_value s n d args r b f = call_n s n.text d args r

  name_begun : (n : Name) (d : ℕ) (m : Meaning) (x : Next) → Begun (start_with_name n m) x (read_name c n d m)
  name_begun n d (local y) x = tt
  name_begun n d field x = tt
  name_begun n d method x = refl
  name_begun n d nothing x = tt

  type_begun : (n : Name) (d : ℕ) (m : TypeMeaning) (x : Next) → start_faults (with_type m) x (type_name_faults m n.span) ≡ [] → Begun (with_type m) x (read_type n d m)
  type_begun n d (primitive e) x f = refl
  type_begun n d (created actor cs) arguments f = (new_none actor n.span d (constructor_named cs create_name), (n.span, f))
  type_begun n d (created actor cs) name f = new_none actor n.span d (constructor_named cs create_name)
  type_begun n d (created actor cs) end f = new_none actor n.span d (constructor_named cs create_name)
  type_begun n d no_value x f = refl

  begun : (sc : Scope) (d : ℕ) (e : t.Expr) (x : Next) → start_faults (chain_start c sc e) x (faults_of c sc e) ≡ [] → Begun (chain_start c sc e) x (expr_of c sc d e)
  begun sc d (t.name n) x f = name_begun n d (resolve c sc n.text) x
  begun sc d (t.type_name n) x f = type_begun n d (type_meaning c n.text) x f
  begun sc d e x f = tt

  abbrev use_times : Use → ℕ
  use_times read = 0
  use_times (write s v) = times z v

  use_n : (u : Use) (s : Span) (n : Name) (d : ℕ) (r : Rose) → times z (use_field c u s n d r) ≡ use_times u + times z r
  use_n read s n d r = omega arith
  use_n (write whole v) s n d r = omega arith

  other_use_n : (u : Use) (d : ℕ) (r : Rose) → times z (use_other u d r) ≡ use_times u + times z r
  other_use_n read d r = omega arith
  other_use_n (write whole v) d r = omega arith

  if_n : (first : Bool) (s : Span) (d : ℕ) (a b r : Rose) → times z (if_of first s d (three a b r)) ≡ times z a + times z b + times z r
  if_n true s d a b r = omega arith
  if_n false s d a b r = omega arith

  -- The start of a chain has as many definitions as locals, whether or not it is called at once.
  head_n : (sc : Scope) (d : ℕ) (e : t.Expr) (x : Next) → (faults_of c sc e ≡ [] → times z (expr_of c sc d e) ≡ local_times c z (locals_of d e)) → start_faults (chain_start c sc e) x (faults_of c sc e) ≡ [] → times z (expr_of c sc d e) ≡ local_times c z (locals_of d e)
  head_n sc d (t.name n) x alone f = read_name_n n d (resolve c sc n.text)
  head_n sc d (t.type_name n) x alone f = read_type_n n d (type_meaning c n.text)
  head_n sc d e x alone f = alone f

  mutual
    pub expr_n : (sc : Scope) (d : ℕ) (e : t.Expr) → faults_of c sc e ≡ [] → times z (expr_of c sc d e) ≡ local_times c z (locals_of d e)
    expr_n sc d (t.number n s) f = refl
    expr_n sc d (t.truth b s) f = refl
    expr_n sc d (t.text b s) f = refl
    expr_n sc d (t.name n) f = read_name_n n d (resolve c sc n.text)
    expr_n sc d (t.type_name n) f = read_type_n n d (type_meaning c n.text)
    expr_n sc d (t.this s) f = refl
    expr_n sc d (t.consume n s) f = consumed_n s d (slot_named sc n.text)
    expr_n sc d (t.not_ e s) f = let h = expr_n sc d e f in omega (arith, h)
    expr_n sc d (t.infix_ o es s) f = infix_n sc d o s es f
    expr_n sc d (t.chain h ss s) f =
        let own = left_none (start_faults (chain_start c sc h) (next_of ss) (faults_of c sc h)) (suffixes_faults c sc (chain_start c sc h) ss) f in
        let rest = right_none (start_faults (chain_start c sc h) (next_of ss) (faults_of c sc h)) (suffixes_faults c sc (chain_start c sc h) ss) f in
        let whole = chain_n sc d s read (chain_start c sc h) (expr_of c sc d h) ss (begun sc d h (next_of ss) own) rest in
        let first = head_n sc d h (next_of ss) (λ g. expr_n sc d h g) own in
        let sum = join_n (locals_of d h) (suffixes_locals d ss) in
        omega (arith, whole, first, sum)
    expr_n sc d (t.group b s) f = seq_n sc d s b f
    expr_n sc d (t.if_ as' o s) f =
        let arms = arms_n sc d s true as' (other_of c sc d s o) (left_none (arms_faults c sc as') (other_faults c sc o) f) in
        let last = other_n sc d s o (right_none (arms_faults c sc as') (other_faults c sc o) f) in
        let sum = join_n (arms_locals d as') (other_locals d o) in
        omega (arith, arms, last, sum)
    expr_n sc d (t.while_ cond b s) f =
        let first = whole_n sc d cond (left_none (seq_faults c sc cond) (seq_faults c sc b) f) in
        let last = whole_n sc d b (right_none (seq_faults c sc cond) (seq_faults c sc b) f) in
        let sum = join_n (seq_locals d cond) (seq_locals d b) in
        omega (arith, first, last, sum)
    expr_n sc d (t.recover k b s) f = let h = whole_n sc (deeper d) b f in omega (arith, h)
    expr_n sc d (t.assign l r s) f =
        let value = expr_n sc d r (right_none (faults_of c sc l) (faults_of c sc r) f) in
        let alone = expr_n sc d l (left_none (faults_of c sc l) (faults_of c sc r) f) in
        let whole = assign_n sc d s (expr_of c sc d r) (expr_of c sc d l) l (left_none (faults_of c sc l) (faults_of c sc r) f) alone in
        let sum = join_n (locals_of d l) (locals_of d r) in
        omega (arith, value, whole, sum)

    assign_n : (sc : Scope) (d : ℕ) (s : Span) (v left : Rose) (l : t.Expr) → faults_of c sc l ≡ [] → times z left ≡ local_times c z (locals_of d l) → times z (assign_of c sc d s v left l) ≡ times z v + local_times c z (locals_of d l)
    assign_n sc d s v left (t.name n) f a = let h = write_name_n s n d v (resolve c sc n.text) f in omega (arith, h)
    assign_n sc d s v left (t.chain h ss whole) f a =
        let own = left_none (start_faults (chain_start c sc h) (next_of ss) (faults_of c sc h)) (suffixes_faults c sc (chain_start c sc h) ss) f in
        let rest = right_none (start_faults (chain_start c sc h) (next_of ss) (faults_of c sc h)) (suffixes_faults c sc (chain_start c sc h) ss) f in
        let all = chain_n sc d whole (write s v) (chain_start c sc h) (expr_of c sc d h) ss (begun sc d h (next_of ss) own) rest in
        let first = head_n sc d h (next_of ss) (λ g. expr_n sc d h g) own in
        let sum = join_n (locals_of d h) (suffixes_locals d ss) in
        omega (arith, all, first, sum)
    assign_n sc d s v left e f a = omega (arith, a)

    infix_n : (sc : Scope) (d : ℕ) (o : Op) (s : Span) (es : t.Exprs) → exprs_faults c sc es ≡ [] → times z (infix_of c sc d o s es) ≡ local_times c z (exprs_locals d es)
    infix_n sc d o s t.no_exprs f = refl
    infix_n sc d o s (t.expr e es) f =
        let first = expr_n sc d e (left_none (faults_of c sc e) (exprs_faults c sc es) f) in
        let whole = operands_n sc d o s (expr_of c sc d e) es (right_none (faults_of c sc e) (exprs_faults c sc es) f) in
        let sum = join_n (locals_of d e) (exprs_locals d es) in
        omega (arith, first, whole, sum)

    operands_n : (sc : Scope) (d : ℕ) (o : Op) (s : Span) (left : Rose) (es : t.Exprs) → exprs_faults c sc es ≡ [] → times z (operands_of c sc d o s left es) ≡ times z left + local_times c z (exprs_locals d es)
    operands_n sc d o s left t.no_exprs f = omega arith
    operands_n sc d o s left (t.expr e es) f =
        let here = expr_n sc d e (left_none (faults_of c sc e) (exprs_faults c sc es) f) in
        let both = operation_n o (joined_span s (t.span_of e)) d left (expr_of c sc d e) in
        let whole = operands_n sc d o s (rose (operation o) (joined_span s (t.span_of e)) d (two left (expr_of c sc d e))) es (right_none (faults_of c sc e) (exprs_faults c sc es) f) in
        let sum = join_n (locals_of d e) (exprs_locals d es) in
        omega (arith, here, both, whole, sum)

    chain_n : (sc : Scope) (d : ℕ) (s : Span) (u : Use) (st : Start) (r : Rose) (ss : t.Suffixes) → Begun st (next_of ss) r → suffixes_faults c sc st ss ≡ [] → times z (chain_of c sc d s u st r ss) ≡ use_times u + times z r + local_times c z (suffixes_locals d ss)
    chain_n sc d s u st r t.no_suffixes b f = let h = other_use_n u d r in omega (arith, h)
    chain_n sc d s u st r (t.suffix (t.dot n) ss) b f = named_n sc d s u st r n ss b (left_none (dot_faults st n (next_of ss)) (suffixes_faults c sc with_value ss) f) (right_none (dot_faults st n (next_of ss)) (suffixes_faults c sc with_value ss) f)
    chain_n sc d s u st r (t.suffix (t.args es sp) ss) b f =
        let args = exprs_n sc d es (left_none (exprs_faults c sc es) (suffixes_faults c sc with_value ss) f) in
        let here = apply_n st (joined_span s sp) d (roses_of_exprs c sc d es) r b in
        let whole = chain_n sc d s u with_value (apply c st (joined_span s sp) d (roses_of_exprs c sc d es) r) ss tt (right_none (exprs_faults c sc es) (suffixes_faults c sc with_value ss) f) in
        let sum = join_n (exprs_locals d es) (suffixes_locals d ss) in
        omega (arith, args, here, whole, sum)

    named_n : (sc : Scope) (d : ℕ) (s : Span) (u : Use) (st : Start) (r : Rose) (n : Name) (ss : t.Suffixes) → Begun st name r → dot_faults st n (next_of ss) ≡ [] → suffixes_faults c sc with_value ss ≡ [] → times z (named_of c sc d s u st r n ss) ≡ use_times u + times z r + local_times c z (suffixes_locals d ss)
    named_n sc d s u st r n t.no_suffixes b g f = let h = use_n u (joined_span s n.span) n d r in omega (arith, h)
    named_n sc d s u st r n (t.suffix (t.dot m) ss) b g f =
        let whole = named_n sc d s u with_value (read_field c (joined_span s n.span) n d r) m ss tt (left_none (dot_faults with_value m (next_of ss)) (suffixes_faults c sc with_value ss) f) (right_none (dot_faults with_value m (next_of ss)) (suffixes_faults c sc with_value ss) f) in
        omega (arith, whole)
    named_n sc d s u st r n (t.suffix (t.args es sp) ss) b g f =
        let args = exprs_n sc d es (left_none (exprs_faults c sc es) (suffixes_faults c sc with_value ss) f) in
        let here = call_named_n st (joined_span s sp) n d (roses_of_exprs c sc d es) r b g in
        let whole = chain_n sc d s u with_value (call_named c st (joined_span s sp) n d (roses_of_exprs c sc d es) r) ss tt (right_none (exprs_faults c sc es) (suffixes_faults c sc with_value ss) f) in
        let sum = join_n (exprs_locals d es) (suffixes_locals d ss) in
        omega (arith, args, here, whole, sum)

    exprs_n : (sc : Scope) (d : ℕ) (es : t.Exprs) → exprs_faults c sc es ≡ []
        → times_all z (roses_of_exprs c sc d es) ≡ local_times c z (exprs_locals d es)
    exprs_n sc d t.no_exprs f = refl
    exprs_n sc d (t.expr e es) f =
        let first = expr_n sc d e (left_none (faults_of c sc e) (exprs_faults c sc es) f) in
        let rest = exprs_n sc d es (right_none (faults_of c sc e) (exprs_faults c sc es) f) in
        let sum = join_n (locals_of d e) (exprs_locals d es) in
        omega (arith, first, rest, sum)

    arms_n : (sc : Scope) (d : ℕ) (s : Span) (first : Bool) (as' : t.Arms) (last : Rose) → arms_faults c sc as' ≡ [] → times z (rose_of_arms c sc d s first as' last) ≡ local_times c z (arms_locals d as') + times z last
    arms_n sc d s first t.no_arms last f = omega arith
    arms_n sc d s first (t.arm a as') last f =
        let here = arm_n sc d s first a (rose_of_arms c sc d s false as' last) (left_none (arm_faults c sc a) (arms_faults c sc as') f) in
        let rest = arms_n sc d s false as' last (right_none (arm_faults c sc a) (arms_faults c sc as') f) in
        let sum = join_n (arm_locals d a) (arms_locals d as') in
        omega (arith, here, rest, sum)

    arm_n : (sc : Scope) (d : ℕ) (s : Span) (first : Bool) (a : t.Arm) (rest : Rose) → arm_faults c sc a ≡ [] → times z (arm_of c sc d s first a rest) ≡ local_times c z (arm_locals d a) + times z rest
    arm_n sc d s first (t.arm_of cond b sp) rest f =
        let one_ = whole_n sc d cond (left_none (seq_faults c sc cond) (seq_faults c sc b) f) in
        let two_ = whole_n sc d b (right_none (seq_faults c sc cond) (seq_faults c sc b) f) in
        let all = if_n first (arm_place first s sp) d (whole_of c sc d cond) (whole_of c sc d b) rest in
        let sum = join_n (seq_locals d cond) (seq_locals d b) in
        omega (arith, one_, two_, all, sum)

    other_n : (sc : Scope) (d : ℕ) (s : Span) (o : t.Other) → other_faults c sc o ≡ [] → times z (other_of c sc d s o) ≡ local_times c z (other_locals d o)
    other_n sc d s t.no_other f = refl
    other_n sc d s (t.other b) f = whole_n sc d b f

    whole_n : (sc : Scope) (d : ℕ) (b : t.Seq) → seq_faults c sc b ≡ [] → times z (whole_of c sc d b) ≡ local_times c z (seq_locals d b)
    whole_n sc d (t.seq is s) f = sequence_n s d (roses_of_items c sc d is) ∙ items_n sc d is f

    seq_n : (sc : Scope) (d : ℕ) (s : Span) (b : t.Seq) → seq_faults c sc b ≡ [] → times z (seq_of c sc d s b) ≡ local_times c z (seq_locals d b)
    seq_n sc d s (t.seq is sp) f = sequence_n s d (roses_of_items c sc d is) ∙ items_n sc d is f

    pub items_n : (sc : Scope) (d : ℕ) (is : t.Items) → items_faults c sc is ≡ [] → times_all z (roses_of_items c sc d is) ≡ local_times c z (items_locals d is)
    items_n sc d t.no_items f = refl
    items_n sc d (t.item i is) f =
        let first = item_n sc d i (left_none (item_faults c sc i) (items_faults c (scope_after c sc i) is) f) in
        let rest = items_n (scope_after c sc i) d is (right_none (item_faults c sc i) (items_faults c (scope_after c sc i) is) f) in
        let sum = join_n (item_locals d i) (items_locals d is) in
        omega (arith, first, rest, sum)

    item_n : (sc : Scope) (d : ℕ) (i : t.Item) → item_faults c sc i ≡ [] → times z (item_of c sc d i) ≡ local_times c z (item_locals d i)
    item_n sc d (t.local fixed n ty e s) f = let h = expr_n sc d e (right_none (fault_if (is_name_taken (resolve c sc n.text)) (double n.span) ++ written_faults c ty) (faults_of c sc e) f) in omega (arith, h)
    item_n sc d (t.plain e) f = expr_n sc d e f

pub defined_as_often : IsDefinedAsOften
defined_as_often c z sc d e f = expr_n c z sc d e f
