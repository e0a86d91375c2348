-- If there is no fault, what the numbers in an expression refer to exists.
use Rattle.std.proofs.{Common.{◌≡◌, ℕ, suc, ◌+◌, ◌<◌, ◌≤◌, length, List, [], ◌∷◌, ◌++◌, Option, Some, None, Bool, true, false, refl, sym, subst, inl, inr, arith, if◌then◌else◌, ap, ◌∙◌}, lemmas.Bool.{leb-true, eqb-true}, lemmas.Option.{same_Some, none-some}}
use Rattle.std.specs.{Prelude.{slice_get, nat_eq, nat_le, ◌⊎◌}, Str.bytes_eq}
use Rattle.pc_base.specs.{declared.span.Span.Span, Lists.Has}
use Rattle.pc_tree.specs.{declared.kinds.Op.Op, declared.written_names.Name.Name, declared.kinds.EntityKind.EntityKind, Kinds.first_own}
use Rattle.pc_tree.specs.declared.kinds.Op.TheVariants as op
use Rattle.pc_tree.specs.declared.kinds.EntityKind.TheVariants as kind
use Rattle.pc_tree.specs.Tree as t
use Rattle.pc_body_spec.specs.{Bodies.{Rose, Roses, rose, more, no_roses, and_last, two, three, value_then, use_other, joined_span, added_this, operation, read_field, call, read_name, write_name, new_object_rose, create_name, read_type, Start, with_method, with_type, with_value, chain_start, start_with_name, apply_name, apply_primitive, apply, call_named, Use, read, write, use_field, if_of, arm_place, sequence, expr_of, assign_of, infix_of, operands_of, chain_of, named_of, roses_of_exprs, rose_of_arms, arm_of, other_of, whole_of, seq_of, roses_of_items, item_of, Context, Scope, Constructor, KnownEntity, text_from, type_from, is_own, by_kind, Meaning, local, field, method, nothing, TypeMeaning, primitive, created, no_value, slot_named, number_of_text, resolve, type_meaning, constructor_named, scope_after, deeper}, Parts.{consumed, unless_some, fault_if, written_faults}, Faults.{BodyNameFault, unknown, double, is_name_taken, bare_name_faults, type_name_faults, Next, arguments, name, end, next_of, start_faults, dot_faults, faults_of, exprs_faults, suffixes_faults, arms_faults, arm_faults, other_faults, seq_faults, items_faults, item_faults}, Meanings.{Every, EveryOf, IsOfKind, IsConstructor, NamesWhatIsThere}, Laws.NothingIsMissing}

abbrev IsSome : List BodyNameFault → Type 0
IsSome [] = ⊥
IsSome (x ∷ xs) = Unit {0}

pub some_fault : {x : BodyNameFault} {xs : List BodyNameFault} → x ∷ xs ≡ [] → ⊥
some_fault h = subst IsSome h tt

pub left_none : (xs ys : List BodyNameFault) → xs ++ ys ≡ [] → xs ≡ []
left_none [] ys h = refl
left_none (x ∷ xs) ys h = absurd (some_fault h)

pub right_none : (xs ys : List BodyNameFault) → xs ++ ys ≡ [] → ys ≡ []
right_none [] ys h = h
right_none (x ∷ xs) ys h = absurd (some_fault h)

-- The number of a text.
text_below : (at : ℕ) (xs : List (List ℕ)) (n : List ℕ) (all : ℕ) → at + length xs ≤ all → 0 < all → text_from at xs n < all
text_below at [] n all h g = g
text_below at (x ∷ xs) n all h g =
    let rest : suc at + length xs ≤ all = omega (arith, h) in
    by (bytes_eq x n) (text_below (suc at) xs n all rest g)
  where
    by : (b : Bool) → text_from (suc at) xs n < all → (if b then at else text_from (suc at) xs n) < all
    by true r = omega (arith, h)
    by false r = r

-- What a type name means exists.
abbrev creator : Bool → EntityKind
creator true = kind.Actor
creator false = kind.Class

abbrev TypeKnown : Context → TypeMeaning → Type 0
TypeKnown c (primitive e) = (e ≡ 0) ⊎ ((6 ≤ e) × IsOfKind c kind.Primitive e)
TypeKnown c (created actor cs) = (e : ℕ) × (x : KnownEntity) × (slice_get c.entities e ≡ Some x) × (x.kind ≡ creator actor) × (x.constructors ≡ cs)
TypeKnown c no_value = Unit {0}

own_number : (e : ℕ) → is_own e ≡ true → (e ≡ 0) ⊎ (6 ≤ e)
own_number e h = by (nat_eq e 0) refl h
  where
    by : (b : Bool) → nat_eq e 0 ≡ b → (if b then true else nat_le first_own e) ≡ true → (e ≡ 0) ⊎ (6 ≤ e)
    by true z k = inl (eqb-true e 0 z)
    by false z k = inr (leb-true first_own e k)

kind_known : (c : Context) (e : ℕ) (x : KnownEntity) (k : EntityKind) → slice_get c.entities e ≡ Some x → x.kind ≡ k → (e ≡ 0) ⊎ (6 ≤ e) → TypeKnown c (by_kind k e x.constructors)
kind_known c e x kind.Class g h o = (e, x, g, h, refl)
kind_known c e x kind.Actor g h o = (e, x, g, h, refl)
kind_known c e x kind.Primitive g h o = elim o [ inl z ↦ inl z | inr l ↦ inr (l, (x, g, h)) ]
kind_known c e x kind.Trait g h o = tt
kind_known c e x kind.Interface g h o = tt

types_known : (c : Context) (at : ℕ) (xs : List KnownEntity) (n : List ℕ) → ((i : ℕ) (x : KnownEntity) → slice_get xs i ≡ Some x → slice_get c.entities (at + i) ≡ Some x) → TypeKnown c (type_from at xs n)
types_known c at [] n h = tt
types_known c at (x ∷ xs) n h = by (bytes_eq x.name n) (types_known c (suc at) xs n later)
  where
    later : (i : ℕ) (y : KnownEntity) → slice_get xs i ≡ Some y → slice_get c.entities (suc at + i) ≡ Some y
    later i y e = let s : suc at + i ≡ at + suc i = omega arith in ap (slice_get c.entities) s ∙ h (suc i) y e

    here : slice_get c.entities at ≡ Some x
    here = let s : at ≡ at + 0 = omega arith in ap (slice_get c.entities) s ∙ h 0 x refl

    owned : (b : Bool) → is_own at ≡ b → TypeKnown c (if b then by_kind x.kind at x.constructors else no_value)
    owned true o = kind_known c at x x.kind here refl (own_number at o)
    owned false o = tt

    by : (b : Bool) → TypeKnown c (type_from (suc at) xs n) → TypeKnown c (if b then (if is_own at then by_kind x.kind at x.constructors else no_value) else type_from (suc at) xs n)
    by true r = owned (is_own at) refl
    by false r = r

type_known : (c : Context) (n : List ℕ) → TypeKnown c (type_meaning c n)
type_known c n = types_known c 0 c.entities n (λ i x e. let s : 0 + i ≡ i = omega arith in ap (slice_get c.entities) s ∙ e)

named_constructor : (cs : List Constructor) (n : List ℕ) (m : ℕ) → constructor_named cs n ≡ Some m → (y : Constructor) × Has cs y × (y.method ≡ m)
named_constructor [] n m h = absurd (none-some m h)
named_constructor (x ∷ xs) n m h = by (bytes_eq x.name n) (named_constructor xs n m) h
  where
    by : (b : Bool) → (constructor_named xs n ≡ Some m → (y : Constructor) × Has xs y × (y.method ≡ m)) → (if b then Some x.method else constructor_named xs n) ≡ Some m → (y : Constructor) × Has (x ∷ xs) y × (y.method ≡ m)
    by true r k = (x, (0, refl), same_Some _ _ k)
    by false r k = let z = r k in (z.0, (suc z.1.0, z.1.1), z.2)

module _ (c : Context) (some_text : 0 < length c.texts) where
  abbrev Fine : Rose → Type 0
  Fine = Every (NamesWhatIsThere c)

  abbrev AllFine : Roses → Type 0
  AllFine = EveryOf (NamesWhatIsThere c)

  pub text_ok : (n : List ℕ) → number_of_text c n < length c.texts
  text_ok n = text_below 0 c.texts n (length c.texts) (omega arith) some_text

  pub last_ok : (rs : Roses) (r : Rose) → AllFine rs → Fine r → AllFine (and_last rs r)
  last_ok no_roses r h g = (g, tt)
  last_ok (more x xs) r h g = (h.0, last_ok xs r h.1 g)

  call_ok : (s : Span) (n : List ℕ) (d : ℕ) (args : Roses) (r : Rose) → AllFine args → Fine r → Fine (call c s n d args r)
  call_ok s n d args r h g = (text_ok n, last_ok args r h g)

  pub sequence_ok : (s : Span) (d : ℕ) (rs : Roses) → AllFine rs → Fine (sequence s d rs)
  sequence_ok s d no_roses h = (tt, ((inl refl, tt), tt))
  sequence_ok s d (more r rs) h = (tt, h)

  operation_ok : (o : Op) (s : Span) (d : ℕ) (a b : Rose) → Fine a → Fine b → Fine (rose (operation o) s d (two a b))
  operation_ok op.And s d a b h g = (tt, (h, (g, tt)))
  operation_ok op.Or s d a b h g = (tt, (h, (g, tt)))
  operation_ok op.Is s d a b h g = (tt, (h, (g, tt)))
  operation_ok op.Isnt s d a b h g = (tt, (h, (g, tt)))
  operation_ok o s d a b h g = (refl, (h, (g, tt)))

  read_name_ok : (n : Name) (d : ℕ) (m : Meaning) → bare_name_faults m n.span ≡ [] → Fine (read_name c n d m)
  read_name_ok n d (local x) h = (tt, tt)
  read_name_ok n d field h = (text_ok n.text, ((tt, tt), tt))
  read_name_ok n d method h = absurd (some_fault h)
  read_name_ok n d nothing h = absurd (some_fault h)

  consumed_ok : (s place : Span) (d : ℕ) (o : Option ℕ) → unless_some o (unknown place) ≡ [] → Fine (consumed s d o)
  consumed_ok s place d (Some x) h = (tt, tt)
  consumed_ok s place d None h = absurd (some_fault h)

  write_name_ok : (s : Span) (n : Name) (d : ℕ) (v : Rose) (m : Meaning) → bare_name_faults m n.span ≡ [] → Fine v → Fine (write_name c s n d v m)
  write_name_ok s n d v (local x) h g = (tt, (g, tt))
  write_name_ok s n d v field h g = (text_ok n.text, (g, ((tt, tt), tt)))
  write_name_ok s n d v method h g = absurd (some_fault h)
  write_name_ok s n d v nothing h g = absurd (some_fault h)

  new_ok : (actor : Bool) (cs : List Constructor) (n : List ℕ) (place s : Span) (d : ℕ) (args : Roses) → TypeKnown c (created actor cs) → unless_some (constructor_named cs n) (unknown place) ≡ [] → AllFine args → Fine (new_object_rose actor s d args (constructor_named cs n))
  new_ok actor cs n place s d args k h g = by actor (constructor_named cs n) k refl h
    where
      there : (a : Bool) (m : ℕ) → TypeKnown c (created a cs) → constructor_named cs n ≡ Some m → IsConstructor c (creator a) m
      there a m t e = (t.0, t.1, t.2, t.3, subst (λ (xs : List Constructor). (y : Constructor) × Has xs y × (y.method ≡ m)) (sym t.4) (named_constructor cs n m e))

      by : (a : Bool) (o : Option ℕ) → TypeKnown c (created a cs) → constructor_named cs n ≡ o → unless_some o (unknown place) ≡ [] → Fine (new_object_rose a s d args o)
      by true (Some m) t e z = (there true m t e, g)
      by false (Some m) t e z = (there false m t e, g)
      by true None t e z = absurd (some_fault z)
      by false None t e z = absurd (some_fault z)

  read_type_ok : (n : Name) (d : ℕ) (m : TypeMeaning) → TypeKnown c m → type_name_faults m n.span ≡ [] → Fine (read_type n d m)
  read_type_ok n d (primitive e) k h = (k, tt)
  read_type_ok n d (created actor cs) k h = new_ok actor cs create_name n.span n.span d no_roses k h tt
  read_type_ok n d no_value k h = absurd (some_fault h)

  primitive_ok : (e : ℕ) (s : Span) (d : ℕ) (args : Roses) (r : Rose) → TypeKnown c (primitive e) → AllFine args → Fine r → Fine (apply_primitive c e s d args r)
  primitive_ok e s d no_roses r k h g = (k, tt)
  primitive_ok e s d (more x xs) r k h g = call_ok s apply_name d (more x xs) r h g

  abbrev StartKnown : Start → Type 0
  StartKnown (with_method n) = Unit {0}
  StartKnown (with_type m) = TypeKnown c m
  StartKnown with_value = Unit {0}

  -- The start of a chain: what it is on its own matters only if it is not called at once.
  abbrev Begun : Start → Next → Rose → Type 0
  Begun (with_method n) arguments r = Unit {0}
  Begun (with_method n) x r = Fine r
  Begun (with_type (created actor cs)) name r = Unit {0}
  Begun (with_type (created actor cs)) arguments r = (place : Span) × (unless_some (constructor_named cs create_name) (unknown place) ≡ [])
  Begun (with_type (created actor cs)) end r = Fine r
  Begun (with_type m) x r = Fine r
  Begun with_value x r = Fine r

  apply_ok : (st : Start) (s : Span) (d : ℕ) (args : Roses) (r : Rose) → StartKnown st → Begun st arguments r → AllFine args → Fine (apply c st s d args r)
  apply_ok (with_method n) s d args r k b h = call_ok s n.text d args (added_this n d) h (tt, tt)
  apply_ok (with_type (primitive e)) s d args r k b h = primitive_ok e s d args r k h b
  apply_ok (with_type (created actor cs)) s d args r k b h = new_ok actor cs create_name b.0 s d args k b.1 h
  apply_ok (with_type no_value) s d args r k b h = call_ok s apply_name d args r h b
  apply_ok with_value s d args r k b h = call_ok s apply_name d args r h b

  call_named_ok : (st : Start) (s : Span) (n : Name) (d : ℕ) (args : Roses) (r : Rose) → StartKnown st → Begun st name r → dot_faults st n arguments ≡ [] → AllFine args → Fine (call_named c st s n d args r)
  call_named_ok (with_method m) s n d args r k b f h = call_ok s n.text d args r h b
  call_named_ok (with_type (primitive e)) s n d args r k b f h = call_ok s n.text d args r h b
  call_named_ok (with_type (created actor cs)) s n d args r k b f h = new_ok actor cs n.text n.span s d args k f h
  call_named_ok (with_type no_value) s n d args r k b f h = call_ok s n.text d args r h b
  call_named_ok with_value s n d args r k b f h = call_ok s n.text d args r h b

  -- The start of a chain is a value if nothing calls it.
  ended_ok : (st : Start) (r : Rose) → Begun st end r → Fine r
  ended_ok (with_method n) r b = b
  ended_ok (with_type (primitive e)) r b = b
  ended_ok (with_type (created actor cs)) r b = b
  ended_ok (with_type no_value) r b = b
  ended_ok with_value r b = b

  field_last_ok : (st : Start) (n : Name) (r : Rose) → Begun st name r → dot_faults st n end ≡ [] → Fine r
  field_last_ok (with_method m) n r b f = b
  field_last_ok (with_type (primitive e)) n r b f = b
  field_last_ok (with_type (created actor cs)) n r b f = absurd (some_fault f)
  field_last_ok (with_type no_value) n r b f = b
  field_last_ok with_value n r b f = b

  field_next_ok : (st : Start) (n : Name) (r : Rose) → Begun st name r → dot_faults st n name ≡ [] → Fine r
  field_next_ok (with_method m) n r b f = b
  field_next_ok (with_type (primitive e)) n r b f = b
  field_next_ok (with_type (created actor cs)) n r b f = absurd (some_fault f)
  field_next_ok (with_type no_value) n r b f = b
  field_next_ok with_value n r b f = b

  name_begun : (n : Name) (d : ℕ) (m : Meaning) (x : Next) → start_faults (start_with_name n m) x (bare_name_faults m n.span) ≡ [] → Begun (start_with_name n m) x (read_name c n d m)
  name_begun n d (local y) x h = (tt, tt)
  name_begun n d field x h = (text_ok n.text, ((tt, tt), tt))
  name_begun n d method arguments h = tt
  name_begun n d method name h = absurd (some_fault h)
  name_begun n d method end h = absurd (some_fault h)
  name_begun n d nothing x h = absurd (some_fault h)

  type_begun : (n : Name) (d : ℕ) (m : TypeMeaning) (x : Next) → TypeKnown c m → start_faults (with_type m) x (type_name_faults m n.span) ≡ [] → Begun (with_type m) x (read_type n d m)
  type_begun n d (primitive e) x k h = (k, tt)
  type_begun n d (created actor cs) arguments k h = (n.span, h)
  type_begun n d (created actor cs) name k h = tt
  type_begun n d (created actor cs) end k h = new_ok actor cs create_name n.span n.span d no_roses k h tt
  type_begun n d no_value x k h = absurd (some_fault h)

  name_known : (n : Name) (m : Meaning) → StartKnown (start_with_name n m)
  name_known n (local x) = tt
  name_known n field = tt
  name_known n method = tt
  name_known n nothing = tt

  start_known : (sc : Scope) (e : t.Expr) → StartKnown (chain_start c sc e)
  start_known sc (t.name n) = name_known n (resolve c sc n.text)
  start_known sc (t.type_name n) = type_known c n.text
  start_known sc e = tt

  -- The value that is assigned to the end of a chain.
  abbrev UseFine : Use → Type 0
  UseFine read = Unit {0}
  UseFine (write s v) = Fine v

  value_then_ok : (s : Span) (d : ℕ) (v r : Rose) → Fine v → Fine r → Fine (value_then s d v r)
  value_then_ok s d v r h g = (tt, (h, (g, tt)))

  other_use_ok : (u : Use) (d : ℕ) (r : Rose) → UseFine u → Fine r → Fine (use_other u d r)
  other_use_ok read d r h g = g
  other_use_ok (write whole v) d r h g = value_then_ok whole d v r h g

  use_ok : (u : Use) (s : Span) (n : Name) (d : ℕ) (r : Rose) → UseFine u → Fine r → Fine (use_field c u s n d r)
  use_ok read s n d r h g = (text_ok n.text, (g, tt))
  use_ok (write whole v) s n d r h g = (text_ok n.text, (h, (g, tt)))

  if_ok : (first : Bool) (s : Span) (d : ℕ) (a b r : Rose) → Fine a → Fine b → Fine r → Fine (if_of first s d (three a b r))
  if_ok true s d a b r h g k = (tt, (h, (g, (k, tt))))
  if_ok false s d a b r h g k = (tt, ((tt, (h, (g, (k, tt)))), tt))

  begun_ok : (sc : Scope) (d : ℕ) (e : t.Expr) (x : Next) → (faults_of c sc e ≡ [] → Fine (expr_of c sc d e)) → start_faults (chain_start c sc e) x (faults_of c sc e) ≡ [] → Begun (chain_start c sc e) x (expr_of c sc d e)
  begun_ok sc d (t.name n) x alone f = name_begun n d (resolve c sc n.text) x f
  begun_ok sc d (t.type_name n) x alone f = type_begun n d (type_meaning c n.text) x (type_known c n.text) f
  begun_ok sc d e x alone f = alone f

  mutual
    pub expr_ok : (sc : Scope) (d : ℕ) (e : t.Expr) → faults_of c sc e ≡ [] → Fine (expr_of c sc d e)
    expr_ok sc d (t.number n s) f = (tt, tt)
    expr_ok sc d (t.truth b s) f = (tt, tt)
    expr_ok sc d (t.text b s) f = (tt, tt)
    expr_ok sc d (t.name n) f = read_name_ok n d (resolve c sc n.text) f
    expr_ok sc d (t.type_name n) f = read_type_ok n d (type_meaning c n.text) (type_known c n.text) f
    expr_ok sc d (t.this s) f = (tt, tt)
    expr_ok sc d (t.consume n s) f = consumed_ok s n.span d (slot_named sc n.text) f
    expr_ok sc d (t.not_ e s) f = (tt, (expr_ok sc d e f, tt))
    expr_ok sc d (t.infix_ o es s) f = infix_ok sc d o s es f
    expr_ok sc d (t.chain h ss s) f =
        let own = left_none (start_faults (chain_start c sc h) (next_of ss) (faults_of c sc h)) (suffixes_faults c sc (chain_start c sc h) ss) f in
        let rest = right_none (start_faults (chain_start c sc h) (next_of ss) (faults_of c sc h)) (suffixes_faults c sc (chain_start c sc h) ss) f in
        chain_ok sc d s read (chain_start c sc h) (expr_of c sc d h) ss tt (start_known sc h) (begun_ok sc d h (next_of ss) (λ g. expr_ok sc d h g) own) rest
    expr_ok sc d (t.group b s) f = seq_ok sc d s b f
    expr_ok sc d (t.if_ as' o s) f = arms_ok sc d s true as' (other_of c sc d s o) (left_none (arms_faults c sc as') (other_faults c sc o) f) (other_ok sc d s o (right_none (arms_faults c sc as') (other_faults c sc o) f))
    expr_ok sc d (t.while_ cond b s) f = (tt, (whole_ok sc d cond (left_none (seq_faults c sc cond) (seq_faults c sc b) f), (whole_ok sc d b (right_none (seq_faults c sc cond) (seq_faults c sc b) f), tt)))
    expr_ok sc d (t.recover k b s) f = (tt, (whole_ok sc (deeper d) b f, tt))
    expr_ok sc d (t.assign l r s) f = assign_ok sc d s (expr_of c sc d r) (expr_of c sc d l) l (left_none (faults_of c sc l) (faults_of c sc r) f) (expr_ok sc d r (right_none (faults_of c sc l) (faults_of c sc r) f)) (expr_ok sc d l (left_none (faults_of c sc l) (faults_of c sc r) f))

    assign_ok : (sc : Scope) (d : ℕ) (s : Span) (v left : Rose) (l : t.Expr) → faults_of c sc l ≡ [] → Fine v → Fine left → Fine (assign_of c sc d s v left l)
    assign_ok sc d s v left (t.name n) f h g = write_name_ok s n d v (resolve c sc n.text) f h
    assign_ok sc d s v left (t.chain e ss whole) f h g =
        let own = left_none (start_faults (chain_start c sc e) (next_of ss) (faults_of c sc e)) (suffixes_faults c sc (chain_start c sc e) ss) f in
        let rest = right_none (start_faults (chain_start c sc e) (next_of ss) (faults_of c sc e)) (suffixes_faults c sc (chain_start c sc e) ss) f in
        chain_ok sc d whole (write s v) (chain_start c sc e) (expr_of c sc d e) ss h (start_known sc e) (begun_ok sc d e (next_of ss) (λ g. expr_ok sc d e g) own) rest
    assign_ok sc d s v left e f h g = value_then_ok s d v left h g

    infix_ok : (sc : Scope) (d : ℕ) (o : Op) (s : Span) (es : t.Exprs) → exprs_faults c sc es ≡ [] → Fine (infix_of c sc d o s es)
    infix_ok sc d o s t.no_exprs f = (inl refl, tt)
    infix_ok sc d o s (t.expr e es) f = operands_ok sc d o s (expr_of c sc d e) es (right_none (faults_of c sc e) (exprs_faults c sc es) f) (expr_ok sc d e (left_none (faults_of c sc e) (exprs_faults c sc es) f))

    operands_ok : (sc : Scope) (d : ℕ) (o : Op) (s : Span) (left : Rose) (es : t.Exprs) → exprs_faults c sc es ≡ [] → Fine left → Fine (operands_of c sc d o s left es)
    operands_ok sc d o s left t.no_exprs f h = h
    operands_ok sc d o s left (t.expr e es) f h = operands_ok sc d o s (rose (operation o) (joined_span s (t.span_of e)) d (two left (expr_of c sc d e))) es (right_none (faults_of c sc e) (exprs_faults c sc es) f) (operation_ok o (joined_span s (t.span_of e)) d left (expr_of c sc d e) h (expr_ok sc d e (left_none (faults_of c sc e) (exprs_faults c sc es) f)))

    chain_ok : (sc : Scope) (d : ℕ) (s : Span) (u : Use) (st : Start) (r : Rose) (ss : t.Suffixes) → UseFine u → StartKnown st → Begun st (next_of ss) r → suffixes_faults c sc st ss ≡ [] → Fine (chain_of c sc d s u st r ss)
    chain_ok sc d s u st r t.no_suffixes h k b f = other_use_ok u d r h (ended_ok st r b)
    chain_ok sc d s u st r (t.suffix (t.dot n) ss) h k b f = named_ok sc d s u st r n ss h k b (left_none (dot_faults st n (next_of ss)) (suffixes_faults c sc with_value ss) f) (right_none (dot_faults st n (next_of ss)) (suffixes_faults c sc with_value ss) f)
    chain_ok sc d s u st r (t.suffix (t.args es sp) ss) h k b f =
        let args = exprs_ok sc d es (left_none (exprs_faults c sc es) (suffixes_faults c sc with_value ss) f) in
        chain_ok sc d s u with_value (apply c st (joined_span s sp) d (roses_of_exprs c sc d es) r) ss h tt (apply_ok st (joined_span s sp) d (roses_of_exprs c sc d es) r k b args) (right_none (exprs_faults c sc es) (suffixes_faults c sc with_value ss) f)

    named_ok : (sc : Scope) (d : ℕ) (s : Span) (u : Use) (st : Start) (r : Rose) (n : Name) (ss : t.Suffixes) → UseFine u → StartKnown st → Begun st name r → dot_faults st n (next_of ss) ≡ [] → suffixes_faults c sc with_value ss ≡ [] → Fine (named_of c sc d s u st r n ss)
    named_ok sc d s u st r n t.no_suffixes h k b g f = use_ok u (joined_span s n.span) n d r h (field_last_ok st n r b g)
    named_ok sc d s u st r n (t.suffix (t.dot m) ss) h k b g f = named_ok sc d s u with_value (read_field c (joined_span s n.span) n d r) m ss h tt (text_ok n.text, (field_next_ok st n r b g, tt)) (left_none (dot_faults with_value m (next_of ss)) (suffixes_faults c sc with_value ss) f) (right_none (dot_faults with_value m (next_of ss)) (suffixes_faults c sc with_value ss) f)
    named_ok sc d s u st r n (t.suffix (t.args es sp) ss) h k b g f =
        let args = exprs_ok sc d es (left_none (exprs_faults c sc es) (suffixes_faults c sc with_value ss) f) in
        chain_ok sc d s u with_value (call_named c st (joined_span s sp) n d (roses_of_exprs c sc d es) r) ss h tt (call_named_ok st (joined_span s sp) n d (roses_of_exprs c sc d es) r k b g args) (right_none (exprs_faults c sc es) (suffixes_faults c sc with_value ss) f)

    exprs_ok : (sc : Scope) (d : ℕ) (es : t.Exprs) → exprs_faults c sc es ≡ [] → AllFine (roses_of_exprs c sc d es)
    exprs_ok sc d t.no_exprs f = tt
    exprs_ok sc d (t.expr e es) f = (expr_ok sc d e (left_none (faults_of c sc e) (exprs_faults c sc es) f), exprs_ok sc d es (right_none (faults_of c sc e) (exprs_faults c sc es) f))

    arms_ok : (sc : Scope) (d : ℕ) (s : Span) (first : Bool) (as' : t.Arms) (last : Rose) → arms_faults c sc as' ≡ [] → Fine last → Fine (rose_of_arms c sc d s first as' last)
    arms_ok sc d s first t.no_arms last f h = h
    arms_ok sc d s first (t.arm a as') last f h = arm_ok sc d s first a (rose_of_arms c sc d s false as' last) (left_none (arm_faults c sc a) (arms_faults c sc as') f) (arms_ok sc d s false as' last (right_none (arm_faults c sc a) (arms_faults c sc as') f) h)

    arm_ok : (sc : Scope) (d : ℕ) (s : Span) (first : Bool) (a : t.Arm) (rest : Rose) → arm_faults c sc a ≡ [] → Fine rest → Fine (arm_of c sc d s first a rest)
    arm_ok sc d s first (t.arm_of cond b sp) rest f h = if_ok first (arm_place first s sp) d (whole_of c sc d cond) (whole_of c sc d b) rest (whole_ok sc d cond (left_none (seq_faults c sc cond) (seq_faults c sc b) f)) (whole_ok sc d b (right_none (seq_faults c sc cond) (seq_faults c sc b) f)) h

    other_ok : (sc : Scope) (d : ℕ) (s : Span) (o : t.Other) → other_faults c sc o ≡ [] → Fine (other_of c sc d s o)
    other_ok sc d s t.no_other f = (tt, ((inl refl, tt), tt))
    other_ok sc d s (t.other b) f = whole_ok sc d b f

    whole_ok : (sc : Scope) (d : ℕ) (b : t.Seq) → seq_faults c sc b ≡ [] → Fine (whole_of c sc d b)
    whole_ok sc d (t.seq is s) f = sequence_ok s d (roses_of_items c sc d is) (items_ok sc d is f)

    seq_ok : (sc : Scope) (d : ℕ) (s : Span) (b : t.Seq) → seq_faults c sc b ≡ [] → Fine (seq_of c sc d s b)
    seq_ok sc d s (t.seq is sp) f = sequence_ok s d (roses_of_items c sc d is) (items_ok sc d is f)

    pub items_ok : (sc : Scope) (d : ℕ) (is : t.Items) → items_faults c sc is ≡ [] → AllFine (roses_of_items c sc d is)
    items_ok sc d t.no_items f = tt
    items_ok sc d (t.item i is) f = (item_ok sc d i (left_none (item_faults c sc i) (items_faults c (scope_after c sc i) is) f), items_ok (scope_after c sc i) d is (right_none (item_faults c sc i) (items_faults c (scope_after c sc i) is) f))

    item_ok : (sc : Scope) (d : ℕ) (i : t.Item) → item_faults c sc i ≡ [] → Fine (item_of c sc d i)
    item_ok sc d (t.local fixed n ty e s) f =
        (tt, (expr_ok sc d e (right_none (fault_if (is_name_taken (resolve c sc n.text)) (double n.span) ++ written_faults c ty) (faults_of c sc e) f), tt))
    item_ok sc d (t.plain e) f = expr_ok sc d e f

pub nothing_missing : NothingIsMissing
nothing_missing c sc d e some_text f = expr_ok c some_text sc d e f
