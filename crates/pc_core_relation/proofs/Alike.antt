-- Two contexts in which the same names mean the same, up to numbers, find the same faults in a body.
use Rattle.std.proofs.Common.{◌≡◌, ℕ, List, [], ◌∷◌, ◌++◌, Option, Some, None, Bool, true, false, refl, ap, ap₂, sym, subst, if◌then◌else◌}
use Rattle.std.specs.Str.{bytes_eq}
use Rattle.pc_base.specs.declared.span.Span.{Span}
use Rattle.pc_tree.specs.{declared.written_names.Name.Name, declared.written_names.TypeRef.TypeRef}
use Rattle.pc_tree.specs.Tree as t
use Rattle.pc_body_spec.specs.{Bodies.{Context, Scope, Visible, Constructor, Meaning, local, member, unless_local, TypeMeaning, created, is_among_names, slot_named, resolve, type_meaning, constructor_named, defined_local, scope_after, params_scope, Start, with_type, with_value, start_with_name, chain_start, create_name, initial_fields}, Faults.{BodyNameFault, double, unknown, bare_name_faults, type_name_faults, is_entity, is_name_taken, Next, arguments, name, end, next_of, start_faults, dot_faults, faults_of, exprs_faults, suffixes_faults, arms_faults, arm_faults, other_faults, seq_faults, items_faults, item_faults, initial_faults, body_faults}, Parts.{fault_if, unless_some, written_faults, value_faults, written_body_faults}}

-- ---- numbers that are there in both, or in neither

pub data Paired : Option ℕ → Option ℕ → Type 0 where
  both : (a b : ℕ) → Paired (Some a) (Some b)
  neither : Paired None None

pub paired_same : (o : Option ℕ) → Paired o o
paired_same None = neither
paired_same (Some a) = both a a

pub paired_if : (b : Bool) (n m : ℕ) (o p : Option ℕ) → Paired o p → Paired (if b then Some n else o) (if b then Some m else p)
paired_if true n m o p h = both n m
paired_if false n m o p h = h

-- ---- scopes

abbrev pub SameNames : Scope → Scope → Type 0
SameNames sc k = (x : List ℕ) → Paired (slot_named sc x) (slot_named k x)

pub same_scope : (sc : Scope) → SameNames sc sc
same_scope sc x = paired_same (slot_named sc x)

abbrev or_else : Option ℕ → Option ℕ → Option ℕ
or_else (Some a) o = Some a
or_else None o = o

named_last : (sc : Scope) (v : Visible) (x : List ℕ) → slot_named (sc ++ v ∷ []) x ≡ or_else (slot_named sc x) (if bytes_eq v.name x then Some v.slot else None)
named_last [] v x = refl
named_last (w ∷ ws) v x = by (bytes_eq w.name x) (named_last ws v x)
  where
    by : (b : Bool) → slot_named (ws ++ v ∷ []) x ≡ or_else (slot_named ws x) (if bytes_eq v.name x then Some v.slot else None)
        → (if b then Some w.slot else slot_named (ws ++ v ∷ []) x) ≡ or_else (if b then Some w.slot else slot_named ws x) (if bytes_eq v.name x then Some v.slot else None)
    by true e = refl
    by false e = e

paired_last : (o p q r : Option ℕ) → Paired o p → Paired q r → Paired (or_else o q) (or_else p r)
paired_last _ _ q r (both a b) h = both a b
paired_last _ _ q r neither h = h

more_scope : (sc k : Scope) (v w : Visible) → SameNames sc k → v.name ≡ w.name → SameNames (sc ++ v ∷ []) (k ++ w ∷ [])
more_scope sc k v w h e x =
    let last : Paired (if bytes_eq v.name x then Some v.slot else None) (if bytes_eq w.name x then Some w.slot else None) =
    subst (λ n. Paired (if bytes_eq v.name x then Some v.slot else None) (if bytes_eq n x then Some w.slot else None)) e (paired_if (bytes_eq v.name x) v.slot w.slot None None neither) in
    let whole = paired_last (slot_named sc x) (slot_named k x) (if bytes_eq v.name x then Some v.slot else None) (if bytes_eq w.name x then Some w.slot else None) (h x) last in
    subst (λ o. Paired o (slot_named (k ++ w ∷ []) x)) (sym (named_last sc v x)) (subst (λ o. Paired (or_else (slot_named sc x) (if bytes_eq v.name x then Some v.slot else None)) o) (sym (named_last k w x)) whole)

pub next_scope : (c d : Context) (sc k : Scope) → SameNames sc k → (i : t.Item) → SameNames (scope_after c sc i) (scope_after d k i)
next_scope c d sc k h (t.local fixed n ty e s) = more_scope sc k (defined_local c n) (defined_local d n) h refl
next_scope c d sc k h (t.plain e) = h

-- ---- what names mean

pub data MeaningsMatch : Meaning → Meaning → Type 0 where
  locals : (a b : ℕ) → MeaningsMatch (local a) (local b)
  same_meaning : (m : Meaning) → MeaningsMatch m m

pub data TypesMatch : TypeMeaning → TypeMeaning → Type 0 where
  makers : (actor : Bool) (cs ds : List Constructor) → ((x : List ℕ) → Paired (constructor_named cs x) (constructor_named ds x)) → TypesMatch (created actor cs) (created actor ds)
  same_type : (m : TypeMeaning) → TypesMatch m m

pub data StartsMatch : Start → Start → Type 0 where
  makers_start : (actor : Bool) (cs ds : List Constructor) → ((x : List ℕ) → Paired (constructor_named cs x) (constructor_named ds x)) → StartsMatch (with_type (created actor cs)) (with_type (created actor ds))
  same_start : (st : Start) → StartsMatch st st

-- Contexts in which each name means the same.
pub record Alike (c d : Context) : Type 0 where
  pub fields : c.fields ≡ d.fields
  pub methods : c.methods ≡ d.methods
  pub types : (x : List ℕ) → TypesMatch (type_meaning c x) (type_meaning d x)
  pub entities : (x : List ℕ) → is_entity c.entities x ≡ is_entity d.entities x

unless_match : (o p : Option ℕ) → Paired o p → (m : Meaning) → MeaningsMatch (unless_local o m) (unless_local p m)
unless_match _ _ (both a b) m = locals a b
unless_match _ _ neither m = same_meaning m

typed_match : (m n : TypeMeaning) → TypesMatch m n → StartsMatch (with_type m) (with_type n)
typed_match _ _ (makers actor cs ds h) = makers_start actor cs ds h
typed_match _ _ (same_type m) = same_start (with_type m)

named_match : (x : Name) (m n : Meaning) → MeaningsMatch m n → StartsMatch (start_with_name x m) (start_with_name x n)
named_match x _ _ (locals a b) = same_start with_value
named_match x _ _ (same_meaning m) = same_start (start_with_name x m)

module _ (c d : Context) (like : Alike c d) where
  pub resolves : (sc k : Scope) → SameNames sc k → (x : List ℕ) → MeaningsMatch (resolve c sc x) (resolve d k x)
  resolves sc k h x =
      subst (λ m. MeaningsMatch (resolve c sc x) (unless_local (slot_named k x) m)) (ap₂ (λ f m. member (is_among_names f x) (is_among_names m x)) like.fields like.methods)
      (unless_match (slot_named sc x) (slot_named k x) (h x) (member (is_among_names c.fields x) (is_among_names c.methods x)))

  pub starts : (sc k : Scope) → SameNames sc k → (e : t.Expr) → StartsMatch (chain_start c sc e) (chain_start d k e)
  starts sc k h (t.name n) = named_match n (resolve c sc n.text) (resolve d k n.text) (resolves sc k h n.text)
  starts sc k h (t.type_name n) = typed_match (type_meaning c n.text) (type_meaning d n.text) (like.types n.text)
  starts sc k h e = same_start with_value

-- ---- faults of names

some_same : (o p : Option ℕ) → Paired o p → (f : BodyNameFault) → unless_some o f ≡ unless_some p f
some_same _ _ (both a b) f = refl
some_same _ _ neither f = refl

name_same : (m n : Meaning) → MeaningsMatch m n → (s : Span) → bare_name_faults m s ≡ bare_name_faults n s
name_same _ _ (locals a b) s = refl
name_same _ _ (same_meaning m) s = refl

taken_same : (m n : Meaning) → MeaningsMatch m n → is_name_taken m ≡ is_name_taken n
taken_same _ _ (locals a b) = refl
taken_same _ _ (same_meaning m) = refl

type_same : (m n : TypeMeaning) → TypesMatch m n → (s : Span) → type_name_faults m s ≡ type_name_faults n s
type_same _ _ (makers actor cs ds h) s = some_same (constructor_named cs create_name) (constructor_named ds create_name) (h create_name) (unknown s)
type_same _ _ (same_type m) s = refl

start_same : (st u : Start) → StartsMatch st u → (n : Next) (a b : List BodyNameFault) → a ≡ b → start_faults st n a ≡ start_faults u n b
start_same _ _ (makers_start actor cs ds h) arguments a b p = p
start_same _ _ (makers_start actor cs ds h) name a b p = refl
start_same _ _ (makers_start actor cs ds h) end a b p = p
start_same _ _ (same_start st) n a b p = ap (start_faults st n) p

dot_same : (st u : Start) → StartsMatch st u → (n : Name) (x : Next) → dot_faults st n x ≡ dot_faults u n x
dot_same _ _ (makers_start actor cs ds h) n arguments = some_same (constructor_named cs n.text) (constructor_named ds n.text) (h n.text) (unknown n.span)
dot_same _ _ (makers_start actor cs ds h) n name = refl
dot_same _ _ (makers_start actor cs ds h) n end = refl
dot_same _ _ (same_start st) n x = refl

both_same : (a b u v : List BodyNameFault) → a ≡ b → u ≡ v → a ++ u ≡ b ++ v
both_same a b u v p q = ap₂ (λ x y. x ++ y) p q

-- ---- faults of bodies

module _ (c d : Context) (like : Alike c d) where
  written_same : (ty : Option TypeRef) → written_faults c ty ≡ written_faults d ty
  written_same None = refl
  written_same (Some ty) = ap (λ b. if b then [] else unknown ty.name.span ∷ []) (like.entities ty.name.text)

  mutual
    expr_same : (sc k : Scope) → SameNames sc k → (e : t.Expr) → faults_of c sc e ≡ faults_of d k e
    expr_same sc k h (t.number n s) = refl
    expr_same sc k h (t.truth b s) = refl
    expr_same sc k h (t.text b s) = refl
    expr_same sc k h (t.name n) = name_same (resolve c sc n.text) (resolve d k n.text) (resolves c d like sc k h n.text) n.span
    expr_same sc k h (t.type_name n) = type_same (type_meaning c n.text) (type_meaning d n.text) (like.types n.text) n.span
    expr_same sc k h (t.this s) = refl
    expr_same sc k h (t.consume n s) = some_same (slot_named sc n.text) (slot_named k n.text) (h n.text) (unknown n.span)
    expr_same sc k h (t.not_ e s) = expr_same sc k h e
    expr_same sc k h (t.infix_ o es s) = exprs_same sc k h es
    expr_same sc k h (t.chain e ss s) =
        both_same (start_faults (chain_start c sc e) (next_of ss) (faults_of c sc e)) (start_faults (chain_start d k e) (next_of ss) (faults_of d k e)) (suffixes_faults c sc (chain_start c sc e) ss) (suffixes_faults d k (chain_start d k e) ss)
        (start_same (chain_start c sc e) (chain_start d k e) (starts c d like sc k h e) (next_of ss) (faults_of c sc e) (faults_of d k e) (expr_same sc k h e))
        (suffixes_same sc k h (chain_start c sc e) (chain_start d k e) (starts c d like sc k h e) ss)
    expr_same sc k h (t.group b s) = seq_same sc k h b
    expr_same sc k h (t.if_ as' o s) = both_same (arms_faults c sc as') (arms_faults d k as') (other_faults c sc o) (other_faults d k o) (arms_same sc k h as') (other_same sc k h o)
    expr_same sc k h (t.while_ cond b s) = both_same (seq_faults c sc cond) (seq_faults d k cond) (seq_faults c sc b) (seq_faults d k b) (seq_same sc k h cond) (seq_same sc k h b)
    expr_same sc k h (t.recover x b s) = seq_same sc k h b
    expr_same sc k h (t.assign l r s) = both_same (faults_of c sc l) (faults_of d k l) (faults_of c sc r) (faults_of d k r) (expr_same sc k h l) (expr_same sc k h r)

    exprs_same : (sc k : Scope) → SameNames sc k → (es : t.Exprs) → exprs_faults c sc es ≡ exprs_faults d k es
    exprs_same sc k h t.no_exprs = refl
    exprs_same sc k h (t.expr e es) = both_same (faults_of c sc e) (faults_of d k e) (exprs_faults c sc es) (exprs_faults d k es) (expr_same sc k h e) (exprs_same sc k h es)

    suffixes_same : (sc k : Scope) → SameNames sc k → (st u : Start) → StartsMatch st u → (ss : t.Suffixes) → suffixes_faults c sc st ss ≡ suffixes_faults d k u ss
    suffixes_same sc k h st u m t.no_suffixes = refl
    suffixes_same sc k h st u m (t.suffix (t.dot n) ss) =
        both_same (dot_faults st n (next_of ss)) (dot_faults u n (next_of ss)) (suffixes_faults c sc with_value ss) (suffixes_faults d k with_value ss)
        (dot_same st u m n (next_of ss)) (suffixes_same sc k h with_value with_value (same_start with_value) ss)
    suffixes_same sc k h st u m (t.suffix (t.args es s) ss) =
        both_same (exprs_faults c sc es) (exprs_faults d k es) (suffixes_faults c sc with_value ss) (suffixes_faults d k with_value ss)
        (exprs_same sc k h es) (suffixes_same sc k h with_value with_value (same_start with_value) ss)

    arms_same : (sc k : Scope) → SameNames sc k → (as' : t.Arms) → arms_faults c sc as' ≡ arms_faults d k as'
    arms_same sc k h t.no_arms = refl
    arms_same sc k h (t.arm a as') = both_same (arm_faults c sc a) (arm_faults d k a) (arms_faults c sc as') (arms_faults d k as') (arm_same sc k h a) (arms_same sc k h as')

    arm_same : (sc k : Scope) → SameNames sc k → (a : t.Arm) → arm_faults c sc a ≡ arm_faults d k a
    arm_same sc k h (t.arm_of cond b s) = both_same (seq_faults c sc cond) (seq_faults d k cond) (seq_faults c sc b) (seq_faults d k b) (seq_same sc k h cond) (seq_same sc k h b)

    other_same : (sc k : Scope) → SameNames sc k → (o : t.Other) → other_faults c sc o ≡ other_faults d k o
    other_same sc k h t.no_other = refl
    other_same sc k h (t.other b) = seq_same sc k h b

    seq_same : (sc k : Scope) → SameNames sc k → (b : t.Seq) → seq_faults c sc b ≡ seq_faults d k b
    seq_same sc k h (t.seq is s) = items_same sc k h is

    items_same : (sc k : Scope) → SameNames sc k → (is : t.Items) → items_faults c sc is ≡ items_faults d k is
    items_same sc k h t.no_items = refl
    items_same sc k h (t.item i is) =
        both_same (item_faults c sc i) (item_faults d k i) (items_faults c (scope_after c sc i) is) (items_faults d (scope_after d k i) is)
        (item_same sc k h i) (items_same (scope_after c sc i) (scope_after d k i) (next_scope c d sc k h i) is)

    item_same : (sc k : Scope) → SameNames sc k → (i : t.Item) → item_faults c sc i ≡ item_faults d k i
    item_same sc k h (t.local fixed n ty e s) =
        both_same (fault_if (is_name_taken (resolve c sc n.text)) (double n.span) ++ written_faults c ty) (fault_if (is_name_taken (resolve d k n.text)) (double n.span) ++ written_faults d ty) (faults_of c sc e) (faults_of d k e)
        (both_same (fault_if (is_name_taken (resolve c sc n.text)) (double n.span)) (fault_if (is_name_taken (resolve d k n.text)) (double n.span)) (written_faults c ty) (written_faults d ty)
        (ap (λ b. fault_if b (double n.span)) (taken_same (resolve c sc n.text) (resolve d k n.text) (resolves c d like sc k h n.text))) (written_same ty))
        (expr_same sc k h e)
    item_same sc k h (t.plain e) = expr_same sc k h e

  value_same : (v : Option t.Expr) → value_faults c v ≡ value_faults d v
  value_same None = refl
  value_same (Some e) = expr_same [] [] (same_scope []) e

  pub initial_same : (fs : List t.Field) → initial_faults c fs ≡ initial_faults d fs
  initial_same [] = refl
  initial_same (f ∷ fs) = both_same (value_faults c f.value) (value_faults d f.value) (initial_faults c fs) (initial_faults d fs) (value_same f.value) (initial_same fs)

  written_body_same : (sc : Scope) (b : Option t.Seq) → written_body_faults c sc b ≡ written_body_faults d sc b
  written_body_same sc None = refl
  written_body_same sc (Some b) = seq_same sc sc (same_scope sc) b

  pub body_same : (fs : List t.Field) (m : t.Method) → body_faults c fs m ≡ body_faults d fs m
  body_same fs m =
      both_same (initial_faults c (initial_fields m.word fs)) (initial_faults d (initial_fields m.word fs)) (written_body_faults c (params_scope m.params) m.body) (written_body_faults d (params_scope m.params) m.body)
      (initial_same (initial_fields m.word fs)) (written_body_same (params_scope m.params) m.body)
