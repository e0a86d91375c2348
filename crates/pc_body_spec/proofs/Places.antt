-- Faults and locals in the order of the text.
use Rattle.std.proofs.{Common.{◌≡◌, ℕ, zero, suc, ◌+◌, ◌<◌, ◌≤◌, Bool, true, false, List, [], ◌∷◌, ◌++◌, length, Option, Some, None, refl, sym, subst, arith, if◌then◌else◌}, lemmas.Option.{same_Some, none-some}, lemmas.Bool.eqb-true}
use Rattle.std.specs.Prelude.{slice_get, nat_eq, nat_lt}
use Rattle.pc_base.specs.{declared.span.Span.Span, Lists.{Each, Ascends}, Limits.text_limit}
use Rattle.pc_tree.specs.{declared.written_names.Name.Name, declared.written_names.TypeRef.TypeRef}
use Rattle.pc_tree.specs.Tree as t
use Rattle.pc_body_spec.specs.{Bodies.{Context, Scope, Constructor, Meaning, local, field, method, nothing, TypeMeaning, primitive, created, no_value, slot_named, slot_at, resolve, type_meaning, constructor_named, scope_after, params_scope, deeper, Start, with_method, with_type, with_value, chain_start, create_name, initial_fields}, Faults.{BodyNameFault, unknown, double, long_text, is_name_taken, is_entity, bare_name_faults, type_name_faults, Next, arguments, name, end, next_of, start_faults, constructor_faults, dot_faults, faults_of, exprs_faults, suffixes_faults, arms_faults, arm_faults, other_faults, seq_faults, items_faults, item_faults, initial_faults, body_faults}, Parts.{unless_some, fault_if, written_faults, value_faults, written_body_faults, value_locals, body_locals}, Slots.{Local, locals_of, exprs_locals, suffixes_locals, arm_locals, arms_locals, other_locals, seq_locals, items_locals, item_locals, initial_locals, method_locals, placed_from}, Places.{written_places, places, exprs_places, suffixes_places, arm_places, arms_places, other_places, seq_places, items_places, item_places, value_places, initial_places, written_body_places, body_places, fault_start, local_start}, Laws.{FirstIsLeast, LocalsHaveSlots}}

-- Things at some of these places, in this order.
module _ {A : Type 0} (f : A → ℕ) where
  pub data Sub : List A → List ℕ → Type 0 where
    none : Sub [] []
    skip : (gs : List A) (n : ℕ) (ns : List ℕ) → Sub gs ns → Sub gs (n ∷ ns)
    take : (g : A) (gs : List A) (ns : List ℕ) → Sub gs ns → Sub (g ∷ gs) (f g ∷ ns)

  pub sub_join : (gs hs : List A) (ns ms : List ℕ) → Sub gs ns → Sub hs ms → Sub (gs ++ hs) (ns ++ ms)
  sub_join gs hs ns ms none k = k
  sub_join gs hs ns ms (skip gs2 n ns2 s) k = skip (gs2 ++ hs) n (ns2 ++ ms) (sub_join gs2 hs ns2 ms s k)
  sub_join gs hs ns ms (take g gs2 ns2 s) k = take g (gs2 ++ hs) (ns2 ++ ms) (sub_join gs2 hs ns2 ms s k)

  pub nothing_at : (ns : List ℕ) → Sub [] ns
  nothing_at [] = none
  nothing_at (n ∷ ns) = skip [] n ns (nothing_at ns)

  -- Each comes before the later ones.
  abbrev pub Rising : List A → Type 0
  Rising [] = Unit {0}
  Rising (g ∷ gs) = Each (λ i h. f g < f h) gs × Rising gs

  also : (x : ℕ) (g : A) (gs : List A) → x < f g → Each (λ i h. x < f h) gs → Each (λ i h. x < f h) (g ∷ gs)
  also x g gs l a zero h e = subst (λ (z : A). x < f z) (same_Some g h e) l
  also x g gs l a (suc i) h e = a i h e

  behind : (x : ℕ) (gs : List A) (ns : List ℕ) → Sub gs ns → Each (λ i b. x < b) ns → Each (λ i h. x < f h) gs
  behind x gs ns none a = λ i h e. absurd (none-some h e)
  behind x gs ns (skip gs2 n ns2 s) a = behind x gs2 ns2 s (λ i b e. a (suc i) b e)
  behind x gs ns (take g gs2 ns2 s) a = also x g gs2 (a 0 (f g) refl) (behind x gs2 ns2 s (λ j b k. a (suc j) b k))

  tail : (n : ℕ) (ns : List ℕ) → Ascends (n ∷ ns) → Ascends ns
  tail n ns a i j x y l e k = let m : suc i < suc j = omega (arith, l) in a (suc i) (suc j) x y m e k

  head : (n : ℕ) (ns : List ℕ) → Ascends (n ∷ ns) → Each (λ i b. n < b) ns
  head n ns a j b e = let m : 0 < suc j = omega arith in a 0 (suc j) n b m refl e

  pub rising : (gs : List A) (ns : List ℕ) → Sub gs ns → Ascends ns → Rising gs
  rising gs ns none a = tt
  rising gs ns (skip gs2 n ns2 s) a = rising gs2 ns2 s (tail n ns2 a)
  rising gs ns (take g gs2 ns2 s) a = (behind (f g) gs2 ns2 s (head (f g) ns2 a), rising gs2 ns2 s (tail (f g) ns2 a))

  first_least : (x : A) (rest : List A) → Rising (x ∷ rest) → Each (λ i g. f x ≤ f g) (x ∷ rest)
  first_least x rest r zero g e = subst (λ (z : A). f x ≤ f z) (same_Some x g e) (omega arith)
  first_least x rest r (suc i) g e = let l = r.0 i g e in omega (arith, l)

-- ---- faults

abbrev FaultsAt : List BodyNameFault → List ℕ → Type 0
FaultsAt = Sub fault_start

both : (gs hs : List BodyNameFault) (ns ms : List ℕ) → FaultsAt gs ns → FaultsAt hs ms → FaultsAt (gs ++ hs) (ns ++ ms)
both = sub_join fault_start

one_at : (g : BodyNameFault) → FaultsAt (g ∷ []) (fault_start g ∷ [])
one_at g = take g [] [] none

none_at : (n : ℕ) → FaultsAt [] (n ∷ [])
none_at n = skip [] n [] none

when_at : (b : Bool) (g : BodyNameFault) → FaultsAt (fault_if b g) (fault_start g ∷ [])
when_at true g = one_at g
when_at false g = none_at (fault_start g)

some_at : {A : Type 0} (o : Option A) (g : BodyNameFault) → FaultsAt (unless_some o g) (fault_start g ∷ [])
some_at (Some a) g = none_at (fault_start g)
some_at None g = one_at g

name_at : (m : Meaning) (s : Span) → FaultsAt (bare_name_faults m s) (s.start ∷ [])
name_at (local x) s = none_at s.start
name_at field s = none_at s.start
name_at method s = one_at (unknown s)
name_at nothing s = one_at (unknown s)

type_at : (m : TypeMeaning) (s : Span) → FaultsAt (type_name_faults m s) (s.start ∷ [])
type_at (primitive e) s = none_at s.start
type_at (created actor cs) s = some_at (constructor_named cs create_name) (unknown s)
type_at no_value s = one_at (unknown s)

written_at : (c : Context) (ty : Option TypeRef) → FaultsAt (written_faults c ty) (written_places ty)
written_at c None = none
written_at c (Some ty) = by (is_entity c.entities ty.name.text)
  where
    by : (b : Bool) → FaultsAt (if b then [] else unknown ty.name.span ∷ []) (ty.name.span.start ∷ [])
    by true = none_at ty.name.span.start
    by false = one_at (unknown ty.name.span)

start_at : (st : Start) (x : Next) (gs : List BodyNameFault) (ns : List ℕ) → FaultsAt gs ns → FaultsAt (start_faults st x gs) ns
start_at (with_method n) arguments gs ns h = nothing_at fault_start ns
start_at (with_method n) name gs ns h = h
start_at (with_method n) end gs ns h = h
start_at (with_type (primitive e)) x gs ns h = h
start_at (with_type (created actor cs)) arguments gs ns h = h
start_at (with_type (created actor cs)) name gs ns h = nothing_at fault_start ns
start_at (with_type (created actor cs)) end gs ns h = h
start_at (with_type no_value) x gs ns h = h
start_at with_value x gs ns h = h

constructor_at : (cs : List Constructor) (n : Name) (x : Next) → FaultsAt (constructor_faults cs n x) (n.span.start ∷ [])
constructor_at cs n arguments = some_at (constructor_named cs n.text) (unknown n.span)
constructor_at cs n name = one_at (unknown n.span)
constructor_at cs n end = one_at (unknown n.span)

dot_at : (st : Start) (n : Name) (x : Next) → FaultsAt (dot_faults st n x) (n.span.start ∷ [])
dot_at (with_method m) n x = none_at n.span.start
dot_at (with_type (primitive e)) n x = none_at n.span.start
dot_at (with_type (created actor cs)) n x = constructor_at cs n x
dot_at (with_type no_value) n x = none_at n.span.start
dot_at with_value n x = none_at n.span.start

mutual
  expr_at : (c : Context) (sc : Scope) (e : t.Expr) → FaultsAt (faults_of c sc e) (places e)
  expr_at c sc (t.number n s) = none
  expr_at c sc (t.truth b s) = none
  expr_at c sc (t.text b s) = when_at (nat_lt text_limit (length b)) (long_text s)
  expr_at c sc (t.name n) = name_at (resolve c sc n.text) n.span
  expr_at c sc (t.type_name n) = type_at (type_meaning c n.text) n.span
  expr_at c sc (t.this s) = none
  expr_at c sc (t.consume n s) = some_at (slot_named sc n.text) (unknown n.span)
  expr_at c sc (t.not_ e s) = expr_at c sc e
  expr_at c sc (t.infix_ o es s) = exprs_at c sc es
  expr_at c sc (t.chain h ss s) = both (start_faults (chain_start c sc h) (next_of ss) (faults_of c sc h)) (suffixes_faults c sc (chain_start c sc h) ss) (places h) (suffixes_places ss) (start_at (chain_start c sc h) (next_of ss) (faults_of c sc h) (places h) (expr_at c sc h)) (suffixes_at c sc (chain_start c sc h) ss)
  expr_at c sc (t.group b s) = seq_at c sc b
  expr_at c sc (t.if_ as' o s) = both (arms_faults c sc as') (other_faults c sc o) (arms_places as') (other_places o) (arms_at c sc as') (other_at c sc o)
  expr_at c sc (t.while_ cond b s) = both (seq_faults c sc cond) (seq_faults c sc b) (seq_places cond) (seq_places b) (seq_at c sc cond) (seq_at c sc b)
  expr_at c sc (t.recover k b s) = seq_at c sc b
  expr_at c sc (t.assign l r s) = both (faults_of c sc l) (faults_of c sc r) (places l) (places r) (expr_at c sc l) (expr_at c sc r)

  exprs_at : (c : Context) (sc : Scope) (es : t.Exprs) → FaultsAt (exprs_faults c sc es) (exprs_places es)
  exprs_at c sc t.no_exprs = none
  exprs_at c sc (t.expr e es) = both (faults_of c sc e) (exprs_faults c sc es) (places e) (exprs_places es) (expr_at c sc e) (exprs_at c sc es)

  suffixes_at : (c : Context) (sc : Scope) (st : Start) (ss : t.Suffixes) → FaultsAt (suffixes_faults c sc st ss) (suffixes_places ss)
  suffixes_at c sc st t.no_suffixes = none
  suffixes_at c sc st (t.suffix (t.dot n) ss) = both (dot_faults st n (next_of ss)) (suffixes_faults c sc with_value ss) (n.span.start ∷ []) (suffixes_places ss) (dot_at st n (next_of ss)) (suffixes_at c sc with_value ss)
  suffixes_at c sc st (t.suffix (t.args es s) ss) = both (exprs_faults c sc es) (suffixes_faults c sc with_value ss) (exprs_places es) (suffixes_places ss) (exprs_at c sc es) (suffixes_at c sc with_value ss)

  arm_at : (c : Context) (sc : Scope) (a : t.Arm) → FaultsAt (arm_faults c sc a) (arm_places a)
  arm_at c sc (t.arm_of cond b s) = both (seq_faults c sc cond) (seq_faults c sc b) (seq_places cond) (seq_places b) (seq_at c sc cond) (seq_at c sc b)

  arms_at : (c : Context) (sc : Scope) (as' : t.Arms) → FaultsAt (arms_faults c sc as') (arms_places as')
  arms_at c sc t.no_arms = none
  arms_at c sc (t.arm a as') = both (arm_faults c sc a) (arms_faults c sc as') (arm_places a) (arms_places as') (arm_at c sc a) (arms_at c sc as')

  other_at : (c : Context) (sc : Scope) (o : t.Other) → FaultsAt (other_faults c sc o) (other_places o)
  other_at c sc t.no_other = none
  other_at c sc (t.other b) = seq_at c sc b

  seq_at : (c : Context) (sc : Scope) (b : t.Seq) → FaultsAt (seq_faults c sc b) (seq_places b)
  seq_at c sc (t.seq is s) = items_at c sc is

  items_at : (c : Context) (sc : Scope) (is : t.Items) → FaultsAt (items_faults c sc is) (items_places is)
  items_at c sc t.no_items = none
  items_at c sc (t.item i is) = both (item_faults c sc i) (items_faults c (scope_after c sc i) is) (item_places i) (items_places is) (item_at c sc i) (items_at c (scope_after c sc i) is)

  item_at : (c : Context) (sc : Scope) (i : t.Item) → FaultsAt (item_faults c sc i) (item_places i)
  item_at c sc (t.local fixed n ty e s) = both (fault_if (is_name_taken (resolve c sc n.text)) (double n.span) ++ written_faults c ty) (faults_of c sc e) (n.span.start ∷ written_places ty) (places e) (both (fault_if (is_name_taken (resolve c sc n.text)) (double n.span)) (written_faults c ty) (n.span.start ∷ []) (written_places ty) (when_at (is_name_taken (resolve c sc n.text)) (double n.span)) (written_at c ty)) (expr_at c sc e)
  item_at c sc (t.plain e) = expr_at c sc e

value_at : (c : Context) (v : Option t.Expr) → FaultsAt (value_faults c v) (value_places v)
value_at c None = none
value_at c (Some e) = expr_at c [] e

initials_at : (c : Context) (fs : List t.Field) → FaultsAt (initial_faults c fs) (initial_places fs)
initials_at c [] = none
initials_at c (x ∷ fs) = both (value_faults c x.value) (initial_faults c fs) (value_places x.value) (initial_places fs) (value_at c x.value) (initials_at c fs)

body_at : (c : Context) (sc : Scope) (b : Option t.Seq) → FaultsAt (written_body_faults c sc b) (written_body_places b)
body_at c sc None = none
body_at c sc (Some b) = seq_at c sc b

method_at : (c : Context) (fs : List t.Field) (x : t.Method) → FaultsAt (body_faults c fs x) (body_places fs x)
method_at c fs x = both (initial_faults c (initial_fields x.word fs)) (written_body_faults c (params_scope x.params) x.body) (initial_places (initial_fields x.word fs)) (written_body_places x.body) (initials_at c (initial_fields x.word fs)) (body_at c (params_scope x.params) x.body)

pub first_is_least : FirstIsLeast
first_is_least c fs x g rest a e =
    let r : Rising fault_start (g ∷ rest) = subst (Rising fault_start) e (rising fault_start (body_faults c fs x) (body_places fs x) (method_at c fs x) a) in
    subst (λ gs. Each (λ i h. fault_start g ≤ fault_start h) gs) (sym e) (first_least fault_start g rest r)

-- ---- locals

abbrev LocalsAt : List Local → List ℕ → Type 0
LocalsAt = Sub local_start

pair : (gs hs : List Local) (ns ms : List ℕ) → LocalsAt gs ns → LocalsAt hs ms → LocalsAt (gs ++ hs) (ns ++ ms)
pair = sub_join local_start

no_local : (n : ℕ) → LocalsAt [] (n ∷ [])
no_local n = skip [] n [] none

mutual
  expr_in : (d : ℕ) (e : t.Expr) → LocalsAt (locals_of d e) (places e)
  expr_in d (t.number n s) = none
  expr_in d (t.truth b s) = none
  expr_in d (t.text b s) = no_local s.start
  expr_in d (t.name n) = no_local n.span.start
  expr_in d (t.type_name n) = no_local n.span.start
  expr_in d (t.this s) = none
  expr_in d (t.consume n s) = no_local n.span.start
  expr_in d (t.not_ e s) = expr_in d e
  expr_in d (t.infix_ o es s) = exprs_in d es
  expr_in d (t.chain h ss s) = pair (locals_of d h) (suffixes_locals d ss) (places h) (suffixes_places ss) (expr_in d h) (suffixes_in d ss)
  expr_in d (t.group b s) = seq_in d b
  expr_in d (t.if_ as' o s) = pair (arms_locals d as') (other_locals d o) (arms_places as') (other_places o) (arms_in d as') (other_in d o)
  expr_in d (t.while_ cond b s) = pair (seq_locals d cond) (seq_locals d b) (seq_places cond) (seq_places b) (seq_in d cond) (seq_in d b)
  expr_in d (t.recover k b s) = seq_in (deeper d) b
  expr_in d (t.assign l r s) = pair (locals_of d l) (locals_of d r) (places l) (places r) (expr_in d l) (expr_in d r)

  exprs_in : (d : ℕ) (es : t.Exprs) → LocalsAt (exprs_locals d es) (exprs_places es)
  exprs_in d t.no_exprs = none
  exprs_in d (t.expr e es) = pair (locals_of d e) (exprs_locals d es) (places e) (exprs_places es) (expr_in d e) (exprs_in d es)

  suffixes_in : (d : ℕ) (ss : t.Suffixes) → LocalsAt (suffixes_locals d ss) (suffixes_places ss)
  suffixes_in d t.no_suffixes = none
  suffixes_in d (t.suffix (t.dot n) ss) = skip (suffixes_locals d ss) n.span.start (suffixes_places ss) (suffixes_in d ss)
  suffixes_in d (t.suffix (t.args es s) ss) = pair (exprs_locals d es) (suffixes_locals d ss) (exprs_places es) (suffixes_places ss) (exprs_in d es) (suffixes_in d ss)

  arm_in : (d : ℕ) (a : t.Arm) → LocalsAt (arm_locals d a) (arm_places a)
  arm_in d (t.arm_of cond b s) = pair (seq_locals d cond) (seq_locals d b) (seq_places cond) (seq_places b) (seq_in d cond) (seq_in d b)

  arms_in : (d : ℕ) (as' : t.Arms) → LocalsAt (arms_locals d as') (arms_places as')
  arms_in d t.no_arms = none
  arms_in d (t.arm a as') = pair (arm_locals d a) (arms_locals d as') (arm_places a) (arms_places as') (arm_in d a) (arms_in d as')

  other_in : (d : ℕ) (o : t.Other) → LocalsAt (other_locals d o) (other_places o)
  other_in d t.no_other = none
  other_in d (t.other b) = seq_in d b

  seq_in : (d : ℕ) (b : t.Seq) → LocalsAt (seq_locals d b) (seq_places b)
  seq_in d (t.seq is s) = items_in d is

  items_in : (d : ℕ) (is : t.Items) → LocalsAt (items_locals d is) (items_places is)
  items_in d t.no_items = none
  items_in d (t.item i is) = pair (item_locals d i) (items_locals d is) (item_places i) (items_places is) (item_in d i) (items_in d is)

  item_in : (d : ℕ) (i : t.Item) → LocalsAt (item_locals d i) (item_places i)
  item_in d (t.local fixed n ty e s) = take (record { fixed = fixed; name = n; ty = ty; depth = d }) (locals_of d e) (written_places ty ++ places e) (pair [] (locals_of d e) (written_places ty) (places e) (nothing_at local_start (written_places ty)) (expr_in d e))
  item_in d (t.plain e) = expr_in d e

value_in : (v : Option t.Expr) → LocalsAt (value_locals v) (value_places v)
value_in None = none
value_in (Some e) = expr_in 0 e

pub initials_in : (fs : List t.Field) → LocalsAt (initial_locals fs) (initial_places fs)
initials_in [] = none
initials_in (x ∷ fs) = pair (value_locals x.value) (initial_locals fs) (value_places x.value) (initial_places fs) (value_in x.value) (initials_in fs)

body_in : (b : Option t.Seq) → LocalsAt (body_locals b) (written_body_places b)
body_in None = none
body_in (Some b) = seq_in 0 b

pub method_in : (fs : List t.Field) (x : t.Method) → LocalsAt (method_locals fs x) (body_places fs x)
method_in fs x = pair (initial_locals (initial_fields x.word fs)) (body_locals x.body) (initial_places (initial_fields x.word fs)) (written_body_places x.body) (initials_in (initial_fields x.word fs)) (body_in x.body)

pub slot_is : (at : ℕ) (ls : List Local) → Rising local_start ls → (i : ℕ) (l : Local) → slice_get ls i ≡ Some l → slot_at (placed_from at ls) (local_start l) ≡ at + i
slot_is at [] r i l e = absurd (none-some l e)
slot_is at (x ∷ xs) r zero l e = subst (λ (z : Local). slot_at (placed_from at (x ∷ xs)) (local_start z) ≡ at + 0) (same_Some x l e) (by (nat_eq (local_start x) (local_start x)) (same_eq (local_start x)))
  where
    same_eq : (n : ℕ) → nat_eq n n ≡ true
    same_eq n = search arith

    by : (b : Bool) → b ≡ true → (if b then at else slot_at (placed_from (suc at) xs) (local_start x)) ≡ at + 0
    by true h = omega arith
    by false h = absurd (false_true h)
      where
        IsTrue : Bool → Type 0
        IsTrue true = ⊥
        IsTrue false = Unit {0}

        false_true : false ≡ true → ⊥
        false_true g = subst IsTrue g tt
slot_is at (x ∷ xs) r (suc i) l e = by (nat_eq (local_start x) (local_start l)) refl (slot_is (suc at) xs r.1 i l e)
  where
    before : local_start x < local_start l
    before = r.0 i l e

    by : (b : Bool) → nat_eq (local_start x) (local_start l) ≡ b → slot_at (placed_from (suc at) xs) (local_start l) ≡ suc at + i → (if b then at else slot_at (placed_from (suc at) xs) (local_start l)) ≡ at + suc i
    by true h rest = let same = eqb-true (local_start x) (local_start l) h in absurd (omega (arith, before, same))
    by false h rest = omega (arith, rest)

pub locals_have_slots : LocalsHaveSlots
locals_have_slots fs x a i l e = slot_is (1 + length x.params) (method_locals fs x) (rising local_start (method_locals fs x) (body_places fs x) (method_in fs x) a) i l e
