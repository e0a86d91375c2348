-- What the tables of a body give for a name is what it means.
use Rattle.std.proofs.{Common.{◌≡◌, ℕ, zero, suc, ◌+◌, ◌<◌, List, [], ◌∷◌, map, Option, Some, None, Bool, true, false, refl, sym, ap, ◌∙◌, subst, inl, inr, ⊎_elim, arith, if◌then◌else◌}, lemmas.Bool.{leb-true, le-leb, eqb-true}, lemmas.Option.{same_Some, none-some}}
use Rattle.std.specs.{Prelude.{◌⊎◌, slice_get, nat_eq, nat_le}, Str.bytes_eq}
use Rattle.pc_base.specs.Lists.{Has, Text}
use Rattle.pc_base.proofs.{Bools.true_false, Elements.has_on}
use Rattle.pc_tree.specs.{declared.kinds.EntityKind.EntityKind, Kinds.first_own}
use Rattle.pc_tree.specs.declared.kinds.EntityKind.TheVariants as kind
use Rattle.pc_members.proofs.Differences.{same_text, equal_texts}
use Rattle.pc_body_spec.specs.{Bodies.{Context, KnownEntity, Constructor, Scope, Visible, is_among_names, slot_named, TypeMeaning, primitive, created, no_value, is_own, by_kind, type_from, type_meaning, constructor_named}, Faults.is_entity}
use Rattle.pc_name_laws.specs.Missing.{IsFirstNamed, HasValue, IsPrimitive, IsCreated, HasConstructor}

abbrev pub names : Scope → List Text
names sc = map (λ (v : Visible). v.name) sc

-- ---- lists of names

none_in : {n : Text} → Has [] n → ⊥
none_in {n} h = none-some n h.1

first_or_later : (x : Text) (xs : List Text) (n : Text) → Has (x ∷ xs) n → (x ≡ n) ⊎ Has xs n
first_or_later x xs n (zero, e) = inl (same_Some x n e)
first_or_later x xs n (suc i, e) = inr (i, e)

differs : (x n : Text) → bytes_eq x n ≡ false → x ≡ n → ⊥
differs x n b e = true_false (sym (same_text n) ∙ ap (λ (z : Text). bytes_eq z n) (sym e) ∙ b)

-- The result of a search for a name; b says whether one of these names is it.
abbrev pub Answers : Bool → List Text → Text → Type 0
Answers true xs n = Has xs n
Answers false xs n = Has xs n → ⊥

one_more : (x : Text) (xs : List Text) (n : Text) (b : Bool) → bytes_eq x n ≡ false → Answers b xs n → Answers b (x ∷ xs) n
one_more x xs n true e a = has_on x xs n a
one_more x xs n false e a = λ h. ⊎_elim (differs x n e) a (first_or_later x xs n h)

at_once : (x : Text) (xs : List Text) (n : Text) → bytes_eq x n ≡ true → Has (x ∷ xs) n
at_once x xs n e = (0, ap (λ (z : Text). Some z) (equal_texts x n e))

pub among : (xs : List Text) (n : Text) → Answers (is_among_names xs n) xs n
among [] n = none_in
among (x ∷ xs) n = by (bytes_eq x n) refl (among xs n)
  where
    by : (b : Bool) → bytes_eq x n ≡ b → Answers (is_among_names xs n) xs n → Answers (if b then true else is_among_names xs n) (x ∷ xs) n
    by true e a = at_once x xs n e
    by false e a = one_more x xs n (is_among_names xs n) e a

abbrev pub is_some : {A : Type 0} → Option A → Bool
is_some None = false
is_some (Some a) = true

pub slots_answer : (sc : Scope) (n : Text) → Answers (is_some (slot_named sc n)) (names sc) n
slots_answer [] n = none_in
slots_answer (v ∷ sc) n = by (bytes_eq v.name n) refl (slots_answer sc n)
  where
    by : (b : Bool) → bytes_eq v.name n ≡ b → Answers (is_some (slot_named sc n)) (names sc) n → Answers (is_some (if b then Some v.slot else slot_named sc n)) (v.name ∷ names sc) n
    by true e a = at_once v.name (names sc) n e
    by false e a = one_more v.name (names sc) n (is_some (slot_named sc n)) e a

abbrev pub known_names : List KnownEntity → List Text
known_names xs = map (λ (x : KnownEntity). x.name) xs

pub entities_answer : (xs : List KnownEntity) (n : Text) → Answers (is_entity xs n) (known_names xs) n
entities_answer [] n = none_in
entities_answer (x ∷ xs) n = by (bytes_eq x.name n) refl (entities_answer xs n)
  where
    by : (b : Bool) → bytes_eq x.name n ≡ b → Answers (is_entity xs n) (known_names xs) n → Answers (if b then true else is_entity xs n) (x.name ∷ known_names xs) n
    by true e a = at_once x.name (known_names xs) n e
    by false e a = one_more x.name (known_names xs) n (is_entity xs n) e a

abbrev pub constructor_names : List Constructor → List Text
constructor_names cs = map (λ (k : Constructor). k.name) cs

pub constructors_answer : (cs : List Constructor) (n : Text) → Answers (is_some (constructor_named cs n)) (constructor_names cs) n
constructors_answer [] n = none_in
constructors_answer (x ∷ cs) n = by (bytes_eq x.name n) refl (constructors_answer cs n)
  where
    by : (b : Bool) → bytes_eq x.name n ≡ b → Answers (is_some (constructor_named cs n)) (constructor_names cs) n → Answers (is_some (if b then Some x.method else constructor_named cs n)) (x.name ∷ constructor_names cs) n
    by true e a = at_once x.name (constructor_names cs) n e
    by false e a = one_more x.name (constructor_names cs) n (is_some (constructor_named cs n)) e a

-- ---- the entity of a name

abbrev value_at : ℕ → KnownEntity → TypeMeaning
value_at i x = if is_own i then by_kind x.kind i x.constructors else no_value

-- No entity has the name.
abbrev Unnamed : List KnownEntity → Text → Type 0
Unnamed xs n = (i : ℕ) (x : KnownEntity) → slice_get xs i ≡ Some x → x.name ≡ n → ⊥

abbrev Looked : Context → Text → TypeMeaning → Type 0
Looked c n m = ((i : ℕ) × (x : KnownEntity) × IsFirstNamed c n i x × (m ≡ value_at i x)) ⊎ (Unnamed c.entities n × (m ≡ no_value))

abbrev FirstIn : List KnownEntity → Text → ℕ → KnownEntity → Type 0
FirstIn xs n i x = (slice_get xs i ≡ Some x) × (x.name ≡ n)
    × ((j : ℕ) (y : KnownEntity) → j < i → slice_get xs j ≡ Some y → y.name ≡ n → ⊥)

unnamed_on : (x : KnownEntity) (xs : List KnownEntity) (n : Text) → bytes_eq x.name n ≡ false → Unnamed xs n → Unnamed (x ∷ xs) n
unnamed_on x xs n b u zero y e s = differs x.name n b (ap (λ (z : KnownEntity). z.name) (same_Some x y e) ∙ s)
unnamed_on x xs n b u (suc i) y e s = u i y e s

first_on : (x : KnownEntity) (xs : List KnownEntity) (n : Text) (i : ℕ) (y : KnownEntity) → bytes_eq x.name n ≡ false → FirstIn xs n i y → FirstIn (x ∷ xs) n (suc i) y
first_on x xs n i y b f = (f.0, f.1, none)
  where
    none : (j : ℕ) (z : KnownEntity) → j < suc i → slice_get (x ∷ xs) j ≡ Some z → z.name ≡ n → ⊥
    none zero z l e s = differs x.name n b (ap (λ (k : KnownEntity). k.name) (same_Some x z e) ∙ s)
    none (suc j) z l e s = f.2 j z (omega (arith, l)) e s

search_from : (at : ℕ) (xs : List KnownEntity) (n : Text) → ((i : ℕ) × (x : KnownEntity) × FirstIn xs n i x × (type_from at xs n ≡ value_at (at + i) x)) ⊎ (Unnamed xs n × (type_from at xs n ≡ no_value))
search_from at [] n = inr (λ i x e s. none-some x e, refl)
search_from at (x ∷ xs) n = by (bytes_eq x.name n) refl (search_from (suc at) xs n)
  where
    by : (b : Bool) → bytes_eq x.name n ≡ b → ((i : ℕ) × (y : KnownEntity) × FirstIn xs n i y × (type_from (suc at) xs n ≡ value_at (suc at + i) y)) ⊎ (Unnamed xs n × (type_from (suc at) xs n ≡ no_value))
        → ((i : ℕ) × (y : KnownEntity) × FirstIn (x ∷ xs) n i y × ((if b then value_at at x else type_from (suc at) xs n) ≡ value_at (at + i) y)) ⊎ (Unnamed (x ∷ xs) n × ((if b then value_at at x else type_from (suc at) xs n) ≡ no_value))
    by true e r = inl (0, x, (refl, equal_texts x.name n e, λ j y l g s. absurd (omega (arith, l))), ap (λ k. value_at k x) (let z : at ≡ at + 0 = omega arith in z))
    by false e (inl r) = inl (suc r.0, r.1, first_on x xs n r.0 r.1 e r.2, r.3 ∙ ap (λ k. value_at k r.1) (let z : suc at + r.0 ≡ at + suc r.0 = omega arith in z))
    by false e (inr r) = inr (unnamed_on x xs n e r.0, r.1)

looked : (c : Context) (n : Text) → Looked c n (type_meaning c n)
looked c n = by (search_from 0 c.entities n)
  where
    by : ((i : ℕ) × (x : KnownEntity) × FirstIn c.entities n i x × (type_from 0 c.entities n ≡ value_at (0 + i) x)) ⊎ (Unnamed c.entities n × (type_from 0 c.entities n ≡ no_value)) → Looked c n (type_meaning c n)
    by (inl r) = inl (r.0, r.1, r.2, r.3 ∙ ap (λ k. value_at k r.1) (let z : 0 + r.0 ≡ r.0 = omega arith in z))
    by (inr r) = inr r

-- There is only one first entity with a name.
one_named : (c : Context) (n : Text) (i j : ℕ) (x y : KnownEntity) → IsFirstNamed c n i x → IsFirstNamed c n j y → (i ≡ j) × (x ≡ y)
one_named c n i j x y a b = by (cases_three i j)
  where
    cases_three : (p q : ℕ) → (p ≡ q) ⊎ (p < q) ⊎ (q < p)
    cases_three p q = search arith

    by : (i ≡ j) ⊎ (i < j) ⊎ (j < i) → (i ≡ j) × (x ≡ y)
    by (inl e) = (e, same_Some x y (sym a.0 ∙ ap (slice_get c.entities) e ∙ b.0))
    by (inr (inl l)) = absurd (b.2 i x l a.0 a.1)
    by (inr (inr l)) = absurd (a.2 j y l b.0 b.1)

-- ---- what a type name means

-- What its meaning as a type says of a name.
abbrev pub Says : Context → Text → TypeMeaning → Type 0
Says c n (primitive e) = IsPrimitive c n × ((x : KnownEntity) → IsCreated c n x → ⊥)
Says c n (created actor cs) = (x : KnownEntity) × IsCreated c n x × (x.constructors ≡ cs) × ((y : KnownEntity) → IsCreated c n y → y ≡ x) × (IsPrimitive c n → ⊥)
Says c n no_value = (IsPrimitive c n → ⊥) × ((x : KnownEntity) → IsCreated c n x → ⊥)

own_number : (e : ℕ) → is_own e ≡ true → HasValue e
own_number e h = by (nat_eq e 0) refl h
  where
    by : (b : Bool) → nat_eq e 0 ≡ b → (if b then true else nat_le first_own e) ≡ true → HasValue e
    by true z k = inl (eqb-true e 0 z)
    by false z k = inr (leb-true first_own e k)

own_true : (e : ℕ) → HasValue e → is_own e ≡ true
own_true e (inl z) = ap is_own z
own_true e (inr l) = by (nat_eq e 0)
  where
    large : nat_le first_own e ≡ true
    large = le-leb first_own e l

    by : (b : Bool) → (if b then true else nat_le first_own e) ≡ true
    by true = refl
    by false = large

abbrev is_class : EntityKind → Bool
is_class kind.Class = true
is_class kind.Actor = true
is_class kind.Primitive = false
is_class kind.Trait = false
is_class kind.Interface = false

abbrev is_primitive : EntityKind → Bool
is_primitive kind.Class = false
is_primitive kind.Actor = false
is_primitive kind.Primitive = true
is_primitive kind.Trait = false
is_primitive kind.Interface = false

module _ (c : Context) (n : Text) (i : ℕ) (x : KnownEntity) (at : IsFirstNamed c n i x) where
  -- If the entity with the name is not one that makes objects, none is.
  not_created : is_class x.kind ≡ false → (y : KnownEntity) → IsCreated c n y → ⊥
  not_created k y h =
      let same = one_named c n i h.0 x y at h.1 in
      let f : is_class y.kind ≡ false = ap (λ (z : KnownEntity). is_class z.kind) (sym same.1) ∙ k in
      ⊎_elim (λ e. true_false (ap is_class (sym e) ∙ f)) (λ e. true_false (ap is_class (sym e) ∙ f)) h.3

  not_primitive : is_primitive x.kind ≡ false → IsPrimitive c n → ⊥
  not_primitive k h =
      let same = one_named c n i h.0 x h.1 at h.2 in
      true_false (ap is_primitive (sym h.4) ∙ ap (λ (z : KnownEntity). is_primitive z.kind) (sym same.1) ∙ k)

  one_created : (y : KnownEntity) → IsCreated c n y → y ≡ x
  one_created y h = sym (one_named c n i h.0 x y at h.1).1

  says_own : (k : EntityKind) → x.kind ≡ k → HasValue i → Says c n (by_kind k i x.constructors)
  says_own kind.Class e o = (x, (i, at, o, inl e), refl, one_created, not_primitive (ap is_primitive e))
  says_own kind.Actor e o = (x, (i, at, o, inr e), refl, one_created, not_primitive (ap is_primitive e))
  says_own kind.Primitive e o = ((i, x, at, o, e), not_created (ap is_class e))
  says_own kind.Trait e o = (not_primitive (ap is_primitive e), not_created (ap is_class e))
  says_own kind.Interface e o = (not_primitive (ap is_primitive e), not_created (ap is_class e))

  not_own : is_own i ≡ false → Says c n no_value
  not_own f = (
    λ h. true_false (sym (own_true h.0 h.3) ∙ ap is_own (sym (one_named c n i h.0 x h.1 at h.2).0) ∙ f),
    λ y h. true_false (sym (own_true h.0 h.2) ∙ ap is_own (sym (one_named c n i h.0 x y at h.1).0) ∙ f),
  )

  says_value : Says c n (value_at i x)
  says_value = by (is_own i) refl
    where
      by : (b : Bool) → is_own i ≡ b → Says c n (if b then by_kind x.kind i x.constructors else no_value)
      by true o = says_own x.kind refl (own_number i o)
      by false o = not_own o

pub says : (c : Context) (n : Text) → Says c n (type_meaning c n)
says c n = by (looked c n)
  where
    by : Looked c n (type_meaning c n) → Says c n (type_meaning c n)
    by (inl r) = subst (Says c n) (sym r.3) (says_value c n r.0 r.1 r.2)
    by (inr r) = subst (Says c n) (sym r.1) (λ h. r.0 h.0 h.1 h.2.0 h.2.1, λ y h. r.0 h.0 y h.1.0 h.1.1)

-- A constructor with the name is found, or there is none.
abbrev pub Constructs : Option ℕ → KnownEntity → Text → Type 0
Constructs (Some m) x n = HasConstructor x n
Constructs None x n = HasConstructor x n → ⊥

named_in : (cs : List Constructor) (n : Text) → Has (constructor_names cs) n → (k : Constructor) × Has cs k × (k.name ≡ n)
named_in [] n h = absurd (none_in h)
named_in (x ∷ cs) n (zero, e) = (x, (0, refl), same_Some x.name n e)
named_in (x ∷ cs) n (suc i, e) = let r = named_in cs n (i, e) in (r.0, has_on x cs r.0 r.1, r.2)

in_named : (cs : List Constructor) (i : ℕ) (k : Constructor) (n : Text) → slice_get cs i ≡ Some k → k.name ≡ n → Has (constructor_names cs) n
in_named [] i k n e s = absurd (none-some k e)
in_named (x ∷ cs) zero k n e s = (0, ap (λ (z : Constructor). Some z.name) (same_Some x k e) ∙ ap (λ (z : Text). Some z) s)
in_named (x ∷ cs) (suc i) k n e s = has_on x.name (constructor_names cs) n (in_named cs i k n e s)

pub constructs : (x : KnownEntity) (cs : List Constructor) (n : Text) → x.constructors ≡ cs → Constructs (constructor_named cs n) x n
constructs x cs n same = subst (λ (ks : List Constructor). Constructs (constructor_named ks n) x n) same (by (constructor_named x.constructors n) (constructors_answer x.constructors n))
  where
    by : (o : Option ℕ) → Answers (is_some o) (constructor_names x.constructors) n → Constructs o x n
    by (Some m) a = named_in x.constructors n a
    by None a = λ h. a (in_named x.constructors h.1.0 h.0 n h.1.1 h.2)

known_in : (xs : List KnownEntity) (n : Text) → Has (known_names xs) n → (x : KnownEntity) × Has xs x × (x.name ≡ n)
known_in [] n h = absurd (none_in h)
known_in (x ∷ xs) n (zero, e) = (x, (0, refl), same_Some x.name n e)
known_in (x ∷ xs) n (suc i, e) = let r = known_in xs n (i, e) in (r.0, has_on x xs r.0 r.1, r.2)

in_known : (xs : List KnownEntity) (i : ℕ) (x : KnownEntity) (n : Text) → slice_get xs i ≡ Some x → x.name ≡ n → Has (known_names xs) n
in_known [] i x n e s = absurd (none-some x e)
in_known (y ∷ xs) zero x n e s = (0, ap (λ (z : KnownEntity). Some z.name) (same_Some y x e) ∙ ap (λ (z : Text). Some z) s)
in_known (y ∷ xs) (suc i) x n e s = has_on y.name (known_names xs) n (in_known xs i x n e s)

-- An entity with the name is known, or there is none.
abbrev pub Knows : Bool → List KnownEntity → Text → Type 0
Knows true xs n = (x : KnownEntity) × Has xs x × (x.name ≡ n)
Knows false xs n = (x : KnownEntity) × Has xs x × (x.name ≡ n) → ⊥

pub knows : (xs : List KnownEntity) (n : Text) → Knows (is_entity xs n) xs n
knows xs n = by (is_entity xs n) (entities_answer xs n)
  where
    by : (b : Bool) → Answers b (known_names xs) n → Knows b xs n
    by true a = known_in xs n a
    by false a = λ h. a (in_known xs h.1.0 h.0 n h.1.1 h.2)
