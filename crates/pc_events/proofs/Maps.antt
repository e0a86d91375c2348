-- Objects that are set and made.
use Rattle.std.specs.{Prelude.{◌≡◌, ◌≢◌, ◌⊎◌, ℕ, ◌+◌, Bool, List, true, false, cond, nat_eq, Option, Some, None, slice_get, refl, ⊤}, Ordering.eq_by_cmp, FinMap.{get, insert, get-insert, same_map}}
use Rattle.std.proofs.{Common.{inl, inr, ap, sym, subst, ◌∙◌, arith}, lemmas.Option.none-some, lemmas.Bool.ne_eqb, lemmas.List.set_comm, lemmas.Map.Views.tells_apart}
use Rattle.pc_heap.specs.{Objects.{address_cmp, ObjectMap, made_by, class_at, with_field, with_value, Object}, Parts.{class_in, object_in, field_in}, Fields.field_at, declared.value.Address.Address, declared.value.Value.Value}
use Rattle.pc_heap.proofs.{Maps.{addresses_total, exact_addresses, get_own, tied_own}, Counts.{made_more, made_same}}
use Rattle.pc_base.specs.Counts.{one_if}
use Rattle.pc_base.proofs.Gets.{get_set_other}
use Rattle.pc_events.proofs.Changes.{Heaping, Same, Sets, New, heaped}

-- ---- insertions

pub is_one : (q a : Address) → q ≡ a → eq_by_cmp address_cmp q a ≡ true
is_one q a e = ap (eq_by_cmp address_cmp q) (sym e) ∙ tied_own addresses_total q

false_true : false ≡ true → ⊥
false_true e = cc

is_other : (q a : Address) → q ≢ a → (b : Bool) → eq_by_cmp address_cmp q a ≡ b → b ≡ false
is_other q a n true e = absurd (n (tells_apart exact_addresses q a e))
is_other q a n false e = refl

-- One address, or another.
pub address_cases : (q a : Address) → (q ≡ a) ⊎ (q ≢ a)
address_cases q a = go (eq_by_cmp address_cmp q a) refl
  where
    go : (b : Bool) → eq_by_cmp address_cmp q a ≡ b → (q ≡ a) ⊎ (q ≢ a)
    go true e = inl (tells_apart exact_addresses q a e)
    go false e = inr (λ s. false_true (sym e ∙ is_one q a s))

pub get_after : (h : ObjectMap) (a : Address) (o : Object) (q : Address) → get (insert h a o) q ≡ cond (eq_by_cmp address_cmp q a) (Some o) (get h q)
get_after h a o q = get-insert addresses_total h a o q

pub get_here : (h : ObjectMap) (a : Address) (o : Object) → get (insert h a o) a ≡ Some o
get_here h a o = get_own addresses_total h a o

pub get_other : (h : ObjectMap) (a : Address) (o : Object) (q : Address) → q ≢ a → get (insert h a o) q ≡ get h q
get_other h a o q n = get_after h a o q ∙ ap (λ (b : Bool). cond b (Some o) (get h q)) (is_other q a n (eq_by_cmp address_cmp q a) refl)

two_conds : {X : Type 0} (s t : Bool) (x y z : X) → (s ≡ true → t ≡ true → ⊥) → cond t y (cond s x z) ≡ cond s x (cond t y z)
two_conds true true x y z n = absurd (n refl refl)
two_conds true false x y z n = refl
two_conds false t x y z n = refl

one_cond : {X : Type 0} (s : Bool) (x y z : X) → cond s y (cond s x z) ≡ cond s y z
one_cond true x y z = refl
one_cond false x y z = refl

-- Two objects at two addresses, in either order.
pub inserts_pass : (h : ObjectMap) (a b : Address) (o p : Object) → a ≢ b → insert (insert h a o) b p ≡ insert (insert h b p) a o
inserts_pass h a b o p n =
    same_map addresses_total exact_addresses _ _ (λ q.
    get_after (insert h a o) b p q ∙ ap (cond (eq_by_cmp address_cmp q b) (Some p)) (get_after h a o q)
    ∙ two_conds (eq_by_cmp address_cmp q a) (eq_by_cmp address_cmp q b) (Some o) (Some p) (get h q) (λ s t. n (sym (tells_apart exact_addresses q a s) ∙ tells_apart exact_addresses q b t))
    ∙ sym (get_after (insert h b p) a o q ∙ ap (cond (eq_by_cmp address_cmp q a) (Some o)) (get_after h b p q)))

-- Two objects at one address: the first is gone.
pub insert_twice : (h : ObjectMap) (a : Address) (o p : Object) → insert (insert h a o) a p ≡ insert h a p
insert_twice h a o p =
    same_map addresses_total exact_addresses _ _ (λ q.
    get_after (insert h a o) a p q ∙ ap (cond (eq_by_cmp address_cmp q a) (Some p)) (get_after h a o q)
    ∙ one_cond (eq_by_cmp address_cmp q a) (Some o) (Some p) (get h q)
    ∙ sym (get_after h a p q))

-- ---- values that are set

pub set_in : (h : ObjectMap) (a : Address) (k : ℕ) (v : Value) (p : Option Object) → get h a ≡ p → with_value h a k v ≡ insert h a (with_field (object_in p) k v)
set_in h a k v p e = ap (λ (q : Option Object). insert h a (with_field (object_in q) k v)) e

fields_pass : (o : Object) (k l : ℕ) (v w : Value) → k ≢ l → with_field (with_field o k v) l w ≡ with_field (with_field o l w) k v
fields_pass o k l v w n = ap (λ (fs : List (Option Value)). record { entity = o.entity; fields = fs }) (set_comm o.fields k l (Some v) (Some w) n)

sets_twice : (h : ObjectMap) (a : Address) (k l : ℕ) (v w : Value) → with_value (with_value h a k v) a l w ≡ insert h a (with_field (with_field (object_in (get h a)) k v) l w)
sets_twice h a k l v w =
    let o : Object = with_field (object_in (get h a)) k v in
    set_in (insert h a o) a l w (Some o) (get_here h a o) ∙ insert_twice h a o (with_field o l w)

-- Two fields of one object, in either order.
one_object : (h : ObjectMap) (a : Address) (k l : ℕ) (v w : Value) → k ≢ l → with_value (with_value h a k v) a l w ≡ with_value (with_value h a l w) a k v
one_object h a k l v w n = sets_twice h a k l v w ∙ ap (insert h a) (fields_pass (object_in (get h a)) k l v w n) ∙ sym (sets_twice h a l k w v)

two_objects : (h : ObjectMap) (a b : Address) (k l : ℕ) (v w : Value) → a ≢ b → with_value (with_value h a k v) b l w ≡ with_value (with_value h b l w) a k v
two_objects h a b k l v w n =
    let o : Object = with_field (object_in (get h a)) k v in
    let p : Object = with_field (object_in (get h b)) l w in
    set_in (insert h a o) b l w (get h b) (get_other h a o b (λ e. n (sym e))) ∙ inserts_pass h a b o p n ∙ sym (set_in (insert h b p) a k v (get h a) (get_other h b p a n))

set_and_made : (h : ObjectMap) (a b : Address) (k : ℕ) (v : Value) (p : Object) → a ≢ b → insert (with_value h a k v) b p ≡ with_value (insert h b p) a k v
set_and_made h a b k v p n =
    let o : Object = with_field (object_in (get h a)) k v in
    inserts_pass h a b o p n ∙ sym (set_in (insert h b p) a k v (get h a) (get_other h b p a n))

-- ---- what becomes of the objects

-- What is set exists, and what is made does not.
abbrev pub Fit : ObjectMap → Heaping → Type 0
Fit h Same = ⊤
Fit h (Sets a k v) = (o : Object) × (get h a ≡ Some o)
Fit h (New a o) = get h a ≡ None

-- They are not two writes of one field, and not two objects at one address.
abbrev pub Different : Heaping → Heaping → Type 0
Different Same y = ⊤
Different (Sets a k v) Same = ⊤
Different (Sets a k v) (Sets b l w) = a ≡ b → k ≢ l
Different (Sets a k v) (New b p) = a ≢ b
Different (New a o) Same = ⊤
Different (New a o) (Sets b l w) = b ≢ a
Different (New a o) (New b p) = a ≢ b

pub heaps_pass : (h : ObjectMap) (x y : Heaping) → Different x y → heaped y (heaped x h) ≡ heaped x (heaped y h)
heaps_pass h Same y d = refl
heaps_pass h (Sets a k v) Same d = refl
heaps_pass h (Sets a k v) (Sets b l w) d =
    elim (address_cases a b) [
      | inl e ↦ subst (λ (q : Address). with_value (with_value h a k v) q l w ≡ with_value (with_value h q l w) a k v) e (one_object h a k l v w (d e))
      | inr n ↦ two_objects h a b k l v w n
    ]
heaps_pass h (Sets a k v) (New b p) d = set_and_made h a b k v p d
heaps_pass h (New a o) Same d = refl
heaps_pass h (New a o) (Sets b l w) d = sym (set_and_made h b a l w o d)
heaps_pass h (New a o) (New b p) d = inserts_pass h a b o p d

-- Each object keeps its entity.
pub class_kept : (h : ObjectMap) (x : Heaping) → Fit h x → (q : Address) (e : ℕ) → class_at h q ≡ Some e → class_at (heaped x h) q ≡ Some e
class_kept h Same f q e is = is
class_kept h (Sets a k v) f q e is =
    elim (address_cases q a) [
      | inl s ↦ subst (λ (r : Address). class_at (with_value h a k v) r ≡ Some e) (sym s)
          (ap class_in (get_here h a (with_field (object_in (get h a)) k v)) ∙ ap (λ (p : Option Object). Some (object_in p).entity) f.1 ∙ sym (ap class_in f.1) ∙ ap (class_at h) (sym s) ∙ is)
      | inr n ↦ ap class_in (get_other h a (with_field (object_in (get h a)) k v) q n) ∙ is
    ]
class_kept h (New a o) f q e is =
    elim (address_cases q a) [
      | inl s ↦ absurd (none-some e (sym (ap class_in f) ∙ ap (class_at h) (sym s) ∙ is))
      | inr n ↦ ap class_in (get_other h a o q n) ∙ is
    ]

-- It is a write of this field.
abbrev pub Touches : Heaping → Address → ℕ → Type 0
Touches Same q j = ⊥
Touches (Sets a k v) q j = (a ≡ q) × (k ≡ j)
Touches (New a o) q j = ⊥

-- Each field that is not written is kept.
pub field_kept : (h : ObjectMap) (x : Heaping) → Fit h x → (q : Address) (j e : ℕ) → class_at h q ≡ Some e → (Touches x q j → ⊥) → field_at (heaped x h) q j ≡ field_at h q j
field_kept h Same f q j e is never = refl
field_kept h (Sets a k v) f q j e is never =
    elim (address_cases q a) [
      | inl s ↦ subst (λ (r : Address). field_at (with_value h a k v) r j ≡ field_at h r j) (sym s)
          (ap (λ (p : Option Object). field_in p j) (get_here h a (with_field (object_in (get h a)) k v)) ∙ get_set_other (object_in (get h a)).fields k (Some v) j (λ t. never (sym s, sym t))
          ∙ ap (λ (p : Option Object). slice_get (object_in p).fields j) f.1 ∙ sym (ap (λ (p : Option Object). field_in p j) f.1))
      | inr n ↦ ap (λ (p : Option Object). field_in p j) (get_other h a (with_field (object_in (get h a)) k v) q n)
    ]
field_kept h (New a o) f q j e is never =
    elim (address_cases q a) [
      | inl s ↦ absurd (none-some e (sym (ap class_in f) ∙ ap (class_at h) (sym s) ∙ is))
      | inr n ↦ ap (λ (p : Option Object). field_in p j) (get_other h a o q n)
    ]

-- It is not a new object of this maker.
abbrev pub NotBy : Heaping → ℕ → Type 0
NotBy Same i = ⊤
NotBy (Sets a k v) i = ⊤
NotBy (New a o) i = a.maker ≢ i

nothing_more : (n k : ℕ) → k ≡ 0 → n + k ≡ n
nothing_more n k e = omega (arith, e)

pub made_kept : (h : ObjectMap) (x : Heaping) → Fit h x → (i : ℕ) → NotBy x i → made_by (heaped x h) i ≡ made_by h i
made_kept h Same f i n = refl
made_kept h (Sets a k v) f i n = made_same h a (with_field (object_in (get h a)) k v) f.0 i f.1
made_kept h (New a o) f i n = made_more h a o i f ∙ nothing_more (made_by h i) (one_if (nat_eq a.maker i)) (ap one_if (ne_eqb a.maker i n))
