-- The methods that a walk picks are the first with their names among those that pass its test.
use Rattle.std.proofs.{Common.{◌≡◌, ℕ, zero, suc, ◌<◌, ◌&&◌, List, [], ◌∷◌, ◌++◌, Some, Bool, true, false, not, refl, sym, ap, ◌∙◌, subst, arith, if◌then◌else◌, inl, inr}, lemmas.Bool.{cases_lt, not-true}, lemmas.Option.{same_Some, none-some}}
use Rattle.std.specs.Prelude.{slice_get, ◌↔◌}
use Rattle.pc_base.specs.Lists.{Has, Text}
use Rattle.pc_base.proofs.{Bools.{true_false, no_both, first_true, second_true}, Elements.{has_on, has_front, has_behind, has_either}}
use Rattle.pc_tree.specs.declared.kinds.EntityKind.{EntityKind}
use Rattle.pc_tree.specs.Tree as t
use Rattle.pc_members.specs.{MemberLists.{is_among, firsts, methods_taken_over}, Members.is_takable}
use Rattle.pc_members.proofs.Differences.{among_has, has_among}
use Rattle.pc_core_relation.specs.Files.{IsFirstOfName, AreFirstOfNames, AnyMethod}
use Rattle.pc_core_relation.proofs.Lists.{only_one, one_order}

-- ---- one walk for both

-- Of the methods that pass a test and whose names are new, the first with each name.
abbrev picked : (t.Method → Bool) → List Text → List t.Method → List t.Method
picked test known [] = []
picked test known (m ∷ ms) = if test m && not (is_among m.name.text known) then m ∷ picked test (known ++ m.name.text ∷ []) ms else picked test known ms

abbrev any : t.Method → Bool
any m = true

firsts_picked : (known : List Text) (ms : List t.Method) → picked any known ms ≡ firsts known ms
firsts_picked known [] = refl
firsts_picked known (m ∷ ms) = by (λ ks. firsts_picked ks ms) (is_among m.name.text known)
  where
    by : ((ks : List Text) → picked any ks ms ≡ firsts ks ms) → (b : Bool)
        → (if true && not b then m ∷ picked any (known ++ m.name.text ∷ []) ms else picked any known ms) ≡ (if b then firsts known ms else m ∷ firsts (known ++ m.name.text ∷ []) ms)
    by rest true = rest known
    by rest false = ap (λ xs. m ∷ xs) (rest (known ++ m.name.text ∷ []))

taken_picked : (k : EntityKind) (known : List Text) (ms : List t.Method) → picked (is_takable k) known ms ≡ methods_taken_over k known ms
taken_picked k known [] = refl
taken_picked k known (m ∷ ms) = by (λ ks. taken_picked k ks ms) (is_takable k m && not (is_among m.name.text known))
  where
    by : ((ks : List Text) → picked (is_takable k) ks ms ≡ methods_taken_over k ks ms) → (b : Bool)
        → (if b then m ∷ picked (is_takable k) (known ++ m.name.text ∷ []) ms else picked (is_takable k) known ms) ≡ (if b then m ∷ methods_taken_over k (known ++ m.name.text ∷ []) ms else methods_taken_over k known ms)
    by rest true = ap (λ xs. m ∷ xs) (rest (known ++ m.name.text ∷ []))
    by rest false = rest known

module _ (test : t.Method → Bool) where
  -- The method at this place is the first with its name that passes the test, and its name is new.
  record First (known : List Text) (ms : List t.Method) (p : ℕ) (m : t.Method) : Type 0 where
    there : slice_get ms p ≡ Some m
    fits : test m ≡ true
    new : Has known m.name.text → ⊥
    first : (q : ℕ) (x : t.Method) → q < p → slice_get ms q ≡ Some x → test x ≡ true → x.name.text ≡ m.name.text → ⊥

  abbrev pushed : List Text → t.Method → List Text
  pushed known m = known ++ m.name.text ∷ []

  abbrev goes : List Text → t.Method → Bool
  goes known m = test m && not (is_among m.name.text known)

  fits_there : (known : List Text) (m : t.Method) → goes known m ≡ true → test m ≡ true
  fits_there known m e = first_true (test m) (not (is_among m.name.text known)) e

  new_there : (known : List Text) (m : t.Method) → goes known m ≡ true → Has known m.name.text → ⊥
  new_there known m e h = no_both (is_among m.name.text known) (has_among m.name.text known h) (not-true (is_among m.name.text known) (second_true (test m) (not (is_among m.name.text known)) e))

  -- A method that passes the test and is not picked has a known name.
  known_there : (known : List Text) (m : t.Method) → goes known m ≡ false → test m ≡ true → Has known m.name.text
  known_there known m e f = among_has m.name.text known (by (is_among m.name.text known) (ap (λ b. b && not (is_among m.name.text known)) (sym f) ∙ e))
    where
      by : (b : Bool) → (true && not b) ≡ false → b ≡ true
      by true g = refl
      by false g = absurd (true_false g)

  -- ---- one more method at the front

  -- It is another one, or does not pass the test.
  on_first : (known : List Text) (x : t.Method) (ms : List t.Method) (p : ℕ) (m : t.Method) → First known ms p m → (test x ≡ true → x.name.text ≡ m.name.text → ⊥) → First known (x ∷ ms) (suc p) m
  on_first known x ms p m f n = record { there = f.there; fits = f.fits; new = f.new; first = before }
    where
      before : (q : ℕ) (y : t.Method) → q < suc p → slice_get (x ∷ ms) q ≡ Some y → test y ≡ true → y.name.text ≡ m.name.text → ⊥
      before zero y l g e s = n (ap test (same_Some x y g) ∙ e) (ap (λ (z : t.Method). z.name.text) (same_Some x y g) ∙ s)
      before (suc q) y l g e s = f.first q y (omega (arith, l)) g e s

  -- Another method comes after it.
  record Later (known : List Text) (ms : List t.Method) (p : ℕ) (m : t.Method) : Type 0 where
    place : ℕ
    is_place : p ≡ suc place
    is_first : First known ms place m

  later : (known : List Text) (x : t.Method) (ms : List t.Method) (p : ℕ) (m : t.Method) → First known (x ∷ ms) p m → (x ≡ m → ⊥) → Later known ms p m
  later known x ms zero m f n = absurd (n (same_Some x m f.there))
  later known x ms (suc p) m f n = record {
    place = p;
    is_place = refl;
    is_first = record { there = f.there; fits = f.fits; new = f.new; first = λ q y l g e s. f.first (suc q) y (omega (arith, l)) g e s };
  }

  at_front : (known : List Text) (x : t.Method) (ms : List t.Method) (p : ℕ) → First known (x ∷ ms) p x → p ≡ 0
  at_front known x ms zero f = refl
  at_front known x ms (suc p) f = absurd (f.first 0 x (omega arith) refl f.fits refl)

  with_known : (known more : List Text) (ms : List t.Method) (p : ℕ) (m : t.Method) → First known ms p m → (Has more m.name.text → ⊥) → First more ms p m
  with_known known more ms p m f n = record { there = f.there; fits = f.fits; new = n; first = f.first }

  fewer : (known : List Text) (x m : t.Method) → (Has (known ++ x.name.text ∷ []) m.name.text → ⊥) → Has known m.name.text → ⊥
  fewer known x m n h = n (has_front known (x.name.text ∷ []) m.name.text h)

  other_name : (known : List Text) (x m : t.Method) → (Has (known ++ x.name.text ∷ []) m.name.text → ⊥) → x.name.text ≡ m.name.text → ⊥
  other_name known x m n e = n (has_behind known (x.name.text ∷ []) m.name.text (0, ap Some e))

  other_method : (known : List Text) (x m : t.Method) → (Has (known ++ x.name.text ∷ []) m.name.text → ⊥) → x ≡ m → ⊥
  other_method known x m n e = other_name known x m n (ap (λ (y : t.Method). y.name.text) e)

  -- ---- what is picked is first

  is_first : (known : List Text) (ms : List t.Method) (m : t.Method) → Has (picked test known ms) m → (p : ℕ) × First known ms p m
  is_first known [] m h = absurd (none-some m h.1)
  is_first known (x ∷ ms) m h = by (λ ks. is_first ks ms m) (goes known x) refl h
    where
      by : ((ks : List Text) → Has (picked test ks ms) m → (p : ℕ) × First ks ms p m) → (b : Bool) → goes known x ≡ b → Has (if b then x ∷ picked test (known ++ x.name.text ∷ []) ms else picked test known ms) m → (p : ℕ) × First known (x ∷ ms) p m
      by rest true e (zero, g) =
          let self : First known (x ∷ ms) 0 x = record { there = refl; fits = fits_there known x e; new = new_there known x e; first = λ q y l. absurd (omega (arith, l)) } in
          (0, subst (λ y. First known (x ∷ ms) 0 y) (same_Some x m g) self)
      by rest true e (suc i, g) =
          let r = rest (known ++ x.name.text ∷ []) (i, g) in
          let f : First known ms r.0 m = with_known (known ++ x.name.text ∷ []) known ms r.0 m r.1 (fewer known x m r.1.new) in
          (suc r.0, on_first known x ms r.0 m f (λ t s. other_name known x m r.1.new s))
      by rest false e h =
          let r = rest known h in
          (suc r.0, on_first known x ms r.0 m r.1 (λ t s. r.1.new (subst (Has known) s (known_there known x e t))))

  -- ---- what is first is picked

  first_picked : (known : List Text) (ms : List t.Method) (p : ℕ) (m : t.Method) → First known ms p m → Has (picked test known ms) m
  first_picked known [] p m f = absurd (none-some m f.there)
  first_picked known (x ∷ ms) p m f = by (λ ks q. first_picked ks ms q m) (goes known x) refl p f
    where
      by : ((ks : List Text) (q : ℕ) → First ks ms q m → Has (picked test ks ms) m) → (b : Bool) → goes known x ≡ b → (p : ℕ) → First known (x ∷ ms) p m → Has (if b then x ∷ picked test (known ++ x.name.text ∷ []) ms else picked test known ms) m
      by rest true e zero f = (0, f.there)
      by rest true e (suc q) f =
          let n : Has (known ++ x.name.text ∷ []) m.name.text → ⊥ = λ h. elim (has_either known (x.name.text ∷ []) m.name.text h) [ inl a ↦ f.new a | inr b ↦ f.first 0 x (omega arith) refl (fits_there known x e) (only_one x.name.text m.name.text b) ] in
          let g : First known ms q m = record { there = f.there; fits = f.fits; new = f.new; first = λ r y l g e s. f.first (suc r) y (omega (arith, l)) g e s } in
          has_on x (picked test (known ++ x.name.text ∷ []) ms) m (rest (known ++ x.name.text ∷ []) q (with_known known (known ++ x.name.text ∷ []) ms q m g n))
      by rest false e zero f =
          let same : x ≡ m = same_Some x m f.there in
          absurd (f.new (subst (λ (y : t.Method). Has known y.name.text) same (known_there known x e (ap test same ∙ f.fits))))
      by rest false e (suc q) f = rest known q (record { there = f.there; fits = f.fits; new = f.new; first = λ r y l g e s. f.first (suc r) y (omega (arith, l)) g e s })

  -- ---- in the order of the list

  abbrev Ordered : List Text → List t.Method → Type 0
  Ordered known ms = (i j p q : ℕ) (x y : t.Method) → i < j → slice_get (picked test known ms) i ≡ Some x → slice_get (picked test known ms) j ≡ Some y → First known ms p x → First known ms q y → p < q

  ordered : (known : List Text) (ms : List t.Method) → Ordered known ms
  ordered known [] i j p q x y l h g f k = absurd (none-some x h)
  ordered known (z ∷ ms) i j p q x y l h g f k = by (λ ks. ordered ks ms) (goes known z) refl i j l h g
    where
      behind : (m : t.Method) (n : ℕ) → Has (picked test (pushed known z) ms) m → First known (z ∷ ms) n m → Later (pushed known z) ms n m
      behind m n there f =
          let fresh = (is_first (pushed known z) ms m there).1.new in
          let r = later known z ms n m f (other_method known z m fresh) in
          record { place = r.place; is_place = r.is_place; is_first = with_known known (pushed known z) ms r.place m r.is_first fresh }

      passed : (m : t.Method) (n : ℕ) → goes known z ≡ false → First known (z ∷ ms) n m → Later known ms n m
      passed m n e f = later known z ms n m f (λ same. f.new (subst (λ (w : t.Method). Has known w.name.text) same (known_there known z e (ap test same ∙ f.fits))))

      by : ((ks : List Text) → Ordered ks ms) → (b : Bool) → goes known z ≡ b → (i j : ℕ) → i < j → slice_get (if b then z ∷ picked test (pushed known z) ms else picked test known ms) i ≡ Some x → slice_get (if b then z ∷ picked test (pushed known z) ms else picked test known ms) j ≡ Some y → p < q
      by rest true e i zero l h g = absurd (omega (arith, l))
      by rest true e zero (suc j) l h g =
          let place : p ≡ 0 = at_front known z ms p (subst (λ m. First known (z ∷ ms) p m) (sym (same_Some z x h)) f) in
          let r = behind y q (j, g) k in
          let s = r.is_place in
          omega (arith, place, s)
      by rest true e (suc i) (suc j) l h g =
          let a = behind x p (i, h) f in
          let b = behind y q (j, g) k in
          let less : a.place < b.place = rest (pushed known z) i j a.place b.place x y (omega (arith, l)) h g a.is_first b.is_first in
          let s = a.is_place in
          let u = b.is_place in
          omega (arith, less, s, u)
      by rest false e i j l h g =
          let a = passed x p e f in
          let b = passed y q e k in
          let less : a.place < b.place = rest known i j a.place b.place x y l h g a.is_first b.is_first in
          let s = a.is_place in
          let u = b.is_place in
          omega (arith, less, s, u)

  -- ---- as it is said

  module _ (P : t.Method → Type 0) (known : List Text) (fits : (m : t.Method) → P m ↔ ((test m ≡ true) × (Has known m.name.text → ⊥))) (all : List t.Method) where
    said : (p : ℕ) (m : t.Method) → First known all p m → IsFirstOfName P all p m
    said p m f = record { there = f.there; fits = (fits m).1 (f.fits, f.new); first = λ q x l g h s. f.first q x l g ((fits x).0 h).0 s }

    meant : (p : ℕ) (m : t.Method) → IsFirstOfName P all p m → First known all p m
    meant p m f =
        let own = (fits m).0 f.fits in
        record { there = f.there; fits = own.0; new = own.1; first = λ q x l g h s. f.first q x l g ((fits x).1 (h, λ k. own.1 (subst (Has known) s k))) s }

    pub picked_are_first : AreFirstOfNames P all (picked test known all)
    picked_are_first = record {
      same = λ m. (λ (h : Has (picked test known all) m). (let r = is_first known all m h in (r.0, said r.0 m r.1)), λ (r : (p : ℕ) × IsFirstOfName P all p m). first_picked known all r.0 m (meant r.0 m r.1));
      order = λ i j p q x y l h g a b. ordered known all i j p q x y l h g (meant p x a) (meant q y b);
    }

-- ---- there is only one such list

module _ (P : t.Method → Type 0) (all : List t.Method) where
  abbrev Before : t.Method → t.Method → Type 0
  Before x y = (p q : ℕ) × IsFirstOfName P all p x × IsFirstOfName P all q y × (p < q)

  one_place : (p q : ℕ) (x : t.Method) → IsFirstOfName P all p x → IsFirstOfName P all q x → p < q → ⊥
  one_place p q x a b l = b.first p x l a.there a.fits refl

  not_both : (x y : t.Method) → Before x y → Before y x → ⊥
  not_both x y a b = elim (cases_lt a.0 b.1) [
    | inl l ↦ one_place a.0 b.1 x a.2 b.3 l
    | inr l ↦ (let s = a.4 in let u = b.4 in one_place b.0 a.1 y b.2 a.3 (omega (arith, l, s, u)))
  ]

  before_all : (ms : List t.Method) → AreFirstOfNames P all ms → (i j : ℕ) (x y : t.Method) → i < j → slice_get ms i ≡ Some x → slice_get ms j ≡ Some y → Before x y
  before_all ms f i j x y l h g =
      let a = (f.same x).0 (i, h) in
      let b = (f.same y).0 (j, g) in
      (a.0, b.0, a.1, b.1, f.order i j a.0 b.0 x y l h g a.1 b.1)

  pub first_one : (one other : List t.Method) → AreFirstOfNames P all one → AreFirstOfNames P all other → one ≡ other
  first_one one other a b = one_order Before not_both one other (before_all one a) (before_all other b) (λ x h. (b.same x).1 ((a.same x).0 h)) (λ x h. (a.same x).1 ((b.same x).0 h))

-- ---- both lists

pub firsts_are : (all : List t.Method) → AreFirstOfNames AnyMethod all (firsts [] all)
firsts_are all = subst (AreFirstOfNames AnyMethod all) (firsts_picked [] all) (picked_are_first any AnyMethod [] (λ m. (λ (u : AnyMethod m). (refl, λ h. absurd (none-some m.name.text h.1)), λ (h : (any m ≡ true) × (Has [] m.name.text → ⊥)). tt)) all)

pub taken_are : (k : EntityKind) (known : List Text) (P : t.Method → Type 0) → ((m : t.Method) → P m ↔ ((is_takable k m ≡ true) × (Has known m.name.text → ⊥))) → (all : List t.Method) → AreFirstOfNames P all (methods_taken_over k known all)
taken_are k known P fits all = subst (AreFirstOfNames P all) (taken_picked k known all) (picked_are_first (is_takable k) P known fits all)
