-- The names of a table differ.
use Rattle.std.proofs.{Common.{◌≡◌, ℕ, zero, suc, ◌||◌, List, [], ◌∷◌, ◌++◌, length, Some, Bool, true, false, refl, sym, ap, ◌∙◌, if◌then◌else◌, inl, inr, ⊎_elim, ◌⊎◌}, lemmas.Slice.Eq.bytes_eq-Decides, lemmas.Option.{same_Some, none-some}, lemmas.Cmp.nat_list_eq_equiv}
use Rattle.std.specs.{Prelude.slice_get, Str.bytes_eq}
use Rattle.pc_base.specs.Lists.{Has, Differ, Text}
use Rattle.pc_members.specs.MemberLists.{is_among, with_name, with_names}
use Rattle.pc_base.proofs.{Bools.true_false, Elements.has_on}

pub same_text : (x : Text) → bytes_eq x x ≡ true
same_text x = nat_list_eq_equiv.refl x

pub among_at : (x : Text) (xs : List Text) (i : ℕ) → slice_get xs i ≡ Some x → is_among x xs ≡ true
among_at x [] i h = absurd (none-some x h)
among_at x (y ∷ xs) zero h = ap (λ (z : Text). bytes_eq x z || is_among x xs) (same_Some _ _ h) ∙ ap (λ b. b || is_among x xs) (same_text x)
among_at x (y ∷ xs) (suc i) h = ap (λ b. bytes_eq x y || b) (among_at x xs i h) ∙ or_true (bytes_eq x y)
  where
    or_true : (b : Bool) → (b || true) ≡ true
    or_true true = refl
    or_true false = refl

pub equal_texts : (x y : Text) → bytes_eq x y ≡ true → x ≡ y
equal_texts x y h = (bytes_eq-Decides x y).0 h

-- A text that is among others is one of them.
pub among_has : (x : Text) (xs : List Text) → is_among x xs ≡ true → Has xs x
among_has x [] h = absurd (true_false (sym h))
among_has x (y ∷ xs) h = by (λ g. among_has x xs g) (bytes_eq x y) refl h
  where
    by : (is_among x xs ≡ true → Has xs x) → (b : Bool) → bytes_eq x y ≡ b → (b || is_among x xs) ≡ true → Has (y ∷ xs) x
    by rest true e g = (0, ap (λ z. Some z) (sym (equal_texts x y e)))
    by rest false e g = has_on y xs x (rest g)

pub has_among : (x : Text) (xs : List Text) → Has xs x → is_among x xs ≡ true
has_among x xs h = among_at x xs h.0 h.1

-- A name that is found at a place is one of the names.
pub placed_among : (names : List Text) (i : ℕ) (found name : Text) → slice_get names i ≡ Some found → bytes_eq found name ≡ true → is_among name names ≡ true
placed_among names i found name h e = among_at name names i (h ∙ ap (λ x. Some x) (equal_texts found name e))

-- A place in a list with one more element is a place of the list, or the last.
push_places : (x y : Text) (xs : List Text) (i : ℕ) → slice_get (xs ++ x ∷ []) i ≡ Some y → (slice_get xs i ≡ Some y) ⊎ ((i ≡ length xs) × (y ≡ x))
push_places x y [] zero h = inr (refl, sym (same_Some _ _ h))
push_places x y [] (suc i) h = absurd (none-some y h)
push_places x y (z ∷ xs) zero h = inl h
push_places x y (z ∷ xs) (suc i) h = ⊎_elim (λ l. inl l) (λ r. inr (ap suc r.0, r.1)) (push_places x y xs i h)

pub differ_push : (x : Text) (xs : List Text) → Differ xs → is_among x xs ≡ false → Differ (xs ++ x ∷ [])
differ_push x xs d new i j y hi hj =
    let fresh : (k : ℕ) → slice_get xs k ≡ Some x → ⊥ = λ k h. true_false (sym (among_at x xs k h) ∙ new) in
    ⊎_elim
    (λ a. ⊎_elim (λ b. d i j y a b) (λ b. absurd (fresh i (a ∙ ap (λ z. Some z) b.1))) (push_places x y xs j hj))
    (λ a. ⊎_elim (λ b. absurd (fresh j (b ∙ ap (λ z. Some z) a.1))) (λ b. a.0 ∙ sym b.0) (push_places x y xs j hj))
    (push_places x y xs i hi)

name_differs : (names : List Text) (x : Text) → Differ names → Differ (with_name names x)
name_differs names x d = by (is_among x names) refl
  where
    by : (b : Bool) → is_among x names ≡ b → Differ (if b then names else names ++ x ∷ [])
    by true e = d
    by false e = differ_push x names d e

pub names_differ : (xs names : List Text) → Differ names → Differ (with_names names xs)
names_differ [] names d = d
names_differ (x ∷ xs) names d = names_differ xs (with_name names x) (name_differs names x d)
