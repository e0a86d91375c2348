-- How lists of numbers grow: by one number, by nothing, and turn by turn.
use Rattle.std.specs.{Prelude.{◌≡◌, ◌⊎◌, ◌↔◌, ℕ, zero, suc, ◌+◌, ◌≤◌, Bool, true, false, List, [], ◌∷◌, ◌++◌, length, IsTrue, if◌then◌else◌, nat_eq, Some, slice_get, refl}, List.list_any}
use Rattle.std.proofs.{Common.{inl, inr, ap, sym, subst, ◌∙◌, arith, append-nil, append_assoc}, lemmas.Option.{same_Some, none-some}, lemmas.Bool.{cases_lt, or_cases, or_left, or_right, eqb-true, eq-eqb}}
use Rattle.pc_base.specs.Lists.{Has, Differ}
use Rattle.pc_base.proofs.{Bools.{false_true, no_both}, Elements.{has_on, has_front}, Gets.{get_push, get_behind, get_below}}
use Rattle.pc_sends.specs.Growth.{Grown, TurnsBelow, OfSome}

-- ---- a list of numbers as a set

any_has : (b : ℕ) (xs : List ℕ) → list_any (nat_eq b) xs ≡ true → Has xs b
any_has b [] e = absurd (false_true e)
any_has b (x ∷ xs) e =
    elim (or_cases (nat_eq b x) (list_any (nat_eq b) xs) e) [
      | inl h ↦ (0, ap Some (sym (eqb-true b x h)))
      | inr h ↦ has_on x xs b (any_has b xs h)
    ]

has_any : (b : ℕ) (xs : List ℕ) (i : ℕ) → slice_get xs i ≡ Some b → list_any (nat_eq b) xs ≡ true
has_any b [] i e = absurd (none-some b e)
has_any b (x ∷ xs) zero e = or_left (nat_eq b x) (list_any (nat_eq b) xs) (eq-eqb b x (sym (same_Some x b e)))
has_any b (x ∷ xs) (suc i) e = or_right (nat_eq b x) (list_any (nat_eq b) xs) (has_any b xs i e)

pub any_iff : (b : ℕ) (xs : List ℕ) → (IsTrue (list_any (nat_eq b) xs)) ↔ (Has xs b)
any_iff b xs = (any_has b xs, λ h. has_any b xs h.0 h.1)

-- ---- one number

push_differ : (xs : List ℕ) (b : ℕ) → (Has xs b → ⊥) → Differ xs → Differ (xs ++ b ∷ [])
push_differ xs b new d i j t e f = both (get_push xs b i t e) (get_push xs b j t f)
  where
    both : (slice_get xs i ≡ Some t) ⊎ ((i ≡ length xs) × (b ≡ t)) → (slice_get xs j ≡ Some t) ⊎ ((j ≡ length xs) × (b ≡ t)) → i ≡ j
    both (inl x) (inl y) = d i j t x y
    both (inl x) (inr y) = absurd (new (i, x ∙ ap Some (sym y.1)))
    both (inr x) (inl y) = absurd (new (j, y ∙ ap Some (sym x.1)))
    both (inr x) (inr y) = x.0 ∙ sym y.0

pushed : (xs : List ℕ) (b : ℕ) → (Has xs b → ⊥) → Grown (λ t. b ≡ t) xs (xs ++ b ∷ [])
pushed xs b new = record {
  more = b ∷ [];
  behind = refl;
  only = λ t h. elim (get_push xs b h.0 t h.1) [ inl old ↦ inl (h.0, old) | inr last ↦ inr last.1 ];
  all = λ t e. subst (Has (xs ++ b ∷ [])) e (length xs, get_behind xs b []);
  differ = push_differ xs b new;
}

-- Nothing new is to come.
pub grown_there : (P : ℕ → Type 0) (xs : List ℕ) → ((t : ℕ) → P t → Has xs t) → Grown P xs xs
grown_there P xs there = record { more = []; behind = sym (append-nil xs); only = λ t h. inl h; all = there; differ = λ d. d }

added_if : (xs : List ℕ) (b : ℕ) (t : Bool) → list_any (nat_eq b) xs ≡ t → Grown (λ k. b ≡ k) xs (if t then xs else xs ++ b ∷ [])
added_if xs b true e = grown_there (λ k. b ≡ k) xs (λ k same. subst (Has xs) same (any_has b xs e))
added_if xs b false e = pushed xs b (λ h. no_both (list_any (nat_eq b) xs) (has_any b xs h.0 h.1) e)

pub grown_add : (xs : List ℕ) (b : ℕ) → Grown (λ t. b ≡ t) xs (if list_any (nat_eq b) xs then xs else xs ++ b ∷ [])
grown_add xs b = added_if xs b (list_any (nat_eq b) xs) refl

-- ---- the same in other words

pub grown_same : (P Q : ℕ → Type 0) (a b : List ℕ) → ((t : ℕ) → P t → Q t) → ((t : ℕ) → Q t → P t) → Grown P a b → Grown Q a b
grown_same P Q a b to from g = record {
  more = g.more;
  behind = g.behind;
  only = λ t h. elim (g.only t h) [ inl old ↦ inl old | inr new ↦ inr (to t new) ];
  all = λ t q. g.all t (from t q);
  differ = g.differ;
}

-- What was there is there.
pub grown_kept : (P : ℕ → Type 0) (a b : List ℕ) (t : ℕ) → Grown P a b → Has a t → Has b t
grown_kept P a b t g h = subst (λ (l : List ℕ). Has l t) (sym g.behind) (has_front a g.more t h)

-- ---- turn by turn

pub grown_none : (Q : ℕ → ℕ → Type 0) (low : ℕ) (xs : List ℕ) → Grown (TurnsBelow Q low low) xs xs
grown_none Q low xs = grown_there (TurnsBelow Q low low) xs (λ t k. let l = k.1 in let h = k.2 in absurd (omega (arith, l, h)))

one_turn : (Q : ℕ → ℕ → Type 0) (low n : ℕ) (a b c : List ℕ) (t : ℕ) → Grown (TurnsBelow Q low n) a b → Grown (Q n) b c → TurnsBelow Q low (n + 1) t → Has c t
one_turn Q low n a b c t g h k =
    elim (cases_lt k.0 n) [
      | inl below ↦ grown_kept (Q n) b c t h (g.all t (k.0, k.1, below, k.3))
      | inr last ↦ let high = k.2 in let same : k.0 ≡ n = omega (arith, last, high) in h.all t (subst (λ (i : ℕ). Q i t) same k.3)
    ]

turned : (Q : ℕ → ℕ → Type 0) (low n : ℕ) (a b c : List ℕ) (t : ℕ) → low ≤ n → Grown (TurnsBelow Q low n) a b → Grown (Q n) b c → Has c t → Has a t ⊎ TurnsBelow Q low (n + 1) t
turned Q low n a b c t l g h k =
    elim (h.only t k) [
      | inl m ↦ elim (g.only t m) [ inl old ↦ inl old | inr q ↦ let m = q.2 in inr (q.0, q.1, omega (arith, m), q.3) ]
      | inr q ↦ inr (n, l, omega arith, q)
    ]

pub grown_turn : (Q : ℕ → ℕ → Type 0) (low n : ℕ) (a b c : List ℕ) → low ≤ n → Grown (TurnsBelow Q low n) a b → Grown (Q n) b c → Grown (TurnsBelow Q low (n + 1)) a c
grown_turn Q low n a b c l g h = record {
  more = g.more ++ h.more;
  behind = h.behind ∙ ap (λ (m : List ℕ). m ++ h.more) g.behind ∙ append_assoc a g.more h.more;
  only = λ t k. turned Q low n a b c t l g h k;
  all = λ t k. one_turn Q low n a b c t g h k;
  differ = λ d. h.differ (g.differ d);
}

-- ---- element by element

-- With the element at place k.
abbrev pub At : {A : Type 0} → (A → ℕ → Type 0) → List A → ℕ → ℕ → Type 0
At {A} R xs k t = (x : A) × (slice_get xs k ≡ Some x) × R x t

pub list_turn : {A : Type 0} → (R : A → ℕ → Type 0) (xs : List A) (n : ℕ) (x : A) (a b c : List ℕ) → slice_get xs n ≡ Some x → Grown (TurnsBelow (At R xs) 0 n) a b → Grown (R x) b c → Grown (TurnsBelow (At R xs) 0 (n + 1)) a c
list_turn R xs n x a b c is g h =
    grown_turn (At R xs) 0 n a b c (omega arith) g
    (grown_same (R x) (At R xs n) b c (λ t r. (x, is, r)) (λ t k. subst (λ y. R y t) (same_Some k.0 x (sym k.1 ∙ is)) k.2) h)

pub list_all : {A : Type 0} → (R : A → ℕ → Type 0) (xs : List A) (n : ℕ) (a b : List ℕ) → length xs ≤ n → Grown (TurnsBelow (At R xs) 0 n) a b → Grown (OfSome R xs) a b
list_all R xs n a b l g =
    grown_same (TurnsBelow (At R xs) 0 n) (OfSome R xs) a b (λ t k. (k.0, k.3.0, k.3.1, k.3.2))
    (λ t k. let m = get_below xs k.0 k.1 k.2 in (k.0, omega arith, omega (arith, m, l), (k.1, k.2, k.3))) g
