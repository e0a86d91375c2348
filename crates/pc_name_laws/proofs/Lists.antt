-- A list has exactly the faults that a part describes.
use Rattle.std.proofs.{Common.{◌≡◌, ℕ, zero, suc, List, [], ◌∷◌, ◌++◌, map, length, take, Some, Bool, true, false, not, ◌||◌, refl, sym, ap, ◌∙◌, subst, inl, inr, ⊎_elim, append-nil, append_assoc}, lemmas.Option.{same_Some, none-some}}
use Rattle.std.specs.Prelude.{◌⊎◌, ◌↔◌, slice_get}
use Rattle.pc_base.specs.Lists.{Has, Text}
use Rattle.pc_base.proofs.{Bools.true_false, Elements.{has_front, has_behind, has_either}, Gets.{get_take, take_get}}
use Rattle.pc_names.specs.{declared.fault.NameFault.NameFault, Faults.either_fault, Parts.where_}
use Rattle.pc_members.specs.MemberLists.{is_among}
use Rattle.pc_members.proofs.Differences.{among_has, has_among}
use Rattle.pc_name_laws.specs.Declared.{HasBefore}

abbrev pub Lists : List NameFault → (NameFault → Type 0) → Type 0
Lists fs P = (f : NameFault) → Has fs f ↔ P f

pub lists_none : Lists [] (λ f. ⊥)
lists_none f = (λ h. absurd (none-some f h.1), λ g. absurd g)

pub lists_both : (fs gs : List NameFault) (P Q : NameFault → Type 0) → Lists fs P → Lists gs Q → Lists (fs ++ gs) (λ f. P f ⊎ Q f)
lists_both fs gs P Q p q f = (
  λ h. ⊎_elim (λ a. inl ((p f).0 a)) (λ b. inr ((q f).0 b)) (has_either fs gs f h),
  λ g. ⊎_elim (λ a. has_front fs gs f ((p f).1 a)) (λ b. has_behind fs gs f ((q f).1 b)) g,
)

pub lists_turned : (fs : List NameFault) (P Q : NameFault → Type 0) → ((f : NameFault) → P f → Q f) → ((f : NameFault) → Q f → P f) → Lists fs P → Lists fs Q
lists_turned fs P Q there back h f = (λ a. there f ((h f).0 a), λ b. (h f).1 (back f b))

pub lists_one : (g : NameFault) → Lists (g ∷ []) (λ f. f ≡ g)
lists_one g f = (told, λ e. (0, ap (λ (z : NameFault). Some z) (sym e)))
  where
    told : Has (g ∷ []) f → f ≡ g
    told (zero, e) = sym (same_Some g f e)
    told (suc i, e) = absurd (none-some f e)

-- ---- tests

-- The test decides whether this holds.
abbrev pub Tests : Bool → Type 0 → Type 0
Tests true A = A
Tests false A = A → ⊥

pub lists_where : (b : Bool) (g : NameFault) (A : Type 0) → Tests b A → Lists (where_ b g) (λ f. (f ≡ g) × A)
lists_where true g A a = lists_turned (g ∷ []) (λ f. f ≡ g) (λ f. (f ≡ g) × A) (λ f e. (e, a)) (λ f h. h.0) (lists_one g)
lists_where false g A a = lists_turned [] (λ f. ⊥) (λ f. (f ≡ g) × A) (λ f e. absurd e) (λ f h. a h.1) lists_none

pub lists_either : (b c : Bool) (g h : NameFault) (A B : Type 0) → Tests b A → Tests c B → Lists (either_fault b g c h) (λ f. ((f ≡ g) × A) ⊎ ((f ≡ h) × (A → ⊥) × B))
lists_either true c g h A B a d = lists_turned (g ∷ []) (λ f. f ≡ g) (λ f. ((f ≡ g) × A) ⊎ ((f ≡ h) × (A → ⊥) × B)) (λ f e. inl (e, a)) (λ f k. ⊎_elim (λ x. x.0) (λ x. absurd (x.1 a)) k) (lists_one g)
lists_either false c g h A B a d =
    lists_turned (where_ c h) (λ f. (f ≡ h) × B) (λ f. ((f ≡ g) × A) ⊎ ((f ≡ h) × (A → ⊥) × B)) (λ f e. inr (e.0, a, e.1)) (λ f k. ⊎_elim (λ x. absurd (a x.1)) (λ x. (x.0, x.2)) k) (lists_where c h B d)

pub tests_not : (b : Bool) (A : Type 0) → Tests b A → Tests (not b) (A → ⊥)
tests_not true A a = λ f. f a
tests_not false A a = a

pub tests_or : (b c : Bool) (A B : Type 0) → Tests b A → Tests c B → Tests (b || c) (A ⊎ B)
tests_or true c A B a d = inl a
tests_or false true A B a d = inr d
tests_or false false A B a d = λ s. ⊎_elim a d s

pub tests_among : (x : Text) (xs : List Text) → Tests (is_among x xs) (Has xs x)
tests_among x xs = by (is_among x xs) refl
  where
    by : (b : Bool) → is_among x xs ≡ b → Tests b (Has xs x)
    by true e = among_has x xs e
    by false e = λ h. true_false (sym (has_among x xs h) ∙ e)

pub tests_turned : (b : Bool) (A B : Type 0) → (A → B) → (B → A) → Tests b A → Tests b B
tests_turned true A B there back a = there a
tests_turned false A B there back a = λ x. a (back x)

-- Among the first of these names.
pub tests_before : (x : Text) (xs : List Text) (i : ℕ) → Tests (is_among x (take i xs)) (HasBefore xs i x)
tests_before x xs i =
    tests_turned (is_among x (take i xs)) (Has (take i xs) x) (HasBefore xs i x)
    (λ h. let g = get_take xs i h.0 x h.1 in (h.0, g.0, g.1)) (λ h. (h.0, take_get xs i h.0 x h.1 h.2)) (tests_among x (take i xs))

-- ---- a list that is traversed with the names before each element

module _ {T : Type 0} (text : T → Text) (part : List Text → T → List NameFault) where
  abbrev pub walk : List Text → List T → List NameFault
  walk known [] = []
  walk known (x ∷ xs) = part known x ++ walk (known ++ text x ∷ []) xs

  -- The fault is that of one of the elements.
  abbrev pub AtOne : List Text → List T → NameFault → Type 0
  AtOne known xs f = (i : ℕ) × (x : T) × (slice_get xs i ≡ Some x) × Has (part (known ++ take i (map text xs)) x) f

  here : (known : List Text) (x : T) (xs : List T) (f : NameFault) → Has (part known x) f → AtOne known (x ∷ xs) f
  here known x xs f h = (0, x, refl, subst (λ (ks : List Text). Has (part ks x) f) (sym (append-nil known)) h)

  later : (known : List Text) (x : T) (xs : List T) (f : NameFault) → AtOne (known ++ text x ∷ []) xs f → AtOne known (x ∷ xs) f
  later known x xs f h = (suc h.0, h.1, h.2, subst (λ (ks : List Text). Has (part ks h.1) f) (append_assoc known (text x ∷ []) (take h.0 (map text xs))) h.3)

  back : (known : List Text) (x : T) (xs : List T) (f : NameFault) (i : ℕ) (y : T) → slice_get (x ∷ xs) i ≡ Some y → Has (part (known ++ take i (map text (x ∷ xs))) y) f → Has (part known x) f ⊎ AtOne (known ++ text x ∷ []) xs f
  back known x xs f zero y e h = inl (subst (λ (z : T). Has (part known z) f) (sym (same_Some x y e)) (subst (λ (ks : List Text). Has (part ks y) f) (append-nil known) h))
  back known x xs f (suc i) y e h = inr (i, y, e, subst (λ (ks : List Text). Has (part ks y) f) (sym (append_assoc known (text x ∷ []) (take i (map text xs)))) h)

  pub lists_walk : (known : List Text) (xs : List T) → Lists (walk known xs) (AtOne known xs)
  lists_walk known [] = λ f. (λ h. absurd (none-some f h.1), λ g. absurd (none-some g.1 g.2))
  lists_walk known (x ∷ xs) = λ f. (
    λ h. ⊎_elim (λ a. here known x xs f a) (λ b. later known x xs f ((lists_walk (known ++ text x ∷ []) xs f).0 b)) (has_either (part known x) (walk (known ++ text x ∷ []) xs) f h),
    λ g. ⊎_elim (λ a. has_front (part known x) (walk (known ++ text x ∷ []) xs) f a) (λ b. has_behind (part known x) (walk (known ++ text x ∷ []) xs) f ((lists_walk (known ++ text x ∷ []) xs f).1 b)) (back known x xs f g.0 g.1 g.2 g.3),
  )

  -- If the part of each element has these faults.
  pub lists_each : (xs : List T) (P : ℕ → T → NameFault → Type 0) → ((i : ℕ) (x : T) → slice_get xs i ≡ Some x → Lists (part (take i (map text xs)) x) (P i x)) → Lists (walk [] xs) (λ f. (i : ℕ) × (x : T) × (slice_get xs i ≡ Some x) × P i x f)
  lists_each xs P each =
      lists_turned (walk [] xs) (AtOne [] xs) (λ f. (i : ℕ) × (x : T) × (slice_get xs i ≡ Some x) × P i x f)
      (λ f h. (h.0, h.1, h.2, (each h.0 h.1 h.2 f).0 h.3)) (λ f h. (h.0, h.1, h.2, (each h.0 h.1 h.2 f).1 h.3)) (lists_walk [] xs)

-- The number of the first i elements of a list that continues.
pub first_count : {T : Type 0} (text : T → Text) (xs : List T) (i : ℕ) (x : T) → slice_get xs i ≡ Some x → length (take i (map text xs)) ≡ i
first_count text [] i x e = absurd (none-some x e)
first_count text (y ∷ xs) zero x e = refl
first_count text (y ∷ xs) (suc i) x e = ap suc (first_count text xs i x e)
