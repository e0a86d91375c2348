-- Marks that say which numbers a list has, when a number is added.
use Rattle.std.proofs.{Common.{◌≡◌, ◌≢◌, ℕ, zero, suc, ◌≤◌, ◌<◌, List, [], ◌∷◌, ◌++◌, length, Some, Bool, true, false, nat_eq, ◌||◌, refl, sym, ap, ◌∙◌, arith, if◌then◌else◌}, lemmas.Cmp.nat_eq_equiv, lemmas.Option.{same_Some, none-some}, lemmas.List.length-set}
use Rattle.std.specs.{Prelude.{slice_get, slice_set, replicate}, List.list_any}
use Rattle.pc_base.proofs.Gets.{get_below, get_set_same, get_set_other}
use Rattle.pc_members.specs.{Edges.{has_number, added_last}, Marks.IsMarked}

-- The test that finds an element equal to a number finds the number.
pub any_listed : (xs : List ℕ) (x : ℕ) → list_any (λ y. nat_eq y x) xs ≡ has_number xs x
any_listed [] x = refl
any_listed (y ∷ xs) x = ap (λ t. t || list_any (λ z. nat_eq z x) xs) (nat_eq_equiv.symm y x) ∙ by (nat_eq x y) (any_listed xs x)
  where
    by : (t : Bool) → list_any (λ z. nat_eq z x) xs ≡ has_number xs x → (t || list_any (λ z. nat_eq z x) xs) ≡ (if t then true else has_number xs x)
    by true rec = refl
    by false rec = rec

-- ---- no numbers

get_unmarked : (n i : ℕ) (b : Bool) → slice_get (replicate n false) i ≡ Some b → b ≡ false
get_unmarked zero i b h = absurd (none-some b h)
get_unmarked (suc n) zero b h = sym (same_Some _ _ h)
get_unmarked (suc n) (suc i) b h = get_unmarked n i b h

pub none_marked : (n : ℕ) (marks : List Bool) → marks ≡ replicate n false → IsMarked [] marks
none_marked n marks is = record { marked = λ i b h. get_unmarked n i b (ap (λ l. slice_get l i) (sym is) ∙ h) }

-- ---- one number more

-- A place that is not there is not written.
pub set_past : (marks : List Bool) (n : ℕ) (b : Bool) → length marks ≤ n → slice_set marks n b ≡ marks
set_past [] n b l = refl
set_past (m ∷ marks) zero b l = absurd (omega (arith, l))
set_past (m ∷ marks) (suc n) b l = let k : length marks ≤ n = omega (arith, l) in ap (λ ms. m ∷ ms) (set_past marks n b k)

has_pushed : (xs : List ℕ) (x n : ℕ) → nat_eq n x ≡ true → has_number (xs ++ x ∷ []) n ≡ true
has_pushed [] x n e = ap (λ b. if b then true else false) e
has_pushed (y ∷ xs) x n e = by (nat_eq n y) (has_pushed xs x n e)
  where
    by : (b : Bool) → has_number (xs ++ x ∷ []) n ≡ true → (if b then true else has_number (xs ++ x ∷ []) n) ≡ true
    by true r = refl
    by false r = r

has_others : (xs : List ℕ) (x n : ℕ) → nat_eq n x ≡ false → has_number xs n ≡ has_number (xs ++ x ∷ []) n
has_others [] x n e = sym (ap (λ b. if b then true else false) e)
has_others (y ∷ xs) x n e = ap (λ r. if nat_eq n y then true else r) (has_others xs x n e)

pub push_marked : (xs : List ℕ) (marks : List Bool) (x : ℕ) → IsMarked xs marks → IsMarked (xs ++ x ∷ []) (slice_set marks x true)
push_marked xs marks x k = record { marked = λ n b h. by n b h (nat_eq n x) refl }
  where
    by : (n : ℕ) (b : Bool) → slice_get (slice_set marks x true) n ≡ Some b → (t : Bool) → nat_eq n x ≡ t → b ≡ has_number (xs ++ x ∷ []) n
    by n b h true e =
        let here : n ≡ x = search (arith, e) in
        let m = get_below (slice_set marks x true) n b h in
        let l = length-set marks x true in
        let within : x < length marks = omega (arith, m, l, here) in
        same_Some b true (sym h ∙ ap (slice_get (slice_set marks x true)) here ∙ get_set_same marks x true within) ∙ sym (has_pushed xs x n e)
    by n b h false e =
        let other : n ≢ x = search (arith, e) in
        k.marked n b (sym (get_set_other marks x true n other) ∙ h) ∙ has_others xs x n e

pub added_known : (xs : List ℕ) (x : ℕ) → has_number xs x ≡ true → xs ≡ added_last xs x
added_known xs x e = sym (ap (λ b. if b then xs else xs ++ x ∷ []) e)

pub added_new : (xs : List ℕ) (x : ℕ) → has_number xs x ≡ false → xs ++ x ∷ [] ≡ added_last xs x
added_new xs x e = sym (ap (λ b. if b then xs else xs ++ x ∷ []) e)
