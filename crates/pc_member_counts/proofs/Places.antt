-- Numbers of names, and names by their numbers.
use Rattle.std.proofs.{Common.{◌≡◌, ℕ, ◌+◌, ◌-◌, ◌<◌, ◌≤◌, List, [], ◌∷◌, length, Some, None, Bool, true, false, cond, ◌&&◌, ◌||◌, not, nat_eq, nat_lt, nat_le, refl, sym, ap, ◌∙◌, arith, inl, inr, if◌then◌else◌}, lemmas.Bool.{eqb-true, eq-eqb, ne_eqb, ltb-true, ltb-false, leb-true, leb-false, lt-ltb, and_parts, and_cases}, lemmas.Option.{same_Some, none-some, get_or_from_slice_get}, lemmas.List.Sums.prefix_len-le-length, lemmas.List.Quantifiers.position-Some}
use Rattle.std.specs.{Prelude.slice_get, List.{list_any, position}, Str.bytes_eq}
use Rattle.pc_masks.specs.{declared.mask.Mask.Mask, Masks.{has, without_number}}
use Rattle.pc_base.specs.Lists.{Differ, Text}
use Rattle.pc_base.proofs.Gets.{get_below}
use Rattle.pc_members.specs.{MemberLists.is_among, Parts.find_name}
use Rattle.pc_members.proofs.{Differences.{same_text, equal_texts}, Ranks.name_place}
use Rattle.pc_member_counts.specs.{Numbers.{number_in, numbers_in}, Windows.is_within, Fresh.{without_one, without_all}}
use Rattle.pc_member_counts.proofs.{Truths.{same_truth, and_true, and_assoc, neither}, Seen.has_without}

-- ---- a number and a name

found_is : (b : Bool) (n k : ℕ) → cond b (Some n) None ≡ Some k → n ≡ k
found_is true n k e = same_Some _ _ e
found_is false n k e = absurd (none-some k e)

number_is : (names : List Text) (k : ℕ) (x : Text) → Differ names → slice_get names k ≡ Some x → number_in names x ≡ k
number_is names k x d h = found_is (nat_lt (number_in names x) (length names)) (number_in names x) k (name_place x names k d h)

-- The name at a name's number is that name.
at_number : (names : List Text) (k : ℕ) (x y : Text) → slice_get names k ≡ Some x → number_in names y ≡ k → bytes_eq y x ≡ true
at_number names k x y h e =
    let l : k < length names = get_below names k x h in
    let p : position (bytes_eq y) names ≡ Some k = ap (λ n. cond (nat_lt n (length names)) (Some n) None) e ∙ ap (λ b. cond b (Some k) None) (lt-ltb k (length names) l) in
    let q = position-Some (bytes_eq y) names k [] p in
    ap (bytes_eq y) (sym (get_or_from_slice_get names k x [] h)) ∙ q.1

-- The number at a place is that of a name iff the name is there.
pub same_number : (names : List Text) (k : ℕ) (x y : Text) → Differ names → slice_get names k ≡ Some x → nat_eq k (number_in names y) ≡ bytes_eq x y
same_number names k x y d h =
    same_truth _ _ (λ e. ap (λ z. bytes_eq z y) (sym (equal_texts y x (at_number names k x y h (sym (eqb-true k (number_in names y) e))))) ∙ same_text y)
    (λ e. eq-eqb k (number_in names y) (sym (ap (number_in names) (sym (equal_texts x y e)) ∙ number_is names k x d h)))

pub have_number : (names : List Text) (k : ℕ) (x : Text) (ys : List Text) → Differ names → slice_get names k ≡ Some x → list_any (nat_eq k) (numbers_in names ys) ≡ is_among x ys
have_number names k x [] d h = refl
have_number names k x (y ∷ ys) d h = ap (λ b. b || list_any (nat_eq k) (numbers_in names ys)) (same_number names k x y d h) ∙ ap (λ b. bytes_eq x y || b) (have_number names k x ys d h)

-- ---- a number within 64

pub within_is : (start n : ℕ) → is_within start n ≡ true → (start ≤ n) × (n - start < 64)
within_is start n e = let p = and_parts (nat_le start n) (nat_lt (n - start) 64) e in (leb-true start n p.0, ltb-true (n - start) 64 p.1)

pub within_place : (start n i : ℕ) → is_within start n ≡ true → nat_eq i (n - start) ≡ nat_eq (start + i) n
within_place start n i e =
    let w = within_is start n e in
    let l = w.0 in
    same_truth _ _ (λ h. let p = eqb-true i (n - start) h in eq-eqb (start + i) n (omega (arith, p, l))) (λ h. let p = eqb-true (start + i) n h in eq-eqb i (n - start) (omega (arith, p, l)))

pub not_within : (start n i : ℕ) → i < 64 → is_within start n ≡ false → nat_eq (start + i) n ≡ false
not_within start n i l e =
    ne_eqb (start + i) n
    (λ h. elim (and_cases (nat_le start n) (nat_lt (n - start) 64) e) [
      | inl a ↦ let b = leb-false start n a in absurd (omega (arith, b, h))
      | inr a ↦ let b = ltb-false (n - start) 64 a in absurd (omega (arith, b, h, l))
    ])

-- ---- without some numbers

without_one_has : (start : ℕ) (m : Mask) (n i : ℕ) → i < 64 → has (without_one start m n) i ≡ (has m i && not (nat_eq (start + i) n))
without_one_has start m n i l = by (is_within start n) refl
  where
    by : (b : Bool) → is_within start n ≡ b → has (if b then without_number m (n - start) else m) i ≡ (has m i && not (nat_eq (start + i) n))
    by true e = has_without m (n - start) i ∙ ap (λ b. has m i && not b) (within_place start n i e)
    by false e = sym (ap (λ b. has m i && not b) (not_within start n i l e) ∙ and_true (has m i))

pub without_has : (start : ℕ) (m : Mask) (ns : List ℕ) (i : ℕ) → i < 64 → has (without_all start m ns) i ≡ (has m i && not (list_any (nat_eq (start + i)) ns))
without_has start m [] i l = sym (and_true (has m i))
without_has start m (n ∷ ns) i l =
    without_has start (without_one start m n) ns i l
    ∙ ap (λ b. b && not (list_any (nat_eq (start + i)) ns)) (without_one_has start m n i l)
    ∙ and_assoc (has m i) (not (nat_eq (start + i) n)) (not (list_any (nat_eq (start + i)) ns))
    ∙ ap (λ b. has m i && b) (neither (nat_eq (start + i) n) (list_any (nat_eq (start + i)) ns))

-- ---- names that are not there

pub missed_is : (names : List Text) (x : Text) → find_name names x ≡ None → number_in names x ≡ length names
missed_is names x h = by (nat_lt (number_in names x) (length names)) refl h
  where
    by : (b : Bool) → nat_lt (number_in names x) (length names) ≡ b → cond b (Some (number_in names x)) None ≡ None → number_in names x ≡ length names
    by true e g = absurd (none-some (number_in names x) (sym g))
    by false e g = let l = ltb-false (number_in names x) (length names) e in let m = prefix_len-le-length (λ y. not (bytes_eq x y)) names in omega (arith, l, m)

-- ---- numbers that were not there before

pub without_out : (start : ℕ) (m : Mask) (ns : List ℕ) (i : ℕ) → has m i ≡ false → has (without_all start m ns) i ≡ false
without_out start m [] i e = e
without_out start m (n ∷ ns) i e = without_out start (without_one start m n) ns i (by (is_within start n))
  where
    by : (b : Bool) → has (if b then without_number m (n - start) else m) i ≡ false
    by true = has_without m (n - start) i ∙ ap (λ b. b && not (nat_eq i (n - start))) e
    by false = e
