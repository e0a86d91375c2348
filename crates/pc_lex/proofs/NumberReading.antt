-- The length of a number is that of the longest one.
use Rattle.std.proofs.{Common.{◌≡◌, ℕ, zero, suc, ◌+◌, ◌*◌, ◌<◌, ◌≤◌, Bool, true, false, cond, ◌&&◌, ◌==◌, List, [], ◌∷◌, ◌++◌, length, take, drop, refl, sym, ap, ap₂, ◌∙◌, subst, inl, inr, ◌⊎◌, arith, length-append, append_assoc, append-nil, take-add, take_at, drop_at}, lemmas.Bool.{and_parts, true≢false, eqb-true, cases_lt}, lemmas.Bool.Decides.nat_tests}
use Rattle.std.specs.{List.list_all, Char.{is_digit, digit_value, is_ascii_digit}}
use Rattle.pc_lex.specs.{Pieces.{first_test, is_tail, is_joined, begins, Digits, one, next, spaced, value_of_digits, DigitsOf, NumberText}, Parts.{hex_mark, bin_mark}, Reading.{more_len, digits_len, value_of, base_at}}
use Rattle.pc_lex.proofs.{DigitSteps.{step, space, ends, len_first}, CommentEnds.behind_word}

digit_no_under : (b base : ℕ) → base ≤ 36 → is_digit b base ≡ true → (b == 95) ≡ false
digit_no_under b base small e = grind (arith, nat_tests)

under_no_digit : (base : ℕ) → base ≤ 36 → is_digit 95 base ≡ false
under_no_digit base small = grind (arith, nat_tests)

digit_tail : (b base : ℕ) → base ≤ 36 → is_digit b base ≡ true → is_tail b ≡ true
digit_tail b base small e = grind (arith, nat_tests)

-- a `_` followed by a digit continues the number
under_step : (base : ℕ) (bs : List ℕ) → base ≤ 36 → first_test (λ c. is_digit c base) bs ≡ true → more_len base (95 ∷ bs) ≡ 1 + more_len base bs
under_step base [] small d = absurd (true≢false (sym d))
under_step base (c ∷ cs) small d = omega (arith, space base 95 (c ∷ cs) (under_no_digit base small) refl d, step base c cs d)

pub digits_first : {base : ℕ} {b ds : List ℕ} → Digits base b ds → (after : List ℕ) → first_test (λ c. is_digit c base) (b ++ after) ≡ true
digits_first (one e) after = e
digits_first (next e h) after = e
digits_first (spaced e h) after = e

more_max : {base : ℕ} {b ds : List ℕ} → base ≤ 36 → Digits base b ds → (after : List ℕ) → length b ≤ more_len base (b ++ after)
more_max {base = base} small (one {b = b} e) after = omega (arith, step base b after e)
more_max {base = base} small (next {b = b} {bs = bs} e h) after = omega (arith, step base b (bs ++ after) e, more_max small h after)
more_max {base = base} small (spaced {b = b} {bs = bs} e h) after =
    omega (arith, step base b (95 ∷ (bs ++ after)) e, under_step base (bs ++ after) small (digits_first h after), more_max small h after)

len_is : (base : ℕ) (text : List ℕ) → first_test (λ c. is_digit c base) text ≡ true → digits_len base text ≡ more_len base text
len_is base [] d = absurd (true≢false (sym d))
len_is base (b ∷ bs) d = len_first base (b ∷ bs) ∙ (rw d (sym (step base b bs d)))

pub digits_max : (base : ℕ) (b ds after : List ℕ) → base ≤ 36 → Digits base b ds → length b ≤ digits_len base (b ++ after)
digits_max base b ds after small h = omega (arith, len_is base (b ++ after) (digits_first h after), more_max small h after)

pub digits_value : {base : ℕ} {b ds : List ℕ} → base ≤ 36 → Digits base b ds → (acc : ℕ) → value_of base acc b ≡ value_of_digits base acc ds
digits_value {base = base} small (one {b = b} e) acc = rw (digit_no_under b base small e) refl
digits_value {base = base} small (next {b = b} e h) acc = rw (digit_no_under b base small e) (digits_value small h (acc * base + digit_value b))
digits_value {base = base} small (spaced {b = b} e h) acc = rw (digit_no_under b base small e) (digits_value small h (acc * base + digit_value b))

pub digits_tail : {base : ℕ} {b ds : List ℕ} → base ≤ 36 → Digits base b ds → list_all is_tail b ≡ true
digits_tail {base = base} small (one {b = b} e) = rw (digit_tail b base small e) refl
digits_tail {base = base} small (next {b = b} e h) = rw (digit_tail b base small e) (digits_tail small h)
digits_tail {base = base} small (spaced {b = b} e h) = rw (digit_tail b base small e) (digits_tail small h)

-- what is read is digits
abbrev IsDigits : ℕ → List ℕ → Type 0
IsDigits base b = (ds : List ℕ) × Digits base b ds

under_goes : (base c : ℕ) (bs : List ℕ) → is_digit c base ≡ false → (c == 95) ≡ true → first_test (λ x. is_digit x base) bs ≡ true → more_len base (c ∷ bs) ≡ 1 + more_len base bs
under_goes base c [] e under d = absurd (true≢false (sym d))
under_goes base c (x ∷ xs) e under d = omega (arith, space base c (x ∷ xs) e under d, step base x xs d)

sound_step : (base b c : ℕ) (bs : List ℕ) (s t : Bool) → is_digit b base ≡ true → is_digit c base ≡ s → ((c == 95) && first_test (λ x. is_digit x base) bs) ≡ t
    → (is_digit c base ≡ true → IsDigits base (c ∷ take (more_len base bs) bs)) → (first_test (λ x. is_digit x base) bs ≡ true → IsDigits base (take (more_len base bs) bs)) → IsDigits base (b ∷ take (more_len base (c ∷ bs)) (c ∷ bs))
sound_step base b c bs true t d e other more after =
    let h = more e in
    let count : more_len base (c ∷ bs) ≡ suc (more_len base bs) = omega (arith, step base c bs e) in
    (digit_value b ∷ h.0, subst (λ n. Digits base (b ∷ take n (c ∷ bs)) (digit_value b ∷ h.0)) (sym count) (next d h.1))
sound_step base b c bs false true d e other more after =
    let (under, first) = and_parts (c == 95) (first_test (λ x. is_digit x base) bs) other in
    let h = after first in
    let count : more_len base (c ∷ bs) ≡ suc (more_len base bs) = omega (arith, under_goes base c bs e under first) in
    let same : take (more_len base (c ∷ bs)) (c ∷ bs) ≡ 95 ∷ take (more_len base bs) bs = ap₂ (λ n x. take n (x ∷ bs)) count (eqb-true c 95 under) in
    (digit_value b ∷ h.0, subst (λ l. Digits base (b ∷ l) (digit_value b ∷ h.0)) (sym same) (spaced d h.1))
sound_step base b c bs false false d e other more after =
    let none : more_len base (c ∷ bs) ≡ 0 = ends base c bs e other in
    (digit_value b ∷ [], subst (λ n. Digits base (b ∷ take n (c ∷ bs)) (digit_value b ∷ [])) (sym none) (one d))

-- the digits from a digit on; the number bounds the bytes
more_sound : (base : ℕ) (b : ℕ) (bs : List ℕ) → is_digit b base ≡ true → IsDigits base (b ∷ take (more_len base bs) bs)
unfolding more_len
more_sound base b [] d = (digit_value b ∷ [], one d)
more_sound base b (c ∷ []) d = sound_step base b c [] (is_digit c base) ((c == 95) && false) d refl refl (λ e. more_sound base c [] e) (λ e. absurd (true≢false (sym e)))
more_sound base b (c ∷ x ∷ xs) d =
    sound_step base b c (x ∷ xs) (is_digit c base) ((c == 95) && is_digit x base) d refl refl (λ e. more_sound base c (x ∷ xs) e)
    (λ e. let count : more_len base (x ∷ xs) ≡ suc (more_len base xs) = omega (arith, step base x xs e) in subst (λ n. IsDigits base (take n (x ∷ xs))) (sym count) (more_sound base x xs e))

pub digits_sound : (base : ℕ) (text : List ℕ) → first_test (λ c. is_digit c base) text ≡ true → IsDigits base (take (digits_len base text) text)
digits_sound base [] d = absurd (true≢false (sym d))
digits_sound base (b ∷ bs) d =
    let count : digits_len base (b ∷ bs) ≡ suc (more_len base bs) = omega (arith, len_is base (b ∷ bs) d, step base b bs d) in
    subst (λ n. IsDigits base (take n (b ∷ bs))) (sym count) (more_sound base b bs d)

-- The base of a number, and what follows from it.
pub record Based (text : List ℕ) : Type 0 where
  pub base : ℕ
  pub mark : List ℕ
  pub is : base_at text ≡ (base, length mark)
  pub small : base ≤ 36
  pub whole : text ≡ mark ++ drop (length mark) text
  pub first : first_test (λ c. is_digit c base) (drop (length mark) text) ≡ true
  pub tails : list_all is_tail mark ≡ true
  pub spelled : (t : List ℕ) (v : ℕ) → DigitsOf base t v → NumberText (mark ++ t) v
  pub max : (more after : List ℕ) (v : ℕ) → text ≡ more ++ after → NumberText more v
      → (length more < length mark + digits_len base (drop (length mark) text)) ⊎ ((t : List ℕ) × (more ≡ mark ++ t) × DigitsOf base t v)

one_digit : (x : ℕ) (r : List ℕ) → is_digit x 10 ≡ false → (x == 95) ≡ false → digits_len 10 (48 ∷ x ∷ r) ≡ 1
one_digit x r d under = omega (arith, len_first 10 (48 ∷ x ∷ r), ends 10 x r d (rw under refl))

some_digits : (base : ℕ) (text : List ℕ) → first_test (λ c. is_digit c base) text ≡ true → 0 < digits_len base text
some_digits base text d =
    let h : digits_len base text ≡ 1 + more_len base (drop 1 text) = rw (len_first base text, d) refl in
    omega (arith, h)

short_or : (text : List ℕ) (base x : ℕ) → text ≡ 48 ∷ x ∷ drop 2 text → first_test (λ c. is_digit c base) (drop 2 text) ≡ true → is_digit x 10 ≡ false → (x == 95) ≡ false → (more after : List ℕ) (v : ℕ) → text ≡ more ++ after
    → DigitsOf 10 more v ⊎ ((t : List ℕ) × (more ≡ 48 ∷ x ∷ t) × DigitsOf base t v)
    → (length more < 2 + digits_len base (drop 2 text)) ⊎ ((t : List ℕ) × (more ≡ 48 ∷ x ∷ t) × DigitsOf base t v)
short_or text base x whole first other under more after v e (inl h) =
    let most : length more ≤ digits_len 10 (more ++ after) = digits_max 10 more h.0 after (omega arith) h.1 in
    let single : digits_len 10 (more ++ after) ≡ 1 = ap (digits_len 10) (sym e ∙ whole) ∙ one_digit x (drop 2 text) other under in
    inl (omega (arith, most, single, some_digits base (drop 2 text) first))
short_or text base x whole first other under more after v e (inr h) = inr h

marked : (text : List ℕ) (base x : ℕ) → base ≤ 36 → base_at text ≡ (base, 2) → begins text (48 ∷ x ∷ []) ≡ true → first_test (λ c. is_digit c base) (drop 2 text) ≡ true → is_digit x 10 ≡ false → is_tail x ≡ true → (x == 95) ≡ false
    → ((t : List ℕ) (v : ℕ) → DigitsOf base t v → NumberText (48 ∷ x ∷ t) v)
    → ((more after : List ℕ) (v : ℕ) → text ≡ more ++ after → NumberText more v → DigitsOf 10 more v ⊎ ((t : List ℕ) × (more ≡ 48 ∷ x ∷ t) × DigitsOf base t v)) → Based text
marked text base x small is opens first other tail under spelled cases =
    let whole : text ≡ 48 ∷ x ∷ drop 2 text = behind_word text (48 ∷ x ∷ []) opens in
    record {
      base = base;
      mark = 48 ∷ x ∷ [];
      is = is;
      small = small;
      whole = whole;
      first = first;
      tails = rw tail refl;
      spelled = spelled;
      max = λ more after v e h. short_or text base x whole first other under more after v e (cases more after v e h);
    }

plain : (text : List ℕ) → base_at text ≡ (10, 0) → first_test (λ c. is_digit c 10) text ≡ true → ((more after : List ℕ) (v : ℕ) → text ≡ more ++ after → NumberText more v → DigitsOf 10 more v) → Based text
plain text is first only = record {
  base = 10;
  mark = [];
  is = is;
  small = omega arith;
  whole = refl;
  first = first;
  tails = refl;
  spelled = λ t v h. inl h;
  max = λ more after v e h. inr (more, refl, only more after v e h);
}

-- no number has both prefixes, and one without digits is not a number
hex_only : (text : List ℕ) → begins text hex_mark ≡ true → (more after : List ℕ) (v : ℕ) → text ≡ more ++ after → NumberText more v → DigitsOf 10 more v ⊎ ((t : List ℕ) × (more ≡ 48 ∷ 120 ∷ t) × DigitsOf 16 t v)
hex_only text opens more after v e (inl h) = inl h
hex_only text opens more after v e (inr (inl h)) = inr h
hex_only text opens more after v e (inr (inr h)) =
    let same : text ≡ 48 ∷ 98 ∷ (h.0 ++ after) = e ∙ ap (λ l. l ++ after) h.1 in
    absurd (true≢false (sym opens ∙ ap (λ l. begins l hex_mark) same))

bin_only : (text : List ℕ) → begins text bin_mark ≡ true → (more after : List ℕ) (v : ℕ) → text ≡ more ++ after → NumberText more v → DigitsOf 10 more v ⊎ ((t : List ℕ) × (more ≡ 48 ∷ 98 ∷ t) × DigitsOf 2 t v)
bin_only text opens more after v e (inl h) = inl h
bin_only text opens more after v e (inr (inr h)) = inr h
bin_only text opens more after v e (inr (inl h)) =
    let same : text ≡ 48 ∷ 120 ∷ (h.0 ++ after) = e ∙ ap (λ l. l ++ after) h.1 in
    absurd (true≢false (sym opens ∙ ap (λ l. begins l bin_mark) same))

abbrev hex_test : List ℕ → Bool
hex_test text = begins text hex_mark && first_test (λ b. is_digit b 16) (drop 2 text)

abbrev bin_test : List ℕ → Bool
bin_test text = begins text bin_mark && first_test (λ b. is_digit b 2) (drop 2 text)

plain_only : (text : List ℕ) → hex_test text ≡ false → bin_test text ≡ false → (more after : List ℕ) (v : ℕ) → text ≡ more ++ after → NumberText more v → DigitsOf 10 more v
plain_only text hex bin more after v e (inl h) = h
plain_only text hex bin more after v e (inr (inl h)) =
    let same : text ≡ 48 ∷ 120 ∷ (h.0 ++ after) = e ∙ ap (λ l. l ++ after) h.1 in
    absurd (true≢false (sym (ap hex_test same ∙ digits_first h.2.1 after) ∙ hex))
plain_only text hex bin more after v e (inr (inr h)) =
    let same : text ≡ 48 ∷ 98 ∷ (h.0 ++ after) = e ∙ ap (λ l. l ++ after) h.1 in
    absurd (true≢false (sym (ap bin_test same ∙ digits_first h.2.1 after) ∙ bin))

decimal : (b : ℕ) → is_ascii_digit b ≡ true → is_digit b 10 ≡ true
decimal b e = grind (arith, nat_tests)

first_decimal : (text : List ℕ) → first_test is_ascii_digit text ≡ true → first_test (λ c. is_digit c 10) text ≡ true
first_decimal [] e = e
first_decimal (b ∷ bs) e = decimal b e

based_step : (text : List ℕ) (s t : Bool) → hex_test text ≡ s → bin_test text ≡ t → base_at text ≡ cond s (16, 2) (cond t (2, 2) (10, 0)) → first_test is_ascii_digit text ≡ true → Based text
based_step text true t hex bin is digit =
    let (opens, first) = and_parts (begins text hex_mark) (first_test (λ b. is_digit b 16) (drop 2 text)) hex in
    marked text 16 120 (omega arith) is opens first refl refl refl (λ t v h. inr (inl (t, refl, h))) (hex_only text opens)
based_step text false true hex bin is digit =
    let (opens, first) = and_parts (begins text bin_mark) (first_test (λ b. is_digit b 2) (drop 2 text)) bin in
    marked text 2 98 (omega arith) is opens first refl refl refl (λ t v h. inr (inr (t, refl, h))) (bin_only text opens)
based_step text false false hex bin is digit = plain text is (first_decimal text digit) (plain_only text hex bin)

pub based : (text : List ℕ) → first_test is_ascii_digit text ≡ true → Based text
unfolding base_at
based text digit = based_step text (hex_test text) (bin_test text) refl refl refl digit

number_at_most : (text : List ℕ) (b : Based text) (more after : List ℕ) (v : ℕ) → text ≡ more ++ after
    → (length more < length b.mark + digits_len b.base (drop (length b.mark) text)) ⊎ ((t : List ℕ) × (more ≡ b.mark ++ t) × DigitsOf b.base t v)
    → (length more < length b.mark + digits_len b.base (drop (length b.mark) text)) ⊎ ((length more ≡ length b.mark + digits_len b.base (drop (length b.mark) text)) × (v ≡ value_of b.base 0 (take (digits_len b.base (drop (length b.mark) text)) (drop (length b.mark) text))))
number_at_most text b more after v e (inl h) = inl h
number_at_most text b more after v e (inr (t, same, (ds, h, is))) =
    let rest : drop (length b.mark) text ≡ t ++ after = ap (λ l. drop (length b.mark) l) (e ∙ ap (λ l. l ++ after) same ∙ append_assoc b.mark t after) ∙ drop_at b.mark (t ++ after) _ refl in
    let most : length t ≤ digits_len b.base (drop (length b.mark) text) = subst (λ l. length t ≤ digits_len b.base l) (sym rest) (digits_max b.base t ds after b.small h) in
    let len : length more ≡ length b.mark + length t = ap length same ∙ length-append b.mark t in
    elim (cases_lt (length t) (digits_len b.base (drop (length b.mark) text))) [
      | inl less ↦ inl (omega (arith, len, less))
      | inr most2 ↦
          let equal : digits_len b.base (drop (length b.mark) text) ≡ length t = omega (arith, most, most2) in
          let bytes : take (digits_len b.base (drop (length b.mark) text)) (drop (length b.mark) text) ≡ t = ap₂ (λ n l. take n l) equal rest ∙ take_at t after _ refl in
          inr (omega (arith, len, equal), is ∙ sym (digits_value b.small h 0) ∙ ap (value_of b.base 0) (sym bytes))
    ]

module _ (text : List ℕ) (b : Based text) where
  abbrev pub digits : List ℕ
  digits = take (digits_len b.base (drop (length b.mark) text)) (drop (length b.mark) text)

  abbrev pub total : ℕ
  total = length b.mark + digits_len b.base (drop (length b.mark) text)

  -- a number at the start of the text is shorter than what is read, or is all of it
  pub number_max : (more after : List ℕ) (v : ℕ) → text ≡ more ++ after → NumberText more v → (length more < total) ⊎ ((length more ≡ total) × (v ≡ value_of b.base 0 digits))
  number_max more after v e h = number_at_most text b more after v e (b.max more after v e h)

  pub number_sound : IsDigits b.base digits
  number_sound = digits_sound b.base (drop (length b.mark) text) b.first

either_le : (t : Bool) (x y n : ℕ) → x ≤ n → y ≤ n → cond t x y ≤ n
either_le true x y n a b = a
either_le false x y n a b = b

more_within : (base : ℕ) (bs : List ℕ) → more_len base bs ≤ length bs
unfolding more_len
more_within base [] = omega arith
more_within base (b ∷ []) = either_le (is_digit b base) 1 0 1 (omega arith) (omega arith)
more_within base (b ∷ c ∷ bs) =
    let h = more_within base (c ∷ bs) in
    let i = more_within base bs in
    either_le (is_digit b base) (1 + more_len base (c ∷ bs)) (cond (b == 95 && is_digit c base) (2 + more_len base bs) 0) (length (b ∷ c ∷ bs)) (omega (arith, h))
    (either_le (b == 95 && is_digit c base) (2 + more_len base bs) 0 (length (b ∷ c ∷ bs)) (omega (arith, i)) (omega arith))

digits_within : (base : ℕ) (bs : List ℕ) → digits_len base bs ≤ length bs
unfolding digits_len
digits_within base [] = omega arith
digits_within base (b ∷ bs) = let h = more_within base bs in either_le (is_digit b base) (1 + more_len base bs) 0 (length (b ∷ bs)) (omega (arith, h)) (omega arith)

all_app : (p : ℕ → Bool) (xs ys : List ℕ) → list_all p xs ≡ true → list_all p ys ≡ true → list_all p (xs ++ ys) ≡ true
all_app p [] ys a b = b
all_app p (x ∷ xs) ys a b = let (here, more) = and_parts (p x) (list_all p xs) a in rw here (all_app p xs ys more b)

tail_joined : (b : ℕ) → is_tail b ≡ true → is_joined b ≡ true
tail_joined b e = rw e refl

-- if the first n bytes may all be in a name, so may the one that follows fewer than n of them
inside : (n : ℕ) (more after : List ℕ) → list_all is_tail (take n (more ++ after)) ≡ true → length more < n → n ≤ length (more ++ after) → first_test is_joined after ≡ true
inside zero more after all less within = absurd (omega (arith, less))
inside (suc n) [] [] all less within = absurd (omega (arith, within))
inside (suc n) [] (x ∷ xs) all less within = tail_joined x (and_parts (is_tail x) (list_all is_tail (take n xs)) all).0
inside (suc n) (y ∷ ys) after all less within = inside n ys after (and_parts (is_tail y) (list_all is_tail (take n (ys ++ after))) all).1 (omega (arith, less)) (omega (arith, within))

module _ (text : List ℕ) (b : Based text) where
  pub front : take (total text b) text ≡ b.mark ++ digits text b
  front =
      let mark : take (length b.mark) text ≡ b.mark = ap (λ l. take (length b.mark) l) b.whole ∙ take_at b.mark (drop (length b.mark) text) _ refl in
      take-add (length b.mark) (digits_len b.base (drop (length b.mark) text)) text ∙ ap (λ l. l ++ digits text b) mark

  pub total_within : total text b ≤ length text
  total_within = omega (arith, digits_within b.base (drop (length b.mark) text), ap length b.whole, length-append b.mark (drop (length b.mark) text))

  pub total_some : 0 < total text b
  total_some = omega (arith, some_digits b.base (drop (length b.mark) text) b.first)

  pub goes_into : (more after : List ℕ) → text ≡ more ++ after → length more < total text b → first_test is_joined after ≡ true
  goes_into more after e less =
      let all : list_all is_tail (take (total text b) text) ≡ true = subst (λ l. list_all is_tail l ≡ true) (sym front) (all_app is_tail b.mark (digits text b) b.tails (digits_tail b.small (number_sound text b).1)) in
      inside (total text b) more after (subst (λ l. list_all is_tail (take (total text b) l) ≡ true) e all) less (subst (λ l. total text b ≤ length l) e total_within)

  pub number_text : NumberText (take (total text b) text) (value_of b.base 0 (digits text b))
  number_text =
      let h = number_sound text b in
      subst (λ l. NumberText l (value_of b.base 0 (digits text b))) (sym front) (b.spelled (digits text b) (value_of b.base 0 (digits text b)) (h.0, h.1, digits_value b.small h.1 0))

ten_decimal : (b : ℕ) → is_digit b 10 ≡ true → is_ascii_digit b ≡ true
ten_decimal b e = grind (arith, nat_tests)

ten_first : (l : List ℕ) → first_test (λ c. is_digit c 10) l ≡ true → first_test is_ascii_digit l ≡ true
ten_first [] e = e
ten_first (b ∷ bs) e = ten_decimal b e

pub number_starts : (more after : List ℕ) (v : ℕ) → NumberText more v → first_test is_ascii_digit (more ++ after) ≡ true
number_starts more after v (inl h) = ten_first (more ++ after) (digits_first h.1 after)
number_starts more after v (inr (inl h)) = ap (λ l. first_test is_ascii_digit (l ++ after)) h.1
number_starts more after v (inr (inr h)) = ap (λ l. first_test is_ascii_digit (l ++ after)) h.1

some_first : (p : ℕ → Bool) (l : List ℕ) → first_test p l ≡ true → 0 < length l
some_first p [] e = absurd (true≢false (sym e))
some_first p (b ∷ bs) e = omega arith

pub number_some : (more : List ℕ) (v : ℕ) → NumberText more v → 0 < length more
number_some more v h = some_first is_ascii_digit more (subst (λ l. first_test is_ascii_digit l ≡ true) (append-nil more) (number_starts more [] v h))
