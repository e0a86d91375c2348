-- Digits at an index.
use Rattle.std.proofs.{Common.{◌≡◌, ℕ, ◌+◌, ◌*◌, ◌<◌, ◌≤◌, Bool, true, false, cond, ◌&&◌, ◌==◌, List, [], ◌∷◌, length, get_or, drop, refl, sym, ap, ◌∙◌, arith, drop-drop}, lemmas.Bool.{and_parts, true≢false, ne_eqb}, lemmas.List.{drop_more, drop_all}}
use Rattle.std.specs.Char.{is_digit, digit_value}
use Rattle.pc_lex.specs.{Pieces.first_test, Reading.{more_len, digits_len, value_of}}

pub step : (base b : ℕ) (bs : List ℕ) → is_digit b base ≡ true → more_len base (b ∷ bs) ≡ 1 + more_len base bs
unfolding more_len
step base b [] e = rw e refl
step base b (c ∷ bs) e = rw e refl

pub space : (base b : ℕ) (bs : List ℕ) → is_digit b base ≡ false → (b == 95) ≡ true → first_test (λ c. is_digit c base) bs ≡ true → more_len base (b ∷ bs) ≡ 2 + more_len base (drop 1 bs)
unfolding more_len
space base b [] e under d = absurd (true≢false (sym d))
space base b (c ∷ bs) e under d = rw (e, under, d) refl

pub ends : (base b : ℕ) (bs : List ℕ) → is_digit b base ≡ false → ((b == 95) && first_test (λ c. is_digit c base) bs) ≡ false → more_len base (b ∷ bs) ≡ 0
unfolding more_len
ends base b [] e other = rw e refl
ends base b (c ∷ bs) e other = rw (e, other) refl

module _ (base : ℕ) (text : List ℕ) (at : ℕ) (within : at < length text) where
  pub len_step : is_digit (get_or text at 0) base ≡ true → more_len base (drop at text) ≡ 1 + more_len base (drop (at + 1) text)
  len_step e = ap (more_len base) (drop_more text at 0 within) ∙ step base _ _ e

  pub len_space : is_digit (get_or text at 0) base ≡ false → ((get_or text at 0 == 95) && first_test (λ c. is_digit c base) (drop (at + 1) text)) ≡ true → more_len base (drop at text) ≡ 2 + more_len base (drop (at + 2) text)
  len_space e other =
      let (under, d) = and_parts (get_or text at 0 == 95) (first_test (λ c. is_digit c base) (drop (at + 1) text)) other in
      let two : at + 1 + 1 ≡ at + 2 = omega arith in
      ap (more_len base) (drop_more text at 0 within) ∙ space base _ _ e under d ∙ ap (λ l. 2 + more_len base l) (drop-drop 1 (at + 1) text ∙ ap (λ i. drop i text) two)

  pub len_ends : is_digit (get_or text at 0) base ≡ false → ((get_or text at 0 == 95) && first_test (λ c. is_digit c base) (drop (at + 1) text)) ≡ false → more_len base (drop at text) ≡ 0
  len_ends e other = ap (more_len base) (drop_more text at 0 within) ∙ ends base _ _ e other

pub len_none : (base : ℕ) (text : List ℕ) (at : ℕ) → length text ≤ at → more_len base (drop at text) ≡ 0
unfolding more_len
len_none base text at past = ap (more_len base) (drop_all at text past)

pub len_first : (base : ℕ) (text : List ℕ) → digits_len base text ≡ cond (first_test (λ c. is_digit c base) text) (1 + more_len base (drop 1 text)) 0
unfolding digits_len
len_first base [] = refl
len_first base (b ∷ bs) = refl

module _ (base : ℕ) where
  pub value_at : (text : List ℕ) (i acc : ℕ) → i < length text
      → value_of base acc (drop i text) ≡ cond (get_or text i 0 == 95) (value_of base acc (drop (i + 1) text)) (value_of base (acc * base + digit_value (get_or text i 0)) (drop (i + 1) text))
  value_at text i acc within = ap (value_of base acc) (drop_more text i 0 within)

  pub value_all : (text : List ℕ) (i acc : ℕ) → length text ≤ i → value_of base acc (drop i text) ≡ acc
  value_all text i acc past = ap (value_of base acc) (drop_all i text past)

grows_digit : (base acc d : ℕ) → 0 < base → acc ≤ acc * base + d
grows_digit base acc d some = grind arith

grows_step : (base b : ℕ) (bs : List ℕ) (acc : ℕ) (t : Bool) → 0 < base → ((a : ℕ) → a ≤ value_of base a bs) → acc ≤ cond t (value_of base acc bs) (value_of base (acc * base + digit_value b) bs)
grows_step base b bs acc true some more = more acc
grows_step base b bs acc false some more = omega (arith, more (acc * base + digit_value b), grows_digit base acc (digit_value b) some)

pub value_grows : (base : ℕ) (text : List ℕ) (acc : ℕ) → 0 < base → acc ≤ value_of base acc text
value_grows base [] acc some = omega arith
value_grows base (b ∷ bs) acc some = grows_step base b bs acc (b == 95) some (λ a. value_grows base bs a some)

pub not_under : (b : ℕ) → (b ≡ 95 → ⊥) → (b == 95) ≡ false
not_under b e = ne_eqb b 95 e
