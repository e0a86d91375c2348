-- The length of a name is that of the longest one.
use Rattle.std.proofs.{Common.{◌≡◌, ℕ, zero, suc, ◌+◌, ◌<◌, ◌≤◌, Bool, true, false, cond, ◌==◌, List, [], ◌∷◌, ◌++◌, length, take, drop, refl, sym, ap, ap₂, ◌∙◌, subst, inl, inr, arith, ◌⊎◌, take-add, length-append, length-drop, append_assoc, drop_at}, lemmas.Bool.{and_parts, eqb-true}, lemmas.Bool.Decides.nat_tests, lemmas.List.Sums.prefix_len-le-length}
use Rattle.std.specs.{List.{prefix_len, list_all}, Char.{is_ascii_lowercase, is_ascii_uppercase}}
use Rattle.pc_lex.specs.{Pieces.{is_letter, is_tail, is_prime, NameText}, Reading.{tail_len, letter_len, under_len, name_len, is_type}}
use Rattle.pc_base.proofs.Prefixes.{run_app, run_all}

run_none : (p : ℕ → Bool) (x : ℕ) (xs : List ℕ) → p x ≡ false → prefix_len p (x ∷ xs) ≡ 0
run_none p x xs e = rw e refl

prime_no_tail : (b : ℕ) → is_prime b ≡ true → is_tail b ≡ false
prime_no_tail b e = grind (arith, nat_tests)

tail_max : (tail primes after : List ℕ) → list_all is_tail tail ≡ true → list_all is_prime primes ≡ true → length tail + length primes ≤ tail_len (tail ++ (primes ++ after))
unfolding tail_len
tail_max tail [] after tails ends = omega (arith, run_app is_tail tail after tails)
tail_max tail (p ∷ ps) after tails ends =
    let here : is_prime p ≡ true = (and_parts (is_prime p) (list_all is_prime ps) ends).0 in
    let n : prefix_len is_tail (tail ++ (p ∷ (ps ++ after))) ≡ length tail = omega (arith, run_app is_tail tail (p ∷ (ps ++ after)) tails, run_none is_tail p (ps ++ after) (prime_no_tail p here)) in
    let rest : drop (prefix_len is_tail (tail ++ (p ∷ (ps ++ after)))) (tail ++ (p ∷ (ps ++ after))) ≡ p ∷ (ps ++ after) = drop_at tail (p ∷ (ps ++ after)) _ (sym n) in
    omega (arith, n, ap (prefix_len is_prime) rest, run_app is_prime (p ∷ ps) after ends)

under_some : (n : ℕ) → 0 < n → under_len n ≡ n + 1
under_some zero some = absurd (omega arith)
under_some (suc n) some = refl

letter_no_under : (b : ℕ) → is_letter b ≡ true → (b == 95) ≡ false
letter_no_under b e = grind (arith, nat_tests)

letter_max : (head : ℕ) (tail primes after : List ℕ) → is_letter head ≡ true → list_all is_tail tail ≡ true → list_all is_prime primes ≡ true
    → 1 + length tail + length primes ≤ letter_len (head ∷ (tail ++ (primes ++ after)))
unfolding letter_len
letter_max head tail primes after is tails ends = rw is (omega (arith, tail_max tail primes after tails ends))

plain_max : (head : ℕ) (tail primes after : List ℕ) → is_letter head ≡ true → list_all is_tail tail ≡ true → list_all is_prime primes ≡ true
    → length (head ∷ (tail ++ primes)) ≤ name_len ((head ∷ (tail ++ primes)) ++ after)
unfolding name_len
plain_max head tail primes after is tails ends =
    rw (letter_no_under head is, append_assoc tail primes after) (omega (arith, letter_max head tail primes after is tails ends, length-append tail primes))

under_max : (head : ℕ) (tail primes after : List ℕ) → is_letter head ≡ true → list_all is_tail tail ≡ true → list_all is_prime primes ≡ true
    → length (95 ∷ head ∷ (tail ++ primes)) ≤ name_len ((95 ∷ head ∷ (tail ++ primes)) ++ after)
unfolding name_len
under_max head tail primes after is tails ends =
    let some = letter_max head tail primes after is tails ends in
    rw (append_assoc tail primes after) (omega (arith, some, length-append tail primes, under_some (letter_len (head ∷ (tail ++ (primes ++ after)))) (omega (arith, some))))

max_at : (under : List ℕ) (head : ℕ) (tail primes more after : List ℕ) → is_letter head ≡ true → list_all is_tail tail ≡ true → list_all is_prime primes ≡ true
    → more ≡ under ++ head ∷ (tail ++ primes) → (under ≡ []) ⊎ (under ≡ 95 ∷ []) → length more ≤ name_len (more ++ after)
max_at under head tail primes more after is tails ends parts (inl e) =
    subst (λ m. length m ≤ name_len (m ++ after)) (sym (parts ∙ ap (λ u. u ++ head ∷ (tail ++ primes)) e)) (plain_max head tail primes after is tails ends)
max_at under head tail primes more after is tails ends parts (inr e) =
    subst (λ m. length m ≤ name_len (m ++ after)) (sym (parts ∙ ap (λ u. u ++ head ∷ (tail ++ primes)) e)) (under_max head tail primes after is tails ends)

pub name_max : (h : ℕ → Bool) (more after : List ℕ) → ((b : ℕ) → h b ≡ true → is_letter b ≡ true) → NameText h more → length more ≤ name_len (more ++ after)
name_max h more after letters t = max_at t.under t.head t.tail t.primes more after (letters t.head t.heads) t.tails t.ends t.parts t.optional

-- what is read is a name
abbrev pub head_test : Bool → ℕ → Bool
head_test t = λ b. cond t (is_ascii_uppercase b) (is_ascii_lowercase b)

tail_cut : (cs : List ℕ) → take (tail_len cs) cs ≡ take (prefix_len is_tail cs) cs ++ take (prefix_len is_prime (drop (prefix_len is_tail cs) cs)) (drop (prefix_len is_tail cs) cs)
unfolding tail_len
tail_cut cs = take-add (prefix_len is_tail cs) (prefix_len is_prime (drop (prefix_len is_tail cs) cs)) cs

letter_case : (b : ℕ) → is_letter b ≡ true → head_test (is_ascii_uppercase b) b ≡ true
letter_case b e = grind (arith, nat_tests)

pub letter_is : (b : ℕ) (bs : List ℕ) → 0 < letter_len (b ∷ bs) → (is_letter b ≡ true) × (letter_len (b ∷ bs) ≡ 1 + tail_len bs)
unfolding letter_len
letter_is b bs some = at (is_letter b) refl some
  where
    at : (t : Bool) → is_letter b ≡ t → 0 < cond t (1 + tail_len bs) 0 → (is_letter b ≡ true) × (cond t (1 + tail_len bs) 0 ≡ 1 + tail_len bs)
    at true e some = (e, refl)
    at false e some = absurd (omega (arith, some))

under_pos : (n : ℕ) → 0 < under_len n → 0 < n
under_pos zero some = some
under_pos (suc n) some = omega arith

letter_none : letter_len [] ≡ 0
unfolding letter_len
letter_none = refl

name_text : (under : List ℕ) (b : ℕ) (bs : List ℕ) → (under ≡ []) ⊎ (under ≡ 95 ∷ []) → is_letter b ≡ true → NameText (head_test (is_ascii_uppercase b)) (under ++ b ∷ take (tail_len bs) bs)
name_text under b bs optional is = record {
  under = under;
  head = b;
  optional = optional;
  heads = letter_case b is;
  tail = take (prefix_len is_tail bs) bs;
  primes = take (prefix_len is_prime (drop (prefix_len is_tail bs) bs)) (drop (prefix_len is_tail bs) bs);
  parts = ap (λ l. under ++ b ∷ l) (tail_cut bs);
  tails = run_all is_tail bs;
  ends = run_all is_prime (drop (prefix_len is_tail bs) bs);
}

pub type_plain : (b : ℕ) (bs : List ℕ) → (b == 95) ≡ false → is_type (b ∷ bs) ≡ is_ascii_uppercase b
unfolding is_type
type_plain b [] e = refl
type_plain b (c ∷ bs) e = rw e refl

plain_sound : (b : ℕ) (bs : List ℕ) → (b == 95) ≡ false → 0 < letter_len (b ∷ bs) → NameText (head_test (is_type (take (letter_len (b ∷ bs)) (b ∷ bs)))) (take (letter_len (b ∷ bs)) (b ∷ bs))
plain_sound b bs e some =
    let (is, len) = letter_is b bs some in
    let count : letter_len (b ∷ bs) ≡ suc (tail_len bs) = omega (arith, len) in
    let cut : take (letter_len (b ∷ bs)) (b ∷ bs) ≡ b ∷ take (tail_len bs) bs = ap (λ n. take n (b ∷ bs)) count in
    let kind : is_type (b ∷ take (tail_len bs) bs) ≡ is_ascii_uppercase b = type_plain b (take (tail_len bs) bs) e in
    let T : List ℕ → Type 0 = λ l. NameText (head_test (is_type l)) l in
    subst T (sym cut) (subst (λ t. NameText (head_test t) (b ∷ take (tail_len bs) bs)) (sym kind) (name_text [] b bs (inl refl) is))

under_sound : (b : ℕ) (bs : List ℕ) → (b == 95) ≡ true → 0 < under_len (letter_len bs) → NameText (head_test (is_type (take (under_len (letter_len bs)) (b ∷ bs)))) (take (under_len (letter_len bs)) (b ∷ bs))
unfolding is_type
under_sound b [] e some = let none : letter_len [] ≡ 0 = letter_none in absurd (let bad : 0 < under_len 0 = subst (λ n. 0 < under_len n) none some in omega (arith, bad))
under_sound b (c ∷ cs) e some =
    let (is, len) = letter_is c cs (under_pos (letter_len (c ∷ cs)) some) in
    let count : under_len (letter_len (c ∷ cs)) ≡ suc (suc (tail_len cs)) = omega (arith, len, under_some (letter_len (c ∷ cs)) (under_pos (letter_len (c ∷ cs)) some)) in
    let cut : take (under_len (letter_len (c ∷ cs))) (b ∷ c ∷ cs) ≡ 95 ∷ c ∷ take (tail_len cs) cs = ap₂ (λ n h. take n (h ∷ c ∷ cs)) count (eqb-true b 95 e) in
    let T : List ℕ → Type 0 = λ l. NameText (head_test (is_type l)) l in
    subst T (sym cut) (name_text (95 ∷ []) c cs (inr refl) is)

name_step : (b : ℕ) (bs : List ℕ) (t : Bool) → (b == 95) ≡ t → 0 < cond t (under_len (letter_len bs)) (letter_len (b ∷ bs))
    → NameText (head_test (is_type (take (cond t (under_len (letter_len bs)) (letter_len (b ∷ bs))) (b ∷ bs)))) (take (cond t (under_len (letter_len bs)) (letter_len (b ∷ bs))) (b ∷ bs))
name_step b bs true e some = under_sound b bs e some
name_step b bs false e some = plain_sound b bs e some

pub name_sound : (text : List ℕ) → 0 < name_len text → NameText (head_test (is_type (take (name_len text) text))) (take (name_len text) text)
unfolding name_len
name_sound [] some = absurd (omega (arith, some))
name_sound (b ∷ bs) some = name_step b bs (b == 95) refl some

letter_within : (bs : List ℕ) → letter_len bs ≤ length bs
unfolding letter_len tail_len
letter_within [] = omega arith
letter_within (b ∷ bs) = grind (arith, prefix_len-le-length is_tail bs, prefix_len-le-length is_prime (drop (prefix_len is_tail bs) bs), length-drop (prefix_len is_tail bs) bs)

under_within : (n : ℕ) → under_len n ≤ n + 1
under_within zero = omega arith
under_within (suc n) = omega arith

pub name_within : (text : List ℕ) → name_len text ≤ length text
unfolding name_len
name_within [] = omega arith
name_within (b ∷ bs) = grind (arith, letter_within bs, letter_within (b ∷ bs), under_within (letter_len bs))
