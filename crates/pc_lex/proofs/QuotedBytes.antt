-- What makes a text literal or a doc the longest token.
use Rattle.std.proofs.{Common.{◌≡◌, ℕ, ◌≤◌, Bool, true, false, cond, ◌&&◌, ◌==◌, List, [], ◌∷◌, ◌++◌, length, drop, Some, refl, sym, ap, ap₂, ◌∙◌, subst, inl, inr, arith}, lemmas.Bool.{true≢false, and_parts, eqb-true}, lemmas.Bool.Decides.nat_tests}
use Rattle.std.specs.{Prelude.nat_eq, Char.is_digit}
use Rattle.pc_lex.specs.{Pieces.{first_test, is_plain, BetweenQuotes, nothing, plain, covered, Writes, Written, DocEnds, ends, other, begins_doc, DocBytes}, Faults.is_quote, TextReading.doc_behind}

hex_plain : (b : ℕ) → is_digit b 16 ≡ true → is_plain b ≡ true
hex_plain b e = grind (arith, nat_tests)

writes_covered : (one rest : List ℕ) (v : ℕ) → Writes one v → BetweenQuotes rest → BetweenQuotes (one ++ rest)
writes_covered one rest v (inl h) more = subst (λ l. BetweenQuotes (l ++ rest)) (sym h.0) (plain h.1 more)
writes_covered one rest v (inr (inl h)) more = subst (λ l. BetweenQuotes (l ++ rest)) (sym h.1) (covered more)
writes_covered one rest v (inr (inr h)) more = subst (λ l. BetweenQuotes (l ++ rest)) (sym h.2) (covered (plain (hex_plain h.0 h.3) (plain (hex_plain h.1 h.4) more)))

-- what has a value ends at the first `"` that is not escaped
pub written_covered : (vs b : List ℕ) → Written b vs → BetweenQuotes b
written_covered [] b h = subst BetweenQuotes (sym h) nothing
written_covered (v ∷ vs) b h = subst BetweenQuotes (sym h.2) (writes_covered h.0 h.1 v h.3 (written_covered vs h.1 h.4))

doc_three : {text rest : List ℕ} → DocEnds text rest → 3 ≤ length text
doc_three ends = omega arith
doc_three (other e h) = let less = doc_three h in omega (arith, less)

same_test : (b : ℕ) (text after : List ℕ) → 3 ≤ length text → begins_doc (b ∷ (text ++ after)) ≡ begins_doc (b ∷ text)
unfolding begins_doc
same_test b [] after most = absurd (omega (arith, most))
same_test b (x ∷ []) after most = absurd (omega (arith, most))
same_test b (x ∷ y ∷ text) after most = refl

-- a doc that ends is read to its end, whatever follows
pub doc_read : {text rest : List ℕ} → DocEnds text rest → (after : List ℕ) → doc_behind (text ++ after) ≡ Some (rest ++ after)
unfolding doc_behind begins_doc
doc_read ends after = refl
doc_read (other {b = b} {text = text} {rest = rest} e h) after =
    let stays : begins_doc (b ∷ (text ++ after)) ≡ false = same_test b text after (doc_three h) ∙ e in
    rw stays (doc_read h after)

pub whole : (text : List ℕ) → begins_doc text ≡ true → text ≡ 34 ∷ 34 ∷ 34 ∷ drop 3 text
unfolding begins_doc
whole [] e = absurd (true≢false (sym e))
whole (a ∷ []) e = absurd (true≢false (sym (and_parts (nat_eq 34 a) false e).1))
whole (a ∷ b ∷ []) e = absurd (true≢false (sym (and_parts (nat_eq 34 b) false (and_parts (nat_eq 34 a) (nat_eq 34 b && false) e).1).1))
whole (a ∷ b ∷ c ∷ t) e =
    let (x, more) = and_parts (nat_eq 34 a) (nat_eq 34 b && (nat_eq 34 c && true)) e in
    let (y, last) = and_parts (nat_eq 34 b) (nat_eq 34 c && true) more in
    let (z, done) = and_parts (nat_eq 34 c) true last in
    let first : a ≡ 34 = sym (eqb-true 34 a x) in
    let second : b ≡ 34 = sym (eqb-true 34 b y) in
    let third : c ≡ 34 = sym (eqb-true 34 c z) in
    ap (λ i. i ∷ b ∷ c ∷ t) first ∙ ap₂ (λ j l. 34 ∷ j ∷ l ∷ t) second third

doc_step : (b : ℕ) (bs rest : List ℕ) (t : Bool) → begins_doc (b ∷ bs) ≡ t → cond t (Some (drop 3 (b ∷ bs))) (doc_behind bs) ≡ Some rest → (doc_behind bs ≡ Some rest → DocEnds bs rest) → DocEnds (b ∷ bs) rest
doc_step b bs rest true is e more =
    let same : drop 3 (b ∷ bs) ≡ rest = cc in
    subst (λ l. DocEnds (b ∷ bs) l) same (subst (λ l. DocEnds l (drop 3 (b ∷ bs))) (sym (whole (b ∷ bs) is)) ends)
doc_step b bs rest false is e more = other is (more e)

pub doc_ends : (text rest : List ℕ) → doc_behind text ≡ Some rest → DocEnds text rest
unfolding doc_behind
doc_ends [] rest e = let bad : ⊥ = cc in absurd bad
doc_ends (b ∷ bs) rest e = doc_step b bs rest (begins_doc (b ∷ bs)) refl e (doc_ends bs rest)

-- a doc that ends is one without what follows it
pub doc_split : {text rest : List ℕ} → DocEnds text rest → (pre : List ℕ) × (text ≡ pre ++ rest) × DocEnds pre []
doc_split ends = (34 ∷ 34 ∷ 34 ∷ [], refl, ends)
doc_split (other {b = b} {rest = rest} e h) =
    let s = doc_split h in
    (b ∷ s.0, ap (λ l. b ∷ l) s.1, other (sym (same_test b s.0 rest (doc_three s.2)) ∙ ap (λ l. begins_doc (b ∷ l)) (sym s.1) ∙ e) s.2)

plain_unquoted : (b : ℕ) → is_plain b ≡ true → (b == 34) ≡ false
plain_unquoted b e = grind (arith, nat_tests)

pub covered_first : {b : ℕ} {bs : List ℕ} → BetweenQuotes (b ∷ bs) → (b == 34) ≡ false
covered_first (plain {b = b} e h) = plain_unquoted b e
covered_first (covered h) = refl

unquoted_flip : (b : ℕ) → (b == 34) ≡ false → nat_eq 34 b ≡ false
unquoted_flip b e = grind (arith, nat_tests)

-- if there is no quote, no doc begins
pub no_doc : (text : List ℕ) → first_test is_quote text ≡ false → begins_doc text ≡ false
unfolding begins_doc
no_doc [] e = refl
no_doc (b ∷ bs) e = let other = unquoted_flip b e in rw other refl

pub doc_quote : (text : List ℕ) → begins_doc text ≡ true → first_test is_quote text ≡ true
doc_quote text e = ap (first_test is_quote) (whole text e)

pub doc_begins : (text g rest : List ℕ) → text ≡ g ++ rest → DocBytes g → begins_doc text ≡ true
unfolding begins_doc
doc_begins text g rest same h = ap begins_doc (same ∙ ap (λ l. l ++ rest) h.1)

pub quote_cut : (text : List ℕ) → first_test is_quote text ≡ true → text ≡ 34 ∷ drop 1 text
quote_cut [] e = absurd (true≢false (sym e))
quote_cut (b ∷ bs) e = ap (λ c. c ∷ bs) (eqb-true b 34 e)
