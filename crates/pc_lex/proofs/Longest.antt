-- No longer prefix is a token.
use Rattle.std.proofs.{Common.{◌≡◌, ℕ, ◌^◌, ◌<◌, ◌≤◌, Bool, true, false, not, cond, ◌&&◌, ◌||◌, ◌==◌, List, [], ◌∷◌, ◌++◌, length, Some, refl, sym, ap, ◌∙◌, subst, inl, inr, ◌⊎◌, arith, length-append}, lemmas.Bool.{and_parts, true≢false, not-true, ltb-true, or_parts}, lemmas.Bool.Decides.nat_tests}
use Rattle.std.specs.{Prelude.{nat_eq, nat_lt}, List.starts_with, Char.{is_ascii_lowercase, is_ascii_uppercase, is_ascii_digit}}
use Rattle.pc_token.specs.{declared.signs.Sign.Sign, declared.kinds.TokenKind.TokenKind, Words.sign_text, Finding.sign_at}
use Rattle.pc_token.specs.declared.kinds.TokenKind.TheVariants as kinds
use Rattle.pc_lex.specs.{Pieces.{is_letter, first_test, TextBytes, DocBytes, NameText, SpellsToken, NumberText}, Faults.is_quote, Reading.{letter_len, under_len, name_len}}
use Rattle.pc_base.proofs.Prefixes.{begins_own}
use Rattle.pc_token.proofs.SignFacts.{each_sign, sign_max}
use Rattle.pc_lex.proofs.{WordReading.spelled_word, NumberReading.{number_starts, number_some}, NameReading.{name_max, letter_is}}

abbrev pub is_start : ℕ → Bool
is_start b = is_letter b || b == 95

pub small_letter : (b : ℕ) → is_ascii_lowercase b ≡ true → is_letter b ≡ true
small_letter b e = rw e refl

pub capital_letter : (b : ℕ) → is_ascii_uppercase b ≡ true → is_letter b ≡ true
capital_letter b e = grind (arith, nat_tests)

start_step : (b : ℕ) (bs : List ℕ) (t : Bool) → (b == 95) ≡ t → 0 < cond t (under_len (letter_len bs)) (letter_len (b ∷ bs)) → is_start b ≡ true
start_step b bs true e some = grind (arith, nat_tests)
start_step b bs false e some = rw (letter_is b bs some).0 refl

pub name_starts : (text : List ℕ) → 0 < name_len text → first_test is_start text ≡ true
unfolding name_len
name_starts [] some = absurd (omega (arith, some))
name_starts (b ∷ bs) some = start_step b bs (b == 95) refl some

abbrev pub sign_test : Sign → Bool
sign_test s = not (first_test is_start (sign_text s) || first_test is_ascii_digit (sign_text s)) && (not (first_test is_quote (sign_text s)) && nat_lt 0 (length (sign_text s)))

pub sign_some : (b : List ℕ) (s : Sign) → b ≡ sign_text s → ((first_test is_start b || first_test is_ascii_digit b) ≡ false) × (0 < length b) × (first_test is_quote b ≡ false)
sign_some b s e =
    let (x, y) = and_parts (not (first_test is_start (sign_text s) || first_test is_ascii_digit (sign_text s))) (not (first_test is_quote (sign_text s)) && nat_lt 0 (length (sign_text s))) (each_sign sign_test refl s) in
    let (z, w) = and_parts (not (first_test is_quote (sign_text s))) (nat_lt 0 (length (sign_text s))) y in
    subst (λ l. ((first_test is_start l || first_test is_ascii_digit l) ≡ false) × (0 < length l) × (first_test is_quote l ≡ false)) (sym e) (not-true _ x, ltb-true 0 (length (sign_text s)) w, not-true _ z)

first_app : (p : ℕ → Bool) (more after : List ℕ) → 0 < length more → first_test p (more ++ after) ≡ first_test p more
first_app p [] after some = absurd (omega (arith, some))
first_app p (b ∷ bs) after some = refl

start_no_digit : (b : ℕ) → is_start b ≡ true → is_ascii_digit b ≡ false
start_no_digit b e = grind (arith, nat_tests)

pub apart : (text : List ℕ) → first_test is_start text ≡ true → first_test is_ascii_digit text ≡ true → ⊥
apart [] e d = true≢false (sym e)
apart (b ∷ bs) e d = true≢false (sym d ∙ start_no_digit b e)

-- a text or a doc begins with a quote
abbrev pub Quoted : List ℕ → Type 0
Quoted b = (t : List ℕ) × (b ≡ 34 ∷ t)

pub text_quoted : (b v : List ℕ) → TextBytes b v → Quoted b
text_quoted b v h = (h.0 ++ 34 ∷ [], h.1)

pub doc_quoted : (b : List ℕ) → DocBytes b → Quoted b
doc_quoted b h = (34 ∷ 34 ∷ h.0, h.1)

pub quoted_first : (p : ℕ → Bool) (text more after : List ℕ) → text ≡ more ++ after → Quoted more → first_test p text ≡ p 34
quoted_first p text more after e q = ap (first_test p) (e ∙ ap (λ l. l ++ after) q.1)

quoted_some : (b : List ℕ) → Quoted b → 0 < length b
quoted_some b q = omega (arith, ap length q.1)

not_quoted : (p : ℕ → Bool) (text more after : List ℕ) → p 34 ≡ false → first_test p text ≡ true → text ≡ more ++ after → Quoted more → ⊥
not_quoted p text more after other is e q = true≢false (sym is ∙ quoted_first p text more after e q ∙ other)

-- a name is no longer than the name that is read
named : (h : ℕ → Bool) (text more after : List ℕ) → ((b : ℕ) → h b ≡ true → is_letter b ≡ true) → text ≡ more ++ after → NameText h more → length more ≤ name_len text
named h text more after letters e t = subst (λ l. length more ≤ name_len l) (sym e) (name_max h more after letters t)

pub name_longest : (text : List ℕ) → 0 < name_len text → (other : TokenKind) (more after : List ℕ) → text ≡ more ++ after → SpellsToken other more → length more ≤ name_len text
name_longest text some (kinds.Name v) more after e h = named is_ascii_lowercase text more after small_letter e h.0
name_longest text some (kinds.TypeName v) more after e h = named is_ascii_uppercase text more after capital_letter e h.0
name_longest text some (kinds.Word w) more after e h = named is_ascii_lowercase text more after small_letter e (spelled_word w more h)
name_longest text some (kinds.Number n) more after e h = absurd (apart text (name_starts text some) (ap (first_test is_ascii_digit) e ∙ number_starts more after n h.0))
name_longest text some (kinds.Text v) more after e h = absurd (not_quoted is_start text more after refl (name_starts text some) e (text_quoted more v h))
name_longest text some kinds.Doc more after e h = absurd (not_quoted is_start text more after refl (name_starts text some) e (doc_quoted more h))
name_longest text some (kinds.Sign s) more after e h =
    let (other, nonempty, unquoted) = sign_some more s h in
    absurd (true≢false (sym (name_starts text some) ∙ ap (first_test is_start) e ∙ first_app is_start more after nonempty ∙ (or_parts _ _ other).0))
name_longest text some kinds.End more after e h = absurd h

-- if no name begins here, a token is a sign
pub sign_longest : (text : List ℕ) → first_test is_ascii_digit text ≡ false → first_test is_quote text ≡ false → name_len text ≡ 0 → (other : TokenKind) (more after : List ℕ) → text ≡ more ++ after → SpellsToken other more
    → (length more ≡ 0) ⊎ ((r : Sign × ℕ) × (sign_at text ≡ Some r) × (length more ≤ r.1))
sign_longest text digit quote none (kinds.Name v) more after e h = inl (omega (arith, none, named is_ascii_lowercase text more after small_letter e h.0))
sign_longest text digit quote none (kinds.TypeName v) more after e h = inl (omega (arith, none, named is_ascii_uppercase text more after capital_letter e h.0))
sign_longest text digit quote none (kinds.Word w) more after e h = inl (omega (arith, none, named is_ascii_lowercase text more after small_letter e (spelled_word w more h)))
sign_longest text digit quote none (kinds.Number n) more after e h = absurd (true≢false (sym (ap (first_test is_ascii_digit) e ∙ number_starts more after n h.0) ∙ digit))
sign_longest text digit quote none (kinds.Text v) more after e h = absurd (true≢false (sym (quoted_first is_quote text more after e (text_quoted more v h)) ∙ quote))
sign_longest text digit quote none kinds.Doc more after e h = absurd (true≢false (sym (quoted_first is_quote text more after e (doc_quoted more h)) ∙ quote))
sign_longest text digit quote none (kinds.Sign s) more after e h =
    let is : starts_with nat_eq text (sign_text s) ≡ true = subst (λ l. starts_with nat_eq text l ≡ true) h (ap (λ l. starts_with nat_eq l more) e ∙ begins_own more after) in
    let most = sign_max text s is in
    inr (most.0, most.1, omega (arith, most.2, ap length h))
sign_longest text digit quote none kinds.End more after e h = absurd h

name_some : (h : ℕ → Bool) (more : List ℕ) → NameText h more → 0 < length more
name_some h more t = omega (arith, ap length t.parts, length-append t.under (t.head ∷ (t.tail ++ t.primes)))

no_name : (h : ℕ → Bool) (text more after : List ℕ) → first_test is_ascii_digit text ≡ true → ((b : ℕ) → h b ≡ true → is_letter b ≡ true) → text ≡ more ++ after → NameText h more → ⊥
no_name h text more after digit letters e t =
    let some : 0 < name_len text = omega (arith, name_some h more t, named h text more after letters e t) in
    apart text (name_starts text some) digit

-- a token has bytes
pub spelled_some : (kind : TokenKind) (b : List ℕ) → SpellsToken kind b → 0 < length b
spelled_some (kinds.Name v) b h = name_some is_ascii_lowercase b h.0
spelled_some (kinds.TypeName v) b h = name_some is_ascii_uppercase b h.0
spelled_some (kinds.Word w) b h = name_some is_ascii_lowercase b (spelled_word w b h)
spelled_some (kinds.Number n) b h = number_some b n h.0
spelled_some (kinds.Text v) b h = quoted_some b (text_quoted b v h)
spelled_some kinds.Doc b h = quoted_some b (doc_quoted b h)
spelled_some (kinds.Sign s) b h = (sign_some b s h).1
spelled_some kinds.End b h = absurd h

-- if there is a digit, a token is a number
pub digit_only : (text : List ℕ) → first_test is_ascii_digit text ≡ true → (other : TokenKind) (more after : List ℕ) → text ≡ more ++ after → SpellsToken other more → (v : ℕ) × (other ≡ kinds.Number v) × NumberText more v × (v < 2 ^ 64)
digit_only text digit (kinds.Name v) more after e h = absurd (no_name is_ascii_lowercase text more after digit small_letter e h.0)
digit_only text digit (kinds.TypeName v) more after e h = absurd (no_name is_ascii_uppercase text more after digit capital_letter e h.0)
digit_only text digit (kinds.Word w) more after e h = absurd (no_name is_ascii_lowercase text more after digit small_letter e (spelled_word w more h))
digit_only text digit (kinds.Number n) more after e h = (n, refl, h.0, h.1)
digit_only text digit (kinds.Text v) more after e h = absurd (not_quoted is_ascii_digit text more after refl digit e (text_quoted more v h))
digit_only text digit kinds.Doc more after e h = absurd (not_quoted is_ascii_digit text more after refl digit e (doc_quoted more h))
digit_only text digit (kinds.Sign s) more after e h =
    let (other, nonempty, unquoted) = sign_some more s h in
    absurd (true≢false (sym digit ∙ ap (first_test is_ascii_digit) e ∙ first_app is_ascii_digit more after nonempty ∙ (or_parts _ _ other).1))
digit_only text digit kinds.End more after e h = absurd h

quote_start : (b : ℕ) → is_quote b ≡ true → is_start b ≡ false
quote_start b e = grind (arith, nat_tests)

quote_digit : (b : ℕ) → is_quote b ≡ true → is_ascii_digit b ≡ false
quote_digit b e = grind (arith, nat_tests)

pub quote_none : (text : List ℕ) → first_test is_quote text ≡ true → (first_test is_start text ≡ false) × (first_test is_ascii_digit text ≡ false)
quote_none [] e = (refl, refl)
quote_none (b ∷ bs) e = (quote_start b e, quote_digit b e)

quote_no_name : (h : ℕ → Bool) (text more after : List ℕ) → first_test is_quote text ≡ true → ((b : ℕ) → h b ≡ true → is_letter b ≡ true) → text ≡ more ++ after → NameText h more → ⊥
quote_no_name h text more after quote letters e t =
    let some : 0 < name_len text = omega (arith, name_some h more t, named h text more after letters e t) in
    true≢false (sym (name_starts text some) ∙ (quote_none text quote).0)

-- if there is a quote, a token is a text literal or a doc
pub quote_only : (text : List ℕ) → first_test is_quote text ≡ true → (other : TokenKind) (more after : List ℕ) → text ≡ more ++ after → SpellsToken other more
    → ((v : List ℕ) × (other ≡ kinds.Text v) × TextBytes more v) ⊎ ((other ≡ kinds.Doc) × DocBytes more)
quote_only text quote (kinds.Name v) more after e h = absurd (quote_no_name is_ascii_lowercase text more after quote small_letter e h.0)
quote_only text quote (kinds.TypeName v) more after e h = absurd (quote_no_name is_ascii_uppercase text more after quote capital_letter e h.0)
quote_only text quote (kinds.Word w) more after e h = absurd (quote_no_name is_ascii_lowercase text more after quote small_letter e (spelled_word w more h))
quote_only text quote (kinds.Number n) more after e h = absurd (true≢false (sym (ap (first_test is_ascii_digit) e ∙ number_starts more after n h.0) ∙ (quote_none text quote).1))
quote_only text quote (kinds.Text v) more after e h = inl (v, refl, h)
quote_only text quote kinds.Doc more after e h = inr (refl, h)
quote_only text quote (kinds.Sign s) more after e h =
    let (other, nonempty, unquoted) = sign_some more s h in
    absurd (true≢false (sym quote ∙ ap (first_test is_quote) e ∙ first_app is_quote more after nonempty ∙ unquoted))
quote_only text quote kinds.End more after e h = absurd h
