-- A text is cut into pieces in only one way.
use Rattle.std.proofs.{Common.{◌≡◌, ℕ, ◌+◌, ◌-◌, ◌<◌, Bool, true, false, not, cond, ◌==◌, List, [], ◌∷◌, ◌++◌, length, take, drop, Option, Some, None, Result, Ok, Err, refl, sym, ap, ap₂, ◌∙◌, subst, inl, inr, ◌⊎◌, arith, length-append, append-nil, take_at, take-append-drop, length-take-le}, lemmas.Bool.{true≢false, not-true, or_parts}, lemmas.Bool.Decides.nat_tests}
use Rattle.std.specs.{List.prefix_len, Char.{is_ascii_lowercase, is_ascii_uppercase, is_ascii_digit}}
use Rattle.pc_token.specs.{declared.signs.Sign.Sign, declared.kinds.Token.Token, declared.kinds.TokenKind.TokenKind, Finding.{word_of, sign_at}, Words.sign_text}
use Rattle.pc_token.specs.declared.kinds.TokenKind.TheVariants as kinds
use Rattle.pc_lex.specs.{declared.pieces.Found.Found, declared.pieces.LexStop.LexStop, Pieces.{first_test, is_blank, is_line, is_letter, begins_comment, begins_doc, TextBytes, NameText, SpellsToken, Piece, gap, token, bytes_of, IsPiece, IsToken, IsGap, AtLineEnd, Pieces, tokens_of, Tokens}, Faults.{is_quote, NoPiece}, TextReading.unescape, Reading.{is_type, name_kind, behind, value_of, digits_len, base_at, between, piece_at}}
use Rattle.pc_lex.specs.declared.pieces.Found.TheVariants as found
use Rattle.pc_lex.specs.declared.pieces.LexStop.TheVariants as stop
use Rattle.pc_base.proofs.{Prefixes.run_app, Cuts.same_cut}
use Rattle.pc_lex.proofs.{CommentSteps.behind_all, WordReading.spelled_word, NameReading.type_plain, CommentEnds.{closes_suffix, closes_behind}, NumberReading.{Based, based, digits, total, number_max, total_within, number_starts}, Longest.{small_letter, capital_letter, is_start, apart, sign_some, spelled_some, Quoted, text_quoted, doc_quoted, quoted_first, quote_none}, PieceRight.{piece_of, Right}, PieceReading.piece_right, QuotedBytes.{whole, doc_begins}, QuoteReading.short_text, TextValues.value_read}
use Rattle.pc_token.proofs.{SignFacts.{each_sign, sign_own}, WordFacts.{word_found, none_found}}

-- a gap is read with its length
line_none : (rest : List ℕ) → AtLineEnd rest → prefix_len is_line rest ≡ 0
line_none [] h = refl
line_none (b ∷ bs) h = rw h refl

pub gap_read : (b r : List ℕ) → IsGap b r → piece_at (b ++ r) ≡ Ok (found.Gap, length b)
unfolding piece_at
gap_read b r (inl (c, one, is)) = subst (λ l. piece_at (l ++ r) ≡ Ok (found.Gap, length l)) (sym one) (rw is refl)
gap_read b r (inr (inl (t, one, all, stops))) =
    let n : 2 + prefix_len is_line (t ++ r) ≡ length (47 ∷ 47 ∷ t) = omega (arith, run_app is_line t r all, line_none r stops) in
    subst (λ l. piece_at (l ++ r) ≡ Ok (found.Gap, length l)) (sym one) (ap (λ n. Ok (found.Gap, n)) n)
gap_read b r (inr (inr (t, same, closes))) =
    let ends : behind 1 t ≡ Some r = closes_behind closes 0 ∙ behind_all r in
    let n : length (47 ∷ 42 ∷ t) - length r ≡ length b = omega (arith, ap length same, length-append b r) in
    ap piece_at same ∙ (rw ends (ap (λ n. Ok (found.Gap, n)) n))

-- the kind of a token's bytes
lower_not : (b : ℕ) → is_ascii_lowercase b ≡ true → (is_ascii_uppercase b ≡ false) × ((b == 95) ≡ false)
lower_not b e = (grind (arith, nat_tests), grind (arith, nat_tests))

upper_is : (b : ℕ) → is_ascii_uppercase b ≡ true → (is_ascii_uppercase b ≡ true) × ((b == 95) ≡ false)
upper_is b e = (e, grind (arith, nat_tests))

head_type : (h : ℕ → Bool) (t : Bool) (b under : List ℕ) (head : ℕ) (more : List ℕ) → ((c : ℕ) → h c ≡ true → (is_ascii_uppercase c ≡ t) × ((c == 95) ≡ false)) → h head ≡ true
    → (under ≡ []) ⊎ (under ≡ 95 ∷ []) → b ≡ under ++ head ∷ more → is_type b ≡ t
unfolding is_type
head_type h t b under head more gives is (inl e) parts = ap is_type (parts ∙ ap (λ u. u ++ head ∷ more) e) ∙ type_plain head more (gives head is).1 ∙ (gives head is).0
head_type h t b under head more gives is (inr e) parts = ap is_type (parts ∙ ap (λ u. u ++ head ∷ more) e) ∙ (gives head is).0

lower_type : (b : List ℕ) → NameText is_ascii_lowercase b → is_type b ≡ false
lower_type b t = head_type is_ascii_lowercase false b t.under t.head (t.tail ++ t.primes) lower_not t.heads t.optional t.parts

upper_type : (b : List ℕ) → NameText is_ascii_uppercase b → is_type b ≡ true
upper_type b t = head_type is_ascii_uppercase true b t.under t.head (t.tail ++ t.primes) upper_is t.heads t.optional t.parts

abbrev number_kind : List ℕ → ℕ × ℕ → TokenKind
number_kind b base = kinds.Number (value_of base.0 0 (take (digits_len base.0 (drop base.1 b)) (drop base.1 b)))

abbrev sign_kind : Option (Sign × ℕ) → TokenKind
sign_kind None = kinds.End
sign_kind (Some r) = kinds.Sign r.0

abbrev text_kind : Result (List ℕ) ℕ → TokenKind
text_kind (Ok v) = kinds.Text v
text_kind (Err at) = kinds.End

abbrev quote_kind : List ℕ → TokenKind
quote_kind b = cond (begins_doc b) kinds.Doc (text_kind (unescape (between b (length b))))

abbrev kind_at : List ℕ → TokenKind
kind_at b = cond (first_test is_ascii_digit b) (number_kind b (base_at b)) (cond (first_test is_start b) (name_kind b) (cond (first_test is_quote b) (quote_kind b) (sign_kind (sign_at b))))

own_first : (p : ℕ → Bool) (b : List ℕ) → Quoted b → first_test p b ≡ p 34
own_first p b q = quoted_first p b b [] (sym (append-nil b)) q

-- a text literal is no doc
text_no_doc : (b v : List ℕ) (t : Bool) → begins_doc b ≡ t → TextBytes b v → begins_doc b ≡ false
text_no_doc b v false d h = d
text_no_doc b v true d h =
    let two = short_text b b [] v d (sym (append-nil b)) h in
    absurd (omega (arith, two, ap length (whole b d)))

text_inner : (b v : List ℕ) (h : TextBytes b v) → between b (length b) ≡ h.0
text_inner b v (body, e, w) =
    let count : length b - 2 ≡ length body = omega (arith, ap length e, length-append body (34 ∷ [])) in
    ap₂ (λ m l. take m (drop 1 l)) count e ∙ take_at body (34 ∷ []) (length body) refl

start_letter : (b : ℕ) → is_letter b ≡ true → is_start b ≡ true
start_letter b e = rw e refl

first_of : (under : List ℕ) (head : ℕ) (more b : List ℕ) → is_letter head ≡ true → (under ≡ []) ⊎ (under ≡ 95 ∷ []) → b ≡ under ++ head ∷ more → first_test is_start b ≡ true
first_of under head more b is (inl e) parts = ap (first_test is_start) (parts ∙ ap (λ u. u ++ head ∷ more) e) ∙ start_letter head is
first_of under head more b is (inr e) parts = ap (first_test is_start) (parts ∙ ap (λ u. u ++ head ∷ more) e)

name_first : (h : ℕ → Bool) (b : List ℕ) → ((c : ℕ) → h c ≡ true → is_letter c ≡ true) → NameText h b → first_test is_start b ≡ true
name_first h b letters t = first_of t.under t.head (t.tail ++ t.primes) b (letters t.head t.heads) t.optional t.parts

start_not_digit : (b : List ℕ) → first_test is_start b ≡ true → first_test is_ascii_digit b ≡ false
start_not_digit b e = at (first_test is_ascii_digit b) refl
  where
    at : (t : Bool) → first_test is_ascii_digit b ≡ t → first_test is_ascii_digit b ≡ false
    at true d = absurd (apart b e d)
    at false d = d

name_kind_at : (b : List ℕ) → first_test is_start b ≡ true → kind_at b ≡ name_kind b
name_kind_at b e = rw (start_not_digit b e, e) refl

number_is : (b : List ℕ) (base : Based b) (n : ℕ) → (length b < total b base) ⊎ ((length b ≡ total b base) × (n ≡ value_of base.base 0 (digits b base))) → n ≡ value_of base.base 0 (digits b base)
number_is b base n (inl less) = let most = total_within b base in absurd (omega (arith, less, most))
number_is b base n (inr h) = h.1

sign_kind_is : (b : List ℕ) (s : Sign) → b ≡ sign_text s → kinds.Sign s ≡ sign_kind (sign_at b)
sign_kind_is b s e = ap sign_kind (sym (sign_own s) ∙ ap sign_at (sym e))

kind_is : (kind : TokenKind) (b : List ℕ) → SpellsToken kind b → kind ≡ kind_at b
unfolding name_kind
kind_is (kinds.Name v) b h =
    let none : word_of b ≡ None = none_found b h.1 in
    ap kinds.Name h.2 ∙ sym (name_kind_at b (name_first is_ascii_lowercase b small_letter h.0) ∙ (rw (lower_type b h.0, none) refl))
kind_is (kinds.TypeName v) b h = ap kinds.TypeName h.1 ∙ sym (name_kind_at b (name_first is_ascii_uppercase b capital_letter h.0) ∙ (rw (upper_type b h.0) refl))
kind_is (kinds.Word w) b h =
    let name = spelled_word w b h in
    let found : word_of b ≡ Some w = word_found b w h in
    sym (name_kind_at b (name_first is_ascii_lowercase b small_letter name) ∙ (rw (lower_type b name, found) refl))
kind_is (kinds.Number n) b h =
    let digit : first_test is_ascii_digit b ≡ true = subst (λ l. first_test is_ascii_digit l ≡ true) (append-nil b) (number_starts b [] n h.0) in
    let base = based b digit in
    let v = number_is b base n (number_max b base b [] n (sym (append-nil b)) h.0) in
    rw digit (ap kinds.Number v ∙ ap (number_kind b) (sym base.is))
kind_is (kinds.Text v) b h =
    let quote = own_first is_quote b (text_quoted b v h) in
    let (start, digit) = quote_none b quote in
    let plain = text_no_doc b v (begins_doc b) refl h in
    let value : unescape (between b (length b)) ≡ Ok v = ap unescape (text_inner b v h) ∙ value_read h.0 v h.2 in
    rw (digit, start, quote, plain, value) refl
kind_is kinds.Doc b h =
    let quote = own_first is_quote b (doc_quoted b h) in
    let (start, digit) = quote_none b quote in
    let doc = doc_begins b b [] (sym (append-nil b)) h in
    rw (digit, start, quote, doc) refl
kind_is (kinds.Sign s) b h =
    let (other, some, unquoted) = sign_some b s h in
    let (start, digit) = or_parts (first_test is_start b) (first_test is_ascii_digit b) other in
    rw (digit, start, unquoted) (sign_kind_is b s h)
kind_is kinds.End b h = absurd h

pub kind_one : (x y : TokenKind) (b : List ℕ) → SpellsToken x b → SpellsToken y b → x ≡ y
kind_one x y b h i = kind_is x b h ∙ sym (kind_is y b i)

-- no token begins with a blank
abbrev not_blank : Sign → Bool
not_blank s = not (first_test is_blank (sign_text s))

start_blank : (b : List ℕ) → first_test is_start b ≡ true → first_test is_blank b ≡ false
start_blank [] e = refl
start_blank (b ∷ bs) e = grind (arith, nat_tests)

digit_blank : (b : List ℕ) → first_test is_ascii_digit b ≡ true → first_test is_blank b ≡ false
digit_blank [] e = refl
digit_blank (b ∷ bs) e = grind (arith, nat_tests)

spelled_blank : (kind : TokenKind) (b : List ℕ) → SpellsToken kind b → first_test is_blank b ≡ false
spelled_blank (kinds.Name v) b h = start_blank b (name_first is_ascii_lowercase b small_letter h.0)
spelled_blank (kinds.TypeName v) b h = start_blank b (name_first is_ascii_uppercase b capital_letter h.0)
spelled_blank (kinds.Word w) b h = start_blank b (name_first is_ascii_lowercase b small_letter (spelled_word w b h))
spelled_blank (kinds.Number n) b h = digit_blank b (subst (λ l. first_test is_ascii_digit l ≡ true) (append-nil b) (number_starts b [] n h.0))
spelled_blank (kinds.Text v) b h = own_first is_blank b (text_quoted b v h)
spelled_blank kinds.Doc b h = own_first is_blank b (doc_quoted b h)
spelled_blank (kinds.Sign s) b h = subst (λ l. first_test is_blank l ≡ false) (sym h) (not-true _ (each_sign not_blank refl s))
spelled_blank kinds.End b h = absurd h

first_same : (p : ℕ → Bool) (b r : List ℕ) → 0 < length b → first_test p (b ++ r) ≡ first_test p b
first_same p [] r some = absurd (omega (arith, some))
first_same p (x ∷ xs) r some = refl

no_gap_here : (kind : TokenKind) (b r g s : List ℕ) → IsToken kind b r → b ++ r ≡ g ++ s → IsGap g s → ⊥
no_gap_here kind b r g s h e (inl (c, one, is)) =
    let first : first_test is_blank (b ++ r) ≡ true = ap (first_test is_blank) (e ∙ ap (λ l. l ++ s) one) ∙ is in
    true≢false (sym first ∙ first_same is_blank b r (spelled_some kind b h.spelled) ∙ spelled_blank kind b h.spelled)
no_gap_here kind b r g s h e (inr (inl (t, one, all, stops))) = true≢false (sym (ap begins_comment (e ∙ ap (λ l. l ++ s) one)) ∙ h.no_comment)
no_gap_here kind b r g s h e (inr (inr (t, same, closes))) = true≢false (sym (ap begins_comment (e ∙ same)) ∙ h.no_comment)

abbrev Read : Piece → List ℕ → Type 0
Read p r = (f : Found) × (piece_at (bytes_of p ++ r) ≡ Ok (f, length (bytes_of p))) × (piece_of f (bytes_of p) ≡ p)

token_found : (kind : TokenKind) (b r : List ℕ) (f : Found) (n : ℕ) → IsToken kind b r → piece_at (b ++ r) ≡ Ok (f, n) → Right (b ++ r) (Ok (f, n)) → Read (token kind b) r
token_found kind b r found.Gap n h e right = absurd (no_gap_here kind b r (take n (b ++ r)) (drop n (b ++ r)) h (sym (take-append-drop n (b ++ r))) right.2)
token_found kind b r (found.Token other) n h e right =
    let same : b ++ r ≡ take n (b ++ r) ++ drop n (b ++ r) = sym (take-append-drop n (b ++ r)) in
    let len : length (take n (b ++ r)) ≡ n = length-take-le n (b ++ r) right.1 in
    let up = h.longest other (take n (b ++ r)) (drop n (b ++ r)) same right.2.spelled in
    let down = right.2.longest kind b r (sym same) h.spelled in
    let equal : length b ≡ n = omega (arith, up, down, len) in
    let bytes : b ≡ take n (b ++ r) = (same_cut b r (take n (b ++ r)) (drop n (b ++ r)) same (equal ∙ sym len)).0 in
    let kinds : other ≡ kind = kind_one other kind b (subst (λ l. SpellsToken other l) (sym bytes) right.2.spelled) h.spelled in
    (found.Token other, e ∙ ap (λ n. Ok (found.Token other, n)) (sym equal), ap (λ x. token x b) kinds)

token_read : (kind : TokenKind) (b r : List ℕ) (o : Result (Found × ℕ) LexStop) → IsToken kind b r → piece_at (b ++ r) ≡ o → Right (b ++ r) o → Read (token kind b) r
token_read kind b r (Ok x) h e right = token_found kind b r x.0 x.1 h e right
token_read kind b r (Err stop.BadByte) h e right = absurd (right.0 (token kind b) r refl h)
token_read kind b r (Err stop.BadNumber) h e right = absurd (right.0 (token kind b) r refl h)
token_read kind b r (Err stop.Unclosed) h e right = absurd (right.0 (token kind b) r refl h)
token_read kind b r (Err (stop.BadEscape offset)) h e right = absurd (right.0 (token kind b) r refl h)
token_read kind b r (Err stop.Memory) h e right = absurd right

pub piece_read : (p : Piece) (r : List ℕ) → IsPiece p r → Read p r
piece_read (gap b) r h = (found.Gap, gap_read b r h, refl)
piece_read (token kind b) r h =
    let some = spelled_some kind b h.spelled in
    token_read kind b r (piece_at (b ++ r)) h refl (piece_right (b ++ r) (omega (arith, some, length-append b r)))

pub piece_some : (p : Piece) (r : List ℕ) → IsPiece p r → 0 < length (bytes_of p)
piece_some (gap b) r (inl h) = omega (arith, ap length h.1)
piece_some (gap b) r (inr (inl h)) = omega (arith, ap length h.1)
piece_some (gap b) r (inr (inr h)) =
    let cut = closes_suffix h.2 in
    omega (arith, ap length h.1, ap length cut.1, length-append cut.0 r, length-append b r)
piece_some (token kind b) r h = spelled_some kind b h.spelled

ok_one : (x y : Found × ℕ) (o : Result (Found × ℕ) LexStop) → o ≡ Ok x → o ≡ Ok y → x ≡ y
ok_one x y o e f =
    let same : Ok x ≡ Ok y = sym e ∙ f in
    cc

-- two pieces at the start of one text are the same
pub piece_one : (p q : Piece) (r s : List ℕ) → bytes_of p ++ r ≡ bytes_of q ++ s → IsPiece p r → IsPiece q s → (p ≡ q) × (r ≡ s)
piece_one p q r s e h i =
    let x = piece_read p r h in
    let y = piece_read q s i in
    let pair : (x.0, length (bytes_of p)) ≡ (y.0, length (bytes_of q)) = ok_one (x.0, length (bytes_of p)) (y.0, length (bytes_of q)) (piece_at (bytes_of q ++ s)) (ap piece_at (sym e) ∙ x.1) y.1 in
    let cut = same_cut (bytes_of p) r (bytes_of q) s e (ap (λ z. z.1) pair) in
    (sym x.2 ∙ ap₂ (λ f b. piece_of f b) (ap (λ z. z.0) pair) cut.0 ∙ y.2, cut.1)

pub pieces_one : (ps qs : List Piece) (text : List ℕ) → Pieces text ps [] → Pieces text qs [] → ps ≡ qs
pieces_one [] [] text h i = refl
pieces_one [] (q ∷ qs) text h i = let some = piece_some q i.0 i.2 in absurd (omega (arith, some, ap length h, ap length i.1, length-append (bytes_of q) i.0))
pieces_one (p ∷ ps) [] text h i = let some = piece_some p h.0 h.2 in absurd (omega (arith, some, ap length i, ap length h.1, length-append (bytes_of p) h.0))
pieces_one (p ∷ ps) (q ∷ qs) text h i =
    let one = piece_one p q h.0 i.0 (sym h.1 ∙ i.1) h.2 i.2 in
    ap₂ (λ x xs. x ∷ xs) one.0 (pieces_one ps qs h.0 h.3 (subst (λ l. Pieces l qs []) (sym one.1) i.3))

-- whole pieces up to the end, or up to a place where none begins, but not both
pub not_both : (ps qs : List Piece) (text rest : List ℕ) → Pieces text ps [] → Pieces text qs rest → 0 < length rest → NoPiece rest → ⊥
not_both [] [] text rest h i some none = omega (arith, some, ap length i, ap length h)
not_both [] (q ∷ qs) text rest h i some none = let one = piece_some q i.0 i.2 in omega (arith, one, ap length h, ap length i.1, length-append (bytes_of q) i.0)
not_both (p ∷ ps) [] text rest h i some none = none p h.0 (sym i ∙ h.1) h.2
not_both (p ∷ ps) (q ∷ qs) text rest h i some none =
    let one = piece_one p q h.0 i.0 (sym h.1 ∙ i.1) h.2 i.2 in
    not_both ps qs h.0 rest h.3 (subst (λ l. Pieces l qs rest) (sym one.1) i.3) some none

-- two places at which no piece begins are the same
pub same_stop : (ps qs : List Piece) (text rest more : List ℕ) → Pieces text ps rest → Pieces text qs more → NoPiece rest → NoPiece more → (ps ≡ qs) × (rest ≡ more)
same_stop [] [] text rest more h i none other = (refl, sym h ∙ i)
same_stop [] (q ∷ qs) text rest more h i none other = absurd (none q i.0 (sym h ∙ i.1) i.2)
same_stop (p ∷ ps) [] text rest more h i none other = absurd (other p h.0 (sym i ∙ h.1) h.2)
same_stop (p ∷ ps) (q ∷ qs) text rest more h i none other =
    let one = piece_one p q h.0 i.0 (sym h.1 ∙ i.1) h.2 i.2 in
    let tail = same_stop ps qs h.0 rest more h.3 (subst (λ l. Pieces l qs more) (sym one.1) i.3) none other in
    (ap₂ (λ x xs. x ∷ xs) one.0 tail.0, tail.1)

pub tokens_one : (text : List ℕ) (a b : List Token) → Tokens text a → Tokens text b → a ≡ b
tokens_one text a b h i = h.2 ∙ ap (λ l. tokens_of 0 true l) (pieces_one h.0 i.0 text h.1 i.1) ∙ sym i.2
