-- A text has a token list within the limit or a first fault, and not both.
use Rattle.std.proofs.{Common.{◌≡◌, ℕ, zero, suc, ◌+◌, ◌-◌, ◌<◌, ◌≤◌, Bool, true, false, List, [], ◌∷◌, ◌++◌, length, drop, Result, Ok, Err, IfOk, refl, sym, ap, ◌∙◌, subst, inl, inr, ◌⊎◌, arith, length-append}, lemmas.Bool.{true≢false, cases_lt}}
use Rattle.std.specs.{Prelude.IfErr, Char.is_ascii_digit}
use Rattle.pc_token.specs.{declared.kinds.Token.Token, declared.kinds.TokenKind.TokenKind}
use Rattle.pc_token.specs.declared.kinds.TokenKind.TheVariants as kinds
use Rattle.pc_lex.specs.{declared.fault.LexFault.LexFault, declared.pieces.Found.Found, declared.pieces.LexStop.LexStop, Pieces.{token_limit, Piece, gap, token, bytes_of, IsToken, Pieces, tokens_of, Tokens, TokenList, first_test, begins}, Parts.open_mark, Faults.{is_quote, OpensCommentOrText, count, Faulty, FaultAfter, TokenAfter, FirstLexFault}, Refusals.{RefusesTokens, AnswersTokens}, Reading.{piece_at, step_of, is_gap, Steps}}
use Rattle.pc_lex.specs.declared.fault.LexFault.TheVariants as fault
use Rattle.pc_lex.specs.declared.pieces.Found.TheVariants as found
use Rattle.pc_lex.specs.declared.pieces.LexStop.TheVariants as stop
use Rattle.pc_lex.proofs.{Longest.spelled_some, OneCut.{piece_one, piece_some, not_both, tokens_one}, OneFault.{gap_token, none_of, Cases, fault_cases, fault_one}, Reached.{Sofar, starts_so, goes_on, nearer, ends_so, stuck_so, right_at}, PieceRight.Right, QuotedBytes.doc_quote}

-- there is one more token than pieces that are tokens
made_count : (ps : List Piece) (at : ℕ) (first : Bool) → length (tokens_of at first ps) ≡ count ps + 1
made_count [] at first = refl
made_count (gap b ∷ ps) at first = made_count ps _ _
made_count (token kind b ∷ ps) at first = omega (arith, made_count ps (at + length b) false)

count_step : (p q : Piece) (ps qs : List Piece) → p ≡ q → count ps < count qs → count (p ∷ ps) < count (q ∷ qs)
count_step p q ps qs e less = subst (λ x. count (p ∷ ps) < count (x ∷ qs)) e (same p ps qs less)
  where
    same : (p : Piece) (ps qs : List Piece) → count ps < count qs → count (p ∷ ps) < count (p ∷ qs)
    same (gap b) ps qs less = less
    same (token kind b) ps qs less = omega (arith, less)

-- if there is a token, the whole text has more tokens than came before
module _ (kind : TokenKind) (b rest : List ℕ) (is : IsToken kind b rest) where
  more_tokens : (ps qs : List Piece) (text : List ℕ) → Pieces text ps (b ++ rest) → Pieces text qs [] → count ps < count qs
  more_tokens [] [] text h i = let some = spelled_some kind b is.spelled in absurd (omega (arith, some, ap length h, ap length i, length-append b rest))
  more_tokens [] (gap g ∷ qs) text h i =
      let one = piece_one (gap g) (token kind b) i.0 rest (sym i.1 ∙ h) i.2 is in
      absurd (gap_token g b kind one.0)
  more_tokens [] (token other g ∷ qs) text h i = omega arith
  more_tokens (p ∷ ps) [] text h i = let some = piece_some p h.0 h.2 in absurd (omega (arith, some, ap length i, ap length h.1, length-append (bytes_of p) h.0))
  more_tokens (p ∷ ps) (q ∷ qs) text h i =
      let one = piece_one p q h.0 i.0 (sym h.1 ∙ i.1) h.2 i.2 in
      count_step p q ps qs one.0 (more_tokens ps qs h.0 h.3 (subst (λ l. Pieces l qs []) (sym one.1) i.3))

too_long : (text : List ℕ) (ts : List Token) (p : ℕ) → Tokens text ts → TokenAfter text p → token_limit + 1 < length ts
too_long text ts p h i =
    let more = more_tokens i.1 i.2 i.3 i.5 i.0 h.0 text i.4 h.1 in
    omega (arith, more, i.6, ap length h.2, made_count h.0 0 true)

opens_some : (text : List ℕ) → begins text open_mark ≡ true → 0 < length text
opens_some [] e = absurd (true≢false (sym e))
opens_some (b ∷ bs) e = omega arith

digit_some : (text : List ℕ) → first_test is_ascii_digit text ≡ true → 0 < length text
digit_some [] e = absurd (true≢false (sym e))
digit_some (b ∷ bs) e = omega arith

quote_some : (text : List ℕ) → first_test is_quote text ≡ true → 0 < length text
quote_some [] e = absurd (true≢false (sym e))
quote_some (b ∷ bs) e = omega arith

open_some : (text : List ℕ) → OpensCommentOrText text → 0 < length text
open_some text (inl opens) = opens_some text opens
open_some text (inr (inl doc)) = quote_some text (doc_quote text doc)
open_some text (inr (inr (plain, quote, never))) = quote_some text quote

faulty_some : (rest : List ℕ) (at : ℕ) (f : LexFault) → Faulty rest at f → 0 < length rest
faulty_some rest at (fault.Unclosed p) h = open_some rest h.2
faulty_some rest at (fault.BadNumber p) h = digit_some rest h.2
faulty_some rest at (fault.BadByte p) h = h.2
faulty_some rest at (fault.BadEscape p) h = omega (arith, ap length h.4.2)
faulty_some rest at (fault.TooMany p) h = absurd h
faulty_some rest at fault.Memory h = absurd h

no_list_behind : (text : List ℕ) (ts : List Token) (f : LexFault) → Tokens text ts → FaultAfter text f → ⊥
no_list_behind text ts f h i = not_both h.0 i.0 text i.1 h.1 i.3 (faulty_some i.1 i.2 f i.6) (none_of i.1 i.2 f i.6)

no_list_cases : (text : List ℕ) (ts : List Token) (f : LexFault) → ((p : ℕ) → f ≡ fault.TooMany p → ⊥) → Tokens text ts → Cases text f → ⊥
no_list_cases text ts f other h (inl i) = other i.0 i.1
no_list_cases text ts f other h (inr i) = no_list_behind text ts f h i

-- with a fault other than the number of tokens there is no token list
pub no_list : (text : List ℕ) (ts : List Token) (f : LexFault) → ((p : ℕ) → f ≡ fault.TooMany p → ⊥) → Tokens text ts → FirstLexFault text f → ⊥
no_list text ts f other h i = no_list_cases text ts f other h (fault_cases text f i)

never_cases : (text : List ℕ) (ts : List Token) (f : LexFault) → TokenList text ts → Cases text f → ⊥
never_cases text ts f h (inl i) = let long = too_long text ts i.0 h.0 i.2 in omega (arith, h.1, long)
never_cases text ts f h (inr i) = no_list_behind text ts f h.0 i

-- a token list within the limit and a first fault exclude each other
pub never_both : (text : List ℕ) (ts : List Token) (f : LexFault) → TokenList text ts → FirstLexFault text f → ⊥
never_both text ts f h i = never_cases text ts f h (fault_cases text f i)

abbrev Either : List ℕ → Type 0
Either text = ((ts : List Token) × TokenList text ts) ⊎ ((f : LexFault) × FirstLexFault text f)

abbrev More : List ℕ → ℕ → Type 0
More text at = (new : List Token) (r : ℕ × Bool) → at < r.0 → Sofar text r.0 r.1 new → Either text

one_more : (text : List ℕ) (at : ℕ) (first : Bool) (ts : List Token) (f : Found) (n : ℕ) → at < length text → Sofar text at first ts → piece_at (drop at text) ≡ Ok (f, n)
    → (is_gap f ≡ false → length ts < token_limit) → More text at → Either text
one_more text at first ts f n inside so e room more =
    let next = step_of text at first ts (f, n) in
    let s : Steps text at first ts next.1 next.0 = ((f, n), e, refl, room) in
    more next.1 next.0 (nearer text at first ts next.1 next.0 inside s) (goes_on text at first ts next.1 next.0 inside so s)

token_more : (text : List ℕ) (at : ℕ) (first : Bool) (ts : List Token) (kind : TokenKind) (n : ℕ) → at < length text → Sofar text at first ts → piece_at (drop at text) ≡ Ok (found.Token kind, n)
    → (length ts < token_limit) ⊎ (token_limit ≤ length ts) → More text at → Either text
token_more text at first ts kind n inside so e (inl less) more = one_more text at first ts (found.Token kind) n inside so e (λ t. less) more
token_more text at first ts kind n inside so e (inr full) more = inr (fault.TooMany at, stuck_so text at first ts (fault.TooMany at) inside so (refl, full, (found.Token kind, n), e, refl))

-- one piece is read, and then the rest
step_told : (text : List ℕ) (at : ℕ) (first : Bool) (ts : List Token) (o : Result (Found × ℕ) LexStop) → at < length text → Sofar text at first ts → piece_at (drop at text) ≡ o → More text at → Either text
step_told text at first ts (Ok (found.Gap, n)) inside so e more = one_more text at first ts found.Gap n inside so e (λ t. absurd (true≢false t)) more
step_told text at first ts (Ok (found.Token kind, n)) inside so e more = token_more text at first ts kind n inside so e (cases_lt (length ts) token_limit) more
step_told text at first ts (Err stop.BadByte) inside so e more = inr (fault.BadByte at, stuck_so text at first ts (fault.BadByte at) inside so (refl, e))
step_told text at first ts (Err stop.BadNumber) inside so e more = inr (fault.BadNumber at, stuck_so text at first ts (fault.BadNumber at) inside so (refl, e))
step_told text at first ts (Err stop.Unclosed) inside so e more = inr (fault.Unclosed at, stuck_so text at first ts (fault.Unclosed at) inside so (refl, e))
step_told text at first ts (Err (stop.BadEscape offset)) inside so e more = inr (fault.BadEscape (at + offset), stuck_so text at first ts (fault.BadEscape (at + offset)) inside so (offset, refl, e))
step_told text at first ts (Err stop.Memory) inside so e more =
    let never : Right (drop at text) (Err stop.Memory) = subst (Right (drop at text)) e (right_at text at inside) in
    absurd never

list_told : (text : List ℕ) (at : ℕ) (first : Bool) (ts : List Token) → length text ≤ at → Sofar text at first ts → Either text
list_told text at first ts past so =
    let end = record { kind = kinds.End; first = first; span = record { start = at; end = at } } ∷ [] in
    inl (ts ++ end, (ends_so text at first ts past so, omega (arith, so.few, length-append ts end)))

-- The number bounds the recursion.
told_from : (n : ℕ) (text : List ℕ) (at : ℕ) (first : Bool) (ts : List Token) → length text - at ≤ n → Sofar text at first ts → Either text
told_from zero text at first ts enough so = list_told text at first ts (omega (arith, enough)) so
told_from (suc n) text at first ts enough so =
    elim (cases_lt at (length text)) [
      | inl inside ↦ step_told text at first ts (piece_at (drop at text)) inside so refl (λ new r less next. told_from n text r.0 r.1 new (omega (arith, less, enough, inside)) next)
      | inr past ↦ list_told text at first ts past so
    ]

-- a text has a token list within the limit, or a first fault
pub told : (text : List ℕ) → Either text
told text = told_from (length text) text 0 true [] (omega arith) (starts_so text)

refused : (result : Result (List Token) LexFault) (text : List ℕ) (f : LexFault) → result ≡ Err f → RefusesTokens text f → (result ≡ Err fault.Memory) ⊎ FirstLexFault text f
refused result text fault.Memory e h = inl e
refused result text (fault.TooMany p) e h = inr h
refused result text (fault.BadByte p) e h = inr h
refused result text (fault.Unclosed p) e h = inr h
refused result text (fault.BadNumber p) e h = inr h
refused result text (fault.BadEscape p) e h = inr h

list_or : (result : Result (List Token) LexFault) (text : List ℕ) (f : LexFault) (ts : List Token) → TokenList text ts → (result ≡ Err fault.Memory) ⊎ FirstLexFault text f → AnswersTokens result (Ok ts)
list_or result text f ts h (inl e) = inr e
list_or result text f ts h (inr i) = absurd (never_both text ts f h i)

abbrev IsAnswer : List ℕ → Result (List Token) LexFault → Type 0
IsAnswer text (Ok ts) = TokenList text ts
IsAnswer text (Err f) = RefusesTokens text f

pub is_answer : (text : List ℕ) (result : Result (List Token) LexFault) → IfOk result (TokenList text) → IfErr result (RefusesTokens text) → IsAnswer text result
is_answer text (Ok ts) ok err = ok
is_answer text (Err f) ok err = err

-- the list within the limit is returned
pub answers_list : (text : List ℕ) (result : Result (List Token) LexFault) (ts : List Token) → IsAnswer text result → TokenList text ts → AnswersTokens result (Ok ts)
answers_list text (Ok other) ts right h = inl (ap Ok (tokens_one text other ts right.0 h.0))
answers_list text (Err f) ts right h = list_or (Err f) text f ts h (refused (Err f) text f refl right)

fault_or : (result : Result (List Token) LexFault) (text : List ℕ) (f g : LexFault) → result ≡ Err f → FirstLexFault text g → (result ≡ Err fault.Memory) ⊎ FirstLexFault text f → AnswersTokens result (Err g)
fault_or result text f g e h (inl memory) = inr memory
fault_or result text f g e h (inr i) = inl (e ∙ ap Err (fault_one text f g i h))

-- the first fault is returned
pub answers_fault : (text : List ℕ) (result : Result (List Token) LexFault) (g : LexFault) → IsAnswer text result → FirstLexFault text g → AnswersTokens result (Err g)
answers_fault text (Ok ts) g right h = absurd (never_both text ts g right h)
answers_fault text (Err f) g right h = fault_or (Err f) text f g refl h (refused (Err f) text f refl right)
