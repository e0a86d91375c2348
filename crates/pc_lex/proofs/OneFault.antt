-- A text has only one first fault.
use Rattle.std.proofs.{Common.{◌≡◌, ℕ, ◌≤◌, true, false, cond, List, [], ◌∷◌, ◌++◌, length, refl, sym, ap, ap₂, ◌∙◌, subst, inl, inr, ◌⊎◌, arith, Result, Ok, Err, Option, Some, None, drop, ◌+◌, ◌-◌}, lemmas.Bool.Decides.nat_tests}
use Rattle.std.specs.Char.{is_ascii_digit}
use Rattle.pc_token.specs.declared.kinds.TokenKind.{TokenKind}
use Rattle.pc_lex.specs.{declared.fault.LexFault.LexFault, Pieces.{first_test, begins, begins_doc, Piece, gap, token, IsToken, Pieces}, Parts.open_mark, Faults.{is_quote, NeverEnds, BadEscapeIn, OpensCommentOrText, NoPiece, count, Faulty, FaultAfter, TokenAfter, FirstLexFault}, TextReading.{text_behind, unescape}, Reading.between}
use Rattle.pc_lex.specs.declared.fault.LexFault.TheVariants as fault
use Rattle.pc_lex.proofs.{Longest.quote_none, QuoteEnds.behind_covered, QuotedBytes.{no_doc, doc_quote, quote_cut}, QuoteReading.{behind_is, inner}, TextValues.bad_read, OneCut.{piece_one, same_stop}}

pub gap_token : (g b : List ℕ) (kind : TokenKind) → gap g ≡ token kind b → ⊥
gap_token g b kind e = cc

fewer_same : (q : Piece) (ps qs : List Piece) → count (q ∷ qs) ≤ count (q ∷ ps) → count qs ≤ count ps
fewer_same (gap g) ps qs few = few
fewer_same (token kind g) ps qs few = omega (arith, few)

fewer : (p q : Piece) (ps qs : List Piece) → p ≡ q → count (q ∷ qs) ≤ count (p ∷ ps) → count qs ≤ count ps
fewer p q ps qs e few = fewer_same q ps qs (subst (λ x. count (q ∷ qs) ≤ count (x ∷ ps)) e few)

-- if there is a token and the greatest number of tokens came before, no gap can come before it
module _ (kind : TokenKind) (b rest : List ℕ) (is : IsToken kind b rest) where
  pub never_both : (ps qs : List Piece) (text other : List ℕ) → Pieces text ps (b ++ rest) → Pieces text qs other → NoPiece other → count qs ≤ count ps → ⊥
  never_both [] [] text other h i none few = none (token kind b) rest (sym i ∙ h) is
  never_both [] (gap g ∷ qs) text other h i none few =
      let one = piece_one (gap g) (token kind b) i.0 rest (sym i.1 ∙ h) i.2 is in
      gap_token g b kind one.0
  never_both [] (token k2 g ∷ qs) text other h i none few = omega (arith, few)
  never_both (p ∷ ps) [] text other h i none few = none p h.0 (sym i ∙ h.1) h.2
  never_both (p ∷ ps) (q ∷ qs) text other h i none few =
      let one = piece_one p q h.0 i.0 (sym h.1 ∙ i.1) h.2 i.2 in
      let less : count qs ≤ count ps = fewer p q ps qs one.0 few in
      never_both ps qs h.0 other h.3 (subst (λ l. Pieces l qs other) (sym one.1) i.3) none less

  pub many_one : (ps qs : List Piece) (text : List ℕ) (k2 : TokenKind) (c more : List ℕ) → Pieces text ps (b ++ rest) → Pieces text qs (c ++ more) → IsToken k2 c more → count qs ≡ count ps → b ++ rest ≡ c ++ more
  many_one [] [] text k2 c more h i other same = sym h ∙ i
  many_one [] (gap g ∷ qs) text k2 c more h i other same =
      let one = piece_one (gap g) (token kind b) i.0 rest (sym i.1 ∙ h) i.2 is in
      absurd (gap_token g b kind one.0)
  many_one [] (token k3 g ∷ qs) text k2 c more h i other same = absurd (omega (arith, same))
  many_one (gap g ∷ ps) [] text k2 c more h i other same =
      let one = piece_one (gap g) (token k2 c) h.0 more (sym h.1 ∙ i) h.2 other in
      absurd (gap_token g c k2 one.0)
  many_one (token k3 g ∷ ps) [] text k2 c more h i other same = absurd (omega (arith, same))
  many_one (p ∷ ps) (q ∷ qs) text k2 c more h i other same =
      let one = piece_one p q h.0 i.0 (sym h.1 ∙ i.1) h.2 i.2 in
      let less : count qs ≤ count ps = fewer p q ps qs one.0 (omega (arith, same)) in
      let least : count ps ≤ count qs = fewer q p qs ps (sym one.0) (omega (arith, same)) in
      many_one ps qs h.0 k2 c more h.3 (subst (λ l. Pieces l qs (c ++ more)) (sym one.1) i.3) other (omega (arith, less, least))

-- the fault of a place, by how it is read
abbrev escape_fault : ℕ → Result (List ℕ) ℕ → LexFault
escape_fault at (Ok v) = fault.BadByte at
escape_fault at (Err k) = fault.BadEscape (at + (1 + k))

abbrev quote_fault : List ℕ → ℕ → Option (List ℕ) → LexFault
quote_fault text at None = fault.Unclosed at
quote_fault text at (Some rest) = escape_fault at (unescape (between text (length text - length rest)))

abbrev fault_of : List ℕ → ℕ → LexFault
fault_of text at =
    cond (begins text open_mark) (fault.Unclosed at)
    (cond (first_test is_ascii_digit text) (fault.BadNumber at)
    (cond (begins_doc text) (fault.Unclosed at)
    (cond (first_test is_quote text) (quote_fault text at (text_behind (drop 1 text))) (fault.BadByte at))))

digit_no_open : (text : List ℕ) → first_test is_ascii_digit text ≡ true → begins text open_mark ≡ false
digit_no_open [] e = refl
digit_no_open (b ∷ []) e = grind (arith, nat_tests)
digit_no_open (b ∷ c ∷ bs) e = grind (arith, nat_tests)

quote_no_open : (text : List ℕ) → first_test is_quote text ≡ true → begins text open_mark ≡ false
quote_no_open text quote = ap (λ l. begins l open_mark) (quote_cut text quote)

none_behind : (text : List ℕ) (o : Option (List ℕ)) → text_behind (drop 1 text) ≡ o → first_test is_quote text ≡ true → NeverEnds text → text_behind (drop 1 text) ≡ None
none_behind text None e quote never = e
none_behind text (Some rest) e quote never =
    let (body, cut, covered) = behind_covered (drop 1 text) rest e in
    absurd (never body rest (quote_cut text quote ∙ ap (λ l. 34 ∷ l) cut) covered)

unclosed_is : (text : List ℕ) (at p : ℕ) → p ≡ at → OpensCommentOrText text → fault.Unclosed p ≡ fault_of text at
unclosed_is text at p e (inl opens) = rw opens (ap fault.Unclosed e)
unclosed_is text at p e (inr (inl doc)) =
    let quote = doc_quote text doc in
    let opens = quote_no_open text quote in
    let (start, digit) = quote_none text quote in
    rw (opens, digit, doc) (ap fault.Unclosed e)
unclosed_is text at p e (inr (inr (plain, quote, never))) =
    let opens = quote_no_open text quote in
    let (start, digit) = quote_none text quote in
    let none = none_behind text (text_behind (drop 1 text)) refl quote never in
    rw (opens, digit, plain, quote, none) (ap fault.Unclosed e)

escape_is : (text : List ℕ) (at p offset : ℕ) → p ≡ at + offset → begins_doc text ≡ false → BadEscapeIn text offset → fault.BadEscape p ≡ fault_of text at
escape_is text at p offset e plain (body, rest, whole, covered, k, bad, far) =
    let quote : first_test is_quote text ≡ true = ap (first_test is_quote) whole in
    let opens = quote_no_open text quote in
    let (start, digit) = quote_none text quote in
    let found : quote_fault text at (text_behind (drop 1 text)) ≡ fault.BadEscape (at + (1 + k)) =
    ap (quote_fault text at) (behind_is text body rest whole covered) ∙ ap (λ l. escape_fault at (unescape l)) (inner text body rest whole covered) ∙ ap (escape_fault at) (bad_read body k bad) in
    rw (opens, digit, plain, quote) (ap fault.BadEscape (e ∙ ap (λ n. at + n) far) ∙ sym found)

faulty_is : (text : List ℕ) (at : ℕ) (f : LexFault) → Faulty text at f → f ≡ fault_of text at
faulty_is text at (fault.Unclosed p) h = unclosed_is text at p h.0 h.2
faulty_is text at (fault.BadNumber p) h = rw (digit_no_open text h.2, h.2) (ap fault.BadNumber h.0)
faulty_is text at (fault.BadByte p) h =
    let plain = no_doc text h.5 in
    rw (h.3, h.4, plain, h.5) (ap fault.BadByte h.0)
faulty_is text at (fault.BadEscape p) h = escape_is text at p h.0 h.1 h.3 h.4
faulty_is text at (fault.TooMany p) h = absurd h
faulty_is text at fault.Memory h = absurd h

pub none_of : (rest : List ℕ) (at : ℕ) (f : LexFault) → Faulty rest at f → NoPiece rest
none_of rest at (fault.Unclosed p) h = h.1
none_of rest at (fault.BadNumber p) h = h.1
none_of rest at (fault.BadByte p) h = h.1
none_of rest at (fault.BadEscape p) h = h.2
none_of rest at (fault.TooMany p) h = absurd h
none_of rest at fault.Memory h = absurd h

told_one : (text : List ℕ) (f g : LexFault) → FaultAfter text f → FaultAfter text g → f ≡ g
told_one text f g h i =
    let same = same_stop h.0 i.0 text h.1 i.1 h.3 i.3 (none_of h.1 h.2 f h.6) (none_of i.1 i.2 g i.6) in
    let place : h.2 ≡ i.2 = omega (arith, h.5, i.5, ap length same.1) in
    faulty_is h.1 h.2 f h.6 ∙ ap₂ (λ r a. fault_of r a) same.1 place ∙ sym (faulty_is i.1 i.2 g i.6)

told_many : (text : List ℕ) (f : LexFault) (p : ℕ) → FaultAfter text f → TokenAfter text p → ⊥
told_many text f p h i = never_both i.1 i.2 i.3 i.5 i.0 h.0 text h.1 i.4 h.3 (none_of h.1 h.2 f h.6) (omega (arith, h.4, i.6))

many_many : (text : List ℕ) (p q : ℕ) → TokenAfter text p → TokenAfter text q → p ≡ q
many_many text p q h i =
    let same = many_one h.1 h.2 h.3 h.5 h.0 i.0 text i.1 i.2 i.3 h.4 i.4 i.5 (omega (arith, h.6, i.6)) in
    omega (arith, h.7, i.7, ap length same)

-- too many tokens, or a fault at a place
abbrev pub Cases : List ℕ → LexFault → Type 0
Cases text f = ((p : ℕ) × (f ≡ fault.TooMany p) × TokenAfter text p) ⊎ FaultAfter text f

pub fault_cases : (text : List ℕ) (f : LexFault) → FirstLexFault text f → Cases text f
fault_cases text (fault.TooMany p) h = inl (p, refl, h)
fault_cases text (fault.BadByte p) h = inr h
fault_cases text (fault.Unclosed p) h = inr h
fault_cases text (fault.BadNumber p) h = inr h
fault_cases text (fault.BadEscape p) h = inr h
fault_cases text fault.Memory h = inr h

cases_one : (text : List ℕ) (f g : LexFault) → Cases text f → Cases text g → f ≡ g
cases_one text f g (inl h) (inl i) = h.1 ∙ ap fault.TooMany (many_many text h.0 i.0 h.2 i.2) ∙ sym i.1
cases_one text f g (inl h) (inr i) = absurd (told_many text g h.0 i h.2)
cases_one text f g (inr h) (inl i) = absurd (told_many text f i.0 h i.2)
cases_one text f g (inr h) (inr i) = told_one text f g h i

-- a text has at most one first fault
pub fault_one : (text : List ℕ) (f g : LexFault) → FirstLexFault text f → FirstLexFault text g → f ≡ g
fault_one text f g h i = cases_one text f g (fault_cases text f h) (fault_cases text g i)
