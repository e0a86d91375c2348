-- The pieces that have been read.
use Rattle.std.proofs.{Common.{◌≡◌, ℕ, ◌+◌, ◌<◌, ◌≤◌, Bool, true, false, List, [], ◌∷◌, ◌++◌, length, take, drop, Ok, Err, refl, sym, ap, ◌∙◌, subst, arith, length-append, append_assoc, append-nil, take-append-drop, drop-drop, length-drop, length-take-le}, lemmas.List.drop_all, lemmas.Bool.true≢false}
use Rattle.pc_token.specs.declared.kinds.Token.{Token}
use Rattle.pc_token.specs.declared.kinds.TokenKind.TheVariants as kinds
use Rattle.pc_lex.specs.{declared.fault.LexFault.LexFault, declared.pieces.Found.Found, Pieces.{Piece, gap, token, bytes_of, IsPiece, Pieces, tokens_of, Tokens, token_limit}, Faults.{count, FirstLexFault}, Refusals.RefusesTokens, Reading.{piece_at, step_of, is_gap, Steps, Stuck}}
use Rattle.pc_lex.specs.declared.fault.LexFault.TheVariants as fault
use Rattle.pc_lex.specs.declared.pieces.Found.TheVariants as found
use Rattle.pc_lex.specs.declared.pieces.LexStop.TheVariants as stop
use Rattle.pc_lex.proofs.{PieceRight.{piece_of, Right}, PieceReading.piece_right}

pub record Sofar (text : List ℕ) (at : ℕ) (first : Bool) (ts : List Token) : Type 0 where
  pub pieces : List Piece
  pub within : at ≤ length text
  pub cut : Pieces text pieces (drop at text)
  pub made : (more : List Piece) → tokens_of 0 true (pieces ++ more) ≡ ts ++ tokens_of at first more
  pub counted : count pieces ≡ length ts
  pub few : length ts ≤ token_limit

pub add_piece : (ps : List Piece) (text : List ℕ) (p : Piece) (mid rest : List ℕ) → Pieces text ps mid → mid ≡ bytes_of p ++ rest → IsPiece p rest → Pieces text (ps ++ p ∷ []) rest
add_piece [] text p mid rest h e stands = (rest, h ∙ e, stands, refl)
add_piece (q ∷ ps) text p mid rest h e stands = (h.0, h.1, h.2, add_piece ps h.0 p mid rest h.3 e stands)

count_app : (ps : List Piece) (p : Piece) → count (ps ++ p ∷ []) ≡ count ps + count (p ∷ [])
count_app [] p = omega arith
count_app (gap b ∷ ps) p = count_app ps p
count_app (token kind b ∷ ps) p = omega (arith, count_app ps p)

pub starts_so : (text : List ℕ) → Sofar text 0 true []
starts_so text = record { pieces = []; within = omega arith; cut = refl; made = λ more. refl; counted = refl; few = omega arith }

made_step : (text : List ℕ) (at n : ℕ) (first : Bool) (ts : List Token) (f : Found) (more : List Piece) → length (take n (drop at text)) ≡ n
    → ts ++ tokens_of at first (piece_of f (take n (drop at text)) ∷ more) ≡ (step_of text at first ts (f, n)).1 ++ tokens_of (step_of text at first ts (f, n)).0.0 (step_of text at first ts (f, n)).0.1 more
made_step text at n first ts found.Gap more e = rw e refl
made_step text at n first ts (found.Token kind) more e = rw e (sym (append_assoc ts _ _))

counted_step : (text : List ℕ) (at n : ℕ) (first : Bool) (ts : List Token) (f : Found) (b : List ℕ) → length ts + count (piece_of f b ∷ []) ≡ length (step_of text at first ts (f, n)).1
counted_step text at n first ts found.Gap b = omega arith
counted_step text at n first ts (found.Token kind) b = omega (arith, length-append ts (record { kind = kind; first = first; span = record { start = at; end = at + n } } ∷ []))

few_step : (text : List ℕ) (at n : ℕ) (first : Bool) (ts : List Token) (f : Found) → length ts ≤ token_limit → (is_gap f ≡ false → length ts < token_limit) → length (step_of text at first ts (f, n)).1 ≤ token_limit
few_step text at n first ts found.Gap few room = few
few_step text at n first ts (found.Token kind) few room =
    let less : length ts < token_limit = room refl in
    omega (arith, less, length-append ts (record { kind = kind; first = first; span = record { start = at; end = at + n } } ∷ []))

end_step : (text : List ℕ) (at n : ℕ) (first : Bool) (ts : List Token) (f : Found) → (step_of text at first ts (f, n)).0.0 ≡ at + n
end_step text at n first ts found.Gap = refl
end_step text at n first ts (found.Token kind) = refl

bytes_are : (f : Found) (b : List ℕ) → bytes_of (piece_of f b) ≡ b
bytes_are found.Gap b = refl
bytes_are (found.Token kind) b = refl

-- reading at a place, by the definition
pub right_at : (text : List ℕ) (at : ℕ) → at < length text → Right (drop at text) (piece_at (drop at text))
right_at text at within = piece_right (drop at text) (omega (arith, length-drop at text))

after_step : (text : List ℕ) (at n : ℕ) (first : Bool) (ts : List Token) (f : Found) → at < length text → Sofar text at first ts → piece_at (drop at text) ≡ Ok (f, n) → (is_gap f ≡ false → length ts < token_limit)
    → Sofar text (step_of text at first ts (f, n)).0.0 (step_of text at first ts (f, n)).0.1 (step_of text at first ts (f, n)).1
after_step text at n first ts f inside so read room =
    let right : Right (drop at text) (Ok (f, n)) = subst (Right (drop at text)) read (right_at text at inside) in
    let b = take n (drop at text) in
    let p = piece_of f b in
    let ends = end_step text at n first ts f in
    let rest : drop n (drop at text) ≡ drop (step_of text at first ts (f, n)).0.0 text = drop-drop n at text ∙ ap (λ i. drop i text) (sym ends) in
    let len : length b ≡ n = length-take-le n (drop at text) right.1 in
    let cut : drop at text ≡ bytes_of p ++ drop n (drop at text) = sym (take-append-drop n (drop at text)) ∙ ap (λ l. l ++ drop n (drop at text)) (sym (bytes_are f b)) in
    record {
      pieces = so.pieces ++ p ∷ [];
      within = omega (arith, ends, right.1, length-drop at text);
      cut = subst (Pieces text (so.pieces ++ p ∷ [])) rest (add_piece so.pieces text p (drop at text) (drop n (drop at text)) so.cut cut right.2);
      made = λ more. ap (λ l. tokens_of 0 true l) (append_assoc so.pieces (p ∷ []) more) ∙ so.made (p ∷ more) ∙ made_step text at n first ts f more len;
      counted = omega (arith, count_app so.pieces p, so.counted, counted_step text at n first ts f b);
      few = few_step text at n first ts f so.few room;
    }

pub goes_on : (text : List ℕ) (at : ℕ) (first : Bool) (old new : List Token) (r : ℕ × Bool) → at < length text → Sofar text at first old → Steps text at first old new r → Sofar text r.0 r.1 new
goes_on text at first old new r inside so s =
    let P : (ℕ × Bool) × List Token → Type 0 = λ x. Sofar text x.0.0 x.0.1 x.1 in
    subst P (sym s.2) (after_step text at s.0.1 first old s.0.0 inside so s.1 s.3)

pub nearer : (text : List ℕ) (at : ℕ) (first : Bool) (old new : List Token) (r : ℕ × Bool) → at < length text → Steps text at first old new r → at < r.0
nearer text at first old new r inside s =
    let right : Right (drop at text) (Ok s.0) = subst (Right (drop at text)) s.1 (right_at text at inside) in
    omega (arith, right.0, ap (λ x. x.0.0) s.2, end_step text at s.0.1 first old s.0.0)

pub ends_so : (text : List ℕ) (at : ℕ) (first : Bool) (ts : List Token) → length text ≤ at → Sofar text at first ts
    → Tokens text (ts ++ record { kind = kinds.End; first = first; span = record { start = at; end = at } } ∷ [])
ends_so text at first ts past so =
    (so.pieces, subst (Pieces text so.pieces) (drop_all at text past) so.cut, sym (so.made []) ∙ ap (λ l. tokens_of 0 true l) (append-nil so.pieces))

many : (text : List ℕ) (at p : ℕ) (first : Bool) (ts : List Token) (f : Found) (n : ℕ) → at < length text → Sofar text at first ts → p ≡ at → token_limit ≤ length ts → piece_at (drop at text) ≡ Ok (f, n) → is_gap f ≡ false
    → FirstLexFault text (fault.TooMany p)
many text at p first ts found.Gap n inside so e full read other = absurd (true≢false other)
many text at p first ts (found.Token kind) n inside so e full read other =
    let right : Right (drop at text) (Ok (found.Token kind, n)) = subst (Right (drop at text)) read (right_at text at inside) in
    let same : drop at text ≡ take n (drop at text) ++ drop n (drop at text) = sym (take-append-drop n (drop at text)) in
    (so.pieces, kind, take n (drop at text), drop n (drop at text), subst (Pieces text so.pieces) same so.cut, right.2, omega (arith, so.counted, so.few, full), omega (arith, e, ap length same, length-drop at text))

pub stuck_so : (text : List ℕ) (at : ℕ) (first : Bool) (ts : List Token) (f : LexFault) → at < length text → Sofar text at first ts → Stuck text at ts f → RefusesTokens text f
stuck_so text at first ts (fault.BadByte p) inside so s =
    let right : Right (drop at text) (Err stop.BadByte) = subst (Right (drop at text)) s.1 (right_at text at inside) in
    (so.pieces, drop at text, at, so.cut, omega (arith, so.counted, so.few), omega (arith, length-drop at text), (s.0, right.0, omega (arith, length-drop at text), right.1, right.2, right.3))
stuck_so text at first ts (fault.BadNumber p) inside so s =
    let right : Right (drop at text) (Err stop.BadNumber) = subst (Right (drop at text)) s.1 (right_at text at inside) in
    (so.pieces, drop at text, at, so.cut, omega (arith, so.counted, so.few), omega (arith, length-drop at text), (s.0, right.0, right.1))
stuck_so text at first ts (fault.Unclosed p) inside so s =
    let right : Right (drop at text) (Err stop.Unclosed) = subst (Right (drop at text)) s.1 (right_at text at inside) in
    (so.pieces, drop at text, at, so.cut, omega (arith, so.counted, so.few), omega (arith, length-drop at text), (s.0, right.0, right.1))
stuck_so text at first ts (fault.BadEscape p) inside so s =
    let right : Right (drop at text) (Err (stop.BadEscape s.0)) = subst (Right (drop at text)) s.2 (right_at text at inside) in
    (so.pieces, drop at text, at, so.cut, omega (arith, so.counted, so.few), omega (arith, length-drop at text), (s.0, s.1, right.0, right.1, right.2))
stuck_so text at first ts (fault.TooMany p) inside so s = many text at p first ts s.2.0 s.2.1 inside so s.0 s.1 s.3 s.4
stuck_so text at first ts fault.Memory inside so s = tt
