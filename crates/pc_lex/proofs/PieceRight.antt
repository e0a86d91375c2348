-- What it means that a piece is read correctly.
use Rattle.std.proofs.{Common.{◌≡◌, ℕ, ◌<◌, ◌≤◌, Bool, true, false, List, [], ◌∷◌, ◌++◌, length, take, drop, Result, Ok, Err, refl, sym, ap, ◌∙◌, subst, inl, inr, arith, take-append-drop, length-take-le}, lemmas.Bool.true≢false}
use Rattle.std.specs.Char.{is_ascii_digit}
use Rattle.pc_token.specs.declared.kinds.TokenKind.{TokenKind}
use Rattle.pc_token.specs.declared.kinds.TokenKind.TheVariants as kinds
use Rattle.pc_lex.specs.{declared.pieces.Found.Found, declared.pieces.LexStop.LexStop, Pieces.{first_test, is_blank, begins, begins_comment, begins_doc, EndsWell, SpellsToken, Piece, gap, token, IsPiece, IsGap, ClosesComment}, Parts.{line_mark, open_mark}, Faults.{is_quote, BadEscapeIn, OpensCommentOrText, NoPiece}}
use Rattle.pc_lex.specs.declared.pieces.Found.TheVariants as found
use Rattle.pc_lex.specs.declared.pieces.LexStop.TheVariants as stop

abbrev pub piece_of : Found → List ℕ → Piece
piece_of found.Gap b = gap b
piece_of (found.Token kind) b = token kind b

-- What is read is correct: a piece and its length, or the fault.
abbrev pub Right : List ℕ → Result (Found × ℕ) LexStop → Type 0
Right text (Ok r) = (0 < r.1) × (r.1 ≤ length text) × IsPiece (piece_of r.0 (take r.1 text)) (drop r.1 text)
Right text (Err stop.BadByte) = NoPiece text × (begins text open_mark ≡ false) × (first_test is_ascii_digit text ≡ false) × (first_test is_quote text ≡ false)
Right text (Err stop.BadNumber) = NoPiece text × (first_test is_ascii_digit text ≡ true)
Right text (Err stop.Unclosed) = NoPiece text × OpensCommentOrText text
Right text (Err (stop.BadEscape offset)) = NoPiece text × (begins_doc text ≡ false) × BadEscapeIn text offset
Right text (Err stop.Memory) = ⊥

no_comment : (text : List ℕ) (n : ℕ) → begins text line_mark ≡ false → begins text open_mark ≡ false → begins_comment (take n text ++ drop n text) ≡ false
no_comment text n line opens = subst (λ l. begins_comment l ≡ false) (sym (take-append-drop n text)) (rw (line, opens) refl)

-- a token of n bytes
pub token_right : (text : List ℕ) (kind : TokenKind) (n : ℕ) → 0 < n → n ≤ length text → begins text line_mark ≡ false → begins text open_mark ≡ false → (begins_doc text ≡ true → kind ≡ kinds.Doc) → SpellsToken kind (take n text)
    → EndsWell kind (drop n text) → ((other : TokenKind) (more after : List ℕ) → text ≡ more ++ after → SpellsToken other more → length more ≤ n) → Right text (Ok (found.Token kind, n))
token_right text kind n some within line opens doc spelled ends longest = (
  some,
  within,
  record {
    spelled = spelled;
    longest = λ other more after e h. omega (arith, longest other more after (sym (take-append-drop n text) ∙ e) h, length-take-le n text within);
    no_comment = no_comment text n line opens;
    doc = λ d. doc (ap begins_doc (sym (take-append-drop n text)) ∙ d);
    ends = ends;
  },
)

abbrev pub first_blank : List ℕ → Bool
first_blank [] = false
first_blank (b ∷ bs) = is_blank b

pub gap_no : (text b rest : List ℕ) → first_blank text ≡ false → begins text line_mark ≡ false → text ≡ b ++ rest → IsGap b rest → (t : List ℕ) × (text ≡ 47 ∷ 42 ∷ t) × ClosesComment t rest
gap_no text b rest blank line e (inl (c, one, is)) =
    let same : text ≡ c ∷ rest = e ∙ ap (λ l. l ++ rest) one in
    absurd (true≢false (sym is ∙ sym (ap first_blank same) ∙ blank))
gap_no text b rest blank line e (inr (inl (t, one, all, stops))) =
    let same : text ≡ 47 ∷ 47 ∷ (t ++ rest) = e ∙ ap (λ l. l ++ rest) one in
    absurd (true≢false (sym (ap (λ l. begins l line_mark) same) ∙ line))
gap_no text b rest blank line e (inr (inr (t, same, closes))) = (t, e ∙ same, closes)

-- if there is no blank and no comment begins, there is no gap
pub never_gap : (text b rest : List ℕ) → first_blank text ≡ false → begins text line_mark ≡ false → begins text open_mark ≡ false → text ≡ b ++ rest → IsGap b rest → ⊥
never_gap text b rest blank line opens e h = let c = gap_no text b rest blank line e h in true≢false (sym (ap (λ l. begins l open_mark) c.1) ∙ opens)
