-- What is read is a piece, and if none is read there is none.
use Rattle.std.proofs.{Common.{◌≡◌, ℕ, zero, suc, ◌+◌, ◌^◌, ◌<◌, ◌≤◌, Bool, true, false, cond, List, [], ◌∷◌, ◌++◌, length, take, drop, Option, Some, None, Ok, Err, refl, sym, ap, ◌∙◌, subst, inl, inr, ◌⊎◌, arith, length-append, drop_at}, lemmas.Bool.{true≢false, ltb-true, ltb-false, or_right}, lemmas.List.Sums.prefix_len-le-length}
use Rattle.std.specs.{Prelude.nat_lt, List.prefix_len, Char.is_ascii_digit}
use Rattle.pc_token.specs.{declared.signs.Sign.Sign, declared.words.Word.Word, declared.kinds.TokenKind.TokenKind, Finding.{word_of, sign_at}, Words.sign_text}
use Rattle.pc_token.specs.declared.kinds.TokenKind.TheVariants as kinds
use Rattle.pc_lex.specs.declared.pieces.Found.TheVariants as found
use Rattle.pc_lex.specs.declared.pieces.LexStop.TheVariants as stop
use Rattle.pc_lex.specs.{Pieces.{first_test, is_joined, is_blank, is_line, begins, begins_comment, begins_doc, EndsWell, NameText, SpellsToken, gap, token, IsGap}, Parts.{line_mark, open_mark}, Faults.{is_quote, NoPiece}, Reading.{value_of, digits_len, number_or, number_of, number_at, name_len, is_type, word_kind, name_kind, behind, block_at, sign_or, name_or_sign, doc_at, text_at, piece_at}}
use Rattle.pc_lex.proofs.{CommentSteps.behind_all, Runs.begins_cut, NumberReading.{Based, based, digits, total, number_max, goes_into, total_within, total_some, number_text}, NameReading.{name_sound, name_within, head_test}, CommentEnds.{line_gap, block_gap, closes_behind, behind_word}, Longest.{digit_only, name_longest, sign_longest, spelled_some, sign_some, quote_none}, PieceRight.{Right, token_right, first_blank, gap_no, never_gap}, QuotedBytes.{no_doc, doc_quote}, QuoteReading.{right_doc, right_text}}
use Rattle.pc_token.proofs.{SignFacts.sign_sound, WordFacts.{word_sound, word_none}}
use Rattle.pc_base.proofs.Options.{none_some}

-- if there is no quote, no doc begins
no_doc_kind : (text : List ℕ) (kind : TokenKind) → first_test is_quote text ≡ false → begins_doc text ≡ true → kind ≡ kinds.Doc
no_doc_kind text kind quote d = absurd (true≢false (sym d ∙ no_doc text quote))

digit_doc : (text : List ℕ) (kind : TokenKind) → first_test is_ascii_digit text ≡ true → begins_doc text ≡ true → kind ≡ kinds.Doc
digit_doc text kind digit d = absurd (true≢false (sym digit ∙ (quote_none text (doc_quote text d)).1))

-- the kind of a name is the one that it spells
kind_step : (b : List ℕ) (t : Bool) (w : Option Word) → word_of b ≡ w → NameText (head_test t) b → SpellsToken (cond t (kinds.TypeName b) (word_kind b w)) b
kind_step b true w e h = (h, refl)
kind_step b false None e h = (h, word_none b e, refl)
kind_step b false (Some w) e h = word_sound b w e

kind_ends_step : (b rest : List ℕ) (t : Bool) (w : Option Word) → EndsWell (cond t (kinds.TypeName b) (word_kind b w)) rest
kind_ends_step b rest true w = tt
kind_ends_step b rest false None = tt
kind_ends_step b rest false (Some w) = tt

kind_ends : (b rest : List ℕ) → EndsWell (name_kind b) rest
unfolding name_kind
kind_ends b rest = kind_ends_step b rest (is_type b) (word_of b)

kind_spelled : (b : List ℕ) → NameText (head_test (is_type b)) b → SpellsToken (name_kind b) b
unfolding name_kind
kind_spelled b h = kind_step b (is_type b) (word_of b) refl h

longest_sign : (text : List ℕ) (r : Sign × ℕ) → sign_at text ≡ Some r → (more : List ℕ) → (length more ≡ 0) ⊎ ((q : Sign × ℕ) × (sign_at text ≡ Some q) × (length more ≤ q.1)) → length more ≤ r.1
longest_sign text r e more (inl none) = omega (arith, none)
longest_sign text r e more (inr h) =
    let same : Some r ≡ Some h.0 = sym e ∙ h.1 in
    let equal : r ≡ h.0 = cc in
    omega (arith, ap (λ x. x.1) equal, h.2)

no_token : (text : List ℕ) (other : TokenKind) (b rest : List ℕ) → sign_at text ≡ None → name_len text ≡ 0 → text ≡ b ++ rest
    → SpellsToken other b
    → (length b ≡ 0) ⊎ ((q : Sign × ℕ) × (sign_at text ≡ Some q) × (length b ≤ q.1)) → ⊥
no_token text other b rest e none same h (inl zero_len) = let some = spelled_some other b h in omega (arith, zero_len, some)
no_token text other b rest e none same h (inr q) = none_some (sym e ∙ q.1)

no_piece : (text : List ℕ) → sign_at text ≡ None → name_len text ≡ 0 → first_test is_ascii_digit text ≡ false → first_test is_quote text ≡ false → first_blank text ≡ false → begins text line_mark ≡ false → begins text open_mark ≡ false → NoPiece text
no_piece text e none digit quote blank line opens (gap b) rest same h = never_gap text b rest blank line opens same h
no_piece text e none digit quote blank line opens (token other b) rest same h = no_token text other b rest e none same h.spelled (sign_longest text digit quote none other b rest same h.spelled)

right_sign : (text : List ℕ) (o : Option (Sign × ℕ)) → sign_at text ≡ o → name_len text ≡ 0 → first_test is_ascii_digit text ≡ false → first_test is_quote text ≡ false → first_blank text ≡ false → begins text line_mark ≡ false → begins text open_mark ≡ false → Right text (sign_or o)
right_sign text (Some r) e none digit quote blank line opens =
    let (count, is) = sign_sound text r e in
    let b = sign_text r.0 in
    let cut : take r.1 text ≡ b = ap (λ n. take n text) (sym count) ∙ begins_cut text b is in
    let whole : text ≡ b ++ drop (length b) text = behind_word text b is in
    let some : 0 < length b = (sign_some b r.0 refl).1 in
    token_right text (kinds.Sign r.0) r.1 (omega (arith, count, some)) (omega (arith, count, ap length whole, length-append b (drop (length b) text))) line opens (no_doc_kind text (kinds.Sign r.0) quote) cut tt
    (λ other more after same h. longest_sign text r e more (sign_longest text digit quote none other more after same h))
right_sign text None e none digit quote blank line opens = (no_piece text e none digit quote blank line opens, opens, digit, quote)

right_name : (text : List ℕ) (n : ℕ) → name_len text ≡ n → first_test is_ascii_digit text ≡ false → first_test is_quote text ≡ false → first_blank text ≡ false → begins text line_mark ≡ false → begins text open_mark ≡ false → Right text (name_or_sign text n)
right_name text zero e digit quote blank line opens = right_sign text (sign_at text) refl e digit quote blank line opens
right_name text (suc n) e digit quote blank line opens =
    let some : 0 < name_len text = omega (arith, e) in
    token_right text (name_kind (take (suc n) text)) (suc n) (omega arith) (subst (λ m. m ≤ length text) e (name_within text)) line opens (no_doc_kind text (name_kind (take (suc n) text)) quote)
    (kind_spelled (take (suc n) text) (subst (λ m. NameText (head_test (is_type (take m text))) (take m text)) e (name_sound text some))) (kind_ends (take (suc n) text) (drop (suc n) text))
    (λ other more after same h. subst (λ m. length more ≤ m) e (name_longest text some other more after same h))

comment_if : (text : List ℕ) → begins text open_mark ≡ true → begins_comment text ≡ true
comment_if text e = or_right (begins text line_mark) (begins text open_mark) e

no_gap : (text b rest : List ℕ) → begins text open_mark ≡ true → behind 1 (drop 2 text) ≡ None → text ≡ b ++ rest → IsGap b rest → ⊥
no_gap text b rest opens none e h =
    let whole : text ≡ 47 ∷ 42 ∷ drop 2 text = behind_word text open_mark opens in
    let c = gap_no text b rest (ap first_blank whole) (ap (λ l. begins l line_mark) whole) e h in
    let same : c.0 ≡ drop 2 text = sym (ap (λ l. drop 2 l) c.1) in
    let ends : behind 1 (drop 2 text) ≡ Some rest = ap (λ l. behind 1 l) (sym same) ∙ closes_behind c.2 0 ∙ behind_all rest in
    none_some (sym none ∙ ends)

no_closing : (text : List ℕ) → begins text open_mark ≡ true → behind 1 (drop 2 text) ≡ None → NoPiece text
no_closing text opens none (gap b) rest same h = no_gap text b rest opens none same h
no_closing text opens none (token other b) rest same h =
    let no : begins_comment text ≡ false = ap begins_comment same ∙ h.no_comment in
    true≢false (sym (comment_if text opens) ∙ no)

right_block : (text : List ℕ) (o : Option (List ℕ)) → behind 1 (drop 2 text) ≡ o → begins text open_mark ≡ true → Right text (block_at text o)
right_block text None e opens = (no_closing text opens e, inl opens)
right_block text (Some rest) e opens = let (within, some, is) = block_gap text rest opens e in (some, within, is)

at_most : {m n : ℕ} {A : Type 0} → (m < n) ⊎ ((m ≡ n) × A) → m ≤ n
at_most (inl h) = omega (arith, h)
at_most (inr h) = omega (arith, h.0)

number_bad : (text : List ℕ) (b : Based text) (g rest : List ℕ) (v : ℕ) → text ≡ g ++ rest → first_test is_joined rest ≡ false → v < 2 ^ 64
    → (first_test is_joined (drop (total text b) text) ≡ true) ⊎ (2 ^ 64 ≤ value_of b.base 0 (digits text b)) → (length g < total text b) ⊎ ((length g ≡ total text b) × (v ≡ value_of b.base 0 (digits text b))) → ⊥
number_bad text b g rest v same ends small bad (inl less) = true≢false (sym (goes_into text b g rest same less) ∙ ends)
number_bad text b g rest v same ends small (inl joined) (inr h) =
    let back : drop (total text b) text ≡ rest = ap (λ l. drop (total text b) l) same ∙ drop_at g rest _ h.0 in
    true≢false (sym joined ∙ ap (first_test is_joined) back ∙ ends)
number_bad text b g rest v same ends small (inr big) (inr h) = let e = h.1 in omega (arith, small, big, e)

no_number : (text : List ℕ) (b : Based text) → first_test is_ascii_digit text ≡ true → first_blank text ≡ false → begins text line_mark ≡ false → begins text open_mark ≡ false
    → (first_test is_joined (drop (total text b) text) ≡ true) ⊎ (2 ^ 64 ≤ value_of b.base 0 (digits text b)) → NoPiece text
no_number text b digit blank line opens bad (gap g) rest same h = never_gap text g rest blank line opens same h
no_number text b digit blank line opens bad (token other g) rest same h =
    let n = digit_only text digit other g rest same h.spelled in
    let ends : EndsWell (kinds.Number n.0) rest = subst (λ o. EndsWell o rest) n.1 h.ends in
    number_bad text b g rest n.0 same ends n.3 bad (number_max text b g rest n.0 same n.2)

right_fits : (text : List ℕ) (b : Based text) (t : Bool) → nat_lt (value_of b.base 0 (digits text b)) (2 ^ 64) ≡ t → first_test is_joined (drop (total text b) text) ≡ false → first_test is_ascii_digit text ≡ true → first_blank text ≡ false → begins text line_mark ≡ false → begins text open_mark ≡ false
    → Right text (cond t (Ok (found.Token (kinds.Number (value_of b.base 0 (digits text b))), total text b)) (Err stop.BadNumber))
right_fits text b true e joined digit blank line opens =
    token_right text (kinds.Number (value_of b.base 0 (digits text b))) (total text b) (total_some text b) (total_within text b) line opens (digit_doc text (kinds.Number (value_of b.base 0 (digits text b))) digit) (number_text text b, ltb-true _ _ e) joined
    (λ other more after same h. let n = digit_only text digit other more after same h in at_most (number_max text b more after n.0 same n.2))
right_fits text b false e joined digit blank line opens = (no_number text b digit blank line opens (inr (ltb-false _ _ e)), digit)

right_joined : (text : List ℕ) (b : Based text) (t : Bool) → first_test is_joined (drop (total text b) text) ≡ t → first_test is_ascii_digit text ≡ true → first_blank text ≡ false → begins text line_mark ≡ false → begins text open_mark ≡ false
    → Right text (cond t (Err stop.BadNumber) (number_or (value_of b.base 0 (digits text b)) (total text b)))
right_joined text b true e digit blank line opens = (no_number text b digit blank line opens (inl e), digit)
right_joined text b false e digit blank line opens = right_fits text b (nat_lt (value_of b.base 0 (digits text b)) (2 ^ 64)) refl e digit blank line opens

right_number : (text : List ℕ) → first_test is_ascii_digit text ≡ true → first_blank text ≡ false → begins text line_mark ≡ false → begins text open_mark ≡ false → Right text (number_at text)
unfolding number_at
right_number text digit blank line opens =
    let b = based text digit in
    subst (λ x. Right text (number_of text x.0 x.1 (digits_len x.0 (drop x.1 text)))) (sym b.is) (right_joined text b (first_test is_joined (drop (total text b) text)) refl digit blank line opens)

right_quote : (text : List ℕ) (t : Bool) → first_test is_quote text ≡ t → begins_doc text ≡ false → first_test is_ascii_digit text ≡ false → first_blank text ≡ false → begins text line_mark ≡ false → begins text open_mark ≡ false
    → Right text (cond t (text_at text) (name_or_sign text (name_len text)))
right_quote text true e doc digit blank line opens = right_text text e doc blank line opens
right_quote text false e doc digit blank line opens = right_name text (name_len text) refl digit e blank line opens

right_doc_or : (text : List ℕ) (t : Bool) → begins_doc text ≡ t → first_test is_ascii_digit text ≡ false → first_blank text ≡ false → begins text line_mark ≡ false → begins text open_mark ≡ false
    → Right text (cond t (doc_at text) (cond (first_test is_quote text) (text_at text) (name_or_sign text (name_len text))))
right_doc_or text true e digit blank line opens = right_doc text e blank line opens
right_doc_or text false e digit blank line opens = right_quote text (first_test is_quote text) refl e digit blank line opens

right_digit : (text : List ℕ) (t : Bool) → first_test is_ascii_digit text ≡ t → first_blank text ≡ false → begins text line_mark ≡ false → begins text open_mark ≡ false
    → Right text (cond t (number_at text) (cond (begins_doc text) (doc_at text) (cond (first_test is_quote text) (text_at text) (name_or_sign text (name_len text)))))
right_digit text true e blank line opens = right_number text e blank line opens
right_digit text false e blank line opens = right_doc_or text (begins_doc text) refl e blank line opens

right_open : (text : List ℕ) (t : Bool) → begins text open_mark ≡ t → first_blank text ≡ false → begins text line_mark ≡ false
    → Right text (cond t (block_at text (behind 1 (drop 2 text))) (cond (first_test is_ascii_digit text) (number_at text) (cond (begins_doc text) (doc_at text) (cond (first_test is_quote text) (text_at text) (name_or_sign text (name_len text))))))
right_open text true e blank line = right_block text (behind 1 (drop 2 text)) refl e
right_open text false e blank line = right_digit text (first_test is_ascii_digit text) refl blank line e

right_line : (text : List ℕ) (t : Bool) → begins text line_mark ≡ t → first_blank text ≡ false
    → Right text (cond t (Ok (found.Gap, 2 + prefix_len is_line (drop 2 text))) (cond (begins text open_mark) (block_at text (behind 1 (drop 2 text))) (cond (first_test is_ascii_digit text) (number_at text) (cond (begins_doc text) (doc_at text) (cond (first_test is_quote text) (text_at text) (name_or_sign text (name_len text)))))))
right_line text true e blank =
    let whole : text ≡ 47 ∷ 47 ∷ drop 2 text = behind_word text line_mark e in
    (omega arith, omega (arith, ap length whole, prefix_len-le-length is_line (drop 2 text)), line_gap text e)
right_line text false e blank = right_open text (begins text open_mark) refl blank e

right_blank : (b : ℕ) (bs : List ℕ) (t : Bool) → is_blank b ≡ t
    → Right (b ∷ bs) (cond t (Ok (found.Gap, 1)) (cond (begins (b ∷ bs) line_mark) (Ok (found.Gap, 2 + prefix_len is_line (drop 2 (b ∷ bs)))) (cond (begins (b ∷ bs) open_mark) (block_at (b ∷ bs) (behind 1 (drop 2 (b ∷ bs)))) (cond (is_ascii_digit b) (number_at (b ∷ bs)) (cond (begins_doc (b ∷ bs)) (doc_at (b ∷ bs)) (cond (is_quote b) (text_at (b ∷ bs)) (name_or_sign (b ∷ bs) (name_len (b ∷ bs)))))))))
right_blank b bs true e = (omega arith, omega arith, inl (b, refl, e))
right_blank b bs false e = right_line (b ∷ bs) (begins (b ∷ bs) line_mark) refl e

pub piece_right : (text : List ℕ) → 0 < length text → Right text (piece_at text)
unfolding piece_at
piece_right [] some = absurd (omega (arith, some))
piece_right (b ∷ bs) some = right_blank b bs (is_blank b) refl
