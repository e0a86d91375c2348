-- If there is a quote, what is read is a text literal or a doc, and if none is read there is none.
use Rattle.std.proofs.{Common.{◌≡◌, ℕ, ◌+◌, ◌-◌, ◌≤◌, true, false, List, [], ◌∷◌, ◌++◌, length, take, drop, Option, Some, None, Result, Ok, Err, refl, sym, ap, ap₂, ◌∙◌, subst, inl, inr, ◌⊎◌, arith, length-append, append_assoc, take_at}, lemmas.Bool.true≢false, lemmas.Option.same_Some}
use Rattle.pc_token.specs.declared.kinds.TokenKind.{TokenKind}
use Rattle.pc_token.specs.declared.kinds.TokenKind.TheVariants as kinds
use Rattle.pc_lex.specs.{Pieces.{first_test, begins, begins_doc, BetweenQuotes, Written, TextBytes, DocBytes, SpellsToken, gap, token}, Parts.{line_mark, open_mark}, Faults.{is_quote, NeverEnds, NoPiece}, TextReading.{text_behind, doc_behind, unescape}, Reading.{doc_or, value_or, between, text_or, text_at, doc_at}}
use Rattle.pc_lex.proofs.{PieceRight.{Right, token_right, first_blank, never_gap}, Longest.quote_only, QuoteEnds.{covered_behind, behind_covered}, QuotedBytes.{written_covered, doc_read, doc_ends, whole, doc_split, covered_first, doc_quote, doc_begins, quote_cut}, TextValues.{IsRead, read_right, value_read}}
use Rattle.pc_base.proofs.{Cuts.same_cut, Options.none_some}

ok_err : {A B : Type 0} {x : A} {y : B} → Ok x ≡ Err y → ⊥
ok_err e = cc

-- a doc at the start of a text is read to its end
pub doc_found : (text g rest : List ℕ) → text ≡ g ++ rest → DocBytes g → doc_behind (drop 3 text) ≡ Some rest
doc_found text g rest same (t, e, ends) =
    let cut : drop 3 text ≡ t ++ rest = ap (λ l. drop 3 l) (same ∙ ap (λ l. l ++ rest) e) in
    ap doc_behind cut ∙ doc_read ends rest

doc_whole : (text rest : List ℕ) → begins_doc text ≡ true → doc_behind (drop 3 text) ≡ Some rest → (b : List ℕ) × (text ≡ b ++ rest) × DocBytes b
doc_whole text rest d e =
    let s = doc_split (doc_ends (drop 3 text) rest e) in
    (34 ∷ 34 ∷ 34 ∷ s.0, whole text d ∙ ap (λ l. 34 ∷ 34 ∷ 34 ∷ l) s.1, (s.0, refl, s.2))

-- a text literal at the start of a text is read to its end
pub text_found : (text g rest v : List ℕ) → text ≡ g ++ rest → TextBytes g v → text_behind (drop 1 text) ≡ Some rest
text_found text g rest v same (body, e, w) =
    let cut : drop 1 text ≡ body ++ 34 ∷ rest = ap (λ l. drop 1 l) (same ∙ ap (λ l. l ++ rest) e) ∙ append_assoc body (34 ∷ []) rest in
    ap text_behind cut ∙ covered_behind (written_covered v body w) rest

-- if a doc begins, a text literal there is just two quotes
short_body : (text body rest : List ℕ) → begins_doc text ≡ true → text ≡ 34 ∷ (body ++ 34 ∷ rest) → BetweenQuotes body → length body ≡ 0
short_body text [] rest d e h = refl
short_body text (c ∷ bs) rest d e h =
    let first : first_test is_quote (drop 1 text) ≡ true = ap (λ l. first_test is_quote (drop 1 l)) (whole text d) in
    absurd (true≢false (sym first ∙ ap (λ l. first_test is_quote (drop 1 l)) e ∙ covered_first h))

pub short_text : (text more after v : List ℕ) → begins_doc text ≡ true → text ≡ more ++ after → TextBytes more v → length more ≡ 2
short_text text more after v d same (body, e, w) =
    let cut : text ≡ 34 ∷ (body ++ 34 ∷ after) = same ∙ ap (λ l. l ++ after) e ∙ ap (λ l. 34 ∷ l) (append_assoc body (34 ∷ []) after) in
    let none = short_body text body after d cut (written_covered v body w) in
    omega (arith, none, ap length e, length-append body (34 ∷ []))

doc_longest_step : (text b rest more after : List ℕ) (other : TokenKind) → begins_doc text ≡ true → text ≡ b ++ rest → DocBytes b → text ≡ more ++ after
    → ((v : List ℕ) × (other ≡ kinds.Text v) × TextBytes more v) ⊎ ((other ≡ kinds.Doc) × DocBytes more) → length more ≤ length b
doc_longest_step text b rest more after other d same doc e (inl (v, kind, bytes)) = omega (arith, short_text text more after v d e bytes, ap length doc.1)
doc_longest_step text b rest more after other d same doc e (inr (kind, bytes)) =
    let one : after ≡ rest = same_Some after rest (sym (doc_found text more after e bytes) ∙ doc_found text b rest same doc) in
    omega (arith, ap length one, ap length same, ap length e, length-append b rest, length-append more after)

no_doc_token : (text g rest : List ℕ) (other : TokenKind) → begins_doc text ≡ true → doc_behind (drop 3 text) ≡ None → text ≡ g ++ rest → other ≡ kinds.Doc → SpellsToken other g → ⊥
no_doc_token text g rest other d none same kind h = none_some (sym none ∙ doc_found text g rest same (subst (λ o. SpellsToken o g) kind h))

no_doc_piece : (text : List ℕ) → begins_doc text ≡ true → doc_behind (drop 3 text) ≡ None → first_blank text ≡ false → begins text line_mark ≡ false → begins text open_mark ≡ false → NoPiece text
no_doc_piece text d none blank line opens (gap g) rest same h = never_gap text g rest blank line opens same h
no_doc_piece text d none blank line opens (token other g) rest same h = no_doc_token text g rest other d none same (h.doc (sym (ap begins_doc same) ∙ d)) h.spelled

right_doc_or : (text : List ℕ) (o : Option (List ℕ)) → doc_behind (drop 3 text) ≡ o → begins_doc text ≡ true → first_blank text ≡ false → begins text line_mark ≡ false → begins text open_mark ≡ false → Right text (doc_or text o)
right_doc_or text None e d blank line opens = (no_doc_piece text d e blank line opens, inr (inl d))
right_doc_or text (Some rest) e d blank line opens =
    let (b, same, doc) = doc_whole text rest d e in
    let size : length text - length rest ≡ length b = omega (arith, ap length same, length-append b rest) in
    let front : take (length text - length rest) text ≡ b = ap₂ (λ m l. take m l) size same ∙ take_at b rest (length b) refl in
    token_right text kinds.Doc (length text - length rest) (omega (arith, size, ap length doc.1)) (omega arith) line opens (λ t. refl) (subst DocBytes (sym front) doc) tt
    (λ other more after e h. let most = doc_longest_step text b rest more after other d same doc e (quote_only text (doc_quote text d) other more after e h) in omega (arith, most, size))

pub right_doc : (text : List ℕ) → begins_doc text ≡ true → first_blank text ≡ false → begins text line_mark ≡ false → begins text open_mark ≡ false → Right text (doc_at text)
unfolding doc_at
right_doc text d blank line opens = right_doc_or text (doc_behind (drop 3 text)) refl d blank line opens

-- if there is a quote and no doc begins, a token is a text literal that ends where reading finds its end
only_text : (text g rest : List ℕ) (other : TokenKind) → begins_doc text ≡ false → text ≡ g ++ rest → ((v : List ℕ) × (other ≡ kinds.Text v) × TextBytes g v) ⊎ ((other ≡ kinds.Doc) × DocBytes g)
    → (v : List ℕ) × TextBytes g v × (text_behind (drop 1 text) ≡ Some rest)
only_text text g rest other d same (inl (v, kind, bytes)) = (v, bytes, text_found text g rest v same bytes)
only_text text g rest other d same (inr (kind, bytes)) = absurd (true≢false (sym (doc_begins text g rest same bytes) ∙ d))

no_text_piece : (text : List ℕ) → first_test is_quote text ≡ true → begins_doc text ≡ false → text_behind (drop 1 text) ≡ None → first_blank text ≡ false → begins text line_mark ≡ false → begins text open_mark ≡ false → NoPiece text
no_text_piece text quote d none blank line opens (gap g) rest same h = never_gap text g rest blank line opens same h
no_text_piece text quote d none blank line opens (token other g) rest same h =
    let t = only_text text g rest other d same (quote_only text quote other g rest same h.spelled) in
    none_some (sym none ∙ t.2)

never_ends : (text : List ℕ) → text_behind (drop 1 text) ≡ None → NeverEnds text
never_ends text none body rest e h = none_some (sym none ∙ ap (λ l. text_behind (drop 1 l)) e ∙ covered_behind h rest)

-- a text literal whose closing quote is known
module _ (text body rest : List ℕ) (whole_text : text ≡ 34 ∷ (body ++ 34 ∷ rest)) (covered : BetweenQuotes body) where
  pub behind_is : text_behind (drop 1 text) ≡ Some rest
  behind_is = ap (λ l. text_behind (drop 1 l)) whole_text ∙ covered_behind covered rest

  size : length text - length rest ≡ length body + 2
  size = omega (arith, ap length whole_text, length-append body (34 ∷ rest))

  pub inner : between text (length text - length rest) ≡ body
  inner =
      let count : length text - length rest - 2 ≡ length body = omega (arith, size) in
      ap₂ (λ m l. take m (drop 1 l)) count whole_text ∙ take_at body (34 ∷ rest) (length body) refl

  parts : text ≡ (34 ∷ (body ++ 34 ∷ [])) ++ rest
  parts = whole_text ∙ ap (λ l. 34 ∷ l) (sym (append_assoc body (34 ∷ []) rest))

  front : take (length text - length rest) text ≡ 34 ∷ (body ++ 34 ∷ [])
  front =
      let count : length text - length rest ≡ length (34 ∷ (body ++ 34 ∷ [])) = omega (arith, size, length-append body (34 ∷ [])) in
      ap₂ (λ m l. take m l) count parts ∙ take_at (34 ∷ (body ++ 34 ∷ [])) rest (length (34 ∷ (body ++ 34 ∷ []))) refl

  -- any text literal at the start of the text is the same
  one_end : (g more : List ℕ) → text ≡ g ++ more → text_behind (drop 1 text) ≡ Some more → (more ≡ rest) × (length g ≡ length text - length rest)
  one_end g more same is =
      let one : more ≡ rest = same_Some more rest (sym is ∙ behind_is) in
      (one, omega (arith, ap length one, ap length same, length-append g more))

  one_body : (g more v : List ℕ) → text ≡ g ++ more → TextBytes g v → text_behind (drop 1 text) ≡ Some more → Written body v
  one_body g more v same (other, e, w) is =
      let (one, len) = one_end g more same is in
      let cut : other ++ 34 ∷ rest ≡ body ++ 34 ∷ rest =
      ap (λ l. other ++ 34 ∷ l) (sym one) ∙ sym (append_assoc other (34 ∷ []) more) ∙ sym (ap (λ l. drop 1 l) (same ∙ ap (λ l. l ++ more) e)) ∙ ap (λ l. drop 1 l) whole_text in
      let count : length other ≡ length body = omega (arith, len, size, ap length e, length-append other (34 ∷ [])) in
      subst (λ l. Written l v) (same_cut other (34 ∷ rest) body (34 ∷ rest) cut count).0 w

  right_value : first_test is_quote text ≡ true → begins_doc text ≡ false → first_blank text ≡ false → begins text line_mark ≡ false → begins text open_mark ≡ false
      → (r : Result (List ℕ) ℕ) → unescape body ≡ r → IsRead body r → Right text (value_or (length text - length rest) r)
  right_value quote d blank line opens (Ok v) e written =
      token_right text (kinds.Text v) (length text - length rest) (omega (arith, size)) (omega arith) line opens (λ t. absurd (true≢false (sym t ∙ d))) (body, front, written) tt
      (λ other more after same h. let t = only_text text more after other d same (quote_only text quote other more after same h) in omega (arith, (one_end more after same t.2).1))
  right_value quote d blank line opens (Err at) e bad = (no_value, d, (body, rest, whole_text, covered, at, bad, refl))
    where
      no_value : NoPiece text
      no_value (gap g) more same h = never_gap text g more blank line opens same h
      no_value (token other g) more same h =
          let t = only_text text g more other d same (quote_only text quote other g more same h.spelled) in
          ok_err (sym (value_read body t.0 (one_body g more t.0 same t.1 t.2)) ∙ e)

right_text_or : (text : List ℕ) (o : Option (List ℕ)) → text_behind (drop 1 text) ≡ o → first_test is_quote text ≡ true → begins_doc text ≡ false → first_blank text ≡ false → begins text line_mark ≡ false → begins text open_mark ≡ false → Right text (text_or text o)
right_text_or text None e quote d blank line opens = (no_text_piece text quote d e blank line opens, inr (inr (d, quote, never_ends text e)))
right_text_or text (Some rest) e quote d blank line opens =
    let (body, cut, covered) = behind_covered (drop 1 text) rest e in
    let whole_text : text ≡ 34 ∷ (body ++ 34 ∷ rest) = quote_cut text quote ∙ ap (λ l. 34 ∷ l) cut in
    subst (λ l. Right text (value_or (length text - length rest) (unescape l))) (sym (inner text body rest whole_text covered))
    (right_value text body rest whole_text covered quote d blank line opens (unescape body) refl (read_right body))

pub right_text : (text : List ℕ) → first_test is_quote text ≡ true → begins_doc text ≡ false → first_blank text ≡ false → begins text line_mark ≡ false → begins text open_mark ≡ false → Right text (text_at text)
unfolding text_at
right_text text quote d blank line opens = right_text_or text (text_behind (drop 1 text)) refl quote d blank line opens
