-- Blanks that are skipped are pieces.
use Rattle.std.proofs.{Common.{◌≡◌, ℕ, ◌+◌, ◌<◌, Bool, true, false, ◌||◌, ◌==◌, List, [], ◌∷◌, length, get_or, take, drop, Ok, refl, ap, ◌∙◌, subst, inl}, lemmas.Bool.true≢false, lemmas.List.drop_more}
use Rattle.pc_token.specs.declared.kinds.Token.{Token}
use Rattle.pc_lex.specs.declared.pieces.Found.TheVariants as found
use Rattle.pc_lex.specs.{Pieces.is_blank, Parts.has_line_end, Reading.{piece_at, Passes, stays, blank}}
use Rattle.pc_lex.proofs.{OneCut.gap_read, Reached.{Sofar, goes_on}}

or_false : (t : Bool) → (t || false) ≡ t
or_false true = refl
or_false false = refl

passes_one : (text : List ℕ) (at : ℕ) (first : Bool) (ts : List Token) → at < length text → is_blank (get_or text at 0) ≡ true → Sofar text at first ts → Sofar text (at + 1) (first || get_or text at 0 == 10) ts
passes_one text at first ts inside is so =
    let b = get_or text at 0 in
    let whole : drop at text ≡ b ∷ drop (at + 1) text = drop_more text at 0 inside in
    let read : piece_at (drop at text) ≡ Ok (found.Gap, 1) = ap piece_at whole ∙ gap_read (b ∷ []) (drop (at + 1) text) (inl (b, refl, is)) in
    let ends : (first || has_line_end (take 1 (drop at text))) ≡ (first || b == 10) = ap (λ l. first || has_line_end (take 1 l)) whole ∙ ap (λ t. first || t) (or_false (b == 10)) in
    subst (λ t. Sofar text (at + 1) t ts) ends (goes_on text at first ts ts (at + 1, first || has_line_end (take 1 (drop at text))) inside so ((found.Gap, 1), read, refl, λ other. absurd (true≢false other)))

pub passes_on : {text : List ℕ} {start : ℕ} {begins_line : Bool} {at : ℕ} {first : Bool} (ts : List Token) → Sofar text start begins_line ts → Passes text start begins_line at first → Sofar text at first ts
passes_on ts so stays = so
passes_on {text = text} ts so (blank {at = at} {first = first} passed inside is) = passes_one text at first ts inside is (passes_on ts so passed)
