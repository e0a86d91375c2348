-- A reserved word is spelled like a name.
use Rattle.std.proofs.{Common.{◌≡◌, ℕ, Bool, true, not, ◌&&◌, List, length, take, refl, sym, subst, arith, take_all}, lemmas.Bool.{and_parts, not-true, ltb-true, eqb-true}}
use Rattle.std.specs.{Prelude.{nat_eq, nat_lt}, List.list_all, Char.is_ascii_lowercase}
use Rattle.pc_token.specs.{declared.words.Word.Word, declared.words.TheConstants.WORDS, Words.word_text}
use Rattle.pc_token.proofs.WordFacts.{each_word}
use Rattle.pc_lex.specs.{Pieces.NameText, Reading.{tail_len, letter_len, name_len, is_type}}
use Rattle.pc_lex.proofs.NameReading.{name_sound, head_test}

-- the whole text is a name, and not a type name
abbrev small_name : List ℕ → Bool
small_name b = nat_lt 0 (name_len b) && (nat_eq (name_len b) (length b) && not (is_type b))

words_small : list_all (λ w. small_name (word_text w)) WORDS ≡ true
unfolding name_len letter_len tail_len is_type
words_small = refl

name_from : (b : List ℕ) → small_name b ≡ true → NameText is_ascii_lowercase b
name_from b e =
    let (some, more) = and_parts (nat_lt 0 (name_len b)) (nat_eq (name_len b) (length b) && not (is_type b)) e in
    let (len, small) = and_parts (nat_eq (name_len b) (length b)) (not (is_type b)) more in
    let whole : take (name_len b) b ≡ b = take_all (name_len b) b (omega (arith, eqb-true (name_len b) (length b) len)) in
    let named = subst (λ l. NameText (head_test (is_type l)) l) whole (name_sound b (ltb-true 0 (name_len b) some)) in
    subst (λ t. NameText (head_test t) b) (not-true _ small) named

pub spelled_word : (w : Word) (b : List ℕ) → b ≡ word_text w → NameText is_ascii_lowercase b
spelled_word w b e = subst (NameText is_ascii_lowercase) (sym e) (name_from (word_text w) (each_word small_name words_small w))
