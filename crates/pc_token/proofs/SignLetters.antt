-- A sign is looked for among those that begin with the first byte of the text.
use Rattle.std.proofs.Common.{◌≡◌, ℕ, ◌<◌, List, [], ◌∷◌, refl, sym, subst, arith, slice_index_or}
use Rattle.pc_token.specs.{declared.signs.Sign.Sign, declared.signs.TheConstants.SIGNS, Finding.{first_sign, sign_at}}
use Rattle.pc_token.specs.declared.signs.Sign.TheVariants as sign

by_byte : (byte : ℕ) (signs : List Sign) → 0 < byte → ((bs : List ℕ) → first_sign signs (byte ∷ bs) ≡ sign_at (byte ∷ bs)) → (text : List ℕ) → slice_index_or text 0 0 ≡ byte → first_sign signs text ≡ sign_at text
by_byte byte signs some same [] e = let none : 0 ≡ byte = e in absurd (omega (arith, some, none))
by_byte byte signs some same (b ∷ bs) e = let first : b ≡ byte = e in subst (λ x. first_sign signs (x ∷ bs) ≡ sign_at (x ∷ bs)) (sym first) (same bs)

pub any_byte : (text : List ℕ) → first_sign SIGNS text ≡ sign_at text
unfolding sign_at
any_byte text = refl

pub from_equals : (text : List ℕ) → slice_index_or text 0 0 ≡ 61 → first_sign (sign.Arrow ∷ sign.Equal ∷ sign.Assign ∷ []) text ≡ sign_at text
unfolding sign_at
from_equals text e = by_byte 61 (sign.Arrow ∷ sign.Equal ∷ sign.Assign ∷ []) (omega arith) (λ bs. refl) text e

pub from_exclamation : (text : List ℕ) → slice_index_or text 0 0 ≡ 33 → first_sign (sign.NotEqual ∷ []) text ≡ sign_at text
unfolding sign_at
from_exclamation text e = by_byte 33 (sign.NotEqual ∷ []) (omega arith) (λ bs. refl) text e

pub from_less : (text : List ℕ) → slice_index_or text 0 0 ≡ 60 → first_sign (sign.LessEqual ∷ sign.Less ∷ []) text ≡ sign_at text
unfolding sign_at
from_less text e = by_byte 60 (sign.LessEqual ∷ sign.Less ∷ []) (omega arith) (λ bs. refl) text e

pub from_greater : (text : List ℕ) → slice_index_or text 0 0 ≡ 62 → first_sign (sign.GreaterEqual ∷ sign.Greater ∷ []) text ≡ sign_at text
unfolding sign_at
from_greater text e = by_byte 62 (sign.GreaterEqual ∷ sign.Greater ∷ []) (omega arith) (λ bs. refl) text e

pub from_open_paren : (text : List ℕ) → slice_index_or text 0 0 ≡ 40 → first_sign (sign.OpenParen ∷ []) text ≡ sign_at text
unfolding sign_at
from_open_paren text e = by_byte 40 (sign.OpenParen ∷ []) (omega arith) (λ bs. refl) text e

pub from_close_paren : (text : List ℕ) → slice_index_or text 0 0 ≡ 41 → first_sign (sign.CloseParen ∷ []) text ≡ sign_at text
unfolding sign_at
from_close_paren text e = by_byte 41 (sign.CloseParen ∷ []) (omega arith) (λ bs. refl) text e

pub from_comma : (text : List ℕ) → slice_index_or text 0 0 ≡ 44 → first_sign (sign.Comma ∷ []) text ≡ sign_at text
unfolding sign_at
from_comma text e = by_byte 44 (sign.Comma ∷ []) (omega arith) (λ bs. refl) text e

pub from_dot : (text : List ℕ) → slice_index_or text 0 0 ≡ 46 → first_sign (sign.Dot ∷ []) text ≡ sign_at text
unfolding sign_at
from_dot text e = by_byte 46 (sign.Dot ∷ []) (omega arith) (λ bs. refl) text e

pub from_colon : (text : List ℕ) → slice_index_or text 0 0 ≡ 58 → first_sign (sign.Colon ∷ []) text ≡ sign_at text
unfolding sign_at
from_colon text e = by_byte 58 (sign.Colon ∷ []) (omega arith) (λ bs. refl) text e

pub from_semicolon : (text : List ℕ) → slice_index_or text 0 0 ≡ 59 → first_sign (sign.Semicolon ∷ []) text ≡ sign_at text
unfolding sign_at
from_semicolon text e = by_byte 59 (sign.Semicolon ∷ []) (omega arith) (λ bs. refl) text e

pub from_caret : (text : List ℕ) → slice_index_or text 0 0 ≡ 94 → first_sign (sign.Caret ∷ []) text ≡ sign_at text
unfolding sign_at
from_caret text e = by_byte 94 (sign.Caret ∷ []) (omega arith) (λ bs. refl) text e

pub from_ampersand : (text : List ℕ) → slice_index_or text 0 0 ≡ 38 → first_sign (sign.Ampersand ∷ []) text ≡ sign_at text
unfolding sign_at
from_ampersand text e = by_byte 38 (sign.Ampersand ∷ []) (omega arith) (λ bs. refl) text e

pub from_plus : (text : List ℕ) → slice_index_or text 0 0 ≡ 43 → first_sign (sign.Plus ∷ []) text ≡ sign_at text
unfolding sign_at
from_plus text e = by_byte 43 (sign.Plus ∷ []) (omega arith) (λ bs. refl) text e

pub from_minus : (text : List ℕ) → slice_index_or text 0 0 ≡ 45 → first_sign (sign.Minus ∷ []) text ≡ sign_at text
unfolding sign_at
from_minus text e = by_byte 45 (sign.Minus ∷ []) (omega arith) (λ bs. refl) text e

pub from_star : (text : List ℕ) → slice_index_or text 0 0 ≡ 42 → first_sign (sign.Star ∷ []) text ≡ sign_at text
unfolding sign_at
from_star text e = by_byte 42 (sign.Star ∷ []) (omega arith) (λ bs. refl) text e

pub from_slash : (text : List ℕ) → slice_index_or text 0 0 ≡ 47 → first_sign (sign.Slash ∷ []) text ≡ sign_at text
unfolding sign_at
from_slash text e = by_byte 47 (sign.Slash ∷ []) (omega arith) (λ bs. refl) text e

pub from_percent : (text : List ℕ) → slice_index_or text 0 0 ≡ 37 → first_sign (sign.Percent ∷ []) text ≡ sign_at text
unfolding sign_at
from_percent text e = by_byte 37 (sign.Percent ∷ []) (omega arith) (λ bs. refl) text e
