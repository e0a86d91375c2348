-- The number of a text.
use Rattle.std.proofs.{Common.{◌≡◌, ℕ, suc, ◌+◌, Bool, true, false, Option, List, [], ◌∷◌, Some, None, cond, refl, ap, ◌∙◌, sym, arith, if◌then◌else◌}, lemmas.Iterator.Adapters.position_from-zero, lemmas.Bool.{eq-eqb, eqb-true}}
use Rattle.std.specs.{Prelude.{position, nat_eq}, List.position_from, Str.bytes_eq}
use Rattle.pc_body_spec.specs.Bodies.{text_from}

abbrev or_zero : Option ℕ → ℕ
or_zero None = 0
or_zero (Some n) = n

both_or_none : (p q : Bool) → (p ≡ true → q ≡ true) → (q ≡ true → p ≡ true) → p ≡ q
both_or_none true q f g = sym (f refl)
both_or_none false true f g = g refl
both_or_none false false f g = refl

pub nat_eq_sym : (a b : ℕ) → nat_eq a b ≡ nat_eq b a
nat_eq_sym a b = both_or_none (nat_eq a b) (nat_eq b a) (λ h. eq-eqb b a (sym (eqb-true a b h))) (λ h. eq-eqb a b (sym (eqb-true b a h)))

pub bytes_eq_sym : (a b : List ℕ) → bytes_eq a b ≡ bytes_eq b a
bytes_eq_sym [] [] = refl
bytes_eq_sym [] (y ∷ b) = refl
bytes_eq_sym (x ∷ a) [] = refl
bytes_eq_sym (x ∷ a) (y ∷ b) = rw (nat_eq_sym x y, bytes_eq_sym a b) refl

text_turn : (b : Bool) (xs : List (List ℕ)) (name : List ℕ) (at : ℕ) → text_from (suc at) xs name ≡ or_zero (position_from (bytes_eq name) (suc at) xs)
    → (if b then at else text_from (suc at) xs name) ≡ or_zero (cond b (Some at) (position_from (bytes_eq name) (at + 1) xs))
text_turn true xs name at h = refl
text_turn false xs name at h = let e : suc at ≡ at + 1 = omega arith in h ∙ ap (λ k. or_zero (position_from (bytes_eq name) k xs)) e

text_at : (xs : List (List ℕ)) (name : List ℕ) (at : ℕ) → text_from at xs name ≡ or_zero (position_from (bytes_eq name) at xs)
text_at [] name at = refl
text_at (x ∷ xs) name at = rw (bytes_eq_sym x name) (text_turn (bytes_eq name x) xs name at (text_at xs name (suc at)))

-- The first place of a text is its number.
pub text_found : (xs : List (List ℕ)) (name : List ℕ) → text_from 0 xs name ≡ or_zero (position (bytes_eq name) xs)
text_found xs name = text_at xs name 0 ∙ ap or_zero (sym (position_from-zero (bytes_eq name) xs))
