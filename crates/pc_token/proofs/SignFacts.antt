-- In a list with longer signs first, the first sign that fits is the longest.
use Rattle.std.proofs.{Common.{◌≡◌, ℕ, ◌≤◌, Bool, true, false, cond, ◌&&◌, List, [], ◌∷◌, length, Some, None, refl, sym, ap, ◌∙◌, subst, inl, inr, arith, ◌⊎◌}, lemmas.Bool.{and_parts, true≢false, leb-true}, lemmas.Option.same_Some}
use Rattle.std.specs.{Prelude.{nat_eq, nat_le}, List.{list_all, starts_with}}
use Rattle.pc_token.specs.{declared.signs.Sign.Sign, declared.signs.TheConstants.SIGNS, Words.sign_text, Finding.{first_sign, sign_at}}
use Rattle.pc_token.specs.declared.signs.Sign.TheVariants as sign
use Rattle.pc_base.proofs.Options.{none_some}

abbrev pub IsIn : Sign → List Sign → Type 0
IsIn s [] = ⊥
IsIn s (x ∷ xs) = (s ≡ x) ⊎ IsIn s xs

pub listed : (s : Sign) → IsIn s SIGNS
listed sign.Arrow = inl refl
listed sign.Equal = inr (inl refl)
listed sign.NotEqual = inr (inr (inl refl))
listed sign.LessEqual = inr (inr (inr (inl refl)))
listed sign.GreaterEqual = inr (inr (inr (inr (inl refl))))
listed sign.OpenParen = inr (inr (inr (inr (inr (inl refl)))))
listed sign.CloseParen = inr (inr (inr (inr (inr (inr (inl refl))))))
listed sign.Comma = inr (inr (inr (inr (inr (inr (inr (inl refl)))))))
listed sign.Dot = inr (inr (inr (inr (inr (inr (inr (inr (inl refl))))))))
listed sign.Colon = inr (inr (inr (inr (inr (inr (inr (inr (inr (inl refl)))))))))
listed sign.Semicolon = inr (inr (inr (inr (inr (inr (inr (inr (inr (inr (inl refl))))))))))
listed sign.Assign = inr (inr (inr (inr (inr (inr (inr (inr (inr (inr (inr (inl refl)))))))))))
listed sign.Caret = inr (inr (inr (inr (inr (inr (inr (inr (inr (inr (inr (inr (inl refl))))))))))))
listed sign.Ampersand = inr (inr (inr (inr (inr (inr (inr (inr (inr (inr (inr (inr (inr (inl refl)))))))))))))
listed sign.Plus = inr (inr (inr (inr (inr (inr (inr (inr (inr (inr (inr (inr (inr (inr (inl refl))))))))))))))
listed sign.Minus = inr (inr (inr (inr (inr (inr (inr (inr (inr (inr (inr (inr (inr (inr (inr (inl refl)))))))))))))))
listed sign.Star = inr (inr (inr (inr (inr (inr (inr (inr (inr (inr (inr (inr (inr (inr (inr (inr (inl refl))))))))))))))))
listed sign.Slash = inr (inr (inr (inr (inr (inr (inr (inr (inr (inr (inr (inr (inr (inr (inr (inr (inr (inl refl)))))))))))))))))
listed sign.Percent = inr (inr (inr (inr (inr (inr (inr (inr (inr (inr (inr (inr (inr (inr (inr (inr (inr (inr (inl refl))))))))))))))))))
listed sign.Less = inr (inr (inr (inr (inr (inr (inr (inr (inr (inr (inr (inr (inr (inr (inr (inr (inr (inr (inr (inl refl)))))))))))))))))))
listed sign.Greater = inr (inr (inr (inr (inr (inr (inr (inr (inr (inr (inr (inr (inr (inr (inr (inr (inr (inr (inr (inr (inl refl))))))))))))))))))))

pub sign_passes : (p : Sign → Bool) (s : Sign) (xs : List Sign) → list_all p xs ≡ true → IsIn s xs → p s ≡ true
sign_passes p s [] all h = absurd h
sign_passes p s (x ∷ xs) all (inl e) = ap p e ∙ (and_parts (p x) (list_all p xs) all).0
sign_passes p s (x ∷ xs) all (inr h) = sign_passes p s xs (and_parts (p x) (list_all p xs) all).1 h

-- what holds of every row holds of every sign
pub each_sign : (p : Sign → Bool) → list_all p SIGNS ≡ true → (s : Sign) → p s ≡ true
each_sign p all s = sign_passes p s SIGNS all (listed s)

abbrev no_longer : Sign → Sign → Bool
no_longer x y = nat_le (length (sign_text y)) (length (sign_text x))

abbrev long_first : List Sign → Bool
long_first [] = true
long_first (x ∷ xs) = list_all (no_longer x) xs && long_first xs

abbrev Longer : List Sign → List ℕ → Sign → Type 0
Longer xs text s = (r : Sign × ℕ) × (first_sign xs text ≡ Some r) × (length (sign_text s) ≤ r.1)

max_step : (x s : Sign) (xs : List Sign) (text : List ℕ) (t : Bool) → starts_with nat_eq text (sign_text x) ≡ t → list_all (no_longer x) xs ≡ true → starts_with nat_eq text (sign_text s) ≡ true
    → IsIn s (x ∷ xs) → (IsIn s xs → Longer xs text s) → (r : Sign × ℕ) × (cond t (Some (x, length (sign_text x))) (first_sign xs text) ≡ Some r) × (length (sign_text s) ≤ r.1)
max_step x s xs text true e sorted is (inl same) more = ((x, length (sign_text x)), refl, omega (arith, ap (λ y. length (sign_text y)) same))
max_step x s xs text true e sorted is (inr there) more = ((x, length (sign_text x)), refl, leb-true (length (sign_text s)) (length (sign_text x)) (sign_passes (no_longer x) s xs sorted there))
max_step x s xs text false e sorted is (inl same) more = absurd (true≢false (sym is ∙ ap (λ y. starts_with nat_eq text (sign_text y)) same ∙ e))
max_step x s xs text false e sorted is (inr there) more = more there

first_max : (xs : List Sign) (text : List ℕ) (s : Sign) → long_first xs ≡ true → IsIn s xs → starts_with nat_eq text (sign_text s) ≡ true → Longer xs text s
first_max [] text s sorted there is = absurd there
first_max (x ∷ xs) text s sorted there is =
    let (here, more) = and_parts (list_all (no_longer x) xs) (long_first xs) sorted in
    max_step x s xs text (starts_with nat_eq text (sign_text x)) refl here is there (λ there. first_max xs text s more there is)

-- a sign with which the text begins is no longer than the one that is found
pub sign_max : (text : List ℕ) (s : Sign) → starts_with nat_eq text (sign_text s) ≡ true → (r : Sign × ℕ) × (sign_at text ≡ Some r) × (length (sign_text s) ≤ r.1)
unfolding sign_at
sign_max text s is = first_max SIGNS text s refl (listed s) is

abbrev Found : List ℕ → Sign × ℕ → Type 0
Found text r = (length (sign_text r.0) ≡ r.1) × (starts_with nat_eq text (sign_text r.0) ≡ true)

sound_step : (x : Sign) (xs : List Sign) (text : List ℕ) (r : Sign × ℕ) (t : Bool) → starts_with nat_eq text (sign_text x) ≡ t → cond t (Some (x, length (sign_text x))) (first_sign xs text) ≡ Some r
    → (first_sign xs text ≡ Some r → Found text r) → Found text r
sound_step x xs text r true is e more = subst (Found text) (same_Some (x, length (sign_text x)) r e) (refl, is)
sound_step x xs text r false is e more = more e

first_sound : (xs : List Sign) (text : List ℕ) (r : Sign × ℕ) → first_sign xs text ≡ Some r → Found text r
first_sound [] text r e = absurd (none_some e)
first_sound (x ∷ xs) text r e = sound_step x xs text r (starts_with nat_eq text (sign_text x)) refl e (first_sound xs text r)

-- the text begins with the sign that is found
pub sign_sound : (text : List ℕ) (r : Sign × ℕ) → sign_at text ≡ Some r → (length (sign_text r.0) ≡ r.1) × (starts_with nat_eq text (sign_text r.0) ≡ true)
unfolding sign_at
sign_sound text r e = first_sound SIGNS text r e

-- a sign is found by its spelling
pub sign_own : (s : Sign) → sign_at (sign_text s) ≡ Some (s, length (sign_text s))
unfolding sign_at
sign_own sign.Arrow = refl
sign_own sign.Equal = refl
sign_own sign.NotEqual = refl
sign_own sign.LessEqual = refl
sign_own sign.GreaterEqual = refl
sign_own sign.OpenParen = refl
sign_own sign.CloseParen = refl
sign_own sign.Comma = refl
sign_own sign.Dot = refl
sign_own sign.Colon = refl
sign_own sign.Semicolon = refl
sign_own sign.Assign = refl
sign_own sign.Caret = refl
sign_own sign.Ampersand = refl
sign_own sign.Plus = refl
sign_own sign.Minus = refl
sign_own sign.Star = refl
sign_own sign.Slash = refl
sign_own sign.Percent = refl
sign_own sign.Less = refl
sign_own sign.Greater = refl

pub sign_one : (s t : Sign) → sign_text s ≡ sign_text t → s ≡ t
sign_one s t e = ap (λ r. r.0) (same_Some (s, length (sign_text s)) (t, length (sign_text t)) (sym (sign_own s) ∙ ap sign_at e ∙ sign_own t))

most_step : (text : List ℕ) (r : Sign × ℕ) (other : Sign) → sign_at text ≡ Some r → (q : Sign × ℕ) × (sign_at text ≡ Some q) × (length (sign_text other) ≤ q.1) → length (sign_text other) ≤ r.1
most_step text r other e h = let same = same_Some r h.0 (sym e ∙ h.1) in omega (arith, h.2, ap (λ x. x.1) same)

pub sign_longest : (text : List ℕ) (r : Sign × ℕ) → sign_at text ≡ Some r
    → (starts_with nat_eq text (sign_text r.0) ≡ true) × (r.1 ≡ length (sign_text r.0)) × ((other : Sign) → starts_with nat_eq text (sign_text other) ≡ true → length (sign_text other) ≤ r.1)
sign_longest text r e = let (len, is) = sign_sound text r e in (is, sym len, λ other h. most_step text r other e (sign_max text other h))

pub sign_never : (text : List ℕ) (s : Sign) → sign_at text ≡ None → starts_with nat_eq text (sign_text s) ≡ true → ⊥
sign_never text s none is = let h = sign_max text s is in none_some (sym none ∙ h.1)
