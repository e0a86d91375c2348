-- Properties of the elements of a list, and which elements it has.
use Rattle.std.specs.Prelude.{◌⊎◌, ℕ, suc, ◌+◌, ◌<◌, List, [], ◌∷◌, ◌++◌, length}
use Rattle.std.proofs.{Common.{inl, inr, ◌∙◌, arith, ⊎_elim}, lemmas.Option.none-some}
use Rattle.pc_base.specs.Lists.{Each, Has, Differ, Ascends}
use Rattle.pc_base.proofs.Gets.{get_front, get_push, get_append, append_get}

-- Each element of the empty list.
pub each_none : {T : Type 0} → (P : ℕ → T → Type 0) → Each P []
each_none P i x e = absurd (none-some x e)

pub differ_none : {T : Type 0} → Differ {T = T} []
differ_none i j x e f = absurd (none-some x e)

pub ascends_none : Ascends []
ascends_none i j a b l e f = absurd (none-some a e)

-- Numbers below the next one, and that one.
pub below_next : (n : ℕ) (rest : List ℕ) → Each (λ i c. c < n) rest → Each (λ i c. c < n + 1) (rest ++ n ∷ [])
below_next n rest b i c e =
    elim (get_push rest n i c e) [
      | inl h ↦ let l = b i c h in omega (arith, l)
      | inr h ↦ let s = h.1 in omega (arith, s)
    ]

-- ---- what a list has

pub has_on : {T : Type 0} → (x : T) (xs : List T) (y : T) → Has xs y → Has (x ∷ xs) y
has_on x xs y h = (suc h.0, h.1)

pub has_front : {T : Type 0} → (xs ys : List T) (y : T) → Has xs y → Has (xs ++ ys) y
has_front xs ys y h = (h.0, get_front xs ys h.0 y h.1)

pub has_behind : {T : Type 0} → (xs ys : List T) (y : T) → Has ys y → Has (xs ++ ys) y
has_behind xs ys y h = (length xs + h.0, get_append xs ys h.0 ∙ h.1)

pub has_either : {T : Type 0} → (xs ys : List T) (y : T) → Has (xs ++ ys) y → Has xs y ⊎ Has ys y
has_either xs ys y h = ⊎_elim (λ a. inl (h.0, a)) (λ b. inr (_, b.1)) (append_get xs ys h.0 y h.1)
