-- Texts that are appended one after the other.
use Rattle.std.specs.Prelude.{◌≡◌, ℕ, zero, suc, ◌+◌, List, [], ◌∷◌, ◌++◌, drop, Some, slice_get}
use Rattle.std.proofs.{Common.{ap, sym, ◌∙◌, append_assoc, arith}, lemmas.Option.{same_Some, none-some}}
use Rattle.pc_core.specs.{CoreData.CoreData, declared.declarations.Method.Method}
use Rattle.pc_places.specs.Text.{method_line, methods_text}

-- The next part was appended, and what remains is the rest.
pub put_next : (text new part rest whole : List ℕ) → new ≡ text ++ part → text ++ (part ++ rest) ≡ whole → new ++ rest ≡ whole
put_next text new part rest whole put left = ap (λ (t : List ℕ). t ++ rest) put ∙ append_assoc text part rest ∙ left

-- The next method's line is the first of the remaining ones.
pub methods_step : (core : CoreData) (xs : List Method) (i : ℕ) (x : Method) → slice_get xs i ≡ Some x → methods_text core (drop i xs) ≡ method_line core x ++ methods_text core (drop (i + 1) xs)
methods_step core xs i x h = by_suc xs i h ∙ ap (λ (n : ℕ). method_line core x ++ methods_text core (drop n xs)) (sym (next i))
  where
    next : (n : ℕ) → n + 1 ≡ suc n
    next n = omega arith

    by_suc : (ys : List Method) (n : ℕ) → slice_get ys n ≡ Some x → methods_text core (drop n ys) ≡ method_line core x ++ methods_text core (drop (suc n) ys)
    by_suc [] n e = absurd (none-some x e)
    by_suc (y ∷ ys) zero e = ap (λ (z : Method). method_line core z ++ methods_text core ys) (same_Some y x e)
    by_suc (y ∷ ys) (suc n) e = by_suc ys n e
