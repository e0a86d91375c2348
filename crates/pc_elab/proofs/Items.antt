-- One more item of a list that is traversed by number.
use Rattle.std.proofs.{Common.{◌≡◌, ℕ, zero, suc, ◌+◌, List, [], ◌∷◌, ◌++◌, length, drop, sym, ap, ◌∙◌, append_assoc, arith}, Math.ListN.drop_of_length-le, lemmas.Option.none-some}
use Rattle.std.specs.Prelude.{slice_get, Some, None, ◌≤◌}
use Rattle.pc_base.proofs.Cuts.{drop_item}

pub get_some : {T : Type 0} → (xs front : List T) (i : ℕ) (x : T) → slice_get xs i ≡ Some x → xs ≡ front ++ drop i xs → xs ≡ (front ++ x ∷ []) ++ drop (i + 1) xs
get_some xs front i x h e = e ∙ ap (λ ys. front ++ ys) (drop_item xs i x h) ∙ sym (append_assoc front (x ∷ []) (drop (i + 1) xs))

pub get_none : {T : Type 0} → (xs front : List T) (i : ℕ) → slice_get xs i ≡ None → xs ≡ front ++ drop i xs → xs ≡ front ++ drop (i + 1) xs
get_none xs front i h e = e ∙ ap (λ ys. front ++ ys) (drop_of_length-le xs (past xs i h) ∙ sym (drop_of_length-le xs (let l = past xs i h in omega (arith, l))))
  where
    past : {T : Type 0} → (ys : List T) (k : ℕ) → slice_get ys k ≡ None → length ys ≤ k
    past [] k g = omega arith
    past (y ∷ ys) zero g = absurd (none-some y (sym g))
    past (y ∷ ys) (suc k) g = let l = past ys k g in omega (arith, l)
