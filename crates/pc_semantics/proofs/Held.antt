-- The slots of a frame, whose last empty ones are not stored.
use Rattle.std.proofs.Common.{◌≡◌, ℕ, zero, suc, ◌≤◌, List, [], ◌∷◌, ◌++◌, None, slice_get, set, replicate, length, refl, sym, ap, ◌∙◌, arith}
use Rattle.std.specs.Prelude.{Option}
use Rattle.pc_semantics.specs.Parts.{held}
use Rattle.pc_heap.specs.declared.value.Value.{Value}

-- No empty slot holds a value.
pub nothing_past : (xs : List (Option Value)) (n slot : ℕ) → length xs ≤ slot → None ≡ held (slice_get (xs ++ replicate n None) slot)
nothing_past [] zero slot l = refl
nothing_past [] (suc n) zero l = refl
nothing_past [] (suc n) (suc slot) l = nothing_past [] n slot (omega arith)
nothing_past (x ∷ xs) n zero l = absurd (omega arith)
nothing_past (x ∷ xs) n (suc slot) l = nothing_past xs n slot (omega arith)

-- Making an empty slot empty changes nothing.
pub same_past : (xs : List (Option Value)) (n slot : ℕ) → length xs ≤ slot → xs ++ replicate n None ≡ set (xs ++ replicate n None) slot None
same_past [] zero slot l = refl
same_past [] (suc n) zero l = refl
same_past [] (suc n) (suc slot) l = ap (λ z. None ∷ z) (same_past [] n slot (omega arith))
same_past (x ∷ xs) n zero l = absurd (omega arith)
same_past (x ∷ xs) n (suc slot) l = ap (λ z. x ∷ z) (same_past xs n slot (omega arith))

-- If there are no empty slots after the stored ones, or the slot is one of these, a value goes into what is stored.
pub put_front : (xs : List (Option Value)) (n slot : ℕ) (v : Option Value) → ((length xs ≤ slot) → (n ≡ 0)) → set xs slot v ++ replicate n None ≡ set (xs ++ replicate n None) slot v
put_front [] n slot v all =
    let none : n ≡ 0 = all (omega arith) in
    ap (λ k. replicate k None) none ∙ ap (λ k. set (replicate k None) slot v) (sym none)
put_front (x ∷ xs) n zero v all = refl
put_front (x ∷ xs) n (suc slot) v all = ap (λ z. x ∷ z) (put_front xs n slot v (λ l. all (omega (arith, l))))

pub got_front : (xs : List (Option Value)) (n slot : ℕ) → ((length xs ≤ slot) → (n ≡ 0)) → held (slice_get xs slot) ≡ held (slice_get (xs ++ replicate n None) slot)
got_front [] n slot all =
    let none : n ≡ 0 = all (omega arith) in
    ap (λ k. held (slice_get (replicate k None) slot)) (sym none)
got_front (x ∷ xs) n zero all = refl
got_front (x ∷ xs) n (suc slot) all = got_front xs n slot (λ l. all (omega (arith, l)))
