-- The values of a row and the memory after them: one value more, one less, or one replaced.
use Rattle.pc_arena.proofs.Steps.{◌≡◌, refl, sym, ap, ◌∙◌, ℕ, zero, suc, ◌+◌, ◌-◌, ◌*◌, ◌<◌, ◌≤◌, ◌^◌, arith, List, [], ◌∷◌, ◌++◌, length, set, get_or, Some, slice_get, Ura, full_share, Fml, Lft, froom, ent, sep, Ty, ty_array, bare, size, align, capped, capped_is, Logic, sem, ‵, ◌⊛◌, ◌$◌, ◌∵◌, !, qed, by, move, keep, use1, use2, split, fsplit, fjoin, rewrite, done, lone, part_at, shares, shared_of, param, Laws, RattleType, nothing, row, others, place_is, takes, puts, type_size, El, no_al, row_cut, row_glue, spare, unspare}
use prog.RawLaws.{size-raw, align-raw}
use Rattle.std.proofs.Common.{mul-le-mul_right, zero-mul, suc-mul}
use Rattle.pc_arena.specs.Ownership.{row_size, lent_from}

-- a value of a row lies within what a word can count, and so does a value
pub within_word : (i s : ℕ) → i < row_size → row_size * s < 2 ^ 63 → (i * s < 2 ^ 64) × (s < 2 ^ 64)
within_word i s lt short = let far : i * s ≤ row_size * s = mul-le-mul_right s (omega arith) in (omega arith, omega arith)

-- what is requested of an allocator
pub row_bytes : (τ : Ty) → row_size * size τ < 2 ^ 63 → capped (size (bare (ty_array τ row_size))) ≡ row_size * size τ
row_bytes τ short = ap capped (size-raw (ty_array τ row_size)) ∙ capped_is (row_size * size τ) (omega arith)

pub row_aligned : (τ : Ty) → capped (align (bare (ty_array τ row_size))) ≡ capped (align τ)
row_aligned τ = ap capped (align-raw (ty_array τ row_size))

pub row_within_word : (s : ℕ) → row_size * s < 2 ^ 63 → (row_size * s < 2 ^ 64) × (s < 2 ^ 64)
row_within_word s short = (omega arith, omega arith)

pub found : {X : Type 0} (xs : List X) (i : ℕ) → i < length xs → (x : X) × (slice_get xs i ≡ Some x) × (get_or xs i x ≡ x)
found [] i lt = absurd (omega arith)
found (x ∷ xs) zero lt = (x, refl, refl)
found (x ∷ xs) (suc i) lt = found xs i (omega arith)

-- a list that has a value ends with one
ends_with : {X : Type 0} (x : X) (xs : List X) → (ys : List X) × (z : X) × (x ∷ xs ≡ ys ++ z ∷ [])
ends_with x [] = ([], x, refl)
ends_with x (y ∷ ys) = let rest = ends_with y ys in (x ∷ rest.0, rest.1, ap (λ l. x ∷ l) rest.2)

pub ends : {X : Type 0} (xs : List X) → 0 < length xs → (ys : List X) × (z : X) × (xs ≡ ys ++ z ∷ [])
ends [] some = absurd (omega arith)
ends (x ∷ xs) some = ends_with x xs

module _ (T : RattleType) (L : Laws T) {M : Type 1} {𝓤 : Ura M} (𝓛 : Logic 𝓤) (b o : ℕ) where
  abbrev R : RattleType
  R = param 0 T

  abbrev pub elements : El
  elements = record { row = T; laws = L; al = no_al }

  abbrev s : ℕ
  s = type_size R

  abbrev τ : Ty
  τ = lone R.mir

  -- the memory after n values
  abbrev pub Behind : ℕ → Fml
  Behind n = froom (bare (ty_array τ (row_size - n))) b (o + n * s)

  -- the value at a place
  abbrev pub Lies : R.Denot → ℕ → Fml
  Lies x i = part_at R full_share x b (i * s + o)

  pub place_out : (n : ℕ) → n < row_size → ent 𝓤 (sem 𝓛 (Behind n)) (sep 𝓤 (sem 𝓛 (froom τ b (n * s + o))) (sem 𝓛 (Behind (n + 1))))
  place_out n lt =
      let some : Ty = ty_array τ (row_size - n) in let rest : Ty = ty_array τ (row_size - (n + 1)) in
      qed 𝓛 (‵ (Behind n) ∷ []) ∵ use1 𝓛 (‵ (froom some b (o + n * s))) (𝓛.laws.raw-room some b (o + n * s)) $
      use1 𝓛 (‵ (froom τ b (n * s + o)) ⊛ ‵ (froom rest b (o + (n + 1) * s))) (spare elements 𝓛 b o n row_size lt) $ split ! $ move ! (1 ∷ []) $
      use1 𝓛 (‵ (Behind (n + 1))) (𝓛.laws.room-raw rest b (o + (n + 1) * s)) $ move ! (1 ∷ 0 ∷ []) $ done !

  pub place_in : (n : ℕ) → n < row_size → ent 𝓤 (sep 𝓤 (sem 𝓛 (froom τ b (n * s + o))) (sem 𝓛 (Behind (n + 1)))) (sem 𝓛 (Behind n))
  place_in n lt =
      let some : Ty = ty_array τ (row_size - n) in let rest : Ty = ty_array τ (row_size - (n + 1)) in
      qed 𝓛 (‵ (froom τ b (n * s + o)) ∷ ‵ (Behind (n + 1)) ∷ []) ∵ move ! (1 ∷ []) $
      use1 𝓛 (‵ (froom rest b (o + (n + 1) * s))) (𝓛.laws.raw-room rest b (o + (n + 1) * s)) $ move ! (1 ∷ 0 ∷ []) $
      use2 𝓛 (‵ (froom some b (o + n * s))) (unspare elements 𝓛 b o n row_size lt) $ by ! (𝓛.laws.room-raw some b (o + n * s))

  pub last_in : (xs : List R.Denot) (x : R.Denot) → ent 𝓤 (sep 𝓤 (sem 𝓛 (row R full_share xs b o)) (sem 𝓛 (Lies x (length xs)))) (sem 𝓛 (row R full_share (xs ++ x ∷ []) b o))
  last_in xs x =
      qed 𝓛 (‵ (row R full_share xs b o) ∷ ‵ (Lies x (length xs)) ∷ []) ∵ rewrite ! 1 (λ (k : ℕ). ‵ (part_at R full_share x b k)) (sym (place_is s o (length xs))) refl $
      move ! (1 ∷ []) $ nothing ! $ move ! (1 ∷ 0 ∷ []) $ fjoin ! $ move ! (1 ∷ 0 ∷ []) $ by ! (row_glue elements 𝓛 full_share xs (x ∷ []) b o)

  pub last_out : (xs : List R.Denot) (x : R.Denot) → ent 𝓤 (sem 𝓛 (row R full_share (xs ++ x ∷ []) b o)) (sep 𝓤 (sem 𝓛 (row R full_share xs b o)) (sem 𝓛 (Lies x (length xs))))
  last_out xs x =
      let from : ℕ = length xs in
      qed 𝓛 (‵ (row R full_share (xs ++ x ∷ []) b o) ∷ []) ∵
      use1 𝓛 (‵ (row R full_share xs b o) ⊛ ‵ (row R full_share (x ∷ []) b _)) (row_cut elements 𝓛 full_share xs (x ∷ []) b o) $ split ! $ move ! (1 ∷ []) $ fsplit ! $
      rewrite ! 0 (λ (k : ℕ). ‵ (part_at R full_share x b k)) (place_is s o from) refl $ keep ! (2 ∷ 0 ∷ []) $ done !

  -- the other values than the i-th
  abbrev pub Others : List R.Denot → ℕ → Fml
  Others xs i = others (shares R) full_share xs i b o

  pub one_out : (xs : List R.Denot) (i : ℕ) (x : R.Denot) → i < length xs → get_or xs i x ≡ x → ent 𝓤 (sem 𝓛 (row R full_share xs b o)) (sep 𝓤 (sem 𝓛 (Lies x i)) (sem 𝓛 (Others xs i)))
  one_out xs i x lt is =
      qed 𝓛 (‵ (row R full_share xs b o) ∷ []) ∵ use1 𝓛 (‵ (part_at R full_share (get_or xs i x) b _) ⊛ ‵ (Others xs i)) (takes (shares R) full_share 𝓛 xs i x b o lt) $ split ! $
      rewrite ! 0 (λ (p : ℕ × R.Denot). ‵ (part_at R full_share p.1 b p.0)) (λ j. (place_is s o i j, is j)) refl $ done !

  pub one_in : (xs : List R.Denot) (i : ℕ) (x : R.Denot) → i < length xs → ent 𝓤 (sep 𝓤 (sem 𝓛 (Lies x i)) (sem 𝓛 (Others xs i))) (sem 𝓛 (row R full_share (set xs i x) b o))
  one_in xs i x lt =
      qed 𝓛 (‵ (Lies x i) ∷ ‵ (Others xs i) ∷ []) ∵ rewrite ! 0 (λ (k : ℕ). ‵ (part_at R full_share x b k)) (sym (place_is s o i)) refl $ by ! (puts (shares R) full_share 𝓛 xs i x b o lt)

-- one lent value among the others
pub one_lent : (R : RattleType) {M : Type 1} {𝓤 : Ura M} (𝓛 : Logic 𝓤) (κ : Lft) (b : ℕ) (xs : List R.Denot) (i : ℕ) (x : R.Denot) (o at : ℕ) → i < length xs → get_or xs i x ≡ x → at ≡ i * type_size R + o
    → ent 𝓤 (sem 𝓛 (lent_from R b o xs κ)) (sem 𝓛 (shared_of R x b at κ))
one_lent R 𝓛 κ b [] i x o at lt is far = absurd (omega arith)
one_lent R 𝓛 κ b (y ∷ ys) zero x o at lt is far =
    let none = zero-mul (type_size R) in let here : o ≡ at = omega arith in
    qed 𝓛 (‵ (lent_from R b o (y ∷ ys) κ) ∷ []) ∵ fsplit ! $ rewrite ! 0 (λ (p : ℕ × R.Denot). ‵ (shared_of R p.1 b p.0 κ)) (λ j. (here j, is j)) refl $ keep ! (0 ∷ []) $ done !
one_lent R 𝓛 κ b (y ∷ ys) (suc i) x o at lt is far =
    let more = suc-mul i (type_size R) in let next : at ≡ i * type_size R + (o + type_size R) = omega arith in
    qed 𝓛 (‵ (lent_from R b o (y ∷ ys) κ) ∷ []) ∵ fsplit ! $ keep ! (1 ∷ []) $ by ! (one_lent R 𝓛 κ b ys i x (o + type_size R) at (omega arith) is next)
