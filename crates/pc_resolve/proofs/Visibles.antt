-- A scope together with the index of its names.
use Rattle.std.proofs.{Common.{◌≡◌, ℕ, zero, suc, ◌+◌, ◌-◌, ◌<◌, ◌≤◌, Bool, true, false, List, [], ◌∷◌, ◌++◌, map, length, take, drop, Some, None, refl, sym, ap, subst, ◌∙◌, arith, if◌then◌else◌}, lemmas.Bool.{ltb-true, ltb-false}, lemmas.List.{map-append, take-map, drop-map, drop-take, drop_all, drop-append-le, length-append, length-take}}
use Rattle.std.specs.{Prelude.{slice_get, nat_lt}, Map.lookup, Str.bytes_eq}
use Rattle.pc_base.proofs.{Gets.{get_drop, get_map}, Options.none_some}
use Rattle.pc_body_spec.specs.Bodies.{Visible, slot_named}
use Rattle.pc_resolve.specs.{Indexes.{firsts, with_first, marks}, Pairs.visible_pair}
use Rattle.pc_resolve.proofs.{Indexes.{firsts_push, marks_push, marks_take, mark_found, or_else}, Found.{slot_cut, visible_found}}

pub map_take : {A B : Type 0} → (f : A → B) (n : ℕ) (xs : List A) → map f (take n xs) ≡ take n (map f xs)
map_take f zero xs = refl
map_take f (suc n) [] = refl
map_take f (suc n) (x ∷ xs) = ap (λ l. f x ∷ l) (map_take f n xs)

pub take_missed : {A : Type 0} → (n : ℕ) (xs : List A) → slice_get xs n ≡ None → xs ≡ take n xs
take_missed zero [] g = refl
take_missed (suc n) [] g = refl
take_missed zero (x ∷ xs) g = absurd (none_some (sym g))
take_missed (suc n) (x ∷ xs) g = ap (λ l. x ∷ l) (take_missed n xs g)

module _ {E : Type 0} (v : E → Visible) (m : E → ℕ) where
  abbrev pub pairs : List E → List (List ℕ × ℕ)
  pairs row = map visible_pair (map v row)

  -- The index has the names of the scope, and each mark is the number of those before it.
  abbrev pub Kept : List E → List (List ℕ × ℕ) → Type 0
  Kept row slots = (slots ≡ firsts bytes_eq (pairs row)) × (map m row ≡ marks bytes_eq [] (pairs row))

  found_in : (row : List E) (slots : List (List ℕ × ℕ)) (name : List ℕ) → Kept row slots → lookup (bytes_eq name) slots ≡ slot_named (map v row) name
  found_in row slots name k = ap (lookup (bytes_eq name)) k.0 ∙ sym (visible_found (map v row) name)

  pairs_push : (row : List E) (e : E) → pairs (row ++ e ∷ []) ≡ pairs row ++ visible_pair (v e) ∷ []
  pairs_push row e = ap (map visible_pair) (map-append v row (e ∷ [])) ∙ map-append visible_pair (map v row) (v e ∷ [])

  kept_push : (row : List E) (slots new : List (List ℕ × ℕ)) (e : E) → Kept row slots → m e ≡ length slots → new ≡ with_first bytes_eq slots (visible_pair (v e)) → Kept (row ++ e ∷ []) new
  kept_push row slots new e k h is =
      let p = visible_pair (v e) in
      let a = is ∙ (ap (λ s. with_first bytes_eq s p) k.0 ∙ (sym (firsts_push bytes_eq [] (pairs row) p) ∙ ap (firsts bytes_eq) (sym (pairs_push row e)))) in
      let b = map-append m row (e ∷ []) ∙ (ap (λ l. l ++ m e ∷ []) k.1 ∙ (ap (λ n. marks bytes_eq [] (pairs row) ++ n ∷ []) (h ∙ ap length k.0) ∙ (sym (marks_push bytes_eq [] (pairs row) p) ∙ ap (marks bytes_eq []) (sym (pairs_push row e))))) in
      (a, b)

  pairs_take : (n : ℕ) (row : List E) → take n (pairs row) ≡ pairs (take n row)
  pairs_take n row = sym (map_take visible_pair n (map v row)) ∙ ap (map visible_pair) (sym (map_take v n row))

  kept_take : (row : List E) (slots : List (List ℕ × ℕ)) (n : ℕ) (e : E) → Kept row slots → slice_get row n ≡ Some e → Kept (take n row) (take (m e) slots)
  kept_take row slots n e k g =
      let at = sym (ap (λ l. slice_get l n) k.1) ∙ get_map m row n e g in
      let a = ap (take (m e)) k.0 ∙ (mark_found bytes_eq n (m e) [] (pairs row) at ∙ ap (firsts bytes_eq) (pairs_take n row)) in
      let b = map_take m n row ∙ (ap (take n) k.1 ∙ (marks_take bytes_eq n [] (pairs row) ∙ ap (marks bytes_eq []) (pairs_take n row))) in
      (a, b)

  -- ---- with the first k ones looked through

  cut : (k : ℕ) (row : List E) (name : List ℕ) → slot_named (map v row) name ≡ or_else (slot_named (map v (take k row)) name) (slot_named (map v (drop k row)) name)
  cut k row name = slot_cut k (map v row) name ∙ (ap (λ l. or_else (slot_named l name) (slot_named (drop k (map v row)) name)) (take-map v k row) ∙ ap (λ l. or_else (slot_named (map v (take k row)) name) (slot_named l name)) (drop-map v k row))

  pub found_near : (k : ℕ) (row : List E) (name : List ℕ) (slot : ℕ) → slot_named (map v (take k row)) name ≡ Some slot → Some slot ≡ slot_named (map v row) name
  found_near k row name slot h = sym (cut k row name ∙ ap (λ o. or_else o (slot_named (map v (drop k row)) name)) h)

  pub found_far : (k : ℕ) (row : List E) (slots : List (List ℕ × ℕ)) (name : List ℕ) → Kept (drop k row) slots → slot_named (map v (take k row)) name ≡ None → lookup (bytes_eq name) slots ≡ slot_named (map v row) name
  found_far k row slots name kept h = found_in (drop k row) slots name kept ∙ sym (cut k row name ∙ ap (λ o. or_else o (slot_named (map v (drop k row)) name)) h)

  -- One more.
  pub kept_more : (k : ℕ) (row : List E) (slots new : List (List ℕ × ℕ)) (e : E) → Kept (drop k row) slots → m e ≡ length slots → new ≡ (if nat_lt (length row) k then slots else with_first bytes_eq slots (visible_pair (v e))) → Kept (drop k (row ++ e ∷ [])) new
  kept_more k row slots new e kept h = by (nat_lt (length row) k) refl
    where
      by : (b : Bool) → nat_lt (length row) k ≡ b → new ≡ (if b then slots else with_first bytes_eq slots (visible_pair (v e))) → Kept (drop k (row ++ e ∷ [])) new
      by true is made =
          let l : length row < k = ltb-true (length row) k is in
          let none : drop k row ≡ [] = drop_all k row (omega (arith, l)) in
          let still : drop k (row ++ e ∷ []) ≡ [] = drop_all k (row ++ e ∷ []) (omega (arith, l, length-append row (e ∷ []))) in
          subst (Kept (drop k (row ++ e ∷ []))) (sym made) (subst (λ l. Kept l slots) (none ∙ sym still) kept)
      by false is made =
          let l : k ≤ length row = ltb-false (length row) k is in
          subst (λ l. Kept l new) (sym (drop-append-le k row (e ∷ []) l)) (kept_push (drop k row) slots new e kept h made)

  -- Fewer.
  pub kept_fewer : (k : ℕ) (row : List E) (slots : List (List ℕ × ℕ)) (n names : ℕ) (e : E) → Kept (drop k row) slots → slice_get row n ≡ Some e → names ≡ (if nat_lt n k then 0 else m e) → Kept (drop k (take n row)) (take names slots)
  kept_fewer k row slots n names e kept g = by (nat_lt n k) refl
    where
      by : (b : Bool) → nat_lt n k ≡ b → names ≡ (if b then 0 else m e) → Kept (drop k (take n row)) (take names slots)
      by true is made =
          let l : n < k = ltb-true n k is in
          let none : drop k (take n row) ≡ [] = drop_all k (take n row) (omega (arith, l, length-take n row)) in
          subst (λ i. Kept (drop k (take n row)) (take i slots)) (sym made) (subst (λ l. Kept l []) (sym none) (refl, refl))
      by false is made =
          let l : k ≤ n = ltb-false n k is in
          let more : k + (n - k) ≡ n = omega (arith, l) in
          let at : slice_get (drop k row) (n - k) ≡ Some e = get_drop row k (n - k) ∙ ap (slice_get row) more ∙ g in
          let same : take (n - k) (drop k row) ≡ drop k (take n row) = sym (drop-take k (n - k) row) ∙ ap (λ i. drop k (take i row)) more in
          subst (λ i. Kept (drop k (take n row)) (take i slots)) (sym made) (subst (λ l. Kept l (take (m e) slots)) same (kept_take (drop k row) slots (n - k) e kept at))
