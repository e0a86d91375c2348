-- The turns of a list at a place and after it.
use Rattle.std.proofs.{Common.{◌≡◌, ◌≤◌, ◌<◌, ◌+◌, ◌-◌, ℕ, List, ◌∷◌, ◌++◌, length, take, drop, get_or, sym, ap, ◌∙◌, arith, length-append}, lemmas.List.{drop_more, length-take-le, take-append-drop}}
use Rattle.pc_base.proofs.Cuts.{same_cut}
use Rattle.pc_commands.specs.Swap.{Neighbours, StandAt}

pub turns_at : (list : List ℕ) (place : ℕ) → 1 ≤ place → place < length list → (t : Neighbours) × StandAt list place t
turns_at list place some within =
    let k = place - 1 in
    let next : place ≡ k + 1 = omega (arith, some) in
    let t : Neighbours = record { front = take k list; i = get_or list k 0; j = get_or list (k + 1) 0; rest = drop (k + 1 + 1) list } in
    let first = drop_more list k 0 (omega (arith, within, some)) in
    let second = drop_more list (k + 1) 0 (omega (arith, within, some)) in
    let count : length (take k list) ≡ k = length-take-le k list (omega (arith, within, some)) in
    (t, (sym (take-append-drop k list) ∙ ap (λ l. take k list ++ l) (first ∙ ap (λ l. get_or list k 0 ∷ l) second), next ∙ ap (λ n. n + 1) (sym count)))

-- There is a turn after the place.
pub stands_within : (list : List ℕ) (place : ℕ) (t : Neighbours) → StandAt list place t → place < length list
stands_within list place t at =
    let whole = ap (λ (l : List ℕ). length l) at.0 in
    let both = length-append t.front (t.i ∷ t.j ∷ t.rest) in
    let first = at.1 in
    omega (arith, whole, both, first)

-- The list with both exchanged is as long.
pub length_exchanged : (list : List ℕ) (place : ℕ) (t : Neighbours) → StandAt list place t → length (t.front ++ t.j ∷ t.i ∷ t.rest) ≡ length list
length_exchanged list place t at =
    let whole = ap (λ (l : List ℕ). length l) at.0 in
    let both = length-append t.front (t.i ∷ t.j ∷ t.rest) in
    let other = length-append t.front (t.j ∷ t.i ∷ t.rest) in
    omega (arith, whole, both, other)

-- There are no others there.
same_parts : (f g : List ℕ) (i j k l : ℕ) (r s : List ℕ) → f ≡ g → i ∷ j ∷ r ≡ k ∷ l ∷ s
    → ◌≡◌ {A = Neighbours} (record { front = f; i = i; j = j; rest = r }) (record { front = g; i = k; j = l; rest = s })
same_parts f g i j k l r s e same =
    let a : i ≡ k = cc same in
    let b : j ≡ l = cc same in
    let d : r ≡ s = cc same in
    ap (λ (x : List ℕ). record { front = x; i = i; j = j; rest = r }) e ∙ ap (λ (x : ℕ). record { front = g; i = x; j = j; rest = r }) a
    ∙ ap (λ (x : ℕ). record { front = g; i = k; j = x; rest = r }) b ∙ ap (λ (x : List ℕ). record { front = g; i = k; j = l; rest = x }) d

pub neighbours_one : (list : List ℕ) (place : ℕ) (t u : Neighbours) → StandAt list place t → StandAt list place u → t ≡ u
neighbours_one list place t u a b =
    let first = a.1 in
    let other = b.1 in
    let c = same_cut t.front (t.i ∷ t.j ∷ t.rest) u.front (u.i ∷ u.j ∷ u.rest) (sym a.0 ∙ b.0) (omega (arith, first, other)) in
    same_parts t.front u.front t.i t.j u.i u.j t.rest u.rest c.0 c.1
