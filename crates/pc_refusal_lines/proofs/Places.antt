-- The place after one more byte.
use Rattle.std.proofs.{Common.{◌≡◌, ◌<◌, ◌≤◌, ℕ, Bool, true, false, cond, not, List, [], ◌∷◌, ◌++◌, refl, take, length, get_or, reverse, ◌+◌, sym, ap, ◌∙◌, arith}, lemmas.List.{take_more, reverse-append}, lemmas.List.Sums.sum_by_push}
use Rattle.std.specs.{Prelude.count_by, List.prefix_len}
use Rattle.pc_refusal_lines.specs.Lines.{is_line_end, is_in_line, line_number, column_number}

-- The place after the first bytes of a text, with bounds.
pub record At (front : List ℕ) (i line column : ℕ) : Type 0 where
  pub line_is : line ≡ line_number (take i front)
  pub column_is : column ≡ column_number (take i front)
  pub line_small : line ≤ i + 1
  pub column_small : column ≤ i + 1

pub at_start : (front : List ℕ) → At front 0 1 1
at_start front = record { line_is = refl; column_is = refl; line_small = omega arith; column_small = omega arith }

line_push : (xs : List ℕ) (b : ℕ) → line_number (xs ++ b ∷ []) ≡ line_number xs + cond (is_line_end b) 1 0
line_push xs b =
    let e : count_by is_line_end (xs ++ b ∷ []) ≡ count_by is_line_end xs + cond (is_line_end b) 1 0 = sum_by_push (λ x. cond (is_line_end x) 1 0) xs b in
    omega (arith, e)

column_push : (xs : List ℕ) (b : ℕ) → column_number (xs ++ b ∷ []) ≡ 1 + cond (is_in_line b) (1 + prefix_len is_in_line (reverse xs)) 0
column_push xs b = ap (λ ys. 1 + prefix_len is_in_line ys) (reverse-append xs (b ∷ []))

line_by : (t : Bool) (n : ℕ) → cond t (n + 1) n ≡ n + cond t 1 0
line_by true n = refl
line_by false n = omega arith

column_by : (t : Bool) (n : ℕ) → cond t 1 (1 + n + 1) ≡ 1 + cond (not t) (1 + n) 0
column_by true n = refl
column_by false n = omega arith

small_by : (t : Bool) (n i : ℕ) → n ≤ i + 1 → (cond t (n + 1) n ≤ i + 1 + 1) × (cond t 1 (n + 1) ≤ i + 1 + 1)
small_by true n i l = (omega (arith, l), omega arith)
small_by false n i l = (omega (arith, l), omega (arith, l))

pub at_next : (front : List ℕ) (i line column line' column' : ℕ) → i < length front → At front i line column
    → line' ≡ cond (is_line_end (get_or front i 0)) (line + 1) line → column' ≡ cond (is_line_end (get_or front i 0)) 1 (column + 1) → At front (i + 1) line' column'
at_next front i line column line' column' within at l c =
    let b : ℕ = get_or front i 0 in
    let more : take (i + 1) front ≡ take i front ++ b ∷ [] = take_more front i 0 within in
    record {
      line_is = l ∙ (ap (λ n. cond (is_line_end b) (n + 1) n) at.line_is ∙ (line_by (is_line_end b) (line_number (take i front)) ∙ (sym (line_push (take i front) b) ∙ ap line_number (sym more))));
      column_is = c ∙ (ap (λ n. cond (is_line_end b) 1 (n + 1)) at.column_is ∙ (column_by (is_line_end b) (prefix_len is_in_line (reverse (take i front))) ∙ (sym (column_push (take i front) b) ∙ ap column_number (sym more))));
      line_small = rw l (small_by (is_line_end b) line i at.line_small).0;
      column_small = rw c (small_by (is_line_end b) column i at.column_small).1;
    }
