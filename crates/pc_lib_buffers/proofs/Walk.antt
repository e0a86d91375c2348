-- The bytes of a text up to a mark.
use Rattle.std.proofs.Common.{◌≡◌, ◌<◌, ◌≤◌, ℕ, ◌+◌, true, false, cond, get_or, length, take, refl, sym, ap, ap₂, ◌∙◌, subst, true≢false, below_more, arith}
use Rattle.std.specs.Prelude.{is_some, decimal}
use Rattle.pc_base.specs.Lists.{Text}
use Rattle.pc_refusal_lines.specs.Lines.{is_line_end, line_number, column_number}
use Rattle.pc_refusal_lines.proofs.Places.{At, at_start, at_next}
use Rattle.pc_lib_buffers.specs.{Finding.{AreOf, AreAt}, Fronts.{after_word, after_numbers}, declared.marks.Mark.Mark, declared.start.Start.Start}

-- The mark is the one after this many bytes, and the numbers are those of none of the bytes before it.
pub record Before (numbers text : Text) (i : ℕ) (m : Mark) : Type 0 where
  pub at : At text i m.line m.column
  pub small : i ≤ length text
  pub offset_is : m.offset ≡ i
  pub in_line_is : m.in_line ≡ is_some (after_word (decimal m.line) numbers)
  pub none : (k : ℕ) → k < i → AreOf text numbers k → ⊥

pub first : (numbers text : Text) (m : Mark) → m ≡ record { offset = 0; line = 1; column = 1; in_line = is_some (after_word (decimal 1) numbers) } → Before numbers text 0 m
first numbers text m e =
    subst (Before numbers text 0) (sym e) (record { at = at_start text; small = omega arith; offset_is = refl; in_line_is = refl; none = λ k l h. absurd (omega (arith, l)) })

-- the numbers at a mark are those after this many bytes
are_at : (numbers text : Text) (i : ℕ) (m : Mark) → Before numbers text i m → is_some (after_numbers (line_number (take i text)) (column_number (take i text)) numbers) ≡ is_some (after_numbers m.line m.column numbers)
are_at numbers text i m b = sym (ap₂ (λ l c. is_some (after_numbers l c numbers)) b.at.line_is b.at.column_is)

not_here : (numbers text : Text) (i : ℕ) (m : Mark) → Before numbers text i m → is_some (after_numbers m.line m.column numbers) ≡ false → AreOf text numbers i → ⊥
not_here numbers text i m b e h = true≢false (sym h ∙ (are_at numbers text i m b ∙ e))

pub next : (numbers text : Text) (i : ℕ) (m n : Mark) → i < length text → Before numbers text i m → is_some (after_numbers m.line m.column numbers) ≡ false → n.offset ≡ m.offset + 1
    → n.line ≡ cond (is_line_end (get_or text i 0)) (m.line + 1) m.line → n.column ≡ cond (is_line_end (get_or text i 0)) 1 (m.column + 1)
    → (m.in_line ≡ is_some (after_word (decimal m.line) numbers) → n.in_line ≡ is_some (after_word (decimal n.line) numbers)) → Before numbers text (i + 1) n
next numbers text i m n within b e o l c in_line =
    let same = b.offset_is in
    record {
      at = at_next text i m.line m.column n.line n.column within b.at l c;
      small = omega (arith, within);
      offset_is = omega (arith, o, same);
      in_line_is = in_line b.in_line_is;
      none = below_more (λ k. AreOf text numbers k → ⊥) i b.none (not_here numbers text i m b e);
    }

pub found : (numbers text : Text) (i : ℕ) (m : Mark) (number : ℕ) (p : Start) → Before numbers text i m → is_some (after_numbers m.line m.column numbers) ≡ true
    → p ≡ record { text = number; line = m.line; column = m.column; offset = m.offset } → AreAt number text numbers p
found numbers text i m number p b e same =
    let o = b.offset_is in
    let s = b.small in
    subst (AreAt number text numbers) (sym same) (record {
      number_is = refl;
      within = omega (arith, o, s);
      line_is = b.at.line_is ∙ ap (λ n. line_number (take n text)) (sym b.offset_is);
      column_is = b.at.column_is ∙ ap (λ n. column_number (take n text)) (sym b.offset_is);
      are = ap (λ n. is_some (after_numbers (line_number (take n text)) (column_number (take n text)) numbers)) b.offset_is ∙ (are_at numbers text i m b ∙ e);
    })

pub nowhere : (numbers text : Text) (i : ℕ) (m : Mark) → length text ≤ i → Before numbers text i m → is_some (after_numbers m.line m.column numbers) ≡ false → (at : ℕ) → at ≤ length text → AreOf text numbers at → ⊥
nowhere numbers text i m end b e at within = below_more (λ k. AreOf text numbers k → ⊥) i b.none (not_here numbers text i m b e) at (omega (arith, end, within))
