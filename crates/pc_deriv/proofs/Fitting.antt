-- What was written is well-formed.
use Rattle.std.proofs.{Common.{◌≡◌, ℕ, ◌+◌, ◌<◌, suc, zero, List, [], ◌∷◌, ◌++◌, Ok, Err, length, get_or, take, drop, sym, ap, ◌∙◌, subst, arith, append_assoc}, lemmas.List.drop_more}
use Rattle.std.specs.{Prelude.{Result, IfOk}, List.AllByRecursion}
use Rattle.pc_ann.specs.declared.annotation.Ann.{Ann}
use Rattle.pc_deriv.specs.{declared.version.Version.Version, Text.{deriv_text, SlotFits, NoteFits, Within, IsText}, Parts.each_line}

module _ {A : Type 0} where
  -- one more thing that fits
  pub fits_more : (P : A → Type 0) (xs : List A) (i : ℕ) (d : A) → i < length xs → P (get_or xs i d) → AllByRecursion P (take i xs) → AllByRecursion P (take (i + 1) xs)
  fits_more P [] i d within p h = absurd (omega (arith, within))
  fits_more P (y ∷ ys) zero d within p h = (p, tt)
  fits_more P (y ∷ ys) (suc i) d within p h =
      let same : suc (i + 1) ≡ suc i + 1 = omega arith in
      subst (λ n. AllByRecursion P (take n (y ∷ ys))) same (h.0, fits_more P ys i d (omega (arith, within)) p h.1)

  -- one more line that is written
  pub lines_more : (line : A → List ℕ) (xs : List A) (i : ℕ) (d : A) (old new all : List ℕ) → i < length xs → new ≡ old ++ line (get_or xs i d) → old ++ each_line line (drop i xs) ≡ all → new ++ each_line line (drop (i + 1) xs) ≡ all
  lines_more line xs i d old new all within puts so =
      ap (λ l. l ++ each_line line (drop (i + 1) xs)) puts ∙ append_assoc old (line (get_or xs i d)) (each_line line (drop (i + 1) xs))
      ∙ ap (λ l. old ++ each_line line l) (sym (drop_more xs i d within)) ∙ so

-- an annotation whose text was written
pub is_text : {E : Type 0} (v : Version) (r : Result (List ℕ) E) (ann : Ann) → Within (length ann.slots, length ann.notes) → IfOk r (λ b. b ≡ deriv_text v ann)
    → IfOk r (λ b. AllByRecursion SlotFits ann.slots × AllByRecursion NoteFits ann.notes) → IfOk r (λ b. IsText b ann)
is_text v (Ok b) ann within same fit = record { version = v; slots = fit.0; notes = fit.1; within = within; same = same }
is_text v (Err e) ann within same fit = fit
