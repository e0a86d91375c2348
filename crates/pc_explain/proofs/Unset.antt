-- The first field that is not set, searched one by one.
use Rattle.std.specs.Prelude.{◌≡◌, ℕ, zero, suc, ◌+◌, ◌<◌, Bool, true, List, [], ◌∷◌, length, Some, drop, if◌then◌else◌}
use Rattle.std.proofs.Common.{ap, ◌∙◌, arith}
use Rattle.pc_core.specs.declared.declarations.FieldInfo.{FieldInfo}
use Rattle.pc_masks.specs.{Masks.has, declared.mask.Mask.Mask}
use Rattle.pc_explain.specs.Setting.{first_unset}

passed_from : (set : Mask) (fields : List FieldInfo) (i j : ℕ) → i < length fields → has set j ≡ true → first_unset set j (drop i fields) ≡ first_unset set (j + 1) (drop (i + 1) fields)
passed_from set [] i j l e = absurd (omega (arith, l))
passed_from set (f ∷ fs) zero j l e =
    let one : 1 ≡ 0 + 1 = omega arith in
    ap (λ (b : Bool). if b then first_unset set (j + 1) fs else Some f) e ∙ ap (λ n. first_unset set (j + 1) (drop n (f ∷ fs))) one
passed_from set (f ∷ fs) (suc i) j l e =
    let next : suc (i + 1) ≡ suc i + 1 = omega arith in
    passed_from set fs i j (omega (arith, l)) e ∙ ap (λ n. first_unset set (j + 1) (drop n (f ∷ fs))) next

-- A field that is set is passed over.
pub passed : (set : Mask) (fields : List FieldInfo) (i : ℕ) → i < length fields → has set i ≡ true → first_unset set i (drop i fields) ≡ first_unset set (i + 1) (drop (i + 1) fields)
passed set fields i l e = passed_from set fields i i l e
