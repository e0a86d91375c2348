-- The right number of arguments, and texts of equal length.
use Rattle.std.specs.Prelude.{◌≡◌, ◌≢◌, ℕ, suc, ◌<◌, ◌≤◌, Bool, true, false, ◌&&◌, List, [], ◌∷◌, length, take, refl}
use Rattle.std.proofs.{Common.{ap, ◌∙◌, arith}, lemmas.List.length-take-le}
use Rattle.pc_core.specs.{declared.declarations.ParamInfo.ParamInfo, CoreData.CoreData}
use Rattle.pc_ann.specs.declared.annotation.Note.{Note}
use Rattle.pc_rules.specs.Calls.{argument_goes, argument_sendable, arguments_go, arguments_sendable, same_text}

and_false : (b : Bool) → (b && false) ≡ false
and_false true = refl
and_false false = refl

pub counts_differ : (core : CoreData) (ts : List Note) (ps : List ParamInfo) → length ps ≢ length ts → arguments_go core ts ps ≡ false
counts_differ core [] [] h = absurd (h refl)
counts_differ core [] (p ∷ ps) h = refl
counts_differ core (t ∷ ts) [] h = refl
counts_differ core (t ∷ ts) (p ∷ ps) h = ap (λ b. argument_goes core p t.ty && b) (counts_differ core ts ps (λ e. h (ap suc e))) ∙ and_false (argument_goes core p t.ty)

pub sendable_counts : (ts : List Note) (ps : List ParamInfo) → length ps ≢ length ts → arguments_sendable ts ps ≡ false
sendable_counts [] [] h = absurd (h refl)
sendable_counts [] (p ∷ ps) h = refl
sendable_counts (t ∷ ts) [] h = refl
sendable_counts (t ∷ ts) (p ∷ ps) h = ap (λ b. argument_sendable p t.ty && b) (sendable_counts ts ps (λ e. h (ap suc e))) ∙ and_false (argument_sendable p t.ty)

pub count_taken : (k : ℕ) (ts : List Note) → k ≤ length ts → length (take k ts) ≡ k
count_taken k ts l = length-take-le k ts l

pub too_short : (as' bs : List ℕ) → 0 < length as' → length bs < 1 → same_text as' bs ≡ false
too_short [] bs l m = absurd (omega (arith, l))
too_short (a ∷ as') [] l m = refl
too_short (a ∷ as') (b ∷ bs) l m = absurd (omega (arith, m))
