-- The first of two lists, one after the other, that does not hold.
use Rattle.std.specs.Prelude.{◌≡◌, ℕ, ◌+◌, ◌<◌, Bool, true, false, List, [], ◌∷◌, ◌++◌, length, drop, Option, Some, None, refl, if◌then◌else◌}
use Rattle.std.proofs.Common.{ap, ◌∙◌}
use Rattle.pc_core.specs.declared.declarations.ParamInfo.{ParamInfo}
use Rattle.pc_base.proofs.{Cuts.drop_item, Gets.get_within}
use Rattle.pc_explain_conditions.specs.{Conditions.argument_conditions, Failing.first_false, declared.condition.Condition.Condition}
use Rattle.pc_explain_conditions.specs.declared.condition.Condition.TheVariants as asks

abbrev pub or_first : Option Condition → Option Condition → Option Condition
or_first None f = f
or_first (Some c) f = Some c

either : (b : Bool) (c : Condition) (e f g : Option Condition) → e ≡ or_first f g → (if b then e else Some c) ≡ or_first (if b then f else Some c) g
either true c e f g h = h
either false c e f g h = refl

pub first_of_both : (holds : Condition → Bool) (cs ds : List Condition) → first_false holds (cs ++ ds) ≡ or_first (first_false holds cs) (first_false holds ds)
first_of_both holds [] ds = refl
first_of_both holds (c ∷ cs) ds = either (holds c) c (first_false holds (cs ++ ds)) (first_false holds cs) (first_false holds ds) (first_of_both holds cs ds)

-- The first remaining argument has no type.
pub typed_fails : (holds : Condition → Bool) (ps : List ParamInfo) (i k : ℕ) → k < length ps → holds (asks.Typed i) ≡ false → first_false holds (argument_conditions i (drop k ps)) ≡ Some (asks.Typed i)
typed_fails holds ps i k l e =
    let p = get_within ps k l in
    ap (λ qs. first_false holds (argument_conditions i qs)) (drop_item ps k p.0 p.1)
    ∙ ap (λ b. if b then first_false holds (asks.Under i p.0.entity ∷ asks.Fits i p.0.cap ∷ argument_conditions (i + 1) (drop (k + 1) ps)) else Some (asks.Typed i)) e
