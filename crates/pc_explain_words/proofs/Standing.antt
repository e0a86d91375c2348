-- A method can replace another iff there is nothing about it that does not fit.
use Rattle.std.specs.Prelude.{◌≡◌, ℕ, ◌+◌, Bool, true, false, ◌&&◌, nat_eq, List, [], ◌∷◌, length, Option, Some, None, refl, if◌then◌else◌}
use Rattle.std.proofs.{Common.{sym, arith}, lemmas.Bool.{and_from, and_parts, eqb-true, eq-eqb}, lemmas.Option.none-some}
use Rattle.pc_caps.specs.{Computed.{is_below, fits}, Tables.unalias}
use Rattle.pc_core.specs.{CoreData.CoreData, declared.declarations.Method.Method, declared.declarations.ParamInfo.ParamInfo}
use Rattle.pc_base.proofs.Bools.{false_true}
use Rattle.pc_sub.specs.DeclarationFaults.{is_chain}
use Rattle.pc_sub.specs.DeclarationFaults as stands
use Rattle.pc_explain_words.specs.{Misfits.{MisfitsAreAll, count_misfit, first_misfit, misfit_or_else, param_misfit, params_misfit, result_misfit}, declared.misfits.Misfit.Misfit}
use Rattle.pc_explain_words.specs.declared.misfits.Misfit.TheVariants as misfit_of

-- ---- two tests, and the first that fails

-- Two tests hold exactly if neither is the first that fails.
tests_none : (a b : Bool) (m n : Misfit) → (if a then (if b then None else Some n) else Some m) ≡ None → (a && b) ≡ true
tests_none true true m n e = refl
tests_none true false m n e = absurd (none-some n (sym e))
tests_none false b m n e = absurd (none-some m (sym e))

tests_hold : (a b : Bool) (m n : Misfit) → (a && b) ≡ true → (if a then (if b then None else Some n) else Some m) ≡ None
tests_hold true true m n e = refl
tests_hold true false m n e = absurd (false_true e)
tests_hold false b m n e = absurd (false_true e)

both_none : (o p : Option Misfit) → misfit_or_else o p ≡ None → (o ≡ None) × (p ≡ None)
both_none None p e = (refl, e)
both_none (Some m) p e = absurd (none-some m (sym e))

none_both : (o p : Option Misfit) → o ≡ None → p ≡ None → misfit_or_else o p ≡ None
none_both None p d e = e
none_both (Some m) p d e = absurd (none-some m (sym d))

-- One test before the rest.
test_none : (b : Bool) (o : Option Misfit) (m : Misfit) → (if b then o else Some m) ≡ None → (b ≡ true) × (o ≡ None)
test_none true o m e = (refl, e)
test_none false o m e = absurd (none-some m (sym e))

none_test : (b : Bool) (o : Option Misfit) (m : Misfit) → b ≡ true → o ≡ None → (if b then o else Some m) ≡ None
none_test true o m d e = e
none_test false o m d e = absurd (false_true d)

-- ---- the parameters

-- If no parameters are required, none fails to fit.
pub none_asked : (core : CoreData) (i : ℕ) (qs : List ParamInfo) → params_misfit core i [] qs ≡ None
none_asked core i [] = refl
none_asked core i (q ∷ qs) = refl

params_fit : (core : CoreData) (i : ℕ) (ps qs : List ParamInfo) → length ps ≡ length qs → params_misfit core i ps qs ≡ None → stands.params_fit core ps qs ≡ true
params_fit core i [] [] l e = refl
params_fit core i [] (q ∷ qs) l e = absurd (omega (arith, l))
params_fit core i (p ∷ ps) [] l e = absurd (omega (arith, l))
params_fit core i (p ∷ ps) (q ∷ qs) l e =
    let both = both_none (param_misfit core i p q) (params_misfit core (i + 1) ps qs) e in
    let few : length ps ≡ length qs = omega (arith, l) in
    let one = tests_none (is_chain core p.entity q.entity) (fits (unalias p.cap) q.cap) (misfit_of.ParameterEntity i) (misfit_of.ParameterCap i) both.0 in
    and_from (stands.param_fits core p q) (stands.params_fit core ps qs) one (params_fit core (i + 1) ps qs few both.1)

fit_count : (core : CoreData) (ps qs : List ParamInfo) → stands.params_fit core ps qs ≡ true → length ps ≡ length qs
fit_count core [] [] e = refl
fit_count core [] (q ∷ qs) e = absurd (false_true e)
fit_count core (p ∷ ps) [] e = absurd (false_true e)
fit_count core (p ∷ ps) (q ∷ qs) e =
    let rest = fit_count core ps qs (and_parts (stands.param_fits core p q) (stands.params_fit core ps qs) e).1 in
    omega (arith, rest)

fit_params : (core : CoreData) (i : ℕ) (ps qs : List ParamInfo) → stands.params_fit core ps qs ≡ true → params_misfit core i ps qs ≡ None
fit_params core i [] [] e = refl
fit_params core i [] (q ∷ qs) e = refl
fit_params core i (p ∷ ps) [] e = refl
fit_params core i (p ∷ ps) (q ∷ qs) e =
    let both = and_parts (stands.param_fits core p q) (stands.params_fit core ps qs) e in
    none_both (param_misfit core i p q) (params_misfit core (i + 1) ps qs)
    (tests_hold (is_chain core p.entity q.entity) (fits (unalias p.cap) q.cap) (misfit_of.ParameterEntity i) (misfit_of.ParameterCap i) both.0)
    (fit_params core (i + 1) ps qs both.1)

-- ---- the whole

stands_without : (core : CoreData) (t y : Method) → first_misfit core t y ≡ None → stands.stands_for core t y ≡ true
stands_without core t y e =
    let receiver = test_none (fits (unalias t.receiver) y.receiver) (count_misfit core t y) misfit_of.Receiver e in
    let count = test_none (nat_eq (length t.params) (length y.params)) (misfit_or_else (params_misfit core 0 t.params y.params) (result_misfit core t y)) misfit_of.Count receiver.1 in
    let both = both_none (params_misfit core 0 t.params y.params) (result_misfit core t y) count.1 in
    let few = eqb-true (length t.params) (length y.params) count.0 in
    let params = params_fit core 0 t.params y.params few both.0 in
    let result = tests_none (is_chain core y.result.0 t.result.0) (is_below y.result.1 t.result.1) misfit_of.ResultEntity misfit_of.ResultForm both.1 in
    and_from (stands.takes core t y) (stands.gives core t y) (and_from (fits (unalias t.receiver) y.receiver) (stands.params_fit core t.params y.params) receiver.0 params) result

none_standing : (core : CoreData) (t y : Method) → stands.stands_for core t y ≡ true → first_misfit core t y ≡ None
none_standing core t y e =
    let whole = and_parts (stands.takes core t y) (stands.gives core t y) e in
    let takes = and_parts (fits (unalias t.receiver) y.receiver) (stands.params_fit core t.params y.params) whole.0 in
    let few = eq-eqb (length t.params) (length y.params) (fit_count core t.params y.params takes.1) in
    let params = fit_params core 0 t.params y.params takes.1 in
    let result = tests_hold (is_chain core y.result.0 t.result.0) (is_below y.result.1 t.result.1) misfit_of.ResultEntity misfit_of.ResultForm whole.1 in
    let rest = none_both (params_misfit core 0 t.params y.params) (result_misfit core t y) params result in
    none_test (fits (unalias t.receiver) y.receiver) (count_misfit core t y) misfit_of.Receiver takes.0
    (none_test (nat_eq (length t.params) (length y.params)) (misfit_or_else (params_misfit core 0 t.params y.params) (result_misfit core t y)) misfit_of.Count few rest)

pub misfits_all : MisfitsAreAll
misfits_all core t y = (stands_without core t y, none_standing core t y)
