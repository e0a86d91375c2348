-- Why a method cannot replace another: the first thing that does not fit.
use Rattle.std.specs.Prelude.{◌≡◌, ◌↔◌, ℕ, ◌+◌, Bool, true, false, ◌==◌, nat_eq, List, [], ◌∷◌, ◌++◌, length, Option, Some, None, slice_get, codes, decimal, if◌then◌else◌}
use Rattle.pc_caps.specs.{Computed.{is_below, fits}, Tables.unalias, Words.{cap_name, form_name}}
use Rattle.pc_core.specs.{CoreData.CoreData, declared.declarations.Method.Method, declared.declarations.ParamInfo.ParamInfo}
use Rattle.pc_base.specs.Lists.{Text}
use Rattle.pc_sub.specs.DeclarationFaults.{is_chain, stands_for}
use Rattle.pc_explain_window.specs.{Places.piece_of, Quoting.quoted}
use Rattle.pc_explain_words.specs.{Forms.{entity_words, entity_name, with_article}, Scene.SceneData, declared.misfits.Misfit.Misfit}
use Rattle.pc_explain_words.specs.declared.misfits.Misfit.TheVariants as misfit_of

-- ---- the first thing

abbrev pub param_misfit : CoreData → ℕ → ParamInfo → ParamInfo → Option Misfit
param_misfit core i p q =
    if is_chain core p.entity q.entity then (if fits (unalias p.cap) q.cap then None else Some (misfit_of.ParameterCap i)) else Some (misfit_of.ParameterEntity i)

abbrev pub misfit_or_else : Option Misfit → Option Misfit → Option Misfit
misfit_or_else None other = other
misfit_or_else (Some found) other = Some found

-- Among the parameters, from this index on.
abbrev pub params_misfit : CoreData → ℕ → List ParamInfo → List ParamInfo → Option Misfit
params_misfit core i ps [] = None
params_misfit core i [] (q ∷ qs) = None
params_misfit core i (p ∷ ps) (q ∷ qs) = misfit_or_else (param_misfit core i p q) (params_misfit core (i + 1) ps qs)

abbrev pub result_misfit : CoreData → Method → Method → Option Misfit
result_misfit core t y = if is_chain core y.result.0 t.result.0 then (if is_below y.result.1 t.result.1 then None else Some misfit_of.ResultForm) else Some misfit_of.ResultEntity

abbrev pub count_misfit : CoreData → Method → Method → Option Misfit
count_misfit core t y =
    if nat_eq (length t.params) (length y.params) then misfit_or_else (params_misfit core 0 t.params y.params)
    (result_misfit core t y) else Some misfit_of.Count

-- The first thing about method y that does not fit method t: the receiver, the number of parameters, the parameters, or
-- the result.
abbrev pub first_misfit : CoreData → Method → Method → Option Misfit
first_misfit core t y = if fits (unalias t.receiver) y.receiver then count_misfit core t y else Some misfit_of.Receiver

-- Method y can replace method t iff there is none.
abbrev pub MisfitsAreAll : Type 0
MisfitsAreAll = (core : CoreData) (t y : Method) → (first_misfit core t y ≡ None) ↔ (stands_for core t y ≡ true)

-- ---- in words

unfoldable pub receiver_misfit : Method → Method → Text
receiver_misfit t y = codes "its receiver must take " ++ (cap_name t.receiver ++ (codes ", and " ++ (cap_name y.receiver ++ codes " does not")))

abbrev pub plural : ℕ → Text
plural n = if n == 1 then codes " parameter, and must take " else codes " parameters, and must take "

unfoldable pub count_words : (wanted given : ℕ) → Text
count_words n k = codes "it takes " ++ (decimal k ++ (plural k ++ decimal n))

unfoldable pub param_head : SceneData → ParamInfo → Text
param_head s q = codes "its parameter " ++ (quoted (piece_of s.bytes q.span) ++ codes " is ")

unfoldable pub param_entity : SceneData → ParamInfo → ParamInfo → Text
param_entity s p q =
    param_head s q ++ (with_article (entity_name s.core q.entity) ++ (codes ", and must take " ++ with_article (entity_name s.core p.entity)))

unfoldable pub param_cap : SceneData → ParamInfo → ParamInfo → Text
param_cap s p q = param_head s q ++ (cap_name q.cap ++ (codes ", and must take " ++ form_name (unalias p.cap)))

-- For a parameter, its entities or its capabilities.
abbrev pub param_misfit_words : SceneData → (by_entity : Bool) → Option ParamInfo → Option ParamInfo → Text
param_misfit_words s b None q = []
param_misfit_words s b (Some p) None = []
param_misfit_words s b (Some p) (Some q) = if b then param_entity s p q else param_cap s p q

unfoldable pub result_entity : CoreData → Method → Method → Text
result_entity core t y = codes "it gives " ++ (with_article (entity_name core y.result.0) ++ (codes ", which is no " ++ entity_words core t.result.0))

unfoldable pub result_form_misfit : Method → Method → Text
result_form_misfit t y = codes "it gives " ++ (form_name y.result.1 ++ (codes ", which is not below " ++ form_name t.result.1))

unfoldable pub misfit : SceneData → (wanted given : Method) → Option Misfit → Text
misfit s t y None = []
misfit s t y (Some misfit_of.Receiver) = receiver_misfit t y
misfit s t y (Some misfit_of.Count) = count_words (length t.params) (length y.params)
misfit s t y (Some (misfit_of.ParameterEntity i)) = param_misfit_words s true (slice_get t.params i) (slice_get y.params i)
misfit s t y (Some (misfit_of.ParameterCap i)) = param_misfit_words s false (slice_get t.params i) (slice_get y.params i)
misfit s t y (Some misfit_of.ResultEntity) = result_entity s.core t y
misfit s t y (Some misfit_of.ResultForm) = result_form_misfit t y
