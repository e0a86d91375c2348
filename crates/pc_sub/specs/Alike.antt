-- Methods that no caller can tell apart.
use Rattle.std.specs.Prelude.{◌≡◌, ℕ, Bool, true, false, ◌&&◌, List, [], ◌∷◌, map, nat_eq}
use Rattle.pc_caps.specs.declared.capability.Cap.{Cap}
use Rattle.pc_core.specs.{declared.declarations.Method.Method, declared.declarations.ParamInfo.ParamInfo}
use Rattle.pc_caps.specs.declared.capability.Cap.TheVariants as cap

-- The type of a parameter.
abbrev pub param_type : ParamInfo → ℕ × Cap
param_type p = (p.entity, p.cap)

-- Two methods have the same name, kind and receiver.
abbrev pub SameHead : Method → Method → Type 0
SameHead t y = (y.name ≡ t.name) × (y.kind ≡ t.kind) × (y.receiver ≡ t.receiver)

-- They have one result.
abbrev pub SameResult : Method → Method → Type 0
SameResult t y = (y.result.0 ≡ t.result.0) × (y.result.1 ≡ t.result.1)

-- And they have as many parameters, of the same types.
pub record Alike (t y : Method) : Type 0 where
  pub head : SameHead t y
  pub result : SameResult t y
  pub params : map param_type y.params ≡ map param_type t.params

-- The same of parameters, as it is computed.
abbrev pub same_cap : Cap → Cap → Bool
same_cap cap.Iso cap.Iso = true
same_cap cap.Trn cap.Trn = true
same_cap cap.Ref cap.Ref = true
same_cap cap.Val cap.Val = true
same_cap cap.Box cap.Box = true
same_cap cap.Tag cap.Tag = true
same_cap a b = false

abbrev pub same_type : ParamInfo → ParamInfo → Bool
same_type p q = nat_eq p.entity q.entity && same_cap p.cap q.cap

abbrev pub same_types : List ParamInfo → List ParamInfo → Bool
same_types [] [] = true
same_types (p ∷ ps) (q ∷ qs) = same_type p q && same_types ps qs
same_types ps qs = false
